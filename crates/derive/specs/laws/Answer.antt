-- The laws of Derive's answer: refusals passed on, what an accepted table and list give, and the two other answers. Assumes nothing.
use Rattle.std.specs.Prelude.{ℕ, ◌<◌, ◌≡◌, Bool, Err, None, Ok, Some}
use Rattle.std.proofs.Common.{arith, ◌∙◌}
use Rattle.std.proofs.Math.Path.{refl, sym, ap}
use mathlib.Core.List.{List, []}
use Rattle.std.proofs.Math.Option.{none}
use Rattle.semantics.specs.Table.{rows_from}
use Rattle.semantics.specs.Value.{value_of, as_atoms}
use Rattle.semantics.specs.Derive.{absent_from, derivable_row, derived}
use Rattle.semantics.proofs.laws.Derive.{all_there}
use Rattle.rows.specs.Rows.{rows_of, place_as, Shape}
use Rattle.rows.specs.Rows.{Place}
use Rattle.rows.specs.laws.Places.{at_some, nowhere-none}
use Rattle.table.specs.Check.{judged_as}
use Rattle.table.specs.Check.{Judged}
use Rattle.table.specs.laws.Table.{judged-sized, judged-refused, table-accepted}
use Rattle.role_level.specs.RoleLevel.{ListedBelow}
use Rattle.answers.specs.Answers.{numbered, derived_as}
use Rattle.answers.specs.declared.Refusal.{Refusal}
use Rattle.derive.specs.Absent.{AbsentAt}

module _ (table list : List ℕ) (target : ℕ) {j : Judged} (check : j ≡ judged_as (rows_from 0 [] table)) where
  -- a refused table
  pub derive-refused : {x : Refusal} → j ≡ Err x → Err x ≡ derived_as (derived table list target)
  unfolding derived
  derive-refused {x} e =
      let w = judged-refused (rows_from 0 [] table) x (sym check ∙ e) in
      rw w.1 (ap Err w.2)

  module _ {n : ℕ} (rows : j ≡ Ok n) where
    -- an accepted one
    pub derive-shape : Shape table n 0
    derive-shape = judged-sized 0 table n (sym check ∙ rows)

    module _ {p : Place} (absent : AbsentAt n list target p) where
      found : p ≡ place_as (absent_from (rows_of table) 0 list target)
      found = absent (rows_of table) derive-shape.count

      -- an absent row
      pub derive-absent : {at : ℕ} → p ≡ Some at → Err (numbered 11 at) ≡ derived_as (derived table list target)
      unfolding derived
      derive-absent {at} e =
          rw (table-accepted table derive-shape.table 0, at_some (absent_from (rows_of table) 0 list target) (sym e ∙ found)) refl

      module _ (nowhere : p ≡ None) where
        none-there : absent_from (rows_of table) 0 list target ≡ none
        none-there = nowhere-none (absent_from (rows_of table) 0 list target) (sym nowhere ∙ found)

        -- none absent
        pub derive-listed : ListedBelow n list × (target < n)
        derive-listed =
            let w = all_there (rows_of table) 0 list target none-there in
            (λ r m. omega (arith, w.0 r m, derive-shape.count), omega (arith, w.1, derive-shape.count))

        -- the answer
        pub derive-answer : {r : Bool} → r ≡ derivable_row (rows_of table) list (value_of as_atoms (rows_of table) target) → Ok r ≡ derived_as (derived table list target)
        unfolding derived
        derive-answer q = rw (table-accepted table derive-shape.table 0, none-there, q) refl
