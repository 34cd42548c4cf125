-- What is read of a file's blocks, as what the definitions say of the file. Assumes nothing.
use Rattle.std.specs.Prelude.{ℕ, ◌≤◌, ◌≡◌, refl, List, [], length}
use Rattle.std.proofs.Common.{arith, sym, ap, ◌∙◌}
use Rattle.std.proofs.Math.Option.{none}
use Rattle.semantics.specs.Table.{Row, rows_from}
use Rattle.semantics.specs.Frame.{Part}
use Rattle.semantics.specs.Roles.{bad_role, absent_role_from, role_records, roles_present, roles_from}
use Rattle.semantics.specs.WellFormed.{ill_formed}
use Rattle.semantics.specs.Runs.{run_records, bad_run, bad_knowledge_from}
use Rattle.semantics.specs.Scenario.{term_part, role_part, run_part, knowledge_part, role_parts, role_count, run_parts}
use Rattle.rows.specs.Rows.{rows_of, place_as}
use Rattle.rows.specs.Rows.{Place}
use Rattle.table.specs.Check.{judged_as}
use Rattle.table.specs.Check.{Judged}
use Rattle.records.specs.Records.{part_at}

module _ (file : List ℕ) where
  abbrev pub rows_in : List Row
  rows_in = rows_of (term_part file).bytes

  module _ {t : List ℕ} (terms : t ≡ (term_part file).bytes) where
    -- refusal 6 of a row
    pub names-read : {base r : ℕ} {p : Place} → base ≡ (term_part file).start → r ≡ role_count file → p ≡ place_as (absent_role_from r base (rows_of t))
        → p ≡ place_as (absent_role_from (role_count file) (term_part file).start rows_in)
    names-read e f h = rw (sym e, sym f, sym terms) h

    module _ {b : List ℕ} (roles : b ≡ (role_part file).bytes) {base : ℕ} (start : base ≡ (role_part file).start) where
      whole : role_records (part_at base b) ≡ role_parts file
      whole = ap (λ (p : Part). role_records p) (λ x. record { start = start x; bytes = roles x })

      -- refusal 6 of a record
      pub roles-read : {p : Place} → p ≡ place_as (bad_role (rows_of t) (role_records (part_at base b))) → p ≡ place_as (bad_role rows_in (role_parts file))
      roles-read h = rw (sym terms, sym whole) h

      pub roles-good : bad_role rows_in (role_parts file) ≡ none → bad_role (rows_of t) (role_records (part_at base b)) ≡ none
      roles-good h = rw (terms, whole) h

      -- refusal 7
      pub events-read : {p : Place} → p ≡ place_as (ill_formed (rows_of t) 0 (roles_from (role_records (part_at base b)))) → p ≡ place_as (ill_formed rows_in 0 (roles_from (role_parts file)))
      events-read h = rw (sym terms, sym whole) h

    -- refusal 8
    pub runs-read : {b : List ℕ} {base r : ℕ} {p : Place} → b ≡ (run_part file).bytes → base ≡ (run_part file).start → r ≡ role_count file → p ≡ place_as (bad_run (rows_of t) r (run_records r (part_at base b)))
        → p ≡ place_as (bad_run rows_in (role_count file) (run_parts file))
    runs-read {b} {base} e s f h =
        let w : part_at base b ≡ run_part file = λ x. record { start = s x; bytes = e x } in
        rw (sym terms, sym w, sym f) h

    -- refusal 9
    pub known_read : {b : List ℕ} {base : ℕ} {p : Place} → b ≡ (knowledge_part file).bytes → base ≡ (knowledge_part file).start → p ≡ place_as (bad_knowledge_from (rows_of t) base 0 b)
        → p ≡ place_as (bad_knowledge_from rows_in (knowledge_part file).start 0 (knowledge_part file).bytes)
    known_read e s h = rw (sym terms, sym e, sym s) h

    -- refusals 4 and 5
    pub table-read : {base : ℕ} {j : Judged} → base ≡ (term_part file).start → j ≡ judged_as (rows_from base [] t) → j ≡ judged_as (rows_from (term_part file).start [] (term_part file).bytes)
    table-read e h = rw (sym e, sym terms) h

  -- the roles that are present
  pub count-read : {b : List ℕ} {r : ℕ} → b ≡ (role_part file).bytes → ((at : ℕ) → r ≡ roles_present (role_records (part_at at b))) → r ≡ role_count file
  count-read {b} {r} e h = h (role_part file).start ∙ ap (λ (bytes : List ℕ). roles_present (role_records (part_at (role_part file).start bytes))) e

  pub count-few : {r : ℕ} → r ≡ role_count file → r ≤ 4
  unfolding roles_present
  count-few e = omega (arith, e)

  -- the runs
  pub run-count-read : {b : List ℕ} {r u : ℕ} → b ≡ (run_part file).bytes → r ≡ role_count file → ((at : ℕ) → u ≡ length (run_records r (part_at at b))) → u ≡ length (run_parts file)
  run-count-read {b} {r} {u} e f h =
      let w : part_at (run_part file).start b ≡ run_part file = λ x. record { start = (run_part file).start; bytes = e x } in
      h (run_part file).start ∙ rw (w, f) refl
