-- The first row that names an absent role. Assumes nothing.
use Rattle.std.specs.Prelude.{Option, Some, None, MatchOption, ◌⊎◌, ℕ, zero, suc, ◌+◌, ◌*◌, ◌≤◌, ◌<◌, ◌≡◌, refl, true, ◌||◌, not, List, [], ◌∷◌, ltb, eqb, get_or, drop}
use Rattle.std.proofs.Common.{add-zero, sym, ap, ◌∙◌, drop_of_length-le}
use Rattle.std.proofs.Math.Logic.{⊎_elim}
use Rattle.std.proofs.Math.Numerals.{add-one}
use native.Mathlib.Omega.{arith}
use Rattle.std.proofs.Math.Bool.{false, or-true}
use Rattle.std.proofs.Math.Option as definitions
use Rattle.std.proofs.Math.Option.{none, some, some-injective, none-ne-some}
use Rattle.std.proofs.Math.ListN.{get_elem?}
use borrow.Author.Tests.{lt-ltb, le-ltb, ne_eqb}
use Rattle.semantics.specs.Table.{Row}
use Rattle.semantics.specs.Roles.{names_present, absent_role_from}
use Rattle.semantics.specs.Encoding.{RowBytes, trusted_bytes, untrusted_bytes, global_bytes, intruder_bytes, role_bytes, agent_variable_bytes, fresh_variable_bytes, local_bytes, public_bytes, secret_bytes, shared_bytes, pair_bytes, encrypted_bytes}
use Rattle.rows.specs.Rows.{rows_of, Sized, Place, place_as}
use Rattle.rows.specs.laws.Table.{row_here}

-- a row names an absent role by its kind and its left byte
decodes-names : (roles : ℕ) {k l r : ℕ} {row : Row} → RowBytes k l r row → names_present roles row ≡ (not (eqb k 5) || ltb l roles)
decodes-names roles trusted_bytes = refl
decodes-names roles untrusted_bytes = refl
decodes-names roles global_bytes = refl
decodes-names roles intruder_bytes = refl
decodes-names roles (role_bytes i) = refl
decodes-names roles agent_variable_bytes = refl
decodes-names roles fresh_variable_bytes = refl
decodes-names roles local_bytes = refl
decodes-names roles public_bytes = refl
decodes-names roles secret_bytes = refl
decodes-names roles shared_bytes = refl
decodes-names roles pair_bytes = refl
decodes-names roles encrypted_bytes = refl

-- the rows from one on
drop-row : (rows : List Row) (r : ℕ) (row : Row) → get_elem? rows r ≡ some row → drop r rows ≡ row ∷ drop (suc r) rows
drop-row [] r row e = absurd (none-ne-some row e)
drop-row (x ∷ rows) zero row e = ap (λ (y : Row). y ∷ rows) (some-injective x row e)
drop-row (x ∷ rows) (suc r) row e = drop-row rows r row e

-- the first row from one on that names an absent role
abbrev absent_left : List ℕ → ℕ → ℕ → ℕ → definitions.Option ℕ
absent_left t roles base r = absent_role_from roles (base + 3 * r) (drop r (rows_of t))

-- a row names an absent role, or not
abbrev pub NamesAbsent : List ℕ → ℕ → ℕ → Type 0
NamesAbsent t roles r = (get_or t (3 * r) 0 ≡ 5) × (roles ≤ get_or t (3 * r + 1) 0)

abbrev pub NamesPresent : List ℕ → ℕ → ℕ → Type 0
NamesPresent t roles r = (get_or t (3 * r) 0 ≡ 5 → ⊥) ⊎ (get_or t (3 * r + 1) 0 < roles)

module _ (t : List ℕ) (n roles base : ℕ) (sized : Sized t n) where
  -- behind the last there is none
  absent_none : (r : ℕ) → n ≤ r → absent_left t roles base r ≡ none
  unfolding absent_role_from
  absent_none r h = rw (drop_of_length-le (rows_of t) {i = r} (omega (arith, sized.count)))

  module _ (r : ℕ) (within : r < n) where
    -- the row, those behind it, and whether it names an absent role
    names : (row : Row) × (drop r (rows_of t) ≡ row ∷ drop (suc r) (rows_of t)) × (names_present roles row ≡ (not (eqb (get_or t (3 * r) 0) 5) || ltb (get_or t (3 * r + 1) 0) roles))
    names =
        let w = row_here t sized.table r (omega (arith, sized.count)) in
        (w.0, drop-row (rows_of t) r w.0 w.1, decodes-names roles w.2)

    -- an absent role's name is found
    absent-here : NamesAbsent t roles r → absent_left t roles base r ≡ some (base + 3 * r)
    unfolding absent_role_from
    absent-here w =
        let m : names_present roles names.0 ≡ false = names.2 ∙ rw (w.0, le-ltb (get_or t (3 * r + 1) 0) roles w.1) in
        rw names.1 (rw (m, absent_role_from))

    -- a row that names no absent role is passed
    absent-passed : NamesPresent t roles r → absent_left t roles base r ≡ absent_left t roles base (r + 1)
    unfolding absent_role_from
    absent-passed w =
        let m : names_present roles names.0 ≡ true = names.2 ∙ ⊎_elim (λ e. rw (ne_eqb (get_or t (3 * r) 0) 5 e)) (λ l. rw (lt-ltb (get_or t (3 * r + 1) 0) roles l) (or-true (not (eqb (get_or t (3 * r) 0) 5)))) w in
        let z : base + 3 * (r + 1) ≡ base + 3 * r + 3 = omega arith in
        rw (names.1, z, add-one r) (rw (m, absent_role_from))

  -- rows that name none are passed
  passed-all : (r : ℕ) → r ≤ n → ((k : ℕ) → 0 ≤ k → k < r → NamesPresent t roles k) → absent_role_from roles base (rows_of t) ≡ absent_left t roles base r
  passed-all zero l h = rw add-zero refl
  passed-all (suc r) l h = passed-all r (omega arith) (λ k lo hi. h k lo (omega arith)) ∙ absent-passed r (omega arith) (h r (omega arith) (omega arith)) ∙ rw add-one

  -- so the first row of those that names one is found
  pub absent-found : (o : Option ℕ) → MatchOption o ((k : ℕ) → 0 ≤ k → k < n → NamesPresent t roles k)
      (λ r. (0 ≤ r) × (r < n) × NamesAbsent t roles r × ((k : ℕ) → 0 ≤ k → k < r → NamesPresent t roles k))
      → {place : Place} → MatchOption o (place ≡ None) (λ r. place ≡ Some (base + 3 * r)) → place ≡ place_as (absent_role_from roles base (rows_of t))
  absent-found None h e = e ∙ sym (ap place_as (passed-all n (omega arith) h ∙ absent_none n (omega arith)))
  absent-found (Some r) h e = e ∙ sym (ap place_as (passed-all r (omega arith) h.3 ∙ absent-here r h.1 h.2))
