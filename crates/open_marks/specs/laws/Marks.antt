-- What exact marks at role level answer: of a row, a role name and an inverse; and marks with one more term known. Assumes nothing.
use Rattle.std.specs.Prelude.{ℕ, ◌<◌, ◌≡◌, refl, ◌↔◌, Bool, true, false, T, get_or}
use Rattle.std.proofs.Common.{zero-add, arith, ◌∙◌}
use mathlib.Core.List.{List}
use Rattle.std.proofs.Math.Option.{some}
use Rattle.std.proofs.Math.ListN.{get_elem?}
use Rattle.semantics.specs.Term.{role, Atom, Term, atom, inverse}
use Rattle.semantics.specs.Inference.{Derives, derivable}
use Rattle.semantics.specs.Table.{atomic}
use Rattle.semantics.proofs.laws.Test.{same_test}
use Rattle.semantics.proofs.laws.Inference.{derivable-exact}
use Rattle.semantics.proofs.laws.Value.{as_atoms-value}
use Rattle.rows.specs.Rows.{rows_of, Shape}
use Rattle.rows.specs.laws.Table.{table-good}
use Rattle.cells.specs.Cells.{Within}
use Rattle.knowledge.specs.Marks.{LearnsCell}
use Rattle.knowledge.specs.Steps.{On, kind_at, left_at, InverseKinds}
use Rattle.knowledge.specs.laws.Learn.{marked-derives as cell-derives}
use Rattle.knowledge.specs.laws.Sound.{KeyOf, inverse-keys}
use Rattle.role_level.specs.RoleLevel.{role_readings, RoleClasses, RoleExact}
use Rattle.open_marks.specs.Marks.{RowMarked, is_marked, none_marked, NameKnown, InverseKnown, Learns}
use Rattle.open_marks.specs.laws.Rows.{HasTerm, from-atom, from_key, role-term, role-row, key-term, key_row, own-inverse, term-below, row-term, derives-rows}

-- a test that is passed exactly where a mark stands
mark-test : (mark test : Bool) → (mark ≡ true) ↔ T test → mark ≡ test
mark-test true true e = refl
mark-test true false e = absurd (e.0 refl)
mark-test false true e = e.1 tt
mark-test false false e = refl

module _ (bytes : List ℕ) (n : ℕ) (shape : Shape bytes n 0) where
  -- a row below n has a term
  pub has-term : (x : ℕ) → x < n → (t : Term) × HasTerm bytes x t
  has-term x l = as_atoms-value (table-good bytes shape.table) x (omega (arith, shape.count))

  -- a row with a term is in run 0 of the table
  in-run : (x : ℕ) {t : Term} → HasTerm bytes x t → Within (rows_of bytes) 0 x 0
  in-run x e = record { row = omega (arith, term-below bytes n shape x e, shape.count); run = omega arith }

  module _ (marks : List Bool) {known : List Term} (exact : RoleExact (rows_of bytes) known marks) where
    -- a row is marked exactly if its term derives
    pub marked-derives : (x : ℕ) {t : Term} → HasTerm bytes x t → On marks x ↔ Derives known t
    marked-derives x {t} e =
        let m = cell-derives (rows_of bytes) (omega (arith, shape.few, shape.count)) 0 x 0 (in-run x e) role_readings known marks exact e in
        (λ o. m.0 (rw zero-add o), λ d. rw zero-add at (m.1 d))

    -- so a mark answers whether a row's term is derivable
    pub mark-answers : (x : ℕ) {t : Term} → HasTerm bytes x t → get_or marks x false ≡ derivable known t
    mark-answers x {t} e =
        let m = marked-derives x e in
        let d = derivable-exact known t in
        mark-test (get_or marks x false) (derivable known t) (λ o. d.1 (m.0 o), λ h. m.1 (d.0 h))

  -- A term that all rows of a kind with a left byte have, and such a row if it derives: it is derivable exactly if such a row is marked.
  row-answers : (marks : List Bool) {known : List Term} → RoleExact (rows_of bytes) known marks → {kind left : ℕ} (u : Term)
      → ((x : ℕ) (t : Term) → kind_at bytes x ≡ kind → left_at bytes x ≡ left → HasTerm bytes x t → t ≡ u)
      → (Derives known u → (x : ℕ) × HasTerm bytes x u × (kind_at bytes x ≡ kind) × (left_at bytes x ≡ left))
      → {r : Bool} → RowMarked bytes n marks kind left r → r ≡ derivable known u
  row-answers marks {known} exact u only row (is_marked x l m) =
      let w = has-term x l in
      let d = (marked-derives marks exact x w.1).0 m.0 in
      same_test true (derivable known u) (λ h. (derivable-exact known u).1 (rw (only x w.0 m.1 m.2 w.1) at d), λ h. tt)
  row-answers marks {known} exact u only row (none_marked none) = same_test false (derivable known u) (λ h. absurd h, λ h. go ((derivable-exact known u).0 h))
    where
      go : Derives known u → T false
      go d = let w = row d in absurd (none w.0 (term-below bytes n shape w.0 w.1) ((marked-derives marks exact w.0 w.1).1 d, w.2, w.3))

  -- the name of a role is derivable exactly if a row of kind 5 with that number is marked
  pub name-known : {marks : List Bool} {i : ℕ} {r : Bool} → RowMarked bytes n marks 5 i r → NameKnown (rows_of bytes) marks i r
  name-known {marks} {i} found known celled exact = row-answers marks exact (atom (role i)) only row found
    where
      only : (x : ℕ) (t : Term) → kind_at bytes x ≡ 5 → left_at bytes x ≡ i → HasTerm bytes x t → t ≡ atom (role i)
      only x t k e h = let s = role-term (rw k at (row-term bytes n shape x h)) in rw e at s

      row : Derives known (atom (role i)) → (x : ℕ) × HasTerm bytes x (atom (role i)) × (kind_at bytes x ≡ 5) × (left_at bytes x ≡ i)
      row d =
          let w = from-atom (derives-rows bytes n shape celled d) in
          let s = role-row (row-term bytes n shape w.0 w.1) in
          (w.0, w.1, s.0, s.1)

  -- the other key of the same agent is the inverse of a key
  pub other-inverse : (k x : ℕ) {kind other : ℕ} {t s : Term} → InverseKinds kind other → kind_at bytes k ≡ kind → kind_at bytes x ≡ other → left_at bytes x ≡ left_at bytes k
      → HasTerm bytes k t → HasTerm bytes x s → s ≡ inverse t
  other-inverse k x kinds e f q h g =
      let keys = inverse-keys kinds in
      let key = key-term keys.2 (rw e at (row-term bytes n shape k h)) in
      let w = key-term keys.3 (rw f at (row-term bytes n shape x g)) in
      let p : get_elem? (rows_of bytes) (left_at bytes k) ≡ some (atomic w.0) = rw q at w.2 in
      let same : w.0 ≡ key.0 = cc (p, key.2) in
      rw (key.1, keys.4 (atom key.0)) (rw same at w.1)

  -- the inverse of a key is derivable exactly if the other key of its agent is marked
  pub other-known : {marks : List Bool} (k : ℕ) {kind other left : ℕ} {r : Bool} → InverseKinds kind other → kind_at bytes k ≡ kind → left ≡ left_at bytes k
      → RowMarked bytes n marks other left r → InverseKnown (rows_of bytes) marks k r
  other-known {marks} k {kind} {other} kinds e el found known t celled exact h =
      rw (key.1, keys.4 (atom key.0)) (row-answers marks exact (keys.1 (atom key.0)) only row (rw el at found))
    where
      keys : (mk : Term → Term) × (mk' : Term → Term) × KeyOf kind mk × KeyOf other mk' × ((a : Term) → inverse (mk a) ≡ mk' a)
      keys = inverse-keys kinds

      key : (b : Atom) × (t ≡ keys.0 (atom b)) × (get_elem? (rows_of bytes) (left_at bytes k) ≡ some (atomic b))
      key = key-term keys.2 (rw e at (row-term bytes n shape k h))

      only : (x : ℕ) (s : Term) → kind_at bytes x ≡ other → left_at bytes x ≡ left_at bytes k → HasTerm bytes x s → s ≡ keys.1 (atom key.0)
      only x s f q g = rw (key.1, keys.4 (atom key.0)) at (other-inverse k x kinds e f q h g)

      row : Derives known (keys.1 (atom key.0)) → (x : ℕ) × HasTerm bytes x (keys.1 (atom key.0)) × (kind_at bytes x ≡ other) × (left_at bytes x ≡ left_at bytes k)
      row d =
          let w = from_key (atom key.0) keys.3 (derives-rows bytes n shape celled d) in
          let s = key_row key.0 keys.3 (row-term bytes n shape w.0 w.1) in
          (w.0, w.1, s.0, (table-good bytes shape.table).distinct (left_at bytes w.0) (left_at bytes k) (atomic key.0) s.1 key.2)

  -- every other term is its own inverse
  pub itself-known : (marks : List Bool) (k : ℕ) {r : Bool} → (kind_at bytes k ≡ 8 → ⊥) → (kind_at bytes k ≡ 9 → ⊥) → r ≡ get_or marks k false → InverseKnown (rows_of bytes) marks k r
  itself-known marks k p s e known t celled exact h = rw (own-inverse (row-term bytes n shape k h) p s) (e ∙ mark-answers marks exact k h)

  -- marks with one more value known are so at role level
  pub learns-role : (classes : List ℕ) (x : ℕ) (marks more : List Bool) → RoleClasses (rows_of bytes) classes → LearnsCell (rows_of bytes) 0 classes x 0 marks more → Learns (rows_of bytes) x marks more
  learns-role classes x marks more right learns known t celled exact h = learns role_readings known t right celled exact h
