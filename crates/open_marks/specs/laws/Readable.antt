-- The laws of Readable over exact marks: a row's term by its kind. Assumes nothing.
use Rattle.std.specs.Prelude.{ℕ, ◌≡◌, refl, Bool, true, false, List, ◌∷◌, get_or}
use Rattle.std.proofs.Common.{sym, ◌∙◌}
use mathlib.Core.List.Memᴰ.{tail as later}
use Rattle.semantics.specs.Term.{Term, atom, pk, sk, shared, pair, encrypted, inverse}
use Rattle.semantics.specs.Inference.{Derives, first, second, derivable}
use Rattle.semantics.specs.WellFormed.{readable_atom, readable}
use Rattle.semantics.specs.Allowed.{Readable, reads_atom, reads_pk, reads_sk, reads_shared, reads_pair, reads_whole}
use Rattle.semantics.proofs.laws.Inference.{derives-monotone}
use Rattle.rows.specs.Rows.{rows_of, Shape}
use Rattle.knowledge.specs.Steps.{kind_at, left_at, right_at}
use Rattle.role_level.specs.RoleLevel.{RoleCelled, RoleExact}
use Rattle.open_marks.specs.Marks.{InverseKnown, Learns, ReadableRow}
use Rattle.open_marks.specs.laws.Rows.{HasTerm, RowTerm, a_trusted, a_untrusted, a_global, an_intruder, a_role, a_variable, a_local, a_pk, a_sk, a_shared, a_pair, an_encryption, row-term}
use Rattle.open_marks.specs.laws.Marks.{mark-answers}

-- what derives is readable
pub derives-readable : (known : List Term) (t : Term) → Derives known t → Readable known t
derives-readable known (atom a) d = reads_atom d
derives-readable known (pk t) d = reads_pk d
derives-readable known (sk t) d = reads_sk d
derives-readable known (shared t u) d = reads_shared d
derives-readable known (pair t u) d =
    reads_pair (derives-readable (u ∷ known) t (derives-monotone (λ x m. later m) (first d))) (derives-readable (t ∷ known) u (derives-monotone (λ x m. later m) (second d)))
derives-readable known (encrypted t k) d = reads_whole d

-- the term of a row that is no variable, no pair and no encryption is readable only if it is derivable
plain-readable : {bytes : List ℕ} {x k : ℕ} {t : Term} (known : List Term) → RowTerm bytes x k t → (k ≡ 6 → ⊥) → (k ≡ 11 → ⊥) → (k ≡ 12 → ⊥) → derivable known t ≡ readable known t
unfolding readable readable_atom
plain-readable known a_trusted v p e = refl
plain-readable known a_untrusted v p e = refl
plain-readable known a_global v p e = refl
plain-readable known an_intruder v p e = refl
plain-readable known (a_role i) v p e = refl
plain-readable known a_variable v p e = absurd (v refl)
plain-readable known a_local v p e = refl
plain-readable known (a_pk a) v p e = refl
plain-readable known (a_sk a) v p e = refl
plain-readable known a_shared v p e = refl
plain-readable known (a_pair l r g h) v p e = absurd (p refl)
plain-readable known (an_encryption l r g h) v p e = absurd (e refl)

-- the parts of a row of kind 11, and of kind 12
pub pair-term : {bytes : List ℕ} {x : ℕ} {t : Term} → RowTerm bytes x 11 t
    → (a : Term) × (b : Term) × (t ≡ pair a b) × HasTerm bytes (left_at bytes x) a × HasTerm bytes (right_at bytes x) b
pair-term (a_pair {a = a} {b = b} l r g h) = (a, b, refl, g, h)

pub encrypted-term : {bytes : List ℕ} {x : ℕ} {t : Term} → RowTerm bytes x 12 t
    → (a : Term) × (b : Term) × (t ≡ encrypted a b) × HasTerm bytes (left_at bytes x) a × HasTerm bytes (right_at bytes x) b
encrypted-term (an_encryption {a = a} {b = b} l r g h) = (a, b, refl, g, h)

-- a pair is readable only if its first part is with the second known, and then if the second is with the first known
pair-unread : (known : List Term) (a b : Term) → readable (b ∷ known) a ≡ false → false ≡ readable known (pair a b)
unfolding readable
pair-unread known a b e = rw e

pair_read : (known : List Term) (a b : Term) → readable (b ∷ known) a ≡ true → readable (a ∷ known) b ≡ readable known (pair a b)
unfolding readable
pair_read known a b e = rw e

-- an encryption that is not derivable is readable only if the inverse of its key is derivable, and then if its content is
encrypted-unread : (known : List Term) (a b : Term) → derivable known (encrypted a b) ≡ false → derivable known (inverse b) ≡ false → false ≡ readable known (encrypted a b)
unfolding readable
encrypted-unread known a b d e = rw (d, e)

encrypted-read : (known : List Term) (a b : Term) → derivable known (encrypted a b) ≡ false → derivable known (inverse b) ≡ true → readable known a ≡ readable known (encrypted a b)
unfolding readable
encrypted-read known a b d e = rw (d, e)

module _ (bytes : List ℕ) (n : ℕ) (shape : Shape bytes n 0) (marks : List Bool) (x : ℕ) where
  -- a row that is not marked is not readable, if it is no variable, no pair and no encryption
  pub unreadable : get_or marks x false ≡ false → (kind_at bytes x ≡ 6 → ⊥) → (kind_at bytes x ≡ 11 → ⊥) → (kind_at bytes x ≡ 12 → ⊥) → ReadableRow (rows_of bytes) marks x false
  unreadable o v p e known t celled exact h = sym o ∙ mark-answers bytes n shape marks exact x h ∙ plain-readable known (row-term bytes n shape x h) v p e

  module _ {l s : ℕ} (left : l ≡ left_at bytes x) (right : s ≡ right_at bytes x) where
    module _ (pairs : kind_at bytes x ≡ 11) (more : List Bool) (learns : Learns (rows_of bytes) s marks more) {p : Bool} (reads : ReadableRow (rows_of bytes) more l p) where
      -- the first part of a pair is read with the second known
      first_read : {known : List Term} {t : Term} → RoleCelled (rows_of bytes) known → RoleExact (rows_of bytes) known marks → HasTerm bytes x t
          → (a : Term) × (b : Term) × (t ≡ pair a b) × HasTerm bytes l a × HasTerm bytes s b × (p ≡ readable (b ∷ known) a)
      first_read {known} celled exact h =
          let w = pair-term (rw pairs at (row-term bytes n shape x h)) in
          let a = w.3 in
          let b = w.4 in
          let m = learns known w.1 celled exact (rw right b) in
          (w.0, w.1, w.2, rw left a, rw right b, reads (w.1 ∷ known) w.0 m.0 m.1 (rw left a))

      -- a pair whose first part is not readable is not
      pub unreadable-first : p ≡ false → ReadableRow (rows_of bytes) marks x false
      unreadable-first e known t celled exact h = let w = first_read celled exact h in rw w.2 (pair-unread known w.0 w.1 (sym w.5 ∙ e))

      -- otherwise it is if the second part is, with the first known
      pub readable-second : p ≡ true → (more' : List Bool) → Learns (rows_of bytes) l marks more' → {q : Bool} → ReadableRow (rows_of bytes) more' s q
          → ReadableRow (rows_of bytes) marks x q
      readable-second e more' learns' reads' known t celled exact h =
          let w = first_read celled exact h in
          let m = learns' known w.0 celled exact w.3 in
          rw w.2 (reads' (w.0 ∷ known) w.1 m.0 m.1 w.4 ∙ pair_read known w.0 w.1 (sym w.5 ∙ e))

    module _ (encrypts : kind_at bytes x ≡ 12) (off : get_or marks x false ≡ false) {p : Bool} (opens : InverseKnown (rows_of bytes) marks s p) where
      -- an encryption that is not marked opens only by the inverse of its key
      opened : {known : List Term} {t : Term} → RoleCelled (rows_of bytes) known → RoleExact (rows_of bytes) known marks → HasTerm bytes x t
          → (a : Term) × (b : Term) × (t ≡ encrypted a b) × HasTerm bytes l a × (derivable known (encrypted a b) ≡ false) × (p ≡ derivable known (inverse b))
      opened {known} celled exact h =
          let w = encrypted-term (rw encrypts at (row-term bytes n shape x h)) in
          let a = w.3 in
          let b = w.4 in
          let d = sym (mark-answers bytes n shape marks exact x h) ∙ off in
          (w.0, w.1, w.2, rw left a, rw w.2 at d, opens known w.1 celled exact (rw right b))

      -- where that is not derivable, it is not readable
      pub unreadable-closed : p ≡ false → ReadableRow (rows_of bytes) marks x false
      unreadable-closed e known t celled exact h = let w = opened celled exact h in rw w.2 (encrypted-unread known w.0 w.1 w.4 (sym w.5 ∙ e))

      -- otherwise it is if its content is
      pub readable-content : p ≡ true → {q : Bool} → ReadableRow (rows_of bytes) marks l q → ReadableRow (rows_of bytes) marks x q
      readable-content e reads known t celled exact h =
          let w = opened celled exact h in
          rw w.2 (reads known w.0 celled exact w.3 ∙ encrypted-read known w.0 w.1 w.4 (sym w.5 ∙ e))
