-- Which bytes are a row that fits the rows below it, kind by kind. Assumes nothing.
use Prim.Native.Nat.{ℕ, zero, suc, ◌≤◌, ◌<◌}
use Rattle.std.proofs.Common.{eq-or-lt_of_le, inl, inr}
use native.Mathlib.Omega.{arith}
use Rattle.std.specs.Prelude.{None, Some, ◌≡◌, ◌⊎◌, Bool, List, leb, eqb, get_or}
use Rattle.std.proofs.Math.Path.{refl, sym}
use Rattle.std.proofs.Math.Logic.{⊎_elim}
use Rattle.std.proofs.Math.Bool.{true, false}
use Rattle.std.proofs.Math.ListN.{get_elem?}
use borrow.Author.Tests.{ne_eqb, lt-leb, lt-ltb, le-ltb}
use Rattle.semantics.specs.Basic.{provided, present}
use Rattle.semantics.specs.Term.{Atom, trusted, untrusted, global, intruder, role, local}
use Rattle.semantics.specs.Table.{Row, atomic, decode, agent_like, no_pair, fits}
use Rattle.rows.specs.declared.Kind.{Kind}
use Rattle.rows.specs.Kinds.{kind_as}
use Rattle.rows.specs.Rows.{decoded_at}
use Rattle.table.specs.Check.{fits_decoded}

-- the three bytes at the front, read one by one
pub decoded-as : (row : List ℕ) {k l r : ℕ} → k ≡ get_or row 0 0 → l ≡ get_or row 1 0 → r ≡ get_or row 2 0 → decoded_at row 0 ≡ decode k l r
unfolding decoded_at
decoded-as row e f g = rw (e, f, g)

-- a byte does not say a kind and none
said : {k : Kind} → Some k ≡ None → ⊥
said e = cc

module _ (below : List Row) where
  -- an atom fits wherever it is decoded
  fits-atom : (b : Bool) (a : Atom) → fits_decoded below (provided b (atomic a)) ≡ b
  unfolding fits
  fits-atom true a = refl
  fits-atom false a = refl

  -- kinds 1 to 4 and 7 fit with a right byte 0
  pub fits-plain : (k l r : ℕ) → (k ≡ 7) ⊎ ((1 ≤ k) × (k < 5)) → fits_decoded below (decode k l r) ≡ eqb r 0
  unfolding decode
  fits-plain k l r (inl e) = rw e (fits-atom (eqb r 0) (local l 0))
  fits-plain zero l r (inr w) = absurd (omega arith)
  fits-plain (suc zero) l r (inr w) = fits-atom (eqb r 0) (trusted l)
  fits-plain (suc (suc zero)) l r (inr w) = fits-atom (eqb r 0) (untrusted l)
  fits-plain (suc (suc (suc zero))) l r (inr w) = fits-atom (eqb r 0) (global l)
  fits-plain (suc (suc (suc (suc zero)))) l r (inr w) = fits-atom (eqb r 0) (intruder l)
  fits-plain (suc (suc (suc (suc (suc k))))) l r (inr w) = absurd (omega arith)

  -- a variable fits with a right byte 0 or 1
  pub fits-variable : (l r : ℕ) → fits_decoded below (decode 6 l r) ≡ leb r 1
  unfolding decode fits
  fits-variable l zero = refl
  fits-variable l (suc zero) = refl
  fits-variable l (suc (suc r)) = sym (lt-leb (suc (suc r)) 1 (omega arith))

  -- no row has a byte that says no kind
  pub fits-none : (k l r : ℕ) → kind_as k ≡ None → fits_decoded below (decode k l r) ≡ false
  unfolding decode
  fits-none zero l r e = refl
  fits-none (suc zero) l r e = absurd (said e)
  fits-none (suc (suc zero)) l r e = absurd (said e)
  fits-none (suc (suc (suc zero))) l r e = absurd (said e)
  fits-none (suc (suc (suc (suc zero)))) l r e = absurd (said e)
  fits-none (suc (suc (suc (suc (suc zero))))) l r e = absurd (said e)
  fits-none (suc (suc (suc (suc (suc (suc zero)))))) l r e = absurd (said e)
  fits-none (suc (suc (suc (suc (suc (suc (suc zero))))))) l r e = absurd (said e)
  fits-none (suc (suc (suc (suc (suc (suc (suc (suc zero)))))))) l r e = absurd (said e)
  fits-none (suc (suc (suc (suc (suc (suc (suc (suc (suc zero))))))))) l r e = absurd (said e)
  fits-none (suc (suc (suc (suc (suc (suc (suc (suc (suc (suc zero)))))))))) l r e = absurd (said e)
  fits-none (suc (suc (suc (suc (suc (suc (suc (suc (suc (suc (suc zero))))))))))) l r e = absurd (said e)
  fits-none (suc (suc (suc (suc (suc (suc (suc (suc (suc (suc (suc (suc zero)))))))))))) l r e = absurd (said e)
  fits-none (suc (suc (suc (suc (suc (suc (suc (suc (suc (suc (suc (suc (suc k))))))))))))) l r e = refl

  module _ (l r : ℕ) where
    -- a role fits with a number below 4 and a right byte 0
    pub fits-role : l < 4 → fits_decoded below (decode 5 l r) ≡ eqb r 0
    unfolding decode
    fits-role h = rw (lt-ltb l 4 h) (fits-atom (eqb r 0) (role l))

    pub fits-role-not : 4 ≤ l → fits_decoded below (decode 5 l r) ≡ false
    unfolding decode
    fits-role-not h = rw (le-ltb l 4 h)

    -- a key of an agent fits with an agent-like row and a right byte 0
    pub fits-key : (k : ℕ) → 7 < k → k < 10 → r ≡ 0 → fits_decoded below (decode k l r) ≡ agent_like (get_elem? below l)
    unfolding decode fits
    fits-key k lo hi e = ⊎_elim (λ q. rw (← q, e)) (λ m. let q : k ≡ 9 = omega arith in rw (q, e)) (eq-or-lt_of_le lo)

    pub fits-key-not : (k : ℕ) → 7 < k → k < 10 → ¬ (r ≡ 0) → fits_decoded below (decode k l r) ≡ false
    unfolding decode fits
    fits-key-not k lo hi n = ⊎_elim (λ q. rw (← q, ne_eqb r 0 n)) (λ m. let q : k ≡ 9 = omega arith in rw (q, ne_eqb r 0 n)) (eq-or-lt_of_le lo)

    -- a shared key fits with two agent-like rows
    pub fits-shared : agent_like (get_elem? below l) ≡ true → fits_decoded below (decode 10 l r) ≡ agent_like (get_elem? below r)
    unfolding decode fits
    fits-shared e = rw e

    pub fits-shared-not : agent_like (get_elem? below l) ≡ false → fits_decoded below (decode 10 l r) ≡ false
    unfolding decode fits
    fits-shared-not e = rw e

    -- a pair fits with a row that is no pair, and a row
    pub fits-pair : no_pair (get_elem? below l) ≡ true → fits_decoded below (decode 11 l r) ≡ present (get_elem? below r)
    unfolding decode fits
    fits-pair e = rw e

    pub fits-pair-not : no_pair (get_elem? below l) ≡ false → fits_decoded below (decode 11 l r) ≡ false
    unfolding decode fits
    fits-pair-not e = rw e

    -- an encryption fits with two rows
    pub fits-encrypted : present (get_elem? below l) ≡ true → fits_decoded below (decode 12 l r) ≡ present (get_elem? below r)
    unfolding decode fits
    fits-encrypted e = rw e

    pub fits-encrypted-not : present (get_elem? below l) ≡ false → fits_decoded below (decode 12 l r) ≡ false
    unfolding decode fits
    fits-encrypted-not e = rw e
