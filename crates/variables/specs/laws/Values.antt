-- The values of a type in order of row and run, where those of a row are runs in a row. Assumes nothing.
use Prim.Native.Nat.{ℕ, zero, suc, ◌+◌, ◌-◌, ◌*◌, ◌<◌, ◌≤◌}
use Rattle.std.proofs.Common.{not-suc-le-zero, ◌∙◌, inl, ⊎_elim, le-leb}
use Rattle.std.proofs.Math.Decide.{dec_lt}
use native.Mathlib.Omega.{arith}
use Rattle.std.specs.Prelude.{◌≡◌, refl, ◌⊎◌, leb}
use Rattle.std.proofs.Math.Path.{sym, ap}
use mathlib.Core.List.{List, [], ◌∷◌, ◌++◌, map}
use Rattle.std.proofs.Math.Option.{none}
use Rattle.std.proofs.Math.ListN.{length}
use Rattle.std.proofs.lemmas.Bool.{lt-leb}
use Rattle.semantics.specs.Basic.{keep, joined, numbers_from}
use Rattle.semantics.specs.Term.{VariableType, variable}
use Rattle.semantics.specs.Table.{Row}
use Rattle.semantics.specs.Runs.{atom_at}
use Rattle.semantics.specs.State.{Value}
use Rattle.semantics.specs.Moves.{values_at, values_of_type, candidates}
use Rattle.variables.specs.Variables.{values_from, NotBefore}

-- a row with a run
abbrev pub value_at : ℕ → ℕ → Value
value_at r u = record { row = r; run = u }

-- the values of a list whose run is not below a number
abbrev from : ℕ → List Value → List Value
from w vs = keep (λ v. leb w v.run) vs

-- every run is at least 0
from_zero : (vs : List Value) → from 0 vs ≡ vs
from_zero [] = refl
from_zero (v ∷ vs) = let e = le-leb 0 v.run (omega arith) in rw (e, keep) (ap (λ (us : List Value). v ∷ us) (from_zero vs))

module _ (r : ℕ) where
  -- a row with some runs, one after the other
  abbrev pub spanned : ℕ → ℕ → List Value
  spanned f c = map (value_at r) (numbers_from f c)

  module _ {w f : ℕ} (c : ℕ) where
    -- the first of them, if its run is below, and if it is not
    from-later : f < w → from w (spanned f (suc c)) ≡ from w (spanned (suc f) c)
    from-later l = let e = lt-leb w f l in rw (e, keep)

    from-now : w ≤ f → from w (spanned f (suc c)) ≡ value_at r f ∷ from w (spanned (suc f) c)
    from-now l = let e = le-leb w f l in rw (e, keep)

  -- all of them
  from_all : {w f : ℕ} (c : ℕ) → w ≤ f → from w (spanned f c) ≡ spanned f c
  from_all zero l = refl
  from_all {w} {f} (suc c) l = from-now c l ∙ ap (λ (us : List Value). value_at r f ∷ us) (from_all c (omega arith))

  -- none of them
  pub from-none : {w f m : ℕ} (c : ℕ) → f + c ≤ m → (m ≡ w) ⊎ (m ≡ f) → from w (spanned f c) ≡ []
  from-none zero l one = refl
  from-none {w} {f} {m} (suc c) l one = ⊎_elim (λ (e : m ≡ w). from-later c (omega arith) ∙ from-none c (omega arith) (inl e)) (λ (e : m ≡ f). absurd (omega arith)) one

  -- the first of them
  pub from_next : {w f m : ℕ} (c : ℕ) → w ≤ m → f ≤ m → m < f + c → (m ≡ w) ⊎ (m ≡ f) → from w (spanned f c) ≡ value_at r m ∷ from (suc m) (spanned f c)
  from_next zero a b l one = absurd (omega arith)
  from_next {w} {f} {m} (suc c) a b l one = go (dec_lt f w) (λ k e. from_next c a (omega arith) (omega arith) (inl e))
    where
      go : Dec (f < w) → (f < w → m ≡ w → from w (spanned (suc f) c) ≡ value_at r m ∷ from (suc m) (spanned (suc f) c)) → from w (spanned f (suc c)) ≡ value_at r m ∷ from (suc m) (spanned f (suc c))
      go (yes k) next = let e : m ≡ w = ⊎_elim (λ e. e) (λ e. absurd (omega arith)) one in
          from-later c k ∙ next k e ∙ ap (λ (us : List Value). value_at r m ∷ us) (sym (from-later c (omega arith)))
      go (no k) next = let e : f ≡ m = ⊎_elim (λ e. omega arith) (λ e. sym e) one in
          from-now {w = w} c (omega arith)
          ∙ ap (λ (us : List Value). value_at r f ∷ us) (from_all {w = w} c (omega arith) ∙ sym (from_all {w = suc m} c (omega arith)) ∙ sym (from-later {w = suc m} c (omega arith)))
          ∙ ap (λ (u : ℕ). value_at r u ∷ from (suc m) (spanned f (suc c))) e

-- behind the last row there is no atom
no-atom : (rows : List Row) (r : ℕ) → length rows ≤ r → atom_at rows r ≡ none
no-atom [] r l = refl
no-atom (row ∷ rows) zero l = absurd (not-suc-le-zero l)
no-atom (row ∷ rows) (suc r) l = no-atom rows r (omega arith)

module _ (rows : List Row) (runs : ℕ) (type : VariableType) where
  -- the values at a row, and those at rows from one on
  abbrev here : ℕ → List Value
  here r = values_at runs type r (atom_at rows r)

  abbrev later : ℕ → List Value
  later r = joined here (numbers_from r (length rows - r))

  -- behind the last row there is no value
  pub values-end : (r w : ℕ) → length rows ≤ r → values_from rows runs type r w ≡ []
  unfolding values_from
  values-end r w l = let e = no-atom rows r l in let z : length rows - suc r ≡ 0 = omega arith in rw (e, z)

  -- with any run, they are those at the rows from one on
  later-values : (r : ℕ) → later r ≡ values_from rows runs type r 0
  unfolding values_from
  later-values r = go (dec_lt r (length rows))
    where
      go : Dec (r < length rows) → later r ≡ values_from rows runs type r 0
      go (yes l) = let z : length rows - r ≡ suc (length rows - suc r) = omega arith in rw z (ap (λ (us : List Value). us ++ later (suc r)) (sym (from_zero (here r))))
      go (no n) = let z : length rows - r ≡ 0 = omega arith in ap (λ (k : ℕ). joined here (numbers_from r k)) z ∙ sym (values-end r 0 (omega arith))

  -- a row with no value left
  pub values-skip : (r w : ℕ) → from w (here r) ≡ [] → values_from rows runs type r w ≡ values_from rows runs type (suc r) 0
  unfolding values_from
  values-skip r w e = ap (λ (us : List Value). us ++ later (suc r)) e ∙ later-values (suc r)

  -- a row with a value left
  pub values-next : (r w m : ℕ) → from w (here r) ≡ value_at r m ∷ from (suc m) (here r) → values_from rows runs type r w ≡ value_at r m ∷ values_from rows runs type r (suc m)
  unfolding values_from
  values-next r w m e = ap (λ (us : List Value). us ++ later (suc r)) e

-- from the first row and run on they are all the values of a variable
pub values-all : (rows : List Row) (runs num : ℕ) (type : VariableType) → candidates rows runs (variable num type) ≡ values_from rows runs type 0 0
unfolding candidates values_of_type
values-all rows runs num type = let z : length rows ≡ length rows - 0 = omega arith in ap (λ (k : ℕ). joined (here rows runs type) (numbers_from 0 k)) z ∙ later-values rows runs type 0

-- behind a value that is not before row r with run w, fewer rows and runs are left than there
pub value-falls : (n r w y v : ℕ) → NotBefore r w y v → y < n → v ≤ 4 → (n - y) * 6 + (6 - (v + 1)) < (n - r) * 6 + (6 - w)
value-falls n r w y v h l few = ⊎_elim (λ (p : r < y). omega arith) (λ (p : (r ≡ y) × (w ≤ v)). omega arith) h
