-- The laws of lists of marks: marks set one after another, and how many are missing. Assumes nothing.
use Rattle.std.specs.Prelude.{ℕ, zero, suc, ◌<◌, ◌≤◌, ◌≡◌, refl, ◌⊎◌, Bool, true, false, List, [], ◌∷◌, length, get_or, set, replicate}
use Rattle.std.proofs.Common.{le_of_suc-le-suc, not-suc-le-zero, arith, sym, ◌∙◌, inl, inr, ⊎_elim, get_or-set_same, get_or-set_other}
use Rattle.std.proofs.Math.Decide.{ℕ_discrete}
use Rattle.std.proofs.lemmas.Bool.{false≢true}
use Rattle.std.proofs.lemmas.List.{length-replicate}
use Rattle.knowledge.specs.Steps.{On, FilledCells, missing}

-- a marked class is one of the list
pub on_below : (marks : List Bool) (k : ℕ) → On marks k → k < length marks
on_below [] k e = absurd (false≢true e)
on_below (b ∷ marks) zero e = omega arith
on_below (b ∷ marks) (suc k) e = let l = on_below marks k e in omega arith

-- no mark of a list of false ones stands
pub none-on : (n k : ℕ) → On (replicate n false) k → ⊥
none-on zero k e = false≢true e
none-on (suc n) zero e = false≢true e
none-on (suc n) (suc k) e = none-on n k e

-- what a test of a mark says
pub is-on : {b mark : Bool} → b ≡ mark → b ≡ true → mark ≡ true
is-on e f = sym e ∙ f

pub is-off : {b mark : Bool} → b ≡ mark → b ≡ false → mark ≡ true → ⊥
is-off e f o = false≢true (sym f ∙ e ∙ o)

-- and where the class was read
pub marked : (marks : List Bool) {k j : ℕ} {b : Bool} → b ≡ get_or marks k false → b ≡ true → k ≡ j → On marks j
marked marks e f q = rw q at (is-on e f)

-- after a mark is set, those that stand are it and those that stood
pub set_on : (marks : List Bool) (k j : ℕ) → On (set marks k true) j → (j ≡ k) ⊎ On marks j
set_on marks k j e = go (ℕ_discrete j k)
  where
    go : Dec (j ≡ k) → (j ≡ k) ⊎ On marks j
    go (yes q) = inl q
    go (no f) = inr (sym (get_or-set_other marks k j true false f) ∙ e)

-- a mark that stood still stands
pub set_keeps : (marks : List Bool) (k j : ℕ) → On marks j → On (set marks k true) j
set_keeps marks k j e = go (ℕ_discrete j k)
  where
    go : Dec (j ≡ k) → On (set marks k true) j
    go (yes q) = rw q (get_or-set_same marks k true false (rw q at (on_below marks j e)))
    go (no f) = get_or-set_other marks k j true false f ∙ e

-- setting a mark leaves no more missing, and one fewer where it was
pub missing-set : (marks : List Bool) (k : ℕ) → missing (set marks k true) ≤ missing marks
unfolding missing
missing-set [] k = omega arith
missing-set (true ∷ marks) zero = omega arith
missing-set (false ∷ marks) zero = omega arith
missing-set (true ∷ marks) (suc k) = missing-set marks k
missing-set (false ∷ marks) (suc k) = let l = missing-set marks k in omega arith

pub missing-falls : (marks : List Bool) (k : ℕ) → k < length marks → (On marks k → ⊥) → missing (set marks k true) < missing marks
unfolding missing
missing-falls [] k l f = absurd (not-suc-le-zero l)
missing-falls (true ∷ marks) zero l f = absurd (f refl)
missing-falls (false ∷ marks) zero l f = omega arith
missing-falls (true ∷ marks) (suc k) l f = missing-falls marks k (le_of_suc-le-suc l) f
missing-falls (false ∷ marks) (suc k) l f = let h = missing-falls marks k (le_of_suc-le-suc l) f in omega arith

-- cells passed by going through the rows below n of each run up to row r of run u
abbrev pub Before : ℕ → ℕ → ℕ → ℕ → ℕ → Type 0
Before n u r x w = (x < n) × ((w < u) ⊎ ((w ≡ u) × (x < r)))

module _ (n runs : ℕ) (place : ℕ → ℕ → ℕ) (chosen : ℕ → ℕ → Type 0) where
  -- no cell passed, no mark
  pub filled_none : FilledCells n runs place chosen (Before n 0 0) (replicate 480 false)
  filled_none = record {
    size = length-replicate 480 false;
    from = λ k e. absurd (none-on 480 k e);
    onto = λ r u p. ⊎_elim (λ l. absurd (not-suc-le-zero l)) (λ w. absurd (not-suc-le-zero w.1)) p.1;
  }
