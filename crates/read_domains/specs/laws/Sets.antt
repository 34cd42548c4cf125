-- Sets of classes and domains of variables, as one of their elements is written. Assumes nothing.
use Rattle.std.specs.Prelude.{ℕ, zero, suc, ◌<◌, ◌≡◌, Bool, true, false, List, [], ◌∷◌, length, get_or, set, count_by, cond}
use Rattle.std.proofs.Math.Decide.{ℕ_discrete}
use Rattle.std.proofs.Common.{arith, get_or-set_same, get_or-set_other}
use Rattle.std.proofs.lemmas.Bool.{false≢true}
use Rattle.std.proofs.lemmas.List.Sums.{sum_by-cons}
use Rattle.variables.specs.Variables.{In}
use Rattle.read_domains.specs.Domains.{InRow}

-- the element that is written is in
pub in-set : (xs : List Bool) {class : ℕ} → class < length xs → {c : ℕ} → c ≡ class → In (set xs class true) c
in-set xs {class} l e = rw e (get_or-set_same xs class true false l)

-- a row with a class is there
row_below : (dom : List (List Bool)) (j c : ℕ) → InRow dom j c → j < length dom
row_below [] j c h = absurd (false≢true h)
row_below (row ∷ dom) zero c h = omega arith
row_below (row ∷ dom) (suc j) c h = omega (arith, row_below dom j c h)

-- the row that is written has what is in the new one
pub row_in : (dom : List (List Bool)) (i : ℕ) (row : List Bool) (c : ℕ) → i < length dom → In row c → InRow (set dom i row) i c
row_in dom i row c l h = rw (get_or-set_same dom i row [] l) h

-- what is in a row stays in it as one is written, if it is in another one or in the new one
pub row_stays : (dom : List (List Bool)) (i : ℕ) (row : List Bool) (j c : ℕ) → (j ≡ i → In (get_or dom i []) c → In row c) → InRow dom j c → InRow (set dom i row) j c
row_stays dom i row j c own h = go (ℕ_discrete j i)
  where
    go : Dec (j ≡ i) → InRow (set dom i row) j c
    go (yes q) = rw q (row_in dom i row c (rw q at (row_below dom j c h)) (own q (rw q at h)))
    go (no d) = rw (get_or-set_other dom i j row [] d) h

-- a set with a class has at least one
pub counted : (xs : List Bool) (c : ℕ) → In xs c → 0 < count_by (λ has. has) xs
counted [] c h = absurd (false≢true h)
counted (true ∷ xs) c h = omega (arith, sum_by-cons (λ (has : Bool). cond has 1 0) true xs)
counted (false ∷ xs) zero h = absurd (false≢true h)
counted (false ∷ xs) (suc c) h = omega (arith, counted xs c h, sum_by-cons (λ (has : Bool). cond has 1 0) false xs)
