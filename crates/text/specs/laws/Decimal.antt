-- Decimal digits: the last one and those before it, and how many there are. Assumes nothing.
use Rattle.std.specs.Prelude.{ℕ, zero, suc, ◌*◌, ◌/◌, ◌%◌, ◌<◌, ◌≤◌, ◌≡◌, refl, Bool, true, false, List, [], ◌∷◌, ◌++◌, ltb, length}
use Rattle.std.proofs.Common.{arith, sym, ap, ◌∙◌, length-append, ltb-false, lt-ltb, le-ltb}
use Rattle.text.specs.Text.{digit, decimal_from, decimal}

-- the digits of a number by whether it has one only
abbrev by-test : ℕ → ℕ → Bool → List ℕ
by-test fuel n b = elim b [ true ↦ digit n ∷ [] | false ↦ decimal_from fuel (n / 10) ++ (digit (n % 10) ∷ []) ]

-- its own value is fuel enough
fuel-enough : (f g n : ℕ) → n ≤ f → n ≤ g → decimal_from f n ≡ decimal_from g n
unfolding decimal_from
fuel-enough zero zero n l m = refl
fuel-enough zero (suc g) n l m = sym (ap (by-test g n) (lt-ltb n 10 (omega arith)))
fuel-enough (suc f) zero n l m = ap (by-test f n) (lt-ltb n 10 (omega arith))
fuel-enough (suc f) (suc g) n l m = go (λ h. fuel-enough f g (n / 10) (omega arith) (omega arith)) (ltb n 10) refl
  where
    go : (10 ≤ n → decimal_from f (n / 10) ≡ decimal_from g (n / 10)) → (b : Bool) → ltb n 10 ≡ b → by-test f n b ≡ by-test g n b
    go high true e = refl
    go high false e = ap (λ (ds : List ℕ). ds ++ (digit (n % 10) ∷ [])) (high (ltb-false n 10 e))

by-fuel : (fuel n : ℕ) → n ≤ suc fuel → decimal n ≡ by-test fuel n (ltb n 10)
unfolding decimal decimal_from
by-fuel fuel n l = fuel-enough n (suc fuel) n (omega arith) l

pub decimal-small : (n : ℕ) → n < 10 → decimal n ≡ digit (n % 10) ∷ []
decimal-small n l = let z : n ≡ n % 10 = omega arith in by-fuel n n (omega arith) ∙ ap (by-test n n) (lt-ltb n 10 l) ∙ ap (λ (m : ℕ). digit m ∷ []) z

pub decimal-large : (n : ℕ) → 10 ≤ n → decimal n ≡ decimal (n / 10) ++ (digit (n % 10) ∷ [])
unfolding decimal
decimal-large n l = by-fuel n n (omega arith) ∙ ap (by-test n n) (le-ltb n 10 l) ∙ ap (λ (ds : List ℕ). ds ++ (digit (n % 10) ∷ [])) (fuel-enough n (n / 10) (n / 10) (omega arith) (omega arith))

-- the first number with two digits, with three, and so on
abbrev pub tens : ℕ → ℕ
tens zero = 10
tens (suc k) = 10 * tens k

from-few : (k fuel n : ℕ) → n < tens k → length (decimal_from fuel n) ≤ suc k
unfolding decimal_from
from-few k zero n l = omega arith
from-few zero (suc fuel) n l = omega (arith, ap (λ (b : Bool). length (by-test fuel n b)) (lt-ltb n 10 l))
from-few (suc k) (suc fuel) n l = go (from-few k fuel (n / 10) (omega arith)) (ltb n 10)
  where
    go : length (decimal_from fuel (n / 10)) ≤ suc k → (b : Bool) → length (by-test fuel n b) ≤ suc (suc k)
    go few true = omega arith
    go few false = omega (arith, length-append (decimal_from fuel (n / 10)) (digit (n % 10) ∷ []))

-- a number has no more digits than that
pub decimal-few : (k n : ℕ) → n < tens k → length (decimal n) ≤ suc k
unfolding decimal
decimal-few k n l = from-few k n n l
