-- Three bytes of a list, from a place on. Assumes nothing.
use Rattle.std.specs.Prelude.{ℕ, suc, ◌+◌, ◌-◌, ◌≤◌, ◌<◌, ◌≡◌, ◌&&◌, eqb, length, get_or, take, drop}
use Rattle.std.proofs.Common.{add-one, arith, ◌∙◌, drop-cons}
use Rattle.std.proofs.Math.Numerals.{add-two, add-three}
use Rattle.std.proofs.Math.Path.{ap, sym}
use Rattle.std.proofs.Math.Bool.{and-true, and_assoc}
use mathlib.Core.List.{List, [], ◌∷◌}
use lib.Pointwise.{pointwise}

-- three elements from a place on
pub drop-three : (t : List ℕ) (n : ℕ) → n + 3 ≤ length t → drop n t ≡ get_or t n 0 ∷ get_or t (n + 1) 0 ∷ get_or t (n + 2) 0 ∷ drop (n + 3) t
drop-three t n h =
    rw (add-one n, add-two n, add-three n) (
    drop-cons t n 0 (omega arith)
    ∙ ap (λ (x : List ℕ). get_or t n 0 ∷ x)
    (drop-cons t (suc n) 0 (omega arith) ∙ ap (λ (x : List ℕ). get_or t (suc n) 0 ∷ x) (drop-cons t (suc (suc n)) 0 (omega arith)))
    )

-- three bytes from a place on are compared one by one with three at the front
pub pointwise_three : (t : List ℕ) (m : ℕ) (row : List ℕ) → m + 2 < length t → 3 ≤ length row
    → pointwise eqb (take (m + 3 - m) (drop m t)) (take 3 row) ≡ (eqb (get_or t m 0) (get_or row 0 0) && eqb (get_or t (m + 1) 0) (get_or row 1 0) && eqb (get_or t (m + 2) 0) (get_or row 2 0))
pointwise_three t m row h k =
    let a : m + 3 - m ≡ 3 = omega arith in
    let b : take 3 row ≡ get_or row 0 0 ∷ get_or row 1 0 ∷ get_or row 2 0 ∷ [] = ap (take 3) (drop-three row 0 (omega arith)) in
    rw (a, b, drop-three t m (omega arith))
    (rw and-true (sym (and_assoc (eqb (get_or t m 0) (get_or row 0 0)) (eqb (get_or t (m + 1) 0) (get_or row 1 0)) (eqb (get_or t (m + 2) 0) (get_or row 2 0)))))
