-- A list that grows: how long it is, and one part after the other. Assumes nothing.
use Rattle.std.specs.Prelude.{ℕ, ◌+◌, ◌≡◌, List, ◌++◌, length}
use Rattle.std.proofs.Common.{ap, ◌∙◌, append_assoc, length-append}

pub grown_length : (old xs : List ℕ) {new : List ℕ} → new ≡ old ++ xs → length new ≡ length old + length xs
grown_length old xs e = ap length e ∙ length-append old xs

pub grown_on : (old xs ys : List ℕ) {mid new : List ℕ} → mid ≡ old ++ xs → new ≡ mid ++ ys → new ≡ old ++ (xs ++ ys)
grown_on old xs ys a b = b ∙ ap (λ (l : List ℕ). l ++ ys) a ∙ append_assoc old xs ys
