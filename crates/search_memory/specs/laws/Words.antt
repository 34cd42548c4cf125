-- Arrays of zeros, and words that are the same in a part. Assumes nothing.
use Rattle.std.specs.Prelude.{ℕ, zero, suc, ◌+◌, ◌<◌, ◌≡◌, refl, List, get_or, take, drop, replicate}
use Rattle.std.proofs.Common.{sym, ap, ◌∙◌}
use Rattle.std.proofs.lemmas.List.{get_or-drop, get_or-take}

-- every word of an array of zeros is 0
pub zeros-read : (n i : ℕ) → get_or (replicate {A = ℕ} n 0) i 0 ≡ 0
zeros-read zero i = refl
zeros-read (suc n) zero = refl
zeros-read (suc n) (suc i) = zeros-read n i

-- words that are the same, read in a part of others
pub part-same : (words part : List ℕ) (at n : ℕ) → take n (drop at words) ≡ part → (j : ℕ) → j < n → get_or words (at + j) 0 ≡ get_or part j 0
part-same words part at n e j l = sym (get_or-drop at words j 0) ∙ sym (get_or-take n (drop at words) j 0 l) ∙ ap (λ (xs : List ℕ). get_or xs j 0) e
