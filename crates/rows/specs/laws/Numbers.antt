-- What is numbered in such a way that the number says it. Assumes nothing.
use Rattle.std.specs.Prelude.{Option, Some, ℕ, ◌≡◌}
use Rattle.std.proofs.Common.{sym, ap, ◌∙◌}

module _ {A : Type 0} (number : A → ℕ) (said : ℕ → Option A) (back : (a : A) → said (number a) ≡ Some a) where
  -- two that differ have two numbers
  pub numbers-differ : {a b : A} → (a ≡ b → ⊥) → number a ≡ number b → ⊥
  numbers-differ {a} {b} other e = let same : Some a ≡ Some b = sym (back a) ∙ ap said e ∙ back b in other cc
