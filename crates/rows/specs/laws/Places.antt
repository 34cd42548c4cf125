-- A place as the code gives it, read back as the condition's. Assumes nothing.
use Rattle.std.specs.Prelude.{ℕ, ◌≡◌, refl, None, Some}
use Rattle.std.proofs.Common.{arith}
use Rattle.std.proofs.Math.Option.{Option, none, some}
use Rattle.rows.specs.Rows.{place_as}

pub at_some : (o : Option ℕ) {at : ℕ} → Some at ≡ place_as o → o ≡ some at
at_some none e = let z : ◌≡◌ {A = ℕ} 0 1 = cc in absurd (omega arith)
at_some (some at) e = cc

pub nowhere-none : (o : Option ℕ) → None ≡ place_as o → o ≡ none
nowhere-none none e = refl
nowhere-none (some at) e = let z : ◌≡◌ {A = ℕ} 0 1 = cc in absurd (omega arith)
