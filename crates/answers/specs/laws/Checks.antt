-- Checks by a reason and a place. Assumes nothing.
use Rattle.std.specs.Prelude.{Option, ℕ, ◌≡◌, Err, None, Ok, Some}
use Rattle.std.proofs.Common.{arith}
use Rattle.std.proofs.Math.Path.{refl}
use Rattle.answers.specs.Answers.{refused_at}
use Rattle.answers.specs.declared.Reason.{Reason}
use Rattle.answers.specs.declared.Refusal.{Refusal}

-- a check that is passed has no place, one that is refused is so at its place
pub check-passed : (reason : Reason) (p : Option ℕ) → refused_at reason p ≡ Ok tt → p ≡ None
check-passed reason None e = refl
check-passed reason (Some at) e = let z : ◌≡◌ {A = ℕ} 0 1 = cc in absurd (omega arith)

pub check-refused : (reason : Reason) (p : Option ℕ) {x : Refusal} → refused_at reason p ≡ Err x → (at : ℕ) × (p ≡ Some at) × (x ≡ record { reason = reason; place = at })
check-refused reason None e = let z : ◌≡◌ {A = ℕ} 0 1 = cc in absurd (omega arith)
check-refused reason (Some at) e = (at, refl, cc)
