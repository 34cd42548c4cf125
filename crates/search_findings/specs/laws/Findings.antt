-- What a walk finds, by the budget. Assumes nothing.
use Rattle.std.specs.Prelude.{ℕ, ◌<◌, ◌≤◌, ◌≡◌, Bool, Err, Ok}
use Rattle.std.proofs.Common.{ap, lt-ltb, le-ltb}
use Rattle.answers.specs.declared.End.TheVariants.{Cut}
use Rattle.search_findings.specs.Findings.{known_by, known_as}

-- a remembered number beyond the budget, and one within it
pub known-beyond : (left count : ℕ) → left < count → known_as left count ≡ Err Cut
known-beyond left count l = ap (λ (b : Bool). known_by b count) (lt-ltb left count l)

pub known-within : (left count : ℕ) → count ≤ left → known_as left count ≡ Ok count
known-within left count l = ap (λ (b : Bool). known_by b count) (le-ltb left count l)
