-- A refusal with its place, and the first refusal of a sequence of conditions (document 01, 'Operations and what stops them'). Assumes nothing.
use Rattle.std.specs.Prelude.{ℕ}
use Rattle.std.proofs.Math.Option.{Option, none, some}

-- "A refusal is a number and a place, the offset of the item's first byte"
pub record Refusal : Type 0 where
  pub number : ℕ
  pub place : ℕ

pub data Answer (A : Type 0) : Type 0 where
  refused : Refusal → Answer A
  accepted : A → Answer A

-- A condition gives the place where it first holds, or none. Where it holds, the refusal has the condition's number.
abbrev pub refuse : {A : Type 0} → ℕ → ℕ → Answer A
refuse n at = refused (record { number = n; place = at })

abbrev pub checked : ℕ → Option ℕ → Answer (Unit {0})
checked n none = accepted tt
checked n (some at) = refuse n at

-- One condition after the other: the first that holds refuses.
abbrev pub ◌>>=◌ : {A B : Type 0} → Answer A → (A → Answer B) → Answer B
◌>>=◌ (refused r) f = refused r
◌>>=◌ (accepted a) f = f a

abbrev pub ◌>>◌ : {B : Type 0} → Answer (Unit {0}) → Answer B → Answer B
◌>>◌ (refused r) b = refused r
◌>>◌ (accepted u) b = b
