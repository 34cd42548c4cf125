-- A kind of event and its byte say each other. Assumes nothing.
use denote.Enum.Bare.{sameb, same_true, same_false}
use Rattle.std.specs.Prelude.{Some, is_some, ℕ, zero, suc, ◌≤◌, ◌≡◌, refl, Bool, true, false}
use Rattle.std.proofs.Common.{arith, rules, sym, ap, ◌∙◌}
use Rattle.records.specs.contracts.EventKind.{the_type}
use Rattle.records.specs.declared.EventKind.{EventKind}
use Rattle.records.specs.declared.EventKind.TheVariants.{Send, Read, Claim}
use Rattle.records.specs.Kinds.{byte_of, event_kind_as}
use Rattle.rows.specs.laws.Numbers.{numbers-differ}

event-byte : (k : EventKind) → event_kind_as (byte_of k) ≡ Some k
event-byte Send = refl
event-byte Read = refl
event-byte Claim = refl

-- kinds that differ have two bytes
pub events-differ : {a b : EventKind} → (a ≡ b → ⊥) → byte_of a ≡ byte_of b → ⊥
events-differ = numbers-differ byte_of event_kind_as event-byte

-- each byte up to 2 says one
pub event-known : (n : ℕ) → n ≤ 2 → is_some (event_kind_as n) ≡ true
event-known zero l = refl
event-known (suc zero) l = refl
event-known (suc (suc zero)) l = refl
event-known (suc (suc (suc n))) l = absurd (omega (arith, l))

-- what a comparison of kinds says of their bytes
pub event-is : {r : Bool} (k l : EventKind) → r ≡ sameb the_type k l → r ≡ true → byte_of k ≡ byte_of l
event-is k l e t = ap byte_of (same_true the_type (search rules) k l (sym e ∙ t))

pub event-other : {r : Bool} (k l : EventKind) → r ≡ sameb the_type k l → r ≡ false → byte_of k ≡ byte_of l → ⊥
event-other k l e f = events-differ (same_false the_type k l (sym e ∙ f))
