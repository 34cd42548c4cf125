-- The kinds of events, and the bytes that say them. Assumes nothing.
use Rattle.std.specs.Prelude.{Option, None, Some, ℕ, [], ◌∷◌, get_or}
use Rattle.records.specs.declared.EventKind.{EventKind}
use Rattle.records.specs.declared.EventKind.TheVariants.{Send, Read, Claim}

-- the byte of a kind
abbrev pub byte_of : EventKind → ℕ
byte_of Send = 0
byte_of Read = 1
byte_of Claim = 2

-- the kind that a byte says, if it says one
abbrev pub event_kind_as : ℕ → Option EventKind
event_kind_as byte = get_or (Some Send ∷ Some Read ∷ Some Claim ∷ []) byte None
