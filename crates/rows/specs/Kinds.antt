-- The kinds of rows, and the bytes that say them. Assumes nothing.
use Rattle.std.specs.Prelude.{Option, None, Some, ℕ, [], ◌∷◌, get_or}
use Rattle.rows.specs.declared.Kind.{Kind}
use Rattle.rows.specs.declared.Kind.TheVariants.{Trusted, Untrusted, Global, Intruder, Role, Variable, Local, PublicKey, SecretKey, SharedKey, Pair, Encrypted}

-- the byte of a kind
abbrev pub number_of : Kind → ℕ
number_of Trusted = 1
number_of Untrusted = 2
number_of Global = 3
number_of Intruder = 4
number_of Role = 5
number_of Variable = 6
number_of Local = 7
number_of PublicKey = 8
number_of SecretKey = 9
number_of SharedKey = 10
number_of Pair = 11
number_of Encrypted = 12

-- the kind that a byte says, if it says one
abbrev pub kind_as : ℕ → Option Kind
kind_as byte =
    get_or (None ∷ Some Trusted ∷ Some Untrusted ∷ Some Global ∷ Some Intruder ∷ Some Role ∷ Some Variable ∷ Some Local ∷ Some PublicKey ∷ Some SecretKey ∷ Some SharedKey ∷ Some Pair ∷ Some Encrypted ∷ []) byte None
