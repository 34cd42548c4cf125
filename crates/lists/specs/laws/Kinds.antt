-- The order of kinds is that of their numbers. Assumes nothing.
use Rattle.std.specs.Prelude.{◌≡◌, refl, Bool, true, false, cond, [], ◌∷◌, get_or, ltb, ℤ, pos}
use Rattle.std.specs.Ordering.{is_lt, int_cmp}
use Rattle.std.specs.declared.cmp.Ordering.TheVariants.{Less, Equal, Greater}
use denote.Enum.Declared.{tag_of}
use Rattle.rows.specs.declared.Kind.{Kind}
use Rattle.rows.specs.declared.Kind.TheVariants.{Trusted, Untrusted, Global, Intruder, Role, Variable, Local, PublicKey, SecretKey, SharedKey, Pair, Encrypted}
use Rattle.rows.specs.contracts.Kind.{the_type}
use Rattle.rows.specs.Kinds.{number_of}

-- the number by which the derived order compares a kind
abbrev pub rank : Kind → ℤ
rank k = get_or (pos 1 ∷ pos 2 ∷ pos 3 ∷ pos 4 ∷ pos 5 ∷ pos 6 ∷ pos 7 ∷ pos 8 ∷ pos 9 ∷ pos 10 ∷ pos 11 ∷ pos 12 ∷ []) (tag_of the_type k) (pos 0)

-- it is the kind's byte
rank-number : (k : Kind) → rank k ≡ pos (number_of k)
rank-number Trusted = refl
rank-number Untrusted = refl
rank-number Global = refl
rank-number Intruder = refl
rank-number Role = refl
rank-number Variable = refl
rank-number Local = refl
rank-number PublicKey = refl
rank-number SecretKey = refl
rank-number SharedKey = refl
rank-number Pair = refl
rank-number Encrypted = refl

-- one of two numbers is less, or not
less-of : (b d : Bool) → is_lt (cond b Less (cond d Greater Equal)) ≡ b
less-of true d = refl
less-of false true = refl
less-of false false = refl

-- a kind is below another exactly if its byte is
pub kind-less : (a b : Kind) → is_lt (int_cmp (rank a) (rank b)) ≡ ltb (number_of a) (number_of b)
kind-less a b = rw (rank-number a, rank-number b) (less-of (ltb (number_of a) (number_of b)) (ltb (number_of b) (number_of a)))
