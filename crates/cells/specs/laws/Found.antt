-- The look-up of a class by the number of a kind, which may be that of none. Assumes nothing.
use Rattle.std.specs.Prelude.{Option, Some, None, MatchOption, ℕ, ◌<◌, ◌≤◌, ◌≡◌, refl, true, false, List}
use Rattle.std.specs.Option.{unwrap_or}
use Rattle.std.proofs.Common.{arith, lit<}
use Rattle.rows.specs.declared.Kind.{Kind}
use Rattle.rows.specs.declared.Kind.TheVariants.{Trusted, Untrusted, Global, Intruder, Role, Variable, Local, PublicKey, SecretKey, SharedKey, Pair, Encrypted}
use Rattle.rows.specs.Kinds.{number_of, kind_as}
use Rattle.rows.specs.Rows.{Shape}
use Rattle.rows.specs.laws.Kinds.{byte-kind, table-known}
use Rattle.cells.specs.Cells.{absent, Found, not_found}

-- a kind's number is a byte
number-low : (k : Kind) → number_of k < 256
number-low Trusted = lit< tt
number-low Untrusted = lit< tt
number-low Global = lit< tt
number-low Intruder = lit< tt
number-low Role = lit< tt
number-low Variable = lit< tt
number-low Local = lit< tt
number-low PublicKey = lit< tt
number-low SecretKey = lit< tt
number-low SharedKey = lit< tt
number-low Pair = lit< tt
number-low Encrypted = lit< tt

module _ {bytes : List ℕ} {n runs : ℕ} {classes : List ℕ} {kind a b : ℕ} where
  -- no row of a table has a kind that no byte says
  pub found-unknown : Shape bytes n runs → kind_as kind ≡ None → Found bytes n runs classes kind a b absent
  found-unknown shape e = not_found (λ x w l k q m. let known : false ≡ true = rw (q, e) at (table-known shape x l) in cc) refl

  -- nor one whose number is no byte
  pub found-high : Shape bytes n runs → 256 ≤ kind → Found bytes n runs classes kind a b absent
  found-high shape high = go (kind_as kind) refl
    where
      go : (o : Option Kind) → kind_as kind ≡ o → Found bytes n runs classes kind a b absent
      go None e = found-unknown shape e
      go (Some k) e = absurd (omega (arith, byte-kind kind e, number-low k))

  -- what is found by a kind is found by its number
  pub found-known :
      {k : Kind} → kind_as kind ≡ Some k → (o : Option ℕ)
      → MatchOption o (Found bytes n runs classes (number_of k) a b absent) (λ class. (class < absent) × Found bytes n runs classes (number_of k) a b class)
      → {class : ℕ} → class ≡ unwrap_or o absent → Found bytes n runs classes kind a b class
  found-known e None found q = rw (byte-kind kind e, q) found
  found-known e (Some f) found q = rw (byte-kind kind e, q) found.1
