-- A kind and its byte say each other. Assumes nothing.
use Rattle.std.specs.Prelude.{None, Some, is_some, Bool, true, false, eqb, ℕ, zero, suc, ◌*◌, ◌<◌, ◌≡◌, refl, List, get_or}
use Rattle.std.proofs.Common.{arith, rules, sym, ap, eq-eqb, ne_eqb}
use denote.Enum.Bare.{sameb, same_true, same_false}
use Rattle.semantics.specs.Table.{Row}
use Rattle.semantics.specs.Encoding.{RowBytes, trusted_bytes, untrusted_bytes, global_bytes, intruder_bytes, role_bytes, agent_variable_bytes, fresh_variable_bytes, local_bytes, public_bytes, secret_bytes, shared_bytes, pair_bytes, encrypted_bytes}
use Rattle.rows.specs.declared.Kind.{Kind}
use Rattle.rows.specs.declared.Kind.TheVariants.{Trusted, Untrusted, Global, Intruder, Role, Variable, Local, PublicKey, SecretKey, SharedKey, Pair, Encrypted}
use Rattle.rows.specs.contracts.Kind.{the_type}
use Rattle.rows.specs.Rows.{Shape}
use Rattle.rows.specs.laws.Numbers.{numbers-differ}
use Rattle.rows.specs.laws.Table.{row_here}
use Rattle.rows.specs.Kinds.{number_of, kind_as}

none_some : {k : Kind} → None ≡ Some k → ⊥
none_some e = cc

kind-number : (k : Kind) → kind_as (number_of k) ≡ Some k
kind-number Trusted = refl
kind-number Untrusted = refl
kind-number Global = refl
kind-number Intruder = refl
kind-number Role = refl
kind-number Variable = refl
kind-number Local = refl
kind-number PublicKey = refl
kind-number SecretKey = refl
kind-number SharedKey = refl
kind-number Pair = refl
kind-number Encrypted = refl

-- kinds that differ have two numbers
pub kinds-differ : {a b : Kind} → (a ≡ b → ⊥) → number_of a ≡ number_of b → ⊥
kinds-differ = numbers-differ number_of kind_as kind-number

same-some : {j k : Kind} {n : ℕ} → n ≡ number_of j → Some j ≡ Some k → n ≡ number_of k
same-some {j} {k} e f = let q : j ≡ k = cc in rw (← q) e

-- whether two kinds are one, by their numbers
pub same-number : (r : Bool) (k l : Kind) → r ≡ sameb the_type k l → r ≡ eqb (number_of k) (number_of l)
same-number true k l e = sym (eq-eqb (number_of k) (number_of l) (ap number_of (same_true the_type (search rules) k l (sym e))))
same-number false k l e = sym (ne_eqb (number_of k) (number_of l) (kinds-differ (same_false the_type k l (sym e))))

-- a byte that says a kind is its number
pub byte-kind : (n : ℕ) {k : Kind} → kind_as n ≡ Some k → n ≡ number_of k
byte-kind zero e = absurd (none_some e)
byte-kind (suc zero) e = same-some {j = Trusted} refl e
byte-kind (suc (suc zero)) e = same-some {j = Untrusted} refl e
byte-kind (suc (suc (suc zero))) e = same-some {j = Global} refl e
byte-kind (suc (suc (suc (suc zero)))) e = same-some {j = Intruder} refl e
byte-kind (suc (suc (suc (suc (suc zero))))) e = same-some {j = Role} refl e
byte-kind (suc (suc (suc (suc (suc (suc zero)))))) e = same-some {j = Variable} refl e
byte-kind (suc (suc (suc (suc (suc (suc (suc zero))))))) e = same-some {j = Local} refl e
byte-kind (suc (suc (suc (suc (suc (suc (suc (suc zero)))))))) e = same-some {j = PublicKey} refl e
byte-kind (suc (suc (suc (suc (suc (suc (suc (suc (suc zero))))))))) e = same-some {j = SecretKey} refl e
byte-kind (suc (suc (suc (suc (suc (suc (suc (suc (suc (suc zero)))))))))) e = same-some {j = SharedKey} refl e
byte-kind (suc (suc (suc (suc (suc (suc (suc (suc (suc (suc (suc zero))))))))))) e = same-some {j = Pair} refl e
byte-kind (suc (suc (suc (suc (suc (suc (suc (suc (suc (suc (suc (suc zero)))))))))))) e = same-some {j = Encrypted} refl e
byte-kind (suc (suc (suc (suc (suc (suc (suc (suc (suc (suc (suc (suc (suc n))))))))))))) e = absurd (none_some e)

-- the bytes of a row say a kind
pub row-kind : {kind left right : ℕ} {row : Row} → RowBytes kind left right row → (k : Kind) × (kind_as kind ≡ Some k)
row-kind trusted_bytes = (Trusted, refl)
row-kind untrusted_bytes = (Untrusted, refl)
row-kind global_bytes = (Global, refl)
row-kind intruder_bytes = (Intruder, refl)
row-kind (role_bytes l) = (Role, refl)
row-kind agent_variable_bytes = (Variable, refl)
row-kind fresh_variable_bytes = (Variable, refl)
row-kind local_bytes = (Local, refl)
row-kind public_bytes = (PublicKey, refl)
row-kind secret_bytes = (SecretKey, refl)
row-kind shared_bytes = (SharedKey, refl)
row-kind pair_bytes = (Pair, refl)
row-kind encrypted_bytes = (Encrypted, refl)

-- so each row of a table has one
pub table-known : {bytes : List ℕ} {n runs : ℕ} → Shape bytes n runs → (r : ℕ) → r < n → is_some (kind_as (get_or bytes (3 * r) 0)) ≡ true
table-known {bytes} shape r low =
    let there = row_here bytes shape.table r (omega (arith, shape.count)) in
    ap is_some (row-kind there.2).1
