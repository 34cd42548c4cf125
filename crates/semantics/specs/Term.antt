-- Terms of both levels, the inverse of a key, and equality (document 01, 'Terms'; 000, section 3.2). Assumes nothing.
use Rattle.std.specs.Prelude.{ℕ, suc, ◌+◌, ◌≡◌}
use Rattle.std.proofs.Math.Decide.{ℕ_discrete}

-- "type: 0 agent, 1 fresh"
pub data VariableType : Type 0 where
  agent_type fresh_type : VariableType
  deriving Discrete as VariableType-discrete

-- "trusted, untrusted agent; global, intruder constant; role name; variable; local constant": kinds 1 to 7.
-- A local constant carries its run, c#u; at role level that is 0.
pub data Atom : Type 0 where
  trusted untrusted global intruder role : ℕ → Atom
  -- number and type
  variable : ℕ → VariableType → Atom
  -- number and run
  local : ℕ → ℕ → Atom
  deriving Discrete as Atom-discrete

-- "public, secret key of an agent; shared key k(a,b), in that order; pair; encryption": kinds 8 to 12.
pub data Term : Type 0 where
  atom : Atom → Term
  pk sk : Term → Term
  shared pair : Term → Term → Term
  -- content and key
  encrypted : Term → Term → Term
  deriving Discrete as Term-discrete

-- "shared key k(a,b), in that order"
abbrev pub shared_key : Term → Term → Term
shared_key a b = shared a b

-- "Agents, constants and keys are equal only if kind and parts are."
abbrev pub atom? : (a b : Atom) → Dec (a ≡ b)
atom? = Atom-discrete ℕ_discrete VariableType-discrete

abbrev pub term? : (t u : Term) → Dec (t ≡ u)
term? = Term-discrete atom?

-- "Public and secret key of one agent are inverse to each other; every other term, compound ones too, is its own inverse."
abbrev pub inverse : Term → Term
inverse (atom a) = atom a
inverse (pk a) = sk a
inverse (sk a) = pk a
inverse (shared a b) = shared a b
inverse (pair t u) = pair t u
inverse (encrypted t k) = encrypted t k

-- how many constructors a term has: what taking apart uses up
unfoldable pub size : Term → ℕ
size (atom a) = 1
size (pk t) = suc (size t)
size (sk t) = suc (size t)
size (shared t u) = suc (size t + size u)
size (pair t u) = suc (size t + size u)
size (encrypted t k) = suc (size t + size k)
