-- The value of a row under a reading, and what lies beneath a row (document 01, 'Roles and moves'). Assumes nothing.
use Rattle.std.specs.Prelude.{ℕ, Bool, false, ◌||◌, List, [], ◌∷◌, ◌++◌, eqb, length, get_or}
use Rattle.std.proofs.Math.Option.{Option, none, some}
use Rattle.semantics.specs.Basic.{mapped, mapped₂}
use Rattle.semantics.specs.Term.{Atom, trusted, untrusted, global, intruder, role, variable, local, Term, atom, pk, sk, pair, encrypted, shared_key}
use Rattle.semantics.specs.Table.{Row, atomic, pk_of, sk_of, shared_of, pair_of, encrypted_of}

-- What agents, constants, role names, variables and local constants stand for.
abbrev pub Reading : Type 0
Reading = Atom → Option Term

-- "role-level terms being atoms"
abbrev pub as_atoms : Reading
as_atoms a = some (atom a)

-- "no variable beneath": a variable has no value
abbrev pub without_variables : Reading
without_variables (trusted n) = some (atom (trusted n))
without_variables (untrusted n) = some (atom (untrusted n))
without_variables (global n) = some (atom (global n))
without_variables (intruder n) = some (atom (intruder n))
without_variables (role i) = some (atom (role i))
without_variables (variable n t) = none
without_variables (local n u) = some (atom (local n u))

-- "no role name, variable or local constant beneath": these have no value without a run
abbrev pub without_run : Reading
without_run (trusted n) = some (atom (trusted n))
without_run (untrusted n) = some (atom (untrusted n))
without_run (global n) = some (atom (global n))
without_run (intruder n) = some (atom (intruder n))
without_run (role i) = none
without_run (variable n t) = none
without_run (local n u) = none

-- One result for each row, each made from the results of the rows below it.
unfoldable pub folded : {A : Type 0} → (List A → Row → A) → List A → List Row → List A
folded f below [] = below
folded f below (row ∷ rows) = folded f (below ++ f below row ∷ []) rows

-- The value of a row from the values of the rows below it.
unfoldable pub value_from : Reading → List (Option Term) → Row → Option Term
value_from reading below (atomic a) = reading a
value_from reading below (pk_of a) = mapped pk (get_or below a none)
value_from reading below (sk_of a) = mapped sk (get_or below a none)
value_from reading below (shared_of a b) = mapped₂ shared_key (get_or below a none) (get_or below b none)
value_from reading below (pair_of l r) = mapped₂ pair (get_or below l none) (get_or below r none)
value_from reading below (encrypted_of l r) = mapped₂ encrypted (get_or below l none) (get_or below r none)

unfoldable pub values : Reading → List Row → List (Option Term)
values reading rows = folded (value_from reading) [] rows

-- The value of a row; none where the row is absent or something beneath it has no value.
unfoldable pub value_of : Reading → List Row → ℕ → Option Term
value_of reading rows r = get_or (values reading rows) r none

-- Whether a given row lies beneath a row: the row itself, and what lies beneath the rows that it refers to, keys included.
unfoldable pub beneath_from : ℕ → List Bool → Row → Bool
beneath_from x below (atomic a) = eqb x (length below)
beneath_from x below (pk_of a) = eqb x (length below) || get_or below a false
beneath_from x below (sk_of a) = eqb x (length below) || get_or below a false
beneath_from x below (shared_of a b) = eqb x (length below) || (get_or below a false || get_or below b false)
beneath_from x below (pair_of l r) = eqb x (length below) || (get_or below l false || get_or below r false)
beneath_from x below (encrypted_of l r) = eqb x (length below) || (get_or below l false || get_or below r false)

unfoldable pub beneath : List Row → ℕ → ℕ → Bool
beneath rows x r = get_or (folded (beneath_from x) [] rows) r false
