-- In plain words, what stands on both sides of the theorems: the value of a row, what lies beneath it, what an atom stands for in a run, what a trace passes (document 01, 'Terms', 'Roles and moves'). Assumes nothing.
use Rattle.std.specs.Prelude.{ℕ, suc, ◌<◌, ◌≡◌, ◌↔◌, length}
use mathlib.Core.List.{List, ◌∷◌, Memᴰ}
use Rattle.std.proofs.Math.Option.{none, some}
use Rattle.std.proofs.Math.ListN.{get_elem?}
use Rattle.semantics.specs.Term.{VariableType, Atom, trusted, untrusted, global, intruder, role, variable, local, Term, atom, pk, sk, shared, pair, encrypted}
use Rattle.semantics.specs.Table.{Row, atomic, pk_of, sk_of, shared_of, pair_of, encrypted_of}
use Rattle.semantics.specs.Value.{Reading, as_atoms, without_run}
use Rattle.semantics.specs.Runs.{Run}
use Rattle.semantics.specs.Scenario.{Scenario}
use Rattle.semantics.specs.State.{Value, State, Active, assigned, events_of}
use Rattle.semantics.specs.Moves.{Move}
use Rattle.semantics.specs.Guarantee.{refers_to}

-- "Public and secret key of one agent are inverse to each other; every other term, compound ones too, is its own inverse."
pub data InverseIs : Term → Term → Type 0 where
  of_public : {a : Term} → InverseIs (pk a) (sk a)
  of_secret : {a : Term} → InverseIs (sk a) (pk a)
  of_itself : {t : Term} → ((a : Term) → ¬ (t ≡ pk a)) → ((a : Term) → ¬ (t ≡ sk a)) → InverseIs t t

-- The value of a row under a reading: that of its atom, or a term made of the values of the rows that it refers to.
pub data ValueIs (reading : Reading) (rows : List Row) : ℕ → Term → Type 0 where
  atom_value : {r : ℕ} {a : Atom} {t : Term} → get_elem? rows r ≡ some (atomic a) → reading a ≡ some t → ValueIs reading rows r t
  pk_value : {r a : ℕ} {t : Term} → get_elem? rows r ≡ some (pk_of a) → ValueIs reading rows a t → ValueIs reading rows r (pk t)
  sk_value : {r a : ℕ} {t : Term} → get_elem? rows r ≡ some (sk_of a) → ValueIs reading rows a t → ValueIs reading rows r (sk t)
  -- "shared key k(a,b), in that order"
  shared_value : {r a b : ℕ} {t u : Term} → get_elem? rows r ≡ some (shared_of a b) → ValueIs reading rows a t → ValueIs reading rows b u → ValueIs reading rows r (shared t u)
  pair_value : {r a b : ℕ} {t u : Term} → get_elem? rows r ≡ some (pair_of a b) → ValueIs reading rows a t → ValueIs reading rows b u → ValueIs reading rows r (pair t u)
  -- "content row, key row"
  encrypted_value :
      {r c k : ℕ} {t u : Term} → get_elem? rows r ≡ some (encrypted_of c k) → ValueIs reading rows c t → ValueIs reading rows k u → ValueIs reading rows r (encrypted t u)

-- A row lies beneath a row: it is that row, or lies beneath one that it refers to, a key too.
pub data LiesBeneath (rows : List Row) (x : ℕ) : ℕ → Type 0 where
  itself : x < length rows → LiesBeneath rows x x
  inside : {r q : ℕ} {row : Row} → get_elem? rows r ≡ some row → Memᴰ q (refers_to row) → LiesBeneath rows x q → LiesBeneath rows x r

-- an agent or a constant, which is the same in every run
pub data Constant : Atom → Type 0 where
  trusted_agent : {n : ℕ} → Constant (trusted n)
  untrusted_agent : {n : ℕ} → Constant (untrusted n)
  global_constant : {n : ℕ} → Constant (global n)
  intruder_constant : {n : ℕ} → Constant (intruder n)

-- "A value is written as row and run": the atom that a value stands for, the row's own or, for a local constant c, c#u
pub data ValueAtom (rows : List Row) (v : Value) : Atom → Type 0 where
  own_atom : {a : Atom} → get_elem? rows v.row ≡ some (atomic a) → ((n w : ℕ) → ¬ (a ≡ local n w)) → ValueAtom rows v a
  local_atom : {n w : ℕ} → get_elem? rows v.row ≡ some (atomic (local n w)) → ValueAtom rows v (local n v.run)

-- "In run u a role name stands for that agent, local constant c for c#u, a variable for its value."
pub data StandsFor (rows : List Row) (u : ℕ) (run : Run) (sets : List (Atom × Value)) : Atom → Atom → Type 0 where
  stands_itself : {a : Atom} → Constant a → StandsFor rows u run sets a a
  stands_agent : {i r : ℕ} {a : Atom} → get_elem? run.agents i ≡ some r → ValueAtom rows (record { row = r; run = 0 }) a → StandsFor rows u run sets (role i) a
  stands_value : {n : ℕ} {type : VariableType} {v : Value} {a : Atom} → assigned (variable n type) sets ≡ some v → ValueAtom rows v a → StandsFor rows u run sets (variable n type) a
  stands_local : {n w : ℕ} → StandsFor rows u run sets (local n w) (local n u)

-- a role-level atom that is no variable
pub data NoVariable : Atom → Type 0 where
  constant_fixed : {a : Atom} → Constant a → NoVariable a
  role_fixed : {i : ℕ} → NoVariable (role i)
  local_fixed : {n u : ℕ} → NoVariable (local n u)

-- A trace passes an event of a run, counted from 0, if the event is among the run's moves in it.
pub data Passes (run : ℕ) : List Move → ℕ → Type 0 where
  passes_first : {m : Move} {ms : List Move} → m.run ≡ run → Passes run (m ∷ ms) 0
  passes_next : {m : Move} {ms : List Move} {j : ℕ} → m.run ≡ run → Passes run ms j → Passes run (m ∷ ms) (suc j)
  passes_other : {m : Move} {ms : List Move} {j : ℕ} → ¬ (m.run ≡ run) → Passes run ms j → Passes run (m ∷ ms) j

-- "A run's next event is its only move": what it is for a run to be active in a state
pub record ActiveIn (sc : Scenario) (s : State) (u : ℕ) (a : Active) : Type 0 where
  pub numbered : u ≡ suc a.index
  pub of_run : get_elem? sc.runs a.index ≡ some a.run
  pub of_progress : get_elem? s.progress a.index ≡ some a.progress
  pub of_event : get_elem? (events_of sc a.run) a.progress.done ≡ some a.event

-- the terms of listed rows, role-level terms being atoms
abbrev pub TermsOf : List Row → List ℕ → List Term → Type 0
TermsOf rows list known = (t : Term) → Memᴰ t known ↔ ((r : ℕ) × Memᴰ r list × ValueIs as_atoms rows r t)

-- "Knowledge starts as the file's list and all intruder constants of the table."
pub data KnownAtStart (sc : Scenario) (t : Term) : Type 0 where
  from_list : (r : ℕ) → Memᴰ r sc.knowledge → ValueIs without_run sc.rows r t → KnownAtStart sc t
  an_intruder_constant : (r : ℕ) {n : ℕ} → get_elem? sc.rows r ≡ some (atomic (intruder n)) → t ≡ atom (intruder n) → KnownAtStart sc t

-- a variable beneath a pattern that is not set, at its row
pub record UnsetAt (rows : List Row) (sets : List (Atom × Value)) (pattern x : ℕ) (a : Atom) : Type 0 where
  pub at_row : get_elem? rows x ≡ some (atomic a)
  pub is_variable : (n : ℕ) × (type : VariableType) × (a ≡ variable n type)
  pub not_set : assigned a sets ≡ none
  pub lies_beneath : LiesBeneath rows x pattern
