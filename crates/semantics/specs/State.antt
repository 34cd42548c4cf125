-- The state of a scenario: knowledge, how far each run has come, and the values of its variables (document 01, 'Roles and moves'). Assumes nothing.
use Rattle.std.specs.Prelude.{ℕ, zero, suc, ◌+◌, ◌-◌, ◌≡◌, Bool, true, false, ◌&&◌, not, List, [], ◌∷◌, ◌++◌, map, length, set}
use Rattle.std.proofs.Math.Option.{Option, none, some}
use Rattle.std.proofs.Math.ListN.{get_elem?}
use Rattle.semantics.specs.Basic.{decided, present, and_then, mapped, keep, present_ones, numbers_from}
use Rattle.semantics.specs.Term.{Atom, trusted, untrusted, global, intruder, role, variable, local, atom?, Term, atom}
use Rattle.semantics.specs.Table.{Row, variable_atom}
use Rattle.semantics.specs.Value.{Reading, value_of, without_run, beneath}
use Rattle.semantics.specs.Roles.{ClaimKind, EventKind, send, read, claim, Event}
use Rattle.semantics.specs.Runs.{Run, atom_at}
use Rattle.semantics.specs.Scenario.{Scenario}

-- "A value is written as row and run, with run 0 for agents and intruder constants."
pub record Value : Type 0 where
  pub row : ℕ
  pub run : ℕ

-- "how far each run has come, the values set so far"
pub record Progress : Type 0 where
  -- how many of its events it has made
  pub done : ℕ
  -- its variables that have a value
  pub values : List (Atom × Value)

-- A message: the values of an event's sender, receiver and term. (A read's sender is its peer; nothing turns on which is which.)
pub record Message : Type 0 where
  pub sender : Term
  pub receiver : Term
  pub term : Term

-- A claim of the scenario: "run from 1, event from 0".
pub record Claim : Type 0 where
  pub run : ℕ
  pub event : ℕ
  pub kind : ClaimKind

pub record State : Type 0 where
  pub known : List Term
  -- one for each run, in order
  pub progress : List Progress

-- a local constant as it is in a run
abbrev pub in_run : ℕ → Atom → Atom
in_run u (trusted n) = trusted n
in_run u (untrusted n) = untrusted n
in_run u (global n) = global n
in_run u (intruder n) = intruder n
in_run u (role i) = role i
in_run u (variable n t) = variable n t
in_run u (local n w) = local n u

-- the term that a value stands for
unfoldable pub term_of : List Row → Value → Option Term
term_of rows v = mapped (λ a. atom (in_run v.run a)) (atom_at rows v.row)

-- the value of a variable, if it is set
unfoldable pub assigned : Atom → List (Atom × Value) → Option Value
assigned x [] = none
assigned x (set ∷ sets) = elim (decided (atom? x set.0)) [ true ↦ some set.1 | false ↦ assigned x sets ]

-- each value that is set stands for a term
abbrev pub Standing : List Row → List (Atom × Value) → Type 0
Standing rows sets = (x : Atom) (v : Value) → assigned x sets ≡ some v → (t : Term) × (term_of rows v ≡ some t)

-- "In run u a role name stands for that agent, local constant c for c#u, a variable for its value."
unfoldable pub reading_in : List Row → ℕ → Run → List (Atom × Value) → Reading
reading_in rows u run sets (trusted n) = some (atom (trusted n))
reading_in rows u run sets (untrusted n) = some (atom (untrusted n))
reading_in rows u run sets (global n) = some (atom (global n))
reading_in rows u run sets (intruder n) = some (atom (intruder n))
reading_in rows u run sets (role i) = and_then (get_elem? run.agents i) (λ r. term_of rows (record { row = r; run = 0 }))
reading_in rows u run sets (variable n t) = and_then (assigned (variable n t) sets) (term_of rows)
reading_in rows u run sets (local n w) = some (atom (local n u))

-- "all intruder constants of the table"
abbrev pub intruder_atom : Atom → Bool
intruder_atom (trusted n) = false
intruder_atom (untrusted n) = false
intruder_atom (global n) = false
intruder_atom (intruder n) = true
intruder_atom (role i) = false
intruder_atom (variable n t) = false
intruder_atom (local n u) = false

-- the atoms of the table, in row order
unfoldable pub atoms_of : List Row → List Atom
atoms_of rows = present_ones (map (atom_at rows) (numbers_from 0 (length rows)))

-- "Knowledge starts as the file's list and all intruder constants of the table."
unfoldable pub initial_knowledge : Scenario → List Term
initial_knowledge sc =
    present_ones (map (value_of without_run sc.rows) sc.knowledge)
    ++ map atom (keep intruder_atom (atoms_of sc.rows))

unfoldable pub initial : Scenario → State
initial sc = record { known = initial_knowledge sc; progress = map (λ run. record { done = 0; values = [] }) sc.runs }

-- A run with an event to come: "A run's next event is its only move."
pub record Active : Type 0 where
  -- its number less 1
  pub index : ℕ
  pub run : Run
  pub progress : Progress
  pub event : Event

-- the events of a run
unfoldable pub events_of : Scenario → Run → List Event
events_of sc run = elim (get_elem? sc.roles run.role) [ none ↦ [] | some r ↦ r.events ]

-- the run with a number, from 1, if it has an event to come
unfoldable pub active : Scenario → State → ℕ → Option Active
active sc s zero = none
active sc s (suc k) =
    and_then (get_elem? sc.runs k) λ run.
    and_then (get_elem? s.progress k) λ p.
    mapped (λ e. record { index = k; run = run; progress = p; event = e }) (get_elem? (events_of sc run) p.done)

-- "A read gives values to the variables of its pattern not yet set in that run": in order of variable row, every variable beneath the pattern
unfoldable pub unset_beneath : List Row → List (Atom × Value) → ℕ → List Atom
unset_beneath rows sets pattern =
    keep (λ a. variable_atom a && not (present (assigned a sets)))
    (present_ones (map (atom_at rows) (keep (λ x. beneath rows x pattern) (numbers_from 0 (length rows)))))

-- the variables to which an event gives values
unfoldable pub new_variables : List Row → List (Atom × Value) → EventKind → ℕ → List Atom
new_variables rows sets send row = []
new_variables rows sets read row = unset_beneath rows sets row
new_variables rows sets (claim kind) row = []

-- variables with their values, in order
abbrev pub paired : List Atom → List Value → List (Atom × Value)
paired [] vs = []
paired (x ∷ xs) [] = []
paired (x ∷ xs) (v ∷ vs) = (x, v) ∷ paired xs vs

-- how many events are still to come, over all runs
unfoldable pub events_left_from : Scenario → List Run → List Progress → ℕ
events_left_from sc [] ps = 0
events_left_from sc (run ∷ runs) [] = 0
events_left_from sc (run ∷ runs) (p ∷ ps) = (length (events_of sc run) - p.done) + events_left_from sc runs ps

unfoldable pub events_left : Scenario → State → ℕ
events_left sc s = events_left_from sc sc.runs s.progress
