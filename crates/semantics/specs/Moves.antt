-- The moves of a state in order, each with the state after it (document 01, 'Roles and moves'). Assumes nothing.
use Rattle.std.specs.Prelude.{ℕ, suc, Bool, true, false, ◌&&◌, List, [], ◌∷◌, ◌++◌, map, length, set}
use Rattle.std.proofs.Math.Option.{Option, none, some}
use Rattle.semantics.specs.Basic.{and_then, mapped, provided, first_of, present_ones, joined, numbers_from}
use Rattle.semantics.specs.Term.{VariableType, agent_type, fresh_type, Atom, trusted, untrusted, global, intruder, role, variable, local, Term}
use Rattle.semantics.specs.Inference.{derivable}
use Rattle.semantics.specs.Table.{Row}
use Rattle.semantics.specs.Value.{Reading, value_of}
use Rattle.semantics.specs.Roles.{EventKind, send, read, claim, Event}
use Rattle.semantics.specs.Runs.{Run, atom_at}
use Rattle.semantics.specs.Scenario.{Scenario}
use Rattle.semantics.specs.State.{Value, Message, State, Active, active, reading_in, new_variables, paired}

-- "A trace is a row of steps: run (1 to 4), .. new values"
pub record Move : Type 0 where
  pub run : ℕ
  pub values : List Value

-- "An agent variable may take any agent row; a fresh variable any intruder constant or any c#u, u being any run of the scenario.": the runs with which an atom of the table is a value of a variable of a type
abbrev pub runs_for : ℕ → VariableType → Atom → List ℕ
runs_for runs agent_type (trusted n) = 0 ∷ []
runs_for runs agent_type (untrusted n) = 0 ∷ []
runs_for runs agent_type (global n) = []
runs_for runs agent_type (intruder n) = []
runs_for runs agent_type (role i) = []
runs_for runs agent_type (variable n t) = []
runs_for runs agent_type (local n u) = []
runs_for runs fresh_type (trusted n) = []
runs_for runs fresh_type (untrusted n) = []
runs_for runs fresh_type (global n) = []
runs_for runs fresh_type (intruder n) = 0 ∷ []
runs_for runs fresh_type (role i) = []
runs_for runs fresh_type (variable n t) = []
runs_for runs fresh_type (local n u) = numbers_from 1 runs

abbrev pub values_at : ℕ → VariableType → ℕ → Option Atom → List Value
values_at runs type r none = []
values_at runs type r (some a) = map (λ u. record { row = r; run = u }) (runs_for runs type a)

-- the values of a type, "each by row and then run"
unfoldable pub values_of_type : List Row → ℕ → VariableType → List Value
values_of_type rows runs type = joined (λ r. values_at runs type r (atom_at rows r)) (numbers_from 0 (length rows))

-- the values that a variable may take
unfoldable pub candidates : List Row → ℕ → Atom → List Value
candidates rows runs (trusted n) = []
candidates rows runs (untrusted n) = []
candidates rows runs (global n) = []
candidates rows runs (intruder n) = []
candidates rows runs (role i) = []
candidates rows runs (variable n type) = values_of_type rows runs type
candidates rows runs (local n u) = []

-- the values that some variables may take, in the order of the list: by the first variable's value, then the second's
unfoldable pub choices : List Row → ℕ → List Atom → List (List Value)
choices rows runs [] = [] ∷ []
choices rows runs (x ∷ xs) = joined (λ v. map (λ vs. v ∷ vs) (choices rows runs xs)) (candidates rows runs x)

-- the message of an event
unfoldable pub message : List Row → Reading → Run → Event → Option Message
message rows reading run e =
    and_then (reading (role run.role)) λ a.
    and_then (reading (role e.peer)) λ b.
    mapped (λ t. record { sender = a; receiver = b; term = t }) (value_of reading rows e.row)

-- What is known after an event, if the event is allowed: "A send adds sender, receiver and term. A read .. is allowed exactly if sender, receiver and pattern are then derivable. A claim adds nothing."
unfoldable pub known_after : EventKind → List Term → Option Message → Option (List Term)
known_after send known none = none
known_after send known (some m) = some (m.sender ∷ m.receiver ∷ m.term ∷ known)
known_after read known none = none
known_after read known (some m) =
    provided (derivable known m.sender && derivable known m.receiver && derivable known m.term) known
known_after (claim kind) known m = some known

-- the variables to which a run's next event gives values
abbrev pub to_set : Scenario → Active → List Atom
to_set sc a = new_variables sc.rows a.progress.values a.event.kind a.event.row

-- what a run has set after its event, with new values
unfoldable pub set_after : Scenario → Active → List Value → List (Atom × Value)
set_after sc a vs = a.progress.values ++ paired (to_set sc a) vs

-- the message of a run's event, with new values
unfoldable pub message_after : Scenario → Active → List Value → Option Message
message_after sc a vs =
    message sc.rows (reading_in sc.rows (suc a.index) a.run (set_after sc a vs)) a.run a.event

-- the state after a run's event, with new values and what is then known
unfoldable pub advanced : Scenario → State → Active → List Value → List Term → State
advanced sc s a vs known =
    record {
      known = known;
      progress = set s.progress a.index (record { done = suc a.progress.done; values = set_after sc a vs });
    }

-- the state after a run's event with new values, if the event is allowed
unfoldable pub performed : Scenario → State → Active → List Value → Option State
performed sc s a vs = mapped (advanced sc s a vs) (known_after a.event.kind s.known (message_after sc a vs))

abbrev pub branch : ℕ → List Value → State → Move × State
branch u vs s = (record { run = u; values = vs }, s)

-- the moves of a run, "by the new values in order of variable row"
unfoldable pub moves_of_run : Scenario → State → ℕ → Option Active → List (Move × State)
moves_of_run sc s u none = []
moves_of_run sc s u (some a) =
    present_ones
    (map (λ vs. mapped (branch u vs) (performed sc s a vs)) (choices sc.rows (length sc.runs) (to_set sc a)))

-- Which list of traces is meant, by the moves that it goes on with.
pub data Listing : Type 0 where
  -- every allowed move
  full : Listing
  -- the short list of document 02: where some run sends or claims next, only the move of the lowest such run
  short : Listing

-- "a send or claim"
abbrev pub send_or_claim : EventKind → Bool
send_or_claim send = true
send_or_claim read = false
send_or_claim (claim kind) = true

-- the number of a run, if its "next event is a send or claim"
unfoldable pub ready_at : Scenario → State → ℕ → Option ℕ
ready_at sc s u = and_then (active sc s u) λ a. provided (send_or_claim a.event.kind) u

-- the numbers of all runs
abbrev pub run_numbers : Scenario → List ℕ
run_numbers sc = numbers_from 1 (length sc.runs)

-- one number alone, if there is one
abbrev pub alone_or : Option ℕ → List ℕ → List ℕ
alone_or (some u) us = u ∷ []
alone_or none us = us

-- The runs whose moves a list goes on with: all; or, "wherever some run's next event is a send or claim", "the lowest such run".
unfoldable pub runs_in : Listing → Scenario → State → List ℕ
runs_in full sc s = run_numbers sc
runs_in short sc s = alone_or (first_of (map (ready_at sc s) (run_numbers sc))) (run_numbers sc)

-- the moves of a state, "ordered by run, then by the new values"
unfoldable pub moves_in : Listing → Scenario → State → List (Move × State)
moves_in l sc s = joined (λ u. moves_of_run sc s u (active sc s u)) (runs_in l sc s)
