-- What is asked of a move: whether it is allowed, and the marks after it. Assumes nothing.
use Rattle.std.specs.Prelude.{Option as CodeOption, option_map, ℕ, ◌+◌, ◌≡◌, Bool, List, length, get_or, set}
use Rattle.std.proofs.Math.Option.{Option, some}
use Rattle.semantics.specs.Basic.{present}
use Rattle.semantics.specs.Scenario.{Scenario}
use Rattle.semantics.specs.State.{Value, State, Active}
use Rattle.semantics.specs.Moves.{performed}
use Rattle.rows.specs.Rows.{Shape}
use Rattle.records.specs.declared.EventKind.{EventKind}
use Rattle.records.specs.Kinds.{event_kind_as}
use Rattle.runs.specs.declared.RunEvent.{RunEvent}
use Rattle.moves.specs.declared.NumberedEvent.{NumberedEvent}
use Rattle.state.specs.declared.State.{State as CodeState}
use Rattle.state.specs.State.{Due, IsState, NextMove, Ready}

-- the event of a kind with the rows of one by number
abbrev pub of_kind : NumberedEvent → EventKind → RunEvent
of_kind e kind = record { kind = kind; own = e.own; peer = e.peer; row = e.row }

-- the event by number, if its number is a kind's; a run has no other
abbrev pub event_as : NumberedEvent → CodeOption RunEvent
event_as e = option_map (of_kind e) (event_kind_as e.kind)

-- the next event of a run, counted from 0, in some state, with new values for what it sets, and classes and marks that have them
pub record AtEvent (t : List ℕ) (n runs k : ℕ) (e : RunEvent) (classes : List ℕ) (marks : List Bool) : Type 0 where
  pub sc : Scenario
  pub d : State
  pub s : CodeState
  pub a : Active
  pub vs : List Value
  pub names : List ℕ
  pub shape : Shape t n runs
  pub due : Due n runs k e.own e.peer e.row
  pub next : NextMove t runs k e sc d s a
  pub size : length s.done ≡ 4
  pub ready : Ready sc d a vs names classes marks

-- the state after it, if it is allowed
abbrev pub state_after : {t : List ℕ} {n runs k : ℕ} {e : RunEvent} {classes : List ℕ} {marks : List Bool} → AtEvent t n runs k e classes marks → Option State
state_after m = performed m.sc m.d m.a m.vs

-- that state as the code has it, with marks
abbrev pub code_after : {t : List ℕ} {n runs k : ℕ} {e : RunEvent} {classes : List ℕ} {marks : List Bool} → AtEvent t n runs k e classes marks → List Bool → CodeState
code_after {k = k} {classes = classes} m more = record { done = set m.s.done k (get_or m.s.done k 0 + 1); names = m.names; classes = classes; marks = more }

-- an answer that says whether it is allowed
abbrev pub TellsAllowed : ℕ → RunEvent → List ℕ → List Bool → Bool → Type 0
TellsAllowed k e classes marks b = (t : List ℕ) (n runs : ℕ) (m : AtEvent t n runs k e classes marks) → b ≡ present (state_after m)

-- the marks of the state after it, if it is allowed
abbrev pub MarksAfter : List ℕ → ℕ → ℕ → ℕ → RunEvent → List ℕ → List Bool → List Bool → Type 0
MarksAfter t n runs k e classes marks more = (m : AtEvent t n runs k e classes marks) (d' : State) → state_after m ≡ some d' → IsState m.sc d' (code_after m more)
