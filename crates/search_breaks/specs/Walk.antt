-- What a walk through a part of the list finds, as the code answers it. Assumes nothing.
use Rattle.std.specs.Prelude.{ℕ, suc, ◌+◌, ◌*◌, ◌<◌, ◌≤◌, ◌≡◌, Bool, true, List, [], ◌∷◌, ◌++◌, map, length, get_or, take, drop, Err, Ok}
use Rattle.std.proofs.Math.Option.{Option, none, some}
use Rattle.semantics.specs.Basic.{joined, present_ones, mapped}
use Rattle.semantics.specs.Term.{Atom}
use Rattle.semantics.specs.Answer.{accepted}
use Rattle.semantics.specs.Scenario.{Scenario, opened}
use Rattle.semantics.specs.State as definitions
use Rattle.semantics.specs.State.{Value, Active, active}
use Rattle.semantics.specs.Moves.{Move, choices, performed, to_set, branch, moves_of_run, Listing, moves_in}
use Rattle.semantics.specs.Tree.{listed}
use Rattle.semantics.specs.Verdict.{Entry, Finding, found, nothing, cut, walked, broken, value_bytes, trace_bytes, trace_list}
use Rattle.semantics.specs.Allowed.{Takes, AllowedTrace}
use Rattle.rows.specs.Rows.{rows_of}
use Rattle.records.specs.Kinds.{byte_of}
use Rattle.runs.specs.declared.RunEvent.{RunEvent}
use Rattle.state.specs.declared.State.{State}
use Rattle.runs.specs.Opened.{Gives}
use Rattle.state.specs.State.{Due, IsState, NextMove, Ready}
use Rattle.values.specs.Values.{Setting, PartArrays}
use Rattle.answers.specs.Answers.{walked_as}
use Rattle.variables.specs.Variables.{Beneath, unset_from}
use Rattle.answers.specs.Answers.{Walked}
use Rattle.answers.specs.declared.End.TheVariants.{Broken, Cut}
use Rattle.search_findings.specs.Findings.{is_broken}
use Rattle.search_runs.specs.Runs.{list_as}
use Rattle.search_breaks.specs.declared.Choice.{Choice}
use Rattle.search_breaks.specs.declared.Course.{Course}
use Rattle.search_breaks.specs.declared.Plan.{Plan}
use Rattle.search_breaks.specs.declared.Reach.{Reach}
use Rattle.search_breaks.specs.declared.Turn.{Turn}
use Rattle.search_breaks.specs.declared.Values.{Values}

-- whether the trace of an entry breaks a claim: its state says
abbrev pub judged : Scenario → Entry → Option definitions.Claim
judged sc e = broken sc e.1

-- bytes written over others from a place on
abbrev pub over : List ℕ → ℕ → List ℕ → List ℕ
over before at bytes = take at before ++ (bytes ++ drop (at + length bytes) before)

-- the buffer after a walk: the trace of a break from a place on, or as it was
abbrev pub buffer_as : List ℕ → ℕ → Finding → List ℕ
buffer_as before at (found p e c) = over before at (trace_bytes e.0)
buffer_as before at nothing = before
buffer_as before at cut = before

-- what a walk through some entries promises, with so much of the budget left
pub record Finds (sc : Scenario) (left : ℕ) (es : List Entry) (before : List ℕ) (at : ℕ) (after : List ℕ) (w : Walked) : Type 0 where
  pub answer : w ≡ walked_as es (walked (judged sc) left es)
  pub buffer : after ≡ buffer_as before at (walked (judged sc) left es)

-- what a walk through a whole list promises
abbrev pub FindsAll : Listing → Scenario → ℕ → List ℕ → List ℕ → Walked → Type 0
FindsAll list sc left before after w = Finds sc left (trace_list list sc) before 0 after w

-- an entry after one more move
abbrev pub after_move : Move → Entry → Entry
after_move m e = (m ∷ e.0, e.1)

-- the moves that a walk goes through from a state, in order, with the states after them
unfoldable pub next_in : Plan → Scenario → definitions.State → List (Move × definitions.State)
next_in plan sc = moves_in (list_as plan.list) sc

-- the entries from a state on, so many moves deep
abbrev pub entries_from : Plan → ℕ → Scenario → definitions.State → List Entry
entries_from plan depth sc d = listed (next_in plan sc) depth d

-- the entries below a state: those of the moves' states, each after its move
abbrev pub below : Plan → Scenario → ℕ → List (Move × definitions.State) → List Entry
below plan sc n branches = joined (λ b. map (after_move b.0) (entries_from plan n sc b.1)) branches

-- the moves of one run, from 0
abbrev pub of_run : Scenario → definitions.State → ℕ → List (Move × definitions.State)
of_run sc d k = moves_of_run sc d (suc k) (active sc d (suc k))

-- the branches of a run's next event with values for its first variables, and every choice for the others
abbrev pub branches : Scenario → definitions.State → ℕ → Active → List Value → List Atom → List (Move × definitions.State)
branches sc d u a vs xs = present_ones (map (λ ws. mapped (branch u (vs ++ ws)) (performed sc d a (vs ++ ws))) (choices sc.rows (length sc.runs) xs))

-- the bytes of some values, and how many they are
pub record ValuesAre (vs : List Value) (values : Values) : Type 0 where
  pub many : values.count ≡ length vs
  pub written : take (2 * values.count) values.bytes ≡ value_bytes vs

-- the bytes of a step, and how many they are
abbrev pub step_bytes : Turn → List ℕ
step_bytes turn = (turn.run + 1) ∷ turn.values.count ∷ take (2 * turn.values.count) turn.values.bytes

abbrev pub step_size : Turn → ℕ
step_size turn = 2 + 2 * turn.values.count

-- the buffer with the step of a move written at a place, if a break was found after the move
abbrev pub step_before : List ℕ → ℕ → Turn → Walked → List ℕ
step_before before at turn (Err (Broken b)) = over before at (step_bytes turn)
step_before before at turn (Ok m) = before
step_before before at turn (Err Cut) = before

-- a step whose bytes fit, if they are written
pub record StepFits (size at : ℕ) (turn : Turn) (w : Walked) : Type 0 where
  pub inside : is_broken w ≡ true → at + step_size turn ≤ size
  pub few : turn.values.count ≤ 8
  pub low : turn.run < 4

-- the state that a course and lent arrays make
abbrev pub state_of : Course → List ℕ → List ℕ → List Bool → State
state_of course names classes marks = record { done = course.done; names = names; classes = classes; marks = marks }

-- a state of an accepted file that an allowed trace reaches
pub record ReachedBy (plan : Plan) (sc : Scenario) (d : definitions.State) (ms : List Move) : Type 0 where
  pub is_opened : opened plan.opened.file.now ≡ accepted sc
  pub given : Gives plan.opened sc
  pub allowed : AllowedTrace sc ms d

-- as the code has it, with the place at which the trace's bytes end
pub record Here (plan : Plan) (sc : Scenario) (d : definitions.State) (s : State) (ms : List Move) (at : ℕ) : Type 0 where
  pub reached : ReachedBy plan sc d ms
  pub state : IsState sc d s
  -- also the positions of runs that the scenario does not have
  pub low : (k : ℕ) → k < 4 → get_or s.done k 0 ≤ 8
  pub place : at ≡ length (trace_bytes ms)

-- one whose own trace breaks no claim
pub record Clear (plan : Plan) (sc : Scenario) (d : definitions.State) (s : State) (ms : List Move) (at : ℕ) : Type 0 where
  pub here : Here plan sc d s ms at
  pub unbroken : broken sc d ≡ none

-- the next event of a run in it
pub record AtMove (plan : Plan) (sc : Scenario) (d : definitions.State) (s : State) (ms : List Move) (at k : ℕ) (e : RunEvent) (a : Active) : Type 0 where
  pub clear : Clear plan sc d s ms at
  pub next : NextMove plan.opened.table.bytes.now plan.opened.runs.count k e sc d s a
  pub due : Due plan.opened.table.rows plan.opened.runs.count k e.own e.peer e.row
  pub few : get_or s.done k 0 < 8

-- values chosen for the first of the variables that it sets
pub record Choosing (sc : Scenario) (d : definitions.State) (s : State) (a : Active) (from : ℕ) (xs : List Atom) (vs : List Value) (names classes : List ℕ) (marks : List Bool) (values : Values) : Type 0 where
  pub setting : Setting sc d a s.names from xs vs names
  pub arrays : PartArrays sc d a xs vs classes marks
  pub takes : Takes sc.rows (length sc.runs) xs vs
  pub are : ValuesAre vs values

-- values chosen for all of them
pub record Chosen (sc : Scenario) (d : definitions.State) (a : Active) (vs : List Value) (names classes : List ℕ) (marks : List Bool) (values : Values) : Type 0 where
  pub ready : Ready sc d a vs names classes marks
  pub takes : Takes sc.rows (length sc.runs) (to_set sc a) vs
  pub are : ValuesAre vs values

-- What the functions of the walk are given. A state of some scenario, and one whose own trace breaks no claim:
pub record SomeState (plan : Plan) (s : State) (at : ℕ) : Type 0 where
  pub sc : Scenario
  pub d : definitions.State
  pub ms : List Move
  pub here : Here plan sc d s ms at

pub record SomeClear (plan : Plan) (s : State) (at : ℕ) : Type 0 where
  pub sc : Scenario
  pub d : definitions.State
  pub ms : List Move
  pub clear : Clear plan sc d s ms at

abbrev pub state_clear : {plan : Plan} {s : State} {at : ℕ} (m : SomeState plan s at) → broken m.sc m.d ≡ none → SomeClear plan s at
state_clear m unbroken = record { sc = m.sc; d = m.d; ms = m.ms; clear = record { here = m.here; unbroken = unbroken } }

-- a read, with the state's own names:
pub record SomeRead (plan : Plan) (course : Course) (own : List ℕ) (at : ℕ) (choice : Choice) : Type 0 where
  pub sc : Scenario
  pub d : definitions.State
  pub s : State
  pub ms : List Move
  pub a : Active
  pub move : AtMove plan sc d s ms at choice.turn.run choice.turn.event a
  pub is_done : course.done ≡ s.done
  pub is_own : own ≡ s.names
  pub is_read : byte_of choice.turn.event.kind ≡ 1
  pub inside : choice.from ≤ plan.opened.table.rows
  pub under : Beneath (rows_of plan.opened.table.bytes.now) choice.turn.event.row choice.under

-- one of which some values are chosen, with the arrays that have them:
pub record SomeChoice (plan : Plan) (course : Course) (own names classes : List ℕ) (marks : List Bool) (at : ℕ) (choice : Choice) : Type 0 where
  pub read : SomeRead plan course own at choice
  pub xs : List Atom
  pub vs : List Value
  pub choosing : Choosing read.sc read.d read.s read.a choice.from xs vs names classes marks choice.turn.values

-- a move of which all values are chosen, and one that is allowed:
pub record SomeMove (plan : Plan) (course : Course) (names classes : List ℕ) (marks : List Bool) (at : ℕ) (turn : Turn) : Type 0 where
  pub sc : Scenario
  pub d : definitions.State
  pub s : State
  pub ms : List Move
  pub a : Active
  pub vs : List Value
  pub move : AtMove plan sc d s ms at turn.run turn.event a
  pub is_done : course.done ≡ s.done
  pub chosen : Chosen sc d a vs names classes marks turn.values

pub record SomeStep (plan : Plan) (course : Course) (names classes : List ℕ) (marks : List Bool) (at : ℕ) (turn : Turn) : Type 0 where
  pub of : SomeMove plan course names classes marks at turn
  pub d' : definitions.State
  pub allowed : performed of.sc of.d of.a of.vs ≡ some d'

-- What they find: the entries from the state on,
abbrev pub FindsFrom : Plan → State → Reach → List ℕ → List ℕ → Walked → Type 0
FindsFrom plan s reach before after w = (m : SomeState plan s reach.at) → Finds m.sc reach.left (entries_from plan reach.depth m.sc m.d) before reach.at after w

-- those that go on with a run, from 0,
abbrev pub FindsRun : Plan → State → Reach → ℕ → List ℕ → List ℕ → Walked → Type 0
FindsRun plan s reach k before after w = (m : SomeClear plan s reach.at) → Finds m.sc reach.left (below plan m.sc reach.depth (of_run m.sc m.d k)) before reach.at after w

-- those that go on with a read and the values chosen so far,
abbrev pub read_branches : Scenario → definitions.State → Active → Choice → List Value → List (Move × definitions.State)
read_branches sc d a choice vs = branches sc d (suc choice.turn.run) a vs (unset_from sc.rows a.progress.values a.event.row choice.from)

abbrev pub FindsRead : {own : List ℕ} {plan : Plan} {course : Course} {at : ℕ} {choice : Choice} → SomeRead plan course own at choice → List Value → Reach → List ℕ → List ℕ → Walked → Type 0
FindsRead {plan = plan} {choice = choice} m vs reach before after w = Finds m.sc reach.left (below plan m.sc reach.depth (read_branches m.sc m.d m.a choice vs)) before reach.at after w

abbrev pub FindsChoice : Plan → Course → List ℕ → List ℕ → List ℕ → List Bool → Reach → Choice → List ℕ → List ℕ → Walked → Type 0
FindsChoice plan course own names classes marks reach choice before after w = (m : SomeChoice plan course own names classes marks reach.at choice) → FindsRead m.read m.vs reach before after w

-- and those that go on with one move
abbrev pub move_branches : Scenario → definitions.State → Active → Turn → List Value → List (Move × definitions.State)
move_branches sc d a turn vs = branches sc d (suc turn.run) a vs []

abbrev pub FindsAfter : {names classes : List ℕ} {plan : Plan} {course : Course} {marks : List Bool} {at : ℕ} {turn : Turn} → SomeMove plan course names classes marks at turn → Reach → List ℕ → List ℕ → Walked → Type 0
FindsAfter {plan = plan} {turn = turn} m reach before after w = Finds m.sc reach.left (below plan m.sc reach.depth (move_branches m.sc m.d m.a turn m.vs)) before reach.at after w

abbrev pub FindsMove : Plan → Course → List ℕ → List ℕ → List Bool → Reach → Turn → List ℕ → List ℕ → Walked → Type 0
FindsMove plan course names classes marks reach turn before after w = (m : SomeMove plan course names classes marks reach.at turn) → FindsAfter m reach before after w

abbrev pub FindsStep : Plan → Course → List ℕ → List ℕ → List Bool → Reach → Turn → List ℕ → List ℕ → Walked → Type 0
FindsStep plan course names classes marks reach turn before after w = (m : SomeStep plan course names classes marks reach.at turn) → FindsAfter m.of reach before after w
