-- Where the runs of an accepted file stand: their records, and the events of their roles. Assumes nothing.
use Rattle.std.specs.Prelude.{ℕ, ◌+◌, ◌*◌, ◌<◌, ◌≤◌, ◌≡◌, Bool, List, T, length, get_or}
use Rattle.std.proofs.Math.Option.{some}
use Rattle.std.proofs.Math.ListN.{get_elem?}
use Rattle.semantics.specs.Roles.{Event, event_kinds}
use Rattle.semantics.specs.Runs.{Run, atom_at, is_agent, all_trusted}
use Rattle.semantics.specs.Answer.{accepted}
use Rattle.semantics.specs.Scenario.{Scenario, run_part, opened}
use Rattle.semantics.specs.Guarantee.{Guarantee}
use Rattle.semantics.specs.State.{events_of}
use Rattle.rows.specs.Rows.{rows_of}
use Rattle.records.specs.Records.{event_at}
use Rattle.runs.specs.declared.RunPlace.{RunPlace}
use Rattle.runs.specs.declared.Runs.{Runs}
use Rattle.records.specs.Kinds.{byte_of}
use Rattle.runs.specs.declared.RunEvent.{RunEvent}

-- A run whose record begins at `start`, and whose role's events, so many, begin at `first`.
pub record RunAt (file : List ℕ) (sc : Scenario) (run : Run) (start first events : ℕ) : Type 0 where
  pub role : run.role ≡ get_or file start 0
  pub agents : (i : ℕ) → i < length sc.roles → get_elem? run.agents i ≡ some (get_or file (start + 1 + i) 0)
  pub agents_inside : start + length sc.roles < length file
  pub count : events ≡ length (events_of sc run)
  pub few : events ≤ 8
  pub events_inside : first + 4 * events ≤ length file
  pub each : (j : ℕ) → j < events → get_elem? (events_of sc run) j ≡ event_at file (first + 4 * j) (first + 4 * j)

-- the place of no run
abbrev pub no_place : RunPlace
no_place = record { start = 0; first = 0; events = 0 }

-- where run k stands
abbrev pub run_at : Runs → ℕ → RunPlace
run_at r k = get_or r.runs k no_place

-- the runs of a scenario, and how many there are
pub record RunsAt (file : List ℕ) (sc : Scenario) (r : Runs) : Type 0 where
  pub count : r.count ≡ length sc.runs
  pub few : r.count ≤ 4
  pub roles : r.roles ≡ length sc.roles
  pub few_roles : r.roles ≤ 4
  pub each : (k : ℕ) (run : Run) → get_elem? sc.runs k ≡ some run → RunAt file sc run (run_at r k).start (run_at r k).first (run_at r k).events
  pub small : (k : ℕ) → k < 4 → (run_at r k).events ≤ 8

-- An event as the code reads it: the kind byte k, the agents' rows a of the run's own role and b of the peer, and the term's row r.
pub record EventRead (sc : Scenario) (run : Run) (e : Event) (k a b r : ℕ) : Type 0 where
  pub kind : get_elem? event_kinds k ≡ some e.kind
  pub own : get_elem? run.agents run.role ≡ some a
  pub peer : get_elem? run.agents e.peer ≡ some b
  pub row : r ≡ e.row
  pub row_below : r < length sc.rows
  pub own_agent : T (is_agent (atom_at sc.rows a))
  pub peer_agent : T (is_agent (atom_at sc.rows b))

-- Run k of an accepted file, whose record begins at `start`.
pub record IsRun (file : List ℕ) (sc : Scenario) (k start : ℕ) : Type 0 where
  pub accepts : opened file ≡ accepted sc
  pub below : k < length sc.runs
  pub begins : start ≡ (run_part file).start + k * (1 + length sc.roles)

-- The agents of a run, so many as there are roles, in a record that begins at `start`.
pub record AgentsAt (file : List ℕ) (start roles : ℕ) (agents : List ℕ) : Type 0 where
  pub count : length agents ≡ roles
  pub each : (i : ℕ) → i < roles → get_elem? agents i ≡ some (get_or file (start + 1 + i) 0)

-- where the events of the run stand whose record begins at `start`
abbrev pub FindsEvents : List ℕ → ℕ → ℕ → ℕ → Type 0
FindsEvents file start first count = (sc : Scenario) (k : ℕ) (run : Run) → IsRun file sc k start → get_elem? sc.runs k ≡ some run → RunAt file sc run start first count

-- what is read of event j of run k
abbrev pub ReadsEvent : List ℕ → Runs → ℕ → ℕ → RunEvent → Type 0
ReadsEvent file r k j e =
    (sc : Scenario) (run : Run) (ev : Event) → RunsAt file sc r → Guarantee sc → get_elem? sc.runs k ≡ some run → get_elem? (events_of sc run) j ≡ some ev
    → EventRead sc run ev (byte_of e.kind) e.own e.peer e.row

-- whether all agents of run k are trusted
abbrev pub TellsTrusted : List ℕ → List ℕ → Runs → ℕ → Bool → Type 0
TellsTrusted file t r k b =
    (sc : Scenario) (run : Run) → sc.rows ≡ rows_of t → RunsAt file sc r → Guarantee sc → get_elem? sc.runs k ≡ some run → b ≡ all_trusted sc.rows run
