-- A state of the code as a state of the definitions: positions, names, classes and marks. Assumes nothing.
use Rattle.std.specs.Prelude.{ℕ, suc, ◌<◌, ◌≤◌, ◌≡◌, Bool, List, length, get_or}
use Rattle.std.proofs.Math.Option.{some}
use Rattle.std.proofs.Math.ListN.{get_elem?}
use Rattle.semantics.specs.Term.{Term}
use Rattle.semantics.specs.Table.{Row}
use Rattle.semantics.specs.Scenario.{Scenario}
use Rattle.semantics.specs.Guarantee.{Guarantee}
use Rattle.semantics.specs.State.{Value, Progress, Active, active, Standing}
use Rattle.semantics.specs.State as definitions
use Rattle.semantics.specs.Moves.{set_after}
use Rattle.rows.specs.Rows.{rows_of}
use Rattle.cells.specs.Cells.{cell_count, Readings, cell_value}
use Rattle.classes.specs.Classes.{NamesRight, Classes}
use Rattle.knowledge.specs.Marks.{Exact, Celled}
use Rattle.records.specs.Kinds.{byte_of}
use Rattle.runs.specs.declared.RunEvent.{RunEvent}
use Rattle.runs.specs.Runs.{EventRead}
use Rattle.state.specs.declared.State.{State}
use Rattle.state.specs.Readings.{sets_of, with_sets, readings}

-- a run, counted from 0, and rows of the table for an event's agents and term
pub record Due (n runs k own peer row : ℕ) : Type 0 where
  pub is_run : k < runs
  pub agent : own < n
  pub other : peer < n
  pub term : row < n

-- positions and names of a state: what the code knows of a state before its marks are worked on
pub record Placed (sc : Scenario) (d : definitions.State) (done names : List ℕ) : Type 0 where
  pub progress : length d.progress ≡ length sc.runs
  pub positions : (k : ℕ) (p : Progress) → get_elem? d.progress k ≡ some p → get_or done k 0 ≡ p.done
  pub named : NamesRight sc.rows (length sc.runs) (readings sc (sets_of d.progress)) names
  pub sized : length names ≡ cell_count
  -- a variable that is set has a value
  pub valued : (k : ℕ) → Standing sc.rows (sets_of d.progress k)

-- what classes and marks say, for readings and knowledge
pub record Arrays (rows : List Row) (runs : ℕ) (readings : Readings) (known : List Term) (classes : List ℕ) (marks : List Bool) : Type 0 where
  pub classed : Classes rows runs (cell_value readings rows) classes
  pub exact : Exact rows runs readings known marks
  pub celled : Celled rows runs readings known

-- a state of the code that is a state of the definitions
pub record IsState (sc : Scenario) (d : definitions.State) (s : State) : Type 0 where
  pub placed : Placed sc d s.done s.names
  pub arrays : Arrays sc.rows (length sc.runs) (readings sc (sets_of d.progress)) d.known s.classes s.marks

-- the next event of a run, as the code has it
pub record NextMove (t : List ℕ) (runs k : ℕ) (e : RunEvent) (sc : Scenario) (d : definitions.State) (s : State) (a : Active) : Type 0 where
  pub rows : sc.rows ≡ rows_of t
  pub count : runs ≡ length sc.runs
  pub good : Guarantee sc
  pub is_state : IsState sc d s
  pub is_active : active sc d (suc k) ≡ some a
  pub is_event : EventRead sc a.run a.event (byte_of e.kind) e.own e.peer e.row

-- names in which a run's unset variables have new values
pub record Sets (sc : Scenario) (d : definitions.State) (a : Active) (vs : List Value) (names : List ℕ) : Type 0 where
  pub size : length names ≡ cell_count
  pub named : NamesRight sc.rows (length sc.runs) (readings sc (with_sets a.index (set_after sc a vs) (sets_of d.progress))) names
  pub valued : Standing sc.rows (set_after sc a vs)

-- arrays that are right once a run's unset variables have new values
pub record Ready (sc : Scenario) (d : definitions.State) (a : Active) (vs : List Value) (names classes : List ℕ) (marks : List Bool) : Type 0 where
  pub sets : Sets sc d a vs names
  pub arrays : Arrays sc.rows (length sc.runs) (readings sc (with_sets a.index (set_after sc a vs) (sets_of d.progress))) d.known classes marks
