-- The state before any move: readings, names and classes run by run. Assumes nothing.
use Rattle.std.specs.Prelude.{ℕ, ◌≡◌, true, false, List, [], ltb, length}
use Rattle.std.proofs.Math.Option.{none}
use Rattle.semantics.specs.Term.{Atom}
use Rattle.semantics.specs.Table.{Row}
use Rattle.semantics.specs.Scenario.{Scenario}
use Rattle.cells.specs.Cells.{cell_count, Readings, cell_value}
use Rattle.classes.specs.Classes.{NamesRight, Classes}
use Rattle.state_start.specs.Start.{first_reading, AreAgents}
use Rattle.state.specs.Readings.{readings}

-- readings of the runs below a number, and of no others
abbrev pub up_to : ℕ → Readings → Readings
up_to u readings w = elim (ltb w u) [ true ↦ readings w | false ↦ λ (a : Atom). none ]

-- the agents of a run, or none for run 0
pub record Agents (sc : Scenario) (u : ℕ) (agents : List ℕ) : Type 0 where
  pub reads : (a : Atom) → first_reading sc.rows u agents a ≡ readings sc (λ k. []) u a
  pub are : AreAgents sc.rows agents

-- names and classes of the runs below a number
pub record BegunTo (rows : List Row) (runs : ℕ) (readings : Readings) (u : ℕ) (names classes : List ℕ) : Type 0 where
  pub size : length names ≡ cell_count
  pub named : NamesRight rows runs (up_to u readings) names
  pub classed : Classes rows runs (cell_value (up_to u readings) rows) classes
