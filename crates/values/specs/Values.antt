-- New values of a read, given to its variables one after the other in order of their rows. Assumes nothing.
use Rattle.std.specs.Prelude.{ℕ, suc, ◌<◌, ◌≤◌, ◌≡◌, Bool, List, ◌++◌, length, get_or}
use Rattle.semantics.specs.Term.{Atom}
use Rattle.semantics.specs.Scenario.{Scenario}
use Rattle.semantics.specs.State.{Value, State, Active, paired, Standing}
use Rattle.semantics.specs.Moves.{to_set}
use Rattle.cells.specs.Cells.{cell_of, cell_count, absent}
use Rattle.classes.specs.Classes.{NamesRight}
use Rattle.state.specs.Readings.{sets_of, with_sets, readings}
use Rattle.state.specs.State.{Arrays}
use Rattle.variables.specs.Variables.{unset_from}

-- what a run has set, with values for some more variables
abbrev pub part_sets : Active → List Atom → List Value → List (Atom × Value)
part_sets a xs vs = a.progress.values ++ paired xs vs

-- Names in which the variables that a run's next event sets have values, as far as their rows are below a number; `before` are the names of the state.
pub record Setting (sc : Scenario) (d : State) (a : Active) (before : List ℕ) (from : ℕ) (xs : List Atom) (vs : List Value) (names : List ℕ) : Type 0 where
  pub split : to_set sc a ≡ xs ++ unset_from sc.rows a.progress.values a.event.row from
  pub many : length xs ≡ length vs
  pub size : length names ≡ cell_count
  pub named : NamesRight sc.rows (length sc.runs) (readings sc (with_sets a.index (part_sets a xs vs) (sets_of d.progress))) names
  pub valued : Standing sc.rows (part_sets a xs vs)
  pub later : (r : ℕ) → from ≤ r → r < 96 → get_or names (cell_of r (suc a.index)) absent ≡ get_or before (cell_of r (suc a.index)) absent

-- arrays that are right for values of the first of these variables
abbrev pub PartArrays : Scenario → State → Active → List Atom → List Value → List ℕ → List Bool → Type 0
PartArrays sc d a xs vs classes marks = Arrays sc.rows (length sc.runs) (readings sc (with_sets a.index (part_sets a xs vs) (sets_of d.progress))) d.known classes marks
