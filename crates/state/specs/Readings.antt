-- What role names, variables and local constants stand for in each run of a scenario. Assumes nothing.
use Rattle.std.specs.Prelude.{ℕ, zero, suc, true, false, List, [], eqb}
use Rattle.std.proofs.Math.Option.{Option, none, some}
use Rattle.std.proofs.Math.ListN.{get_elem?}
use Rattle.semantics.specs.Term.{Atom}
use Rattle.semantics.specs.Table.{Row}
use Rattle.semantics.specs.Value.{Reading, without_run}
use Rattle.semantics.specs.Runs.{Run}
use Rattle.semantics.specs.Scenario.{Scenario}
use Rattle.semantics.specs.State.{Value, Progress, reading_in}
use Rattle.cells.specs.Cells.{Readings}

-- the variables that have a value, for each run from 0 on
abbrev pub SetsOf : Type 0
SetsOf = ℕ → List (Atom × Value)

abbrev pub sets_in : Option Progress → List (Atom × Value)
sets_in none = []
sets_in (some p) = p.values

abbrev pub sets_of : List Progress → SetsOf
sets_of progress k = sets_in (get_elem? progress k)

-- the same with those of one run replaced
abbrev pub with_sets : ℕ → List (Atom × Value) → SetsOf → SetsOf
with_sets k mine others j = elim (eqb j k) [ true ↦ mine | false ↦ others j ]

abbrev pub run_reading : List Row → ℕ → Option Run → List (Atom × Value) → Reading
run_reading rows u none sets a = none
run_reading rows u (some run) sets a = reading_in rows u run sets a

-- "Run 0 serves the rows that have a value without a run"; run u, from 1, has its agents and values
abbrev pub readings : Scenario → SetsOf → Readings
readings sc sets zero = without_run
readings sc sets (suc k) = run_reading sc.rows (suc k) (get_elem? sc.runs k) (sets k)
