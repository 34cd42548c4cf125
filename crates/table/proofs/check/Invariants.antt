-- `table::check` meets its contract. The loop's invariant: i rows are passed, a table with so many variables. Assumes nothing.
use Rattle.table.specs.laws.Passed.{PassedRows}
use Rattle.table.proofs.check.Given as goal

abbrev pub invariant-loop-i : goal.invariant-loop-i
invariant-loop-i l = PassedRows l.t l.i l.variables
