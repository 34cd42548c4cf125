-- `variables::variable_rows` meets its contract. The loop's invariant: the variables of the set among the first x rows are gathered. Assumes nothing.
use Rattle.variables.specs.laws.Rows.{GatheredRows}
use Rattle.variables.proofs.variable_rows.Given as goal

abbrev pub invariant-loop-x : goal.invariant-loop-x
invariant-loop-x l = GatheredRows l.t.bytes.now l.t.rows l.set l.found l.count l.x
