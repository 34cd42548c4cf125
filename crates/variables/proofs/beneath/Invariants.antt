-- `variables::beneath` meets its contract. The loop's invariant: the marks are of rows beneath row x, and closed under parts from behind row r on. Assumes nothing.
use Rattle.std.proofs.Common.{◌+◌}
use Rattle.rows.specs.Rows.{rows_of}
use Rattle.variables.specs.Variables.{ClosedFrom}
use Rattle.variables.proofs.beneath.Given as goal

abbrev pub invariant-loop-r : goal.invariant-loop-r
invariant-loop-r l = ClosedFrom (rows_of l.t.bytes.now) l.x (l.r + 1) l.below
