-- `variables::next_value` meets its contract. The loop's invariant: row y with run v is not before the given row and run, and no value of the variable lies between the two.
-- Assumes nothing.
use Rattle.rows.specs.Rows.{rows_of}
use Rattle.variables.specs.laws.Spans.{Ahead}
use Rattle.variables.proofs.next_value.Given as goal

abbrev pub invariant-loop-y : goal.invariant-loop-y
invariant-loop-y l = Ahead (rows_of l.t.bytes.now) l.t.runs l.x l.r l.w l.y l.v
