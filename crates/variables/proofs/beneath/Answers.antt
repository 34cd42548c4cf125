-- `variables::beneath` meets its contract. The loop's invariant: the marks are of rows beneath row x, and closed under parts from behind row r on. Assumes nothing.
use Rattle.rows.specs.laws.Shape.{shape-sized}
use Rattle.std.proofs.Common.{◌≡◌, ◌+◌, ◌-◌, arith}
use Rattle.rows.specs.Rows.{rows_of}
use Rattle.rows.specs.laws.Table.{table-good}
use Rattle.variables.specs.laws.Beneath.{closed-start, closed_all}
use Rattle.variables.proofs.beneath.Goals as goal

pub loop-r-init : goal.loop-r-init
loop-r-init c = closed-start (rows_of c.args.t.now.bytes.now) c.args.x (table-good c.args.t.now.bytes.now c.args.t.now.shape.table) (omega (arith, c.args.t.now.shape.count))

pub loop-r-preserved : goal.loop-r-preserved
loop-r-preserved c = let next : c.loop-r.r - 1 + 1 ≡ c.loop-r.r = omega arith in rw next (c.mark_parts.ensures c.args.x c.loop-r.invariant)

pub returns : goal.returns
returns c = absurd (omega arith)

pub returns-2 : goal.returns-2
returns-2 c = closed_all c.args.t.now.bytes.now c.args.t.now.rows (shape-sized c.args.t.now.shape) (omega arith) (c.mark_parts.ensures c.args.x c.loop-r.invariant)
