-- `variables::mark_parts` meets its contract: a marked row that is no atom marks its parts, and any other row marks nothing. Assumes nothing.
use Rattle.rows.specs.laws.Shape.{shape-sized}
use Rattle.cells.specs.laws.Cells.{left-small, second-small}
use Rattle.variables.specs.laws.Beneath.{closed-unmarked, closed-atom, closed_parts}
use native.Mathlib.Omega.{arith}
use Rattle.variables.proofs.mark_parts.Goals as goal
use Rattle.variables.proofs.mark_parts.Goals.{then-not-below-r-via-then-not-below-r, then-not-below-r-via-else-not-below-r+then-not-is_made}

pub returns-then-not-below-r : goal.returns-then-not-below-r
returns-then-not-below-r c = elim c.then-not-below-r.branch [
  | then-not-below-r-via-then-not-below-r w ↦ closed-unmarked c.args.t.now.bytes.now c.args.t.now.rows (shape-sized c.args.t.now.shape) c.args.r c.requires c.args.below.now w.if-not-below-r.true
  | then-not-below-r-via-else-not-below-r+then-not-is_made w ↦
      closed-atom c.args.t.now.bytes.now c.args.t.now.rows (shape-sized c.args.t.now.shape) c.args.r c.requires c.args.below.now (rw w.kind_of.ensures at (w.is_made.ensures.1 w.if-not-is_made.true))
]

pub bounds-below-left_of : goal.bounds-below-left_of
bounds-below-left_of c = left-small c.args.t.now.bytes.now c.args.t.now.rows 0 (shape-sized c.args.t.now.shape) c.args.r c.requires (omega arith) c.left_of.ensures.0

pub bounds-below-second_of : goal.bounds-below-second_of
bounds-below-second_of c = second-small c.args.t.now.bytes.now c.args.t.now.rows 0 (shape-sized c.args.t.now.shape) c.args.r c.requires (omega arith) c.second_of.ensures.0

pub returns : goal.returns
returns c =
    closed_parts c.args.t.now.bytes.now c.args.t.now.rows (shape-sized c.args.t.now.shape) c.args.r c.requires c.args.below.now c.if-not-below-r.false (omega arith) c.left_of.ensures.0 c.second_of.ensures.0
