-- `lists::clear_rows` meets its contract. The loop's invariant: the rows below row r are marked. Assumes nothing.
use mathlib.Core.Path.{◌∙◌}
use lib.ListN.{length-set}
use Rattle.rows.specs.laws.Shape.{shape-sized}
use Rattle.rows.specs.Kinds.{number_of}
use Rattle.lists.specs.laws.Clear.{cleared_more}
use Rattle.lists.proofs.clear_rows.Goals as goal

pub loop-r-preserved : goal.loop-r-preserved
loop-r-preserved c = (
  length-set c.loop-r.clear c.loop-r.r c.clear_row.result ∙ c.loop-r.invariant.0,
  cleared_more c.args.t.now.bytes.now c.args.t.now.rows (number_of c.args.low) (number_of c.args.high) c.loop-r.clear c.loop-r.r (shape-sized c.args.t.now.shape) c.loop-r-test.true c.loop-r.invariant.0 c.loop-r.invariant.1 c.clear_row.ensures,
)
