-- `classes::fill` meets its contract: no rows, or the rows below and then the row itself. The measure is the row. Assumes nothing.
use Rattle.classes.specs.laws.Step.{filled_next}
use Rattle.classes.proofs.+fill.Goals as goal

pub returns : goal.returns
returns t c = filled_next c.args.t.now.bytes.now c.args.t.now.rows c.args.t.now.runs c.args.u c.args.names.now c.args.t.now.shape c.if-r-eq0.false c.fill.ensures c.fill_row.ensures
