-- `classes::refill` meets its contract: all rows are filled. Assumes nothing.
use Rattle.classes.specs.laws.Step.{filled-all}
use Rattle.classes.proofs.refill.Goals as goal

pub returns : goal.returns
returns c = filled-all c.args.t.now.bytes.now c.args.t.now.rows c.args.t.now.runs c.args.u c.args.names.now c.args.t.now.shape c.fill.ensures
