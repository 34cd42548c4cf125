-- `settle` ends with exact marks. Assumes nothing.
use Rattle.knowledge.specs.laws.Exact.{settled}
use Rattle.knowledge.proofs.settle.Goals as goal

pub returns : goal.returns
returns c =
    settled c.args.t.now.bytes.now c.args.t.now.rows c.args.t.now.runs c.args.t.now.shape c.args.classes.now _ _ _ _ c.gathered-gathered_marks.ensures c.rounds-done.ensures c.spread.ensures
