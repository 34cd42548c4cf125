-- `keep` keeps marks for a row in a slot. Assumes nothing.
use Rattle.std.proofs.Common.{rules}
use Rattle.open_marks.specs.laws.Kept.{stored}
use Rattle.open_marks.proofs.Notes.keep.Goals as goal

pub returns : goal.returns
returns c = stored c.args.n c.args.marks.now c.args.x _ _ c.args.self.now c.of_rows.result (search rules) c.of_rows.ensures
