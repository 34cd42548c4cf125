-- `name_known` tells whether a role's name is derivable. Assumes nothing.
use Rattle.rows.specs.laws.Shape.{shape-sized}
use Rattle.open_marks.specs.laws.Marks.{name-known}
use Rattle.open_marks.proofs.name_known.Goals as goal

pub returns : goal.returns
returns c =
    name-known c.args.t.now.bytes.now c.args.t.now.rows (shape-sized c.args.t.now.shape) c.row_marked.ensures
