-- `learned` gives exact marks with one more term known. Assumes nothing.
use Rattle.rows.specs.laws.Shape.{shape-sized}
use Rattle.open_marks.specs.laws.Marks.{learns-role}
use Rattle.open_marks.specs.laws.Sure.{gains-learnt}
use Rattle.open_marks.proofs.learned.Goals as goal

pub returns : goal.returns
returns c =
    let level = c.args.level.now in (
      learns-role level.table.bytes.now level.table.rows (shape-sized level.table.shape) level.classes c.args.x c.args.marks c.learn.result level.right (rw level.level at c.learn.ensures.learns_cell),
      gains-learnt level.table.bytes.now level.table.rows (shape-sized level.table.shape) level.classes c.args.x c.args.marks c.learn.result level.right (rw level.level at c.learn.ensures.learnt),
    )
