-- `marks_of` gives the marks of what derives from the listed rows. Assumes nothing.
use Rattle.rows.specs.laws.Shape.{shape-sized}
use Rattle.rows.specs.Rows.{rows_of}
use Rattle.role_level.specs.RoleLevel.{role_readings, listed_terms}
use Rattle.role_level.specs.laws.RoleLevel.{listed-cover}
use Rattle.role_level.proofs.RoleLevel.marks_of.Goals as goal

pub returns : goal.returns
returns c =
    let level = c.args.self.now in
    let settled = rw level.level at c.settle.ensures in
    settled role_readings (listed_terms (rows_of level.table.bytes.now) c.args.list.now) level.right
    (listed-cover level.table.bytes.now level.table.rows (shape-sized level.table.shape) c.args.list.now c.requires c.listed_marks.result c.listed_marks.ensures)
