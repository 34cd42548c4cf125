-- `gives_up` gives up only quick answers. Assumes nothing.
use Rattle.rows.specs.Kinds.{number_of}
use Rattle.rows.specs.laws.Shape.{shape-sized}
use Rattle.std.proofs.Common.{arith, ap}
use Rattle.open_marks.specs.laws.Rows.{parts-lower}
use Rattle.open_marks.proofs.gives_up.Goals as goal

pub inverse_known-requires : goal.inverse_known-requires
inverse_known-requires c =
    let table = c.args.level.now.table in
    let low = parts-lower table.bytes.now table.rows (shape-sized table.shape) c.in-Some.end c.in-Some.ensures c.kind_of.ensures (omega (arith, ap number_of c.in-Encrypted.is)) in
    omega (arith, c.right_of.ensures.0, c.in-Some.ensures)
