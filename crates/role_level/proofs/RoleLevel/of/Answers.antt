-- `RoleLevel::of` has the classes of the rows with their own names. Assumes nothing.
use Rattle.rows.specs.laws.Shape.{shape-sized}
use Rattle.role_level.specs.laws.RoleLevel.{role-classes}
use Rattle.role_level.proofs.RoleLevel.of.Goals as goal

pub invariant_of-result : goal.invariant_of-result
invariant_of-result c =
    let table = c.at_role_level-table.ensures in
    let filled = rw (table.0, table.1.1) at c.refill.ensures in record {
      level = table.1.1;
      right = rw table.0 (role-classes c.args.t.now.bytes.now c.args.t.now.rows (shape-sized c.args.t.now.shape) c.own_names-names.ensures filled);
    }
