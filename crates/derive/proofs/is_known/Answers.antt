-- `is_known` is whether the target is derivable, by the marks of the listed rows. Assumes nothing.
use mathlib.Core.Path.{sym}
use Rattle.rows.specs.laws.Shape.{shape-sized}
use Rattle.role_level.specs.laws.RoleLevel.{exact-answers}
use Rattle.derive.proofs.is_known.Goals as goal

pub returns : goal.returns
returns c =
    sym
    (exact-answers c.args.t.now.bytes.now c.args.t.now.rows (shape-sized c.args.t.now.shape) c.args.list.now c.requires.0 c.marks_of.result c.args.target c.requires.1
    (rw c.of.ensures.0 at c.marks_of.ensures))
