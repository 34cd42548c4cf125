-- `gain` finds a class that a row gives in a run and that is not marked. Assumes nothing.
use Rattle.std.specs.Prelude.{refl}
use Rattle.std.proofs.Common.{arith, sym, ◌∙◌, ltb-false}
use Rattle.knowledge.specs.laws.Steps.{left_below, parts_below, gained-at, class-kept}
use Rattle.knowledge.proofs.gain.Goals as goal

pub class_at-left-requires : goal.class_at-left-requires
class_at-left-requires c =
    (left_below c.args.t.now.bytes.now c.args.t.now.rows c.args.t.now.runs c.args.t.now.shape c.args.x c.requires.0 refl (omega (arith, ltb-false _ 11 (sym c.is_before.ensures ∙ c.if-is_before.false))) c.left_of.ensures.0, omega (arith, c.args.t.now.shape.few_runs, c.requires.1))

pub class_at-right-requires : goal.class_at-right-requires
class_at-right-requires c =
    ((parts_below c.args.t.now.bytes.now c.args.t.now.rows c.args.t.now.runs c.args.t.now.shape c.args.x c.requires.0 refl (ltb-false _ 11 (sym c.is_before.ensures ∙ c.if-is_before.false)) c.left_of.ensures.0 c.right_of.ensures.0).1, omega (arith, c.args.t.now.shape.few_runs, c.requires.1))

pub returns : goal.returns
returns c =
    class-kept c.args.x c.args.u c.given-class.result c.and_then.result
    (gained-at c.args.x c.args.u c.kind_of-kind.ensures c.class_at-whole.ensures c.left_of.ensures.0 c.class_at-left.ensures c.right_of.ensures.0 c.class_at-right.ensures c.given-class.ensures)
    c.and_then.ensures
