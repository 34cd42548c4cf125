-- `build_row` adds only marks that the row gives. Assumes nothing.
use Rattle.std.specs.Prelude.{refl}
use Rattle.std.proofs.Common.{arith, sym, ◌∙◌, ltb-false}
use Rattle.knowledge.specs.laws.Steps.{parts_below, reaches_whole}
use Rattle.knowledge.specs.Steps.{stays}
use Rattle.knowledge.proofs.build_row.Goals as goal
use Rattle.knowledge.proofs.build_row.Goals.{then-class-lt-ABSENT+then-is_marked+then-is_marked-2, else-class-lt-ABSENT}

pub returns-then-is_before : goal.returns-then-is_before
returns-then-is_before c = stays

pub loop-u-init : goal.loop-u-init
loop-u-init c = stays

pub class_at-requires : goal.class_at-requires
class_at-requires c =
    let low = parts_below c.args.t.now.bytes.now c.args.t.now.rows c.args.t.now.runs c.args.t.now.shape c.args.x c.requires refl (ltb-false _ 11 (sym c.is_before.ensures ∙ c.if-is_before.false)) c.left_of-left.ensures.0 c.right_of-right.ensures.0 in
    (low.0, omega (arith, c.args.t.now.shape.few_runs))

pub class_at-requires-then-is_marked : goal.class_at-requires-then-is_marked
class_at-requires-then-is_marked c =
    let low = parts_below c.args.t.now.bytes.now c.args.t.now.rows c.args.t.now.runs c.args.t.now.shape c.args.x c.requires refl (ltb-false _ 11 (sym c.is_before.ensures ∙ c.if-is_before.false)) c.left_of-left.ensures.0 c.right_of-right.ensures.0 in
    (low.1, omega (arith, c.args.t.now.shape.few_runs))

pub loop-u-preserved : goal.loop-u-preserved
loop-u-preserved c = elim c.if-class-lt-ABSENT.branch [
  | then-class-lt-ABSENT+then-is_marked+then-is_marked-2 w ↦
      reaches_whole c.loop-u.invariant (c.requires, omega arith) refl (ltb-false _ 11 (sym c.is_before.ensures ∙ c.if-is_before.false)) c.left_of-left.ensures.0 c.right_of-right.ensures.0 (w.from.ensures ∙ c.class_at-class.ensures) (omega (arith, w.from.ensures, w.if-class-lt-ABSENT.true)) w.class_at.ensures w.is_marked.ensures w.if-is_marked.true w.class_at-then-is_marked.ensures w.is_marked-then-is_marked.ensures w.if-is_marked-2.true w.marks-is
  | else-class-lt-ABSENT w ↦ rw w.marks-is c.loop-u.invariant
]
