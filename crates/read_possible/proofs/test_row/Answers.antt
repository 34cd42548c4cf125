-- `read_possible::test_row` meets its contract: by the row's mark, as a variable, by its parts, or by the marked cells of its kind. Assumes nothing.
use denote.Enum.Bare.{same_true, same_false}
use mathlib.Core.Path.{sym, ap, ◌∙◌}
use Rattle.rows.specs.contracts.Kind.{the_type}
use Rattle.rows.specs.declared.Kind.TheVariants.{Pair, Encrypted}
use Rattle.rows.specs.Kinds.{number_of}
use Rattle.rows.specs.laws.Kinds.{kinds-differ}
use Rattle.read_possible.specs.laws.Tests.{parts-small, possible-set, possible-pair, possible-other, both_read}
use native.Mathlib.Omega.{arith}
use Rattle.read_possible.proofs.test_row.Goals as goal
use Rattle.read_possible.proofs.test_row.Goals.{else-eq-2-via-then-eq-2+else-both, else-eq-2-via-else-eq-2}

pub returns-then-class_at-lt-ABSENT : goal.returns-then-class_at-lt-ABSENT
returns-then-class_at-lt-ABSENT c =
    possible-set c.args.scope.now.table.bytes.now c.args.scope.now.table.rows c.args.scope.now.table.runs c.args.scope.now.table.shape c.args.classes.now c.args.marks.now c.args.scope.now.run c.args.r c.args.scope.now.within c.requires.1 c.class_at.ensures c.if-class_at-lt-ABSENT.true c.cell.ensures.0

pub both-requires : goal.both-requires
both-requires c =
    parts-small c.args.scope.now.table.bytes.now c.args.scope.now.table.rows c.args.scope.now.table.runs c.args.scope.now.table.shape c.args.r c.requires.1 c.kind_of-kind.ensures (c.is_made.ensures.0 c.if-not-is_made.false) c.left_of.ensures.0 c.second_of.ensures.0

pub returns-then-eq : goal.returns-then-eq
returns-then-eq c =
    let k = c.kind_of-kind.ensures in
    let h = c.is_made.ensures.0 c.if-not-is_made.false in
    possible-pair c.args.scope.now.table.bytes.now c.args.scope.now.table.rows c.args.scope.now.table.runs c.args.scope.now.table.shape c.args.classes.now c.args.marks.now c.args.scope.now.run c.args.r c.args.scope.now.within c.requires.1 c.args.can.now c.requires.0 (omega arith) (sym k ∙ ap number_of (same_true the_type tt _ Pair (sym c.if-eq.ensures))) c.left_of.ensures.0 c.second_of.ensures.0 c.both.ensures

pub both-requires-then-eq-2 : goal.both-requires-then-eq-2
both-requires-then-eq-2 c =
    parts-small c.args.scope.now.table.bytes.now c.args.scope.now.table.rows c.args.scope.now.table.runs c.args.scope.now.table.shape c.args.r c.requires.1 c.kind_of-kind.ensures (c.is_made.ensures.0 c.if-not-is_made.false) c.left_of-then-eq-2.ensures.0 c.second_of-then-eq-2.ensures.0

pub returns : goal.returns
returns c =
    let k = c.kind_of-kind.ensures in
    let h = c.is_made.ensures.0 c.if-not-is_made.false in
    possible-other c.args.scope.now.table.bytes.now c.args.scope.now.table.rows c.args.scope.now.table.runs c.args.scope.now.table.shape c.args.classes.now c.args.marks.now c.args.scope.now.run c.args.r c.args.scope.now.within c.requires.1 c.args.can.now c.requires.0 (omega arith) (λ e. kinds-differ (same_false the_type _ Pair (sym c.eq.ensures ∙ c.if-eq.false)) (k ∙ e))
    (elim c.else-eq-2.branch [
      | else-eq-2-via-then-eq-2+else-both w ↦ λ e. both_read c.args.scope.now.table.bytes.now c.args.r c.args.can.now w.left_of-then-eq-2.ensures.0 w.second_of-then-eq-2.ensures.0 w.both-then-eq-2.ensures w.if-both.false
      | else-eq-2-via-else-eq-2 w ↦ λ e. absurd (kinds-differ (same_false the_type _ Encrypted (sym c.eq-2.ensures ∙ w.if-eq-2.false)) (k ∙ e))
    ]) c.fits_mark.ensures
