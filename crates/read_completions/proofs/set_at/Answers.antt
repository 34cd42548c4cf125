-- `set_at` misses no class: by the value of the row, as a variable, or by its parts and the marked cells of its kind. Assumes nothing.
use denote.Enum.Bare.{same_true}
use Rattle.rows.specs.contracts.Kind.{the_type}
use Rattle.rows.specs.declared.Kind.TheVariants.{Pair}
use Rattle.rows.specs.Kinds.{number_of}
use Rattle.std.proofs.Common.{arith, sym, ap, ◌∙◌}
use Rattle.cells.specs.laws.Cells.{left-small, second-small}
use Rattle.read_completions.specs.laws.Rows.{misses-none-set, misses-none-parts, misses-none-key}
use Rattle.read_completions.proofs.set_at.Goals as goal
use Rattle.read_completions.proofs.set_at.Goals.{then-eq, else-eq}

pub returns-then-class_at-lt-ABSENT : goal.returns-then-class_at-lt-ABSENT
returns-then-class_at-lt-ABSENT c =
    misses-none-set c.args.known.now.pattern c.args.dom.now c.args.i c.args.r c.requires.1.1 c.class_at.ensures c.if-class_at-lt-ABSENT.true c.cell.ensures.0

pub bounds-sets-left_of : goal.bounds-sets-left_of
bounds-sets-left_of c = left-small c.args.known.now.pattern.scope.table.bytes.now c.args.known.now.pattern.scope.table.rows c.args.known.now.pattern.scope.table.runs c.args.known.now.pattern.scope.table.shape c.args.r c.requires.1.1 (omega (arith, c.kind_of-kind.ensures, c.is_made.ensures.0 c.if-not-is_made.false)) c.left_of.ensures.0

pub bounds-sets-second_of : goal.bounds-sets-second_of
bounds-sets-second_of c = second-small c.args.known.now.pattern.scope.table.bytes.now c.args.known.now.pattern.scope.table.rows c.args.known.now.pattern.scope.table.runs c.args.known.now.pattern.scope.table.shape c.args.r c.requires.1.1 (omega (arith, c.kind_of-kind.ensures, c.is_made.ensures.0 c.if-not-is_made.false)) c.second_of.ensures.0

pub returns-then-is_compound : goal.returns-then-is_compound
returns-then-is_compound c =
    misses-none-parts c.args.known.now.pattern c.args.dom.now c.args.i c.args.r c.requires.0 c.requires.1.1 c.left_of.ensures.0 c.second_of.ensures.0 (omega (arith, c.kind_of-kind.ensures, c.is_made.ensures.0 c.if-not-is_made.false)) (elim c.if-eq.branch [
      | then-eq w ↦ λ other. absurd (other (sym c.kind_of-kind.ensures ∙ ap number_of (same_true the_type tt c.kind_of-kind.result Pair (sym c.eq.ensures ∙ w.if-eq.true))))
      | else-eq w ↦ λ other. rw w.set-is w.matched-set.ensures
    ]) c.join.ensures

pub returns : goal.returns
returns c =
    let low = c.is_compound.ensures.1 c.if-is_compound.false in
    elim c.if-eq.branch [
      | then-eq w ↦ absurd (omega (arith, low, ap number_of (same_true the_type tt c.kind_of-kind.result Pair (sym c.eq.ensures ∙ w.if-eq.true))))
      | else-eq w ↦ rw w.set-is (misses-none-key c.args.known.now.pattern c.args.dom.now c.args.i c.args.r c.requires.1.1 (omega (arith, c.kind_of-kind.ensures, c.is_made.ensures.0 c.if-not-is_made.false)) (omega (arith, c.kind_of-kind.ensures, low)) w.matched-set.result w.matched-set.ensures)
    ]
