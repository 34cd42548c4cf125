-- `read_completions::matched` meets its contract. The loop's invariant: the classes for the cells below c are in the set. Assumes nothing.
use Rattle.std.proofs.Common.{arith}
use Rattle.read_completions.specs.laws.Rows.{matched-more, matched-unmet, matched-unmarked, matched-all}
use Rattle.read_completions.proofs.matched.Goals as goal
use Rattle.read_completions.proofs.matched.Goals.{then-pattern-c+in-Some, then-pattern-c+in_default, else-pattern-c}

pub loop-c-preserved : goal.loop-c-preserved
loop-c-preserved c = elim c.if-pattern-c.branch [
  | then-pattern-c+in-Some w ↦ rw w.set-is (matched-more c.args.pattern.now c.args.dom.now c.args.i c.args.r c.requires.0 c.loop-c.invariant w.needs_at.ensures w.in-Some.is w.admit.ensures)
  | then-pattern-c+in_default w ↦ rw w.set-is (matched-unmet c.args.pattern.now c.args.dom.now c.args.i c.args.r c.loop-c.set w.needs_at.ensures w.in_default.is c.loop-c.invariant)
  | else-pattern-c w ↦ rw w.set-is (matched-unmarked c.args.pattern.now c.args.dom.now c.args.i c.args.r c.loop-c.set w.if-pattern-c.false c.loop-c.invariant)
]

pub returns : goal.returns
returns c = matched-all c.args.pattern.now c.args.dom.now c.args.i c.args.r c.loop-c.set (omega (arith, c.loop-c-test.false)) c.loop-c.invariant
