-- `read_completions::completable` meets its contract. The loop's invariant: no class of variable i below c leads to a completion. Assumes nothing.
use Rattle.std.proofs.Common.{arith}
use Rattle.read_completions.specs.laws.Search.{completable-empty, tried-absent, tried-more, tried-all, completable-kept}
use Rattle.read_completions.proofs.+completable.Goals as goal
use Rattle.read_completions.proofs.+completable.Goals.{then-less-i+else-completable, else-less-i}

pub returns-then-is_empty : goal.returns-then-is_empty
returns-then-is_empty t c =
    completable-empty c.args.known.now.pattern c.args.dom c.settled-less.result c.settled-less.ensures c.is_empty.ensures c.if-is_empty.true _

pub loop-c-preserved : goal.loop-c-preserved
loop-c-preserved t c = elim c.if-less-i.branch [
  | then-less-i+else-completable w ↦
      tried-more c.args.known.now.pattern c.settled-less.result c.in-Some.ensures c.loop-c-test.true w.narrow_to-only.result w.narrow_to-only.ensures w.completable.ensures w.if-completable.false c.loop-c.invariant
  | else-less-i w ↦ tried-absent c.args.known.now.pattern c.settled-less.result c.in-Some.ensures w.if-less-i.false c.loop-c.invariant
]

pub returns : goal.returns
returns t c =
    completable-kept c.args.known.now.pattern c.args.dom c.settled-less.result c.settled-less.ensures (tried-all c.args.known.now.pattern c.settled-less.result c.in-Some.ensures (omega (arith, c.loop-c-test.false)) c.loop-c.invariant _)
