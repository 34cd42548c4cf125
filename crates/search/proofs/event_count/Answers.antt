-- `event_count` sums the events of the runs. The loop's invariant: the sum is that of the runs passed. Assumes nothing.
use Rattle.std.proofs.Common.{arith, ap, ◌∙◌, take_all}
use Rattle.search.specs.laws.Events.{event_total, total-more}
use Rattle.search.proofs.event_count.Goals as goal

pub returns : goal.returns
returns c =
    let all = take_all c.loop-run.run-index c.args.runs.now c.loop-run-test.false in
    (c.loop-run.invariant.0 ∙ ap event_total all, omega arith)

pub overflow_add-sum : goal.overflow_add-sum
overflow_add-sum c = omega (arith, c.requires.1 c.loop-run.run-index c.loop-run-test.true)

pub loop-run-preserved : goal.loop-run-preserved
loop-run-preserved c =
    let few = c.requires.1 c.loop-run.run-index c.loop-run-test.true in
    (omega (arith, total-more c.args.runs.now c.loop-run.run-index c.loop-run-test.true), omega (arith, few))
