-- `shared` gives the rows that are marked in both. Assumes nothing.
use Rattle.std.proofs.Common.{arith, rules, tests, length-set, ◌∙◌}
use Rattle.open_marks.specs.laws.Sure.{shared-none, shared-more}
use Rattle.open_marks.proofs.shared.Goals as goal

pub loop-x-init : goal.loop-x-init
loop-x-init c = (search rules, shared-none _ _ 480)

pub loop-x-preserved : goal.loop-x-preserved
loop-x-preserved c = (search rules, shared-more c.args.one.now c.args.other.now c.loop-x.both c.loop-x.x c.in_both.result (omega (arith, c.loop-x.invariant.0)) c.in_both.ensures c.loop-x.invariant.1)
