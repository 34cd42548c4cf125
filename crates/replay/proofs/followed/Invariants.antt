-- `followed` follows a trace through an accepted file. Assumes nothing.
use Prim.Native.Nat.{◌-◌, ◌≤◌}
use lib.ListN.{length}
use Rattle.runs.specs.Opened.{scenario_of}
use Rattle.replay.specs.laws.Follow.{FollowedSteps}
use Rattle.replay.proofs.followed.Given as goal

abbrev pub invariant-loop-at : goal.invariant-loop-at
invariant-loop-at l = (l.at ≤ length l.trace) × FollowedSteps (scenario_of l.opened) l.trace l.at l.s

abbrev pub decreases-loop-at : goal.decreases-loop-at
decreases-loop-at l = length l.trace - l.at
