-- `content_of` finds the row beneath the encryptions of a row. The loop's invariant: the row is not above that row. The measure is the row. Assumes nothing.
use Rattle.std.proofs.Common.{◌≤◌}
use Rattle.open_marks.proofs.content_of.Given as goal

abbrev pub invariant-loop-y : goal.invariant-loop-y
invariant-loop-y l = l.y ≤ l.x

abbrev pub decreases-loop-y : goal.decreases-loop-y
decreases-loop-y l = l.y
