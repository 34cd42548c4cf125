-- `follow` goes down the way that the notes say. The measure is the row, since its parts are lower rows. Assumes nothing.
use Rattle.std.proofs.Common.{◌<◌}
use Rattle.open_marks.proofs.follow.Given as goal

abbrev pub invariant-loop-more : goal.invariant-loop-more
invariant-loop-more l = l.x < l.t.rows

abbrev pub decreases-loop-more : goal.decreases-loop-more
decreases-loop-more l = l.x
