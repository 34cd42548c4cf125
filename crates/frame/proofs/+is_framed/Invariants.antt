-- `frame::is_framed` meets its contract: no blocks, a block that runs past the end, or a whole one and the rest. The measure is the number of blocks. Assumes nothing.
use Rattle.frame.proofs.+is_framed.Given as goal

abbrev pub decreases-is_framed : goal.decreases-is_framed
decreases-is_framed l = l.n
