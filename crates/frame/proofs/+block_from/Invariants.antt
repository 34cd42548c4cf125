-- `frame::block_from` meets its contract: the block at the front, or one of the rest. The measure is the block's number. Assumes nothing.
use Rattle.frame.proofs.+block_from.Given as goal

abbrev pub decreases-block_from : goal.decreases-block_from
decreases-block_from l = l.k
