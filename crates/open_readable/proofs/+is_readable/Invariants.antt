-- `is_readable` tells whether a row's term is readable. The measure is the row, since its parts are lower rows. Assumes nothing.
use Rattle.open_readable.proofs.+is_readable.Given as goal

abbrev pub decreases-is_readable : goal.decreases-is_readable
decreases-is_readable l = l.x
