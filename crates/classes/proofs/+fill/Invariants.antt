-- `classes::fill` meets its contract: no rows, or the rows below and then the row itself. The measure is the row. Assumes nothing.
use Rattle.classes.proofs.+fill.Given as goal

abbrev pub decreases-fill : goal.decreases-fill
decreases-fill l = l.r
