-- `with_listed` marks the listed rows. The loop's invariant: those passed are marked too, and no other. Assumes nothing.
use lib.ListN.{take}
use Rattle.cells.specs.Cells.{WithListed}
use Rattle.cells.proofs.with_listed.Given as goal

abbrev pub invariant-loop-r : goal.invariant-loop-r
invariant-loop-r l = WithListed (take l.r-index l.list) l.fn.marks l.marks
