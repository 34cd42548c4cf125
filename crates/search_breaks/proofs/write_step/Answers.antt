-- `write_step` writes a step over the bytes from a place on. Assumes nothing.
use Rattle.std.proofs.Common.{arith, length-set}
use Rattle.search_breaks.proofs.write_step.Goals as goal

pub bounds-trace-at-2 : goal.bounds-trace-at-2
bounds-trace-at-2 c = simp length-set (omega (arith, c.requires.0))
