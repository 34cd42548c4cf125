-- `read_completions::set_of` meets its contract. The loop's invariant: no set misses a class. Assumes nothing.
use Rattle.read_completions.specs.Completions.{RowsMissNone}
use Rattle.read_completions.proofs.set_of.Given as goal

abbrev pub invariant-loop-r : goal.invariant-loop-r
invariant-loop-r l = RowsMissNone l.known.pattern l.dom l.i l.sets
