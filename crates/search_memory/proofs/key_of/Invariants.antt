-- `key_of` makes the key of a state. The loop's invariant: the position and the names of the first k runs are filled in. Assumes nothing.
use Rattle.search_memory.specs.laws.Keys.{FilledWords}
use Rattle.search_memory.proofs.key_of.Given as goal

abbrev pub invariant-loop-k : goal.invariant-loop-k
invariant-loop-k l = FilledWords l.variables l.done l.names l.depth l.k l.key
