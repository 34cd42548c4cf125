-- `hash` mixes the words of a key. The loop's invariant: the hash is below 2 to the 32. Assumes nothing.
use Prim.Native.Nat.{◌<◌}
use Rattle.search_memory.proofs.hash.Given as goal

abbrev pub invariant-loop-pair : goal.invariant-loop-pair
invariant-loop-pair l = l.h < 4294967296
