-- `fill_names` writes the names of a run into a key. The loop's invariant: the first i names are written, and nothing else. Assumes nothing.
use Prim.Native.Nat.{◌+◌, ◌*◌}
use Rattle.search_memory.specs.Memory.{Written, name_of}
use Rattle.search_memory.proofs.fill_names.Given as goal

abbrev pub invariant-loop-i : goal.invariant-loop-i
invariant-loop-i l = Written l.initial.key l.key (6 + 8 * l.k) l.i (name_of l.variables l.names l.k)
