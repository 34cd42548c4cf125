-- `event_count` sums the events of the runs. The loop's invariant: the sum is that of the runs passed. Assumes nothing.
use Prim.Native.Nat.{◌*◌, ◌≤◌}
use mathlib.Core.Path.{◌≡◌}
use lib.ListN.{take}
use Rattle.search.specs.laws.Events.{event_total}
use Rattle.search.proofs.event_count.Given as goal

abbrev pub invariant-loop-run : goal.invariant-loop-run
invariant-loop-run l = (l.sum ≡ event_total (take l.run-index l.runs)) × (l.sum ≤ 8 * l.run-index)
