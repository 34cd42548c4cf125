-- `read_completions::completable` meets its contract. The loop's invariant: no class of variable i below c leads to a completion. Assumes nothing.
use Rattle.read_completions.specs.laws.Search.{Tried}
use Rattle.read_completions.proofs.+completable.Given as goal

abbrev pub decreases-completable : goal.decreases-completable
decreases-completable l = l.depth

abbrev pub invariant-loop-c : goal.invariant-loop-c
invariant-loop-c l = Tried l.known.pattern l.less l.i l.c
