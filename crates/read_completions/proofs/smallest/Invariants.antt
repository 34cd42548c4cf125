-- `read_completions::smallest` meets its contract. The loop's invariant: what is chosen is a variable. Assumes nothing.
use Rattle.std.proofs.Common.{◌≤◌, ◌<◌, IfSome}
use Rattle.read_completions.proofs.smallest.Given as goal

abbrev pub invariant-loop-i : goal.invariant-loop-i
invariant-loop-i l = IfSome l.best (λ i. i < l.vars.count) × (l.found ≤ l.i)
