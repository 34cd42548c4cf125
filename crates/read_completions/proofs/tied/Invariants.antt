-- `read_completions::tied` meets its contract. The loop's invariant: what is chosen is a variable. Assumes nothing.
use Rattle.std.proofs.Common.{◌<◌, IfSome}
use Rattle.read_completions.proofs.tied.Given as goal

abbrev pub invariant-loop-r : goal.invariant-loop-r
invariant-loop-r l = IfSome l.best (λ i. i < l.known.pattern.vars.count)
