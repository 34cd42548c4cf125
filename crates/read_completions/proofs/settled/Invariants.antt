-- `read_completions::settled` meets its contract. The loop's invariant: no completion is missed. Assumes nothing.
use Rattle.read_completions.specs.Completions.{CompletionsKept}
use Rattle.read_completions.proofs.settled.Given as goal

abbrev pub invariant-loop : goal.invariant-loop
invariant-loop l = CompletionsKept l.known.pattern l.initial.less l.less
