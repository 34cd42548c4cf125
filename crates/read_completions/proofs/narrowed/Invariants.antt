-- `read_completions::narrowed` meets its contract. The loop's invariant: no completion is missed. Assumes nothing.
use Rattle.read_completions.specs.Completions.{CompletionsKept}
use Rattle.read_completions.proofs.narrowed.Given as goal

abbrev pub invariant-loop-i : goal.invariant-loop-i
invariant-loop-i l = CompletionsKept l.known.pattern l.initial.less l.less
