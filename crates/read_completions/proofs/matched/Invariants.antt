-- `read_completions::matched` meets its contract. The loop's invariant: the classes for the cells below c are in the set. Assumes nothing.
use Rattle.read_completions.specs.laws.Rows.{MatchedIn}
use Rattle.read_completions.proofs.matched.Given as goal

abbrev pub invariant-loop-c : goal.invariant-loop-c
invariant-loop-c l = MatchedIn l.pattern l.dom l.i l.r l.c l.set
