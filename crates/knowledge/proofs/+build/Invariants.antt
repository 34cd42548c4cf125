-- `build` adds only marks that rows give. The measure is the row; the loop's invariant: the marks are reached from those of its start. Assumes nothing.
use Rattle.knowledge.specs.Steps.{Reaches}
use Rattle.knowledge.proofs.+build.Given as goal

abbrev pub decreases-build : goal.decreases-build
decreases-build l = l.r

abbrev pub invariant-loop-x : goal.invariant-loop-x
invariant-loop-x l = Reaches l.t.bytes.now l.t.rows l.t.runs l.classes l.initial.marks l.marks
