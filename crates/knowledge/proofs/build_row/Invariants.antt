-- `build_row` adds only marks that the row gives. The loop's invariant: the marks are reached from those at the start. Assumes nothing.
use Rattle.knowledge.specs.Steps.{Reaches}
use Rattle.knowledge.proofs.build_row.Given as goal

abbrev pub invariant-loop-u : goal.invariant-loop-u
invariant-loop-u l = Reaches l.t.bytes.now l.t.rows l.t.runs l.classes l.initial.marks l.marks
