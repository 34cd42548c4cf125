-- `rounds` ends with marks to which nothing can be added. The invariant: the marks are reached from the start; the measure is how many are missing. Assumes nothing.
use Rattle.knowledge.specs.Steps.{Reaches, missing}
use Rattle.knowledge.proofs.rounds.Given as goal

abbrev pub invariant-rounds : goal.invariant-rounds
invariant-rounds l = Reaches l.t.bytes.now l.t.rows l.t.runs l.classes l.initial.marks l.marks

abbrev pub decreases-rounds : goal.decreases-rounds
decreases-rounds l = missing l.marks
