-- `gathered` marks the classes of the marked cells. The loops' invariants: the cells passed have their marks, and no other class has one. Assumes nothing.
use Rattle.cells.specs.Cells.{cell_of}
use Rattle.knowledge.specs.laws.Filled.{Before}
use Rattle.knowledge.specs.Steps.{class_at, On, FilledCells}
use Rattle.knowledge.proofs.gathered.Given as goal

abbrev pub invariant-loop-r : goal.invariant-loop-r
invariant-loop-r l = FilledCells l.t.rows l.t.runs (class_at l.classes) (λ x w. On l.start (cell_of x w)) (Before l.t.rows l.u l.r) l.marks

abbrev pub invariant-loop-u : goal.invariant-loop-u
invariant-loop-u l = FilledCells l.t.rows l.t.runs (class_at l.classes) (λ x w. On l.start (cell_of x w)) (Before l.t.rows l.u 0) l.marks
