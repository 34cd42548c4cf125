-- `listed_marks` marks the listed rows. Assumes nothing.
use Rattle.std.proofs.Common.{inr, ⊎_elim}
use Rattle.cells.specs.Cells.{cell_count}
use Rattle.knowledge.specs.laws.Filled.{none-on}
use Rattle.role_level.proofs.listed_marks.Goals as goal

pub returns : goal.returns
returns c = record {
  listed = λ r l. let marked = c.with_listed.ensures.each r in (λ o. ⊎_elim (λ e. absurd (none-on cell_count r e)) (λ m. m) (marked.0 o), λ m. marked.1 (inr m));
}
