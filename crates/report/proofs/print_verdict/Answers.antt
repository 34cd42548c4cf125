-- `print_verdict` prints the text of the verdict on what it read. Assumes nothing.
use mathlib.Core.Logic.{inr}
use Rattle.report.proofs.print_verdict.Goals as goal

pub returns : goal.returns
returns g c = inr (_, c.verdict_text-text.ensures)
