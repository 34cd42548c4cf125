-- `frame::budget` meets its contract: the number of its four bytes. Assumes nothing.
use native.Mathlib.Omega.{arith}
use mathlib.Core.Path.{◌∙◌}
use Rattle.frame.specs.laws.Frame.{budget-bytes}
use Rattle.frame.proofs.budget.Goals as goal

pub returns : goal.returns
returns c = (c.from_be_bytes.ensures ∙ budget-bytes c.args.file.now c.requires, omega arith)
