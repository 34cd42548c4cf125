-- `frame::too_long` meets its contract: the length is compared with the limit. Assumes nothing.
use mathlib.Core.Path.{◌∙◌}
use Rattle.frame.specs.laws.Frame.{size-judged}
use Rattle.frame.proofs.too_long.Goals as goal

pub returns : goal.returns
returns c = c.then_some.ensures ∙ size-judged c.args.file.now
