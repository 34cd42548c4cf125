-- `tejorva_open` is the number of Open's answer to a file. Assumes nothing.
use mathlib.Core.Path.{ap, ◌∙◌}
use Rattle.packing.specs.Packing.{packed_opening, open-packed}
use Rattle.tejorva.proofs.tejorva_open.Goals as goal

pub returns : goal.returns
returns c = c.opened.ensures ∙ ap packed_opening c.before.«open».ensures ∙ open-packed c.args.file.now
