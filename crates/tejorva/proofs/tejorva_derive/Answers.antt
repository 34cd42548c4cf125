-- `tejorva_derive` is the number of Derive's answer to a table, a list and a target. Assumes nothing.
use mathlib.Core.Path.{ap, ◌∙◌}
use Rattle.packing.specs.Packing.{packed_deriving, derive-packed}
use Rattle.tejorva.proofs.tejorva_derive.Goals as goal

pub returns : goal.returns
returns c = c.derived.ensures ∙ ap packed_deriving c.derive.ensures ∙ derive-packed c.args.table.now c.args.list.now c.args.target
