-- `table::same_bytes` meets its contract: three bytes are compared with three. Assumes nothing.
use Rattle.std.proofs.Common.{arith, ◌∙◌}
use Rattle.table.specs.laws.Bytes.{pointwise_three}
use Rattle.table.proofs.same_bytes.Goals as goal

pub returns : goal.returns
returns c = c.eq.ensures ∙ pointwise_three c.args.below.now.bytes.now _ c.args.row.now (omega (arith, c.args.below.now.shape.size)) c.requires.1
