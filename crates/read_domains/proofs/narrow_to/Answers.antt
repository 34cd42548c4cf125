-- `read_domains::narrow_to` meets its contract. Assumes nothing.
use Rattle.std.proofs.Common.{arith, replicate, false, Bool}
use Rattle.std.proofs.lemmas.List.{length-replicate}
use Rattle.cells.specs.Cells.{cell_count}
use Rattle.read_domains.specs.laws.Sets.{in-set, row_stays}
use Rattle.read_domains.proofs.narrow_to.Goals as goal

pub returns : goal.returns
returns c j d low within is same =
    row_stays c.args.dom c.args.i _ j d (λ e h. in-set (replicate cell_count false) (omega (arith, c.requires.1, length-replicate {A = Bool} cell_count false)) (same e)) is
