-- `table::repeats` meets its contract: some row below has the bytes at the front, or none has. Assumes nothing.
use Rattle.std.proofs.Common.{rules, get_or, ◌≡◌, refl}
use Rattle.std.proofs.iter.runs.Sources.{ranges}
use Rattle.table.specs.laws.Repeats.{repeats-if}
use Rattle.table.proofs.repeats.Goals as goal

pub returns : goal.returns
returns c = repeats-if _ _ _ c.args.below.now.shape c.args.row.now (search (rules, ranges)) (λ e j l s. let z : get_or c.args.row.now j 0 ≡ get_or c.args.row.now j 0 = refl in search (rules, ranges))
