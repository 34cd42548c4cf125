-- `with_listed` marks the listed rows. Assumes nothing.
use Rattle.std.proofs.Common.{rules}
use Rattle.cells.specs.laws.Listed.{at_mem, listed-none, listed_more}
use Rattle.cells.proofs.with_listed.Goals as goal

pub loop-r-init : goal.loop-r-init
loop-r-init c = listed-none c.args.marks (search (rules, c.well_formed))

pub loop-r-preserved : goal.loop-r-preserved
loop-r-preserved c =
    let i = c.loop-r.r-index in
    let low = c.loop-r-test.true in
    rw c.from.ensures (listed_more c.args.list.now i c.args.marks c.loop-r.marks low (c.requires _ (at_mem c.args.list.now i low)) c.loop-r.invariant)
