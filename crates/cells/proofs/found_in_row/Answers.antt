-- `found_in_row` gives the class of such a cell in one row, if the row has one. Assumes nothing.
use Rattle.std.proofs.Common.{rules, tests}
use Rattle.cells.specs.laws.Cells.{class-read}
use Rattle.cells.specs.Cells.{has_run}
use Rattle.cells.proofs.found_in_row.Goals as goal

pub returns : goal.returns
returns c =
    let read = class-read c.args.classes.now c.told-classes c.cell.ensures.0 c.cell.ensures.1 in
    (rw read c.in_ok-w.ensures.1.there, has_run c.in_ok-w.w c.in_ok-w.ensures.0 (search (rules, tests)) c.in_ok-w.ensures.1 read)
