-- `read_possible::fits_row` meets its contract: every run is tried. Assumes nothing.
use Rattle.std.proofs.Common.{arith, rules, tests}
use Rattle.read_fits.specs.Fits.{CanTake}
use Rattle.read_possible.specs.laws.Ranges.{any-true_to}
use Rattle.read_possible.proofs.fits_row.Goals as goal

pub returns : goal.returns
returns c = λ w l can.
    any-true_to c.any.result (CanTake c.args.scope.now.table.bytes.now c.args.scope.now.table.rows c.args.scope.now.table.runs c.args.classes.now c.args.scope.now.run c.args.marks.now c.args.r c.args.y) (λ x y q k. search (rules, tests)) (λ x k. search (rules, tests)) _ c.new.ensures.exhausted c.any.ensures.runs w (omega arith) (omega (arith, c.new.ensures.end)) can
