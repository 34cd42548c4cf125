-- `read_possible::fits_mark` meets its contract: every row of the kind is tried. Assumes nothing.
use Rattle.std.proofs.Common.{arith, rules, tests}
use Rattle.read_fits.specs.laws.Fits.{TakesIn}
use Rattle.rows.specs.laws.Ranges.{any-true}
use Rattle.read_possible.proofs.fits_mark.Goals as goal

pub returns : goal.returns
returns c = λ y w i e can.
    any-true c.any.result (TakesIn c.args.scope.now.table.bytes.now c.args.scope.now.table.rows c.args.scope.now.table.runs c.args.classes.now c.args.scope.now.run c.args.marks.now c.args.r) (λ x y q k. search (rules, tests)) (λ x k. search (rules, tests)) _ c.any.ensures.runs y (omega arith) (omega (arith, i.0)) (w, i.1, e, can)
