-- `table::row_refusal` meets its contract: the code tests the rules in the order of their numbers. Assumes nothing.
use native.Mathlib.Omega.{arith}
use mathlib.Core.Path.{sym, ◌∙◌}
use Rattle.table.specs.laws.Refusal.{refusal-many, refusal-variables, refusal-other, refusal-unfit}
use Rattle.table.proofs.row_refusal.Goals as goal
use Rattle.table.proofs.row_refusal.Goals.{then-below-ge-MOST_ROWS-via-then-below-ge-MOST_ROWS, then-below-ge-MOST_ROWS-via-else-below-ge-MOST_ROWS+then-with_variable-gt-MOST_VARIABLES}

pub returns-then-below-ge-MOST_ROWS : goal.returns-then-below-ge-MOST_ROWS
returns-then-below-ge-MOST_ROWS c = elim c.then-below-ge-MOST_ROWS.branch [
  | then-below-ge-MOST_ROWS-via-then-below-ge-MOST_ROWS w ↦ refusal-many _ c.args.row.now (omega (arith, c.args.below.now.shape.count))
  | then-below-ge-MOST_ROWS-via-else-below-ge-MOST_ROWS+then-with_variable-gt-MOST_VARIABLES w ↦
      refusal-variables _ c.args.row.now c.args.variables w.with_variable.result c.requires.1.0 w.with_variable.ensures (omega arith)
]

pub returns-then-not-fits_row : goal.returns-then-not-fits_row
returns-then-not-fits_row c = refusal-unfit _ c.args.row.now (sym c.fits_row.ensures ∙ c.if-not-fits_row.true)

pub returns : goal.returns
returns c =
    c.then_some.ensures
    ∙ refusal-other _ c.args.row.now c.args.variables c.with_variable.result c.requires.1.0 c.with_variable.ensures
    (omega (arith, c.args.below.now.shape.count)) (omega arith) (sym c.fits_row.ensures ∙ c.if-not-fits_row.false) c.repeats.result (sym c.repeats.ensures)
