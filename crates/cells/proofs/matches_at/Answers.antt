-- `matches_at` tells whether a cell has a class and its parts the given ones. Assumes nothing.
use native.Mathlib.Omega.{arith}
use Rattle.cells.specs.laws.Cells.{left-small, second-small}
use Rattle.cells.proofs.matches_at.Goals as goal

pub cell-requires-2 : goal.cell-requires-2
cell-requires-2 c = (left-small c.args.t.now.bytes.now c.args.t.now.rows c.args.t.now.runs c.args.t.now.shape c.args.x c.requires.0 c.requires.1.0 c.left_of.ensures.0, omega (arith, c.args.t.now.shape.few_runs, c.requires.1.1))

pub cell-requires-3 : goal.cell-requires-3
cell-requires-3 c = (second-small c.args.t.now.bytes.now c.args.t.now.rows c.args.t.now.runs c.args.t.now.shape c.args.x c.requires.0 c.requires.1.0 c.second_of.ensures.0, omega (arith, c.args.t.now.shape.few_runs, c.requires.1.1))
