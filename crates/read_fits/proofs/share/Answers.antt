-- `read_fits::share` meets its contract: the first part is asked, then the second. Assumes nothing.
use Rattle.cells.specs.laws.Cells.{left-small, second-small}
use Rattle.read_fits.specs.laws.Fits.{shared-both, shared-refused}
use native.Mathlib.Omega.{arith}
use Rattle.read_fits.proofs.share.Goals as goal

pub class_at-first-requires : goal.class_at-first-requires
class_at-first-requires c =
    (left-small c.args.scope.now.table.bytes.now c.args.scope.now.table.rows c.args.scope.now.table.runs c.args.scope.now.table.shape c.args.y c.requires.1.1.0 c.requires.1.1.1.0 c.left_of.ensures.0, omega (arith, c.args.scope.now.table.shape.few_runs, c.requires.1.1.1.1))

pub class_at-second-requires : goal.class_at-second-requires
class_at-second-requires c =
    (second-small c.args.scope.now.table.bytes.now c.args.scope.now.table.rows c.args.scope.now.table.runs c.args.scope.now.table.shape c.args.y c.requires.1.1.0 c.requires.1.1.1.0 c.second_of.ensures.0, omega (arith, c.args.scope.now.table.shape.few_runs, c.requires.1.1.1.1))

pub ask-requires : goal.ask-requires
ask-requires c =
    (left-small c.args.scope.now.table.bytes.now c.args.scope.now.table.rows c.args.scope.now.table.runs c.args.scope.now.table.shape c.args.q c.requires.0 c.requires.1.0 c.left_of-2.ensures.0, omega (arith, c.args.scope.now.table.shape.few_runs, c.args.scope.now.within))

pub ask-requires-then-ask : goal.ask-requires-then-ask
ask-requires-then-ask c =
    (second-small c.args.scope.now.table.bytes.now c.args.scope.now.table.rows c.args.scope.now.table.runs c.args.scope.now.table.shape c.args.q c.requires.0 c.requires.1.0 c.second_of-then-ask.ensures.0, omega (arith, c.args.scope.now.table.shape.few_runs, c.args.scope.now.within))

pub returns-then-ask : goal.returns-then-ask
returns-then-ask c =
    shared-both c.args.scope.now.table.bytes.now c.args.scope.now.table.rows c.args.scope.now.table.runs c.args.classes.now c.args.scope.now.run c.args.q c.args.y c.args.w c.left_of.ensures.0 c.class_at-first.ensures c.left_of-2.ensures.0 c.ask.ensures c.second_of.ensures.0 c.class_at-second.ensures c.second_of-then-ask.ensures.0 c.ask-then-ask.ensures

pub returns-else-ask : goal.returns-else-ask
returns-else-ask c =
    shared-refused c.args.scope.now.table.bytes.now c.args.scope.now.table.rows c.args.scope.now.table.runs c.args.classes.now c.args.scope.now.run c.args.q c.args.y c.args.w c.left_of.ensures.0 c.class_at-first.ensures c.left_of-2.ensures.0 c.ask.ensures c.if-ask.false _ _
