-- `read_fits::needs_of` meets its contract. The loop's invariant: every row that needs a class gets its value, if row r gets the value of the class. Assumes nothing.
use Rattle.read_fits.specs.laws.Fits.{needed-start, needs-more, needs-refused}
use native.Mathlib.Omega.{arith}
use Rattle.read_fits.proofs.needs_of.Goals as goal

pub loop-q-init : goal.loop-q-init
loop-q-init c = λ z g. needed-start z (omega (arith, c.args.scope.now.table.shape.few, c.requires)) g

pub loop-q-preserved : goal.loop-q-preserved
loop-q-preserved c = needs-more c.args.scope.now.table.bytes.now c.args.scope.now.table.rows c.args.scope.now.table.runs c.args.classes.now c.args.scope.now.run c.args.r c.args.class c.loop-q.invariant c.follow.ensures

pub returns-then-not-follow : goal.returns-then-not-follow
returns-then-not-follow c =
    needs-refused c.args.scope.now.table.bytes.now c.args.scope.now.table.rows c.args.scope.now.table.runs c.args.classes.now c.args.scope.now.run c.args.r c.args.class c.loop-q.invariant c.follow.ensures c.if-not-follow.true

pub returns-else-not-follow : goal.returns-else-not-follow
returns-else-not-follow c = needs-more c.args.scope.now.table.bytes.now c.args.scope.now.table.rows c.args.scope.now.table.runs c.args.classes.now c.args.scope.now.run c.args.r c.args.class c.loop-q.invariant c.follow.ensures
