-- `read_possible::possible` meets its contract. The loop's invariant: every test so far keeps the promise, and a row that is not tested passes. Assumes nothing.
use Rattle.read_possible.specs.laws.Tests.{tested-start}
use Rattle.read_possible.proofs.possible.Goals as goal

pub loop-r-init : goal.loop-r-init
loop-r-init c = tested-start c.args.scope.now.table.bytes.now c.args.scope.now.table.runs c.args.classes.now c.args.marks.now c.args.scope.now.run
