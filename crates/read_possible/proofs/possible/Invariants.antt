-- `read_possible::possible` meets its contract. The loop's invariant: every test so far keeps the promise, and a row that is not tested passes. Assumes nothing.
use Rattle.read_possible.specs.Tests.{TestedRows}
use Rattle.read_possible.proofs.possible.Given as goal

abbrev pub invariant-loop-r : goal.invariant-loop-r
invariant-loop-r l = TestedRows l.scope.table.bytes.now l.scope.table.runs l.classes l.marks l.scope.run l.can
