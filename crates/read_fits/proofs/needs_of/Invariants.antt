-- `read_fits::needs_of` meets its contract. The loop's invariant: every row that needs a class gets its value, if row r gets the value of the class. Assumes nothing.
use Rattle.read_fits.specs.laws.Fits.{Needs}
use Rattle.read_fits.proofs.needs_of.Given as goal

abbrev pub invariant-loop-q : goal.invariant-loop-q
invariant-loop-q l = Needs l.scope.table.bytes.now l.scope.table.rows l.scope.table.runs l.classes l.scope.run l.r l.class l.need
