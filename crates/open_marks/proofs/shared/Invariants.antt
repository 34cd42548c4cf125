-- `shared` gives the rows that are marked in both. The loop's invariant: of the rows passed just these are marked, and no other. Assumes nothing.
use Rattle.std.specs.Prelude.{◌≡◌, length}
use Rattle.open_marks.specs.Sure.{Shared}
use Rattle.open_marks.proofs.shared.Given as goal

abbrev pub invariant-loop-x : goal.invariant-loop-x
invariant-loop-x l = (length l.both ≡ 480) × Shared l.x l.one l.other l.both
