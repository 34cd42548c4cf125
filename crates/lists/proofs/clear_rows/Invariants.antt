-- `lists::clear_rows` meets its contract. The loop's invariant: the rows below row r are marked. Assumes nothing.
use mathlib.Core.Path.{◌≡◌}
use lib.ListN.{length}
use Rattle.rows.specs.Kinds.{number_of}
use Rattle.lists.specs.laws.Clear.{Cleared}
use Rattle.lists.proofs.clear_rows.Given as goal

abbrev pub invariant-loop-r : goal.invariant-loop-r
invariant-loop-r l = (length l.clear ≡ 96) × Cleared l.t.bytes.now (number_of l.low) (number_of l.high) l.clear l.r
