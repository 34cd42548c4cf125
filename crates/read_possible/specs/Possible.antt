-- Rows that can still be derivable once more variables of a run are set. Assumes nothing.
use Rattle.std.specs.Prelude.{ℕ, ◌≡◌, Bool, true, List}
use Rattle.std.proofs.Math.Option.{some}
use Rattle.semantics.specs.Term.{Term}
use Rattle.semantics.specs.Inference.{Derives}
use Rattle.semantics.specs.Table.{Row}
use Rattle.cells.specs.Cells.{Readings, cell_value}
use Rattle.classes.specs.Classes.{Classes, Grows}
use Rattle.knowledge.specs.Marks.{Exact, Celled}

-- What the test of a partial choice promises, whatever the readings and whatever is known: a row whose value derives once more is set has passed the test.
abbrev pub Possible : List Row → ℕ → List ℕ → List Bool → ℕ → ℕ → Bool → Type 0
Possible rows runs classes marks u x answer =
    (old new : Readings) (known : List Term) → Classes rows runs (cell_value old rows) classes → Exact rows runs old known marks → Celled rows runs old known → Grows u old new
    → (t : Term) → cell_value new rows x u ≡ some t → Derives known t → answer ≡ true
