-- The tests of rows: what they ask and what they answer. Assumes nothing.
use Rattle.std.specs.Prelude.{ℕ, ◌<◌, ◌≡◌, Bool, true, false, List, length, get_or}
use Rattle.rows.specs.Rows.{rows_of}
use Rattle.knowledge.specs.Steps.{kind_at, Inside}
use Rattle.cells.specs.declared.Scope.{Scope}
use Rattle.read_fits.specs.Fits.{CanTake}
use Rattle.read_possible.specs.Possible.{Possible}

-- tests of rows below 96 that each keep the promise
pub record TestedRows (bytes : List ℕ) (runs : ℕ) (classes : List ℕ) (marks : List Bool) (u : ℕ) (can : List Bool) : Type 0 where
  pub size : length can ≡ 96
  pub each : (y : ℕ) → y < 96 → Possible (rows_of bytes) runs classes marks u y (get_or can y false)

-- a test that is true where the row can take the value of a marked cell of its kind
abbrev pub TriesMarks : List ℕ → List ℕ → List Bool → Scope → ℕ → Bool → Type 0
TriesMarks bytes classes marks scope r answer =
    (y w : ℕ) → Inside scope.table.rows scope.table.runs y w → kind_at bytes y ≡ kind_at bytes r
    → CanTake bytes scope.table.rows scope.table.runs classes scope.run marks r y w → answer ≡ true
