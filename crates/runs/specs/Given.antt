-- What an accepted file gives. Assumes nothing.
use Rattle.std.specs.Prelude.{ℕ, ◌≤◌, ◌≡◌, List, length}
use Rattle.semantics.specs.Scenario.{Scenario}
use Rattle.semantics.specs.Guarantee.{Guarantee}
use Rattle.rows.specs.Rows.{rows_of, Shape}
use Rattle.runs.specs.declared.Runs.{Runs}
use Rattle.runs.specs.Runs.{RunsAt}

-- an accepted file, its table, and where its runs stand
pub record Given (file t : List ℕ) (n : ℕ) (r : Runs) (sc : Scenario) : Type 0 where
  pub size : length file ≤ 4096
  pub runs : RunsAt file sc r
  pub shape : Shape t n r.count
  pub rows : sc.rows ≡ rows_of t
  pub good : Guarantee sc
