-- The place of an absent row, as Derive's code finds it. Assumes nothing.
use Rattle.std.specs.Prelude.{ℕ, ◌≡◌, List, length}
use Rattle.semantics.specs.Table.{Row}
use Rattle.semantics.specs.Derive.{absent_from}
use Rattle.rows.specs.Rows.{place_as}
use Rattle.rows.specs.Rows.{Place}

-- the place of an absent row, for any table with so many rows
abbrev pub AbsentAt : ℕ → List ℕ → ℕ → Place → Type 0
AbsentAt n list target place = (rows : List Row) → n ≡ length rows → place ≡ place_as (absent_from rows 0 list target)
