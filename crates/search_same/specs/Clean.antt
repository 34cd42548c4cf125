-- Entries of which none breaks a claim, and states with equal positions and names. Assumes nothing.
use Rattle.std.specs.Prelude.{ℕ, suc, ◌<◌, ◌≡◌, length, get_or}
use mathlib.Core.List.{List, Memᴰ}
use Rattle.std.proofs.Math.Option.{none, some}
use Rattle.semantics.specs.Term.{VariableType, variable}
use Rattle.semantics.specs.Runs.{atom_at}
use Rattle.semantics.specs.Scenario.{Scenario}
use Rattle.semantics.specs.Verdict.{Entry}
use Rattle.cells.specs.Cells.{cell_of, absent}
use Rattle.search_breaks.specs.Walk.{judged}

-- so many entries, none of which breaks a claim
pub record Clean (sc : Scenario) (es : List Entry) (m : ℕ) : Type 0 where
  pub unbroken : (e : Entry) → Memᴰ e es → judged sc e ≡ none
  pub counted : length es ≡ m

-- equal positions of every run
abbrev pub SamePositions : Scenario → List ℕ → List ℕ → Type 0
SamePositions sc done done' = (k : ℕ) → k < length sc.runs → get_or done k 0 ≡ get_or done' k 0

-- equal names of every variable of the table in every run
abbrev pub SameNames : Scenario → List ℕ → List ℕ → Type 0
SameNames sc names names' =
    (x k num : ℕ) (type : VariableType) → k < length sc.runs → x < length sc.rows → atom_at sc.rows x ≡ some (variable num type)
    → get_or names (cell_of x (suc k)) absent ≡ get_or names' (cell_of x (suc k)) absent
