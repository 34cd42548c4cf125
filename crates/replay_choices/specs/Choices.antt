-- New values of a step as the code answers them: whether they suit. Assumes nothing.
use Rattle.std.specs.Prelude.{ℕ, ◌≡◌, true, false, List, length, Option, Some, None}
use Rattle.semantics.specs.Scenario.{Scenario}
use Rattle.semantics.specs.State as definitions
use Rattle.semantics.specs.State.{Value, Active}
use Rattle.semantics.specs.Moves.{to_set}
use Rattle.semantics.specs.Replay.{suits, values_in}
use Rattle.records.specs.Kinds.{byte_of}
use Rattle.runs.specs.declared.RunEvent.{RunEvent}
use Rattle.state.specs.declared.State.{State}
use Rattle.state.specs.State.{Sets, NextMove}

-- the names with new values, if these suit the next event of a run
pub data Suited (sc : Scenario) (d : definitions.State) (a : Active) (vs : List Value) (chosen : Option (List ℕ)) : Type 0 where
  is_suited : {names : List ℕ} → chosen ≡ Some names → suits sc.rows (length sc.runs) (to_set sc a) vs ≡ true → Sets sc d a vs names → Suited sc d a vs chosen
  not_suited : chosen ≡ None → suits sc.rows (length sc.runs) (to_set sc a) vs ≡ false → Suited sc d a vs chosen

-- the same for a read of run k whose pattern is a row, from the names of the state
abbrev pub SuitedRead : List ℕ → ℕ → ℕ → ℕ → List ℕ → List ℕ → Option (List ℕ) → Type 0
SuitedRead t runs k row names values chosen =
    (e : RunEvent) (sc : Scenario) (d : definitions.State) (s : State) (a : Active) → NextMove t runs k e sc d s a → names ≡ s.names → row ≡ e.row → byte_of e.kind ≡ 1
    → Suited sc d a (values_in values) chosen
