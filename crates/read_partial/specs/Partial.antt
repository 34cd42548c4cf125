-- What the test of a partial choice of a read's values promises. Assumes nothing.
use Rattle.std.specs.Prelude.{ℕ, ◌≡◌, Bool, false, List, ◌++◌, length}
use Rattle.std.proofs.Math.Option.{none}
use Rattle.semantics.specs.Term.{Atom}
use Rattle.semantics.specs.Scenario.{Scenario}
use Rattle.semantics.specs.State as definitions
use Rattle.semantics.specs.State.{Value, Active}
use Rattle.semantics.specs.Moves.{performed}
use Rattle.semantics.specs.Allowed.{Takes}
use Rattle.records.specs.Kinds.{byte_of}
use Rattle.runs.specs.declared.RunEvent.{RunEvent}
use Rattle.state.specs.declared.State.{State}
use Rattle.state.specs.State.{NextMove}
use Rattle.variables.specs.Variables.{unset_from}
use Rattle.values.specs.Values.{Setting, PartArrays}

-- Where the test says no, no completion of the choice by values that the other variables may take is allowed.
abbrev pub Tested : List ℕ → ℕ → ℕ → RunEvent → List ℕ → List Bool → Bool → Type 0
Tested t runs k e classes marks answer =
    (sc : Scenario) (d : definitions.State) (s : State) (a : Active) (from : ℕ) (xs : List Atom) (vs ws : List Value) (names : List ℕ) → NextMove t runs k e sc d s a → byte_of e.kind ≡ 1
    → Setting sc d a s.names from xs vs names → PartArrays sc d a xs vs classes marks → Takes sc.rows (length sc.runs) (unset_from sc.rows a.progress.values a.event.row from) ws → answer ≡ false → performed sc d a (vs ++ ws) ≡ none
