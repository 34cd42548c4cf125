-- `State::initial` is the state before any move. Assumes nothing.
use mathlib.Core.Path.{◌≡◌}
use lib.ListN.{length}
use Rattle.semantics.specs.Scenario.{Scenario}
use Rattle.runs.specs.Opened.{Gives}
use Rattle.state.specs.laws.Start.{Begun}
use Rattle.state.proofs.State.initial.Given as goal

abbrev pub invariant-loop-u : goal.invariant-loop-u
invariant-loop-u l = (length l.classes ≡ 480) × ((sc : Scenario) (given : Gives l.opened sc) → Begun given l.u l.names l.classes)
