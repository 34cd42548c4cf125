-- `runs::runs_of` meets its contract. The loop's invariant: the runs below k are found. Assumes nothing.
use Prim.Native.Nat.{◌≤◌}
use mathlib.Core.Path.{◌≡◌}
use Rattle.semantics.specs.Answer.{accepted}
use Rattle.semantics.specs.Scenario.{Scenario, opened}
use Rattle.runs.specs.laws.Listed.{FoundTo}
use Rattle.runs.proofs.runs_of.Given as goal

abbrev pub invariant-loop-k : goal.invariant-loop-k
invariant-loop-k l =
    (l.count ≤ 4) × (l.roles ≤ 4) × ((sc : Scenario) → opened l.file ≡ accepted sc → FoundTo l.file sc l.count l.roles l.l.runs.start l.k l.runs)
