-- What follows from a file as one value. Assumes nothing.
use Rattle.std.specs.Prelude.{ℕ, ◌<◌, ◌≤◌}
use Rattle.std.specs.Coded.{le_prop}
use Rattle.std.proofs.Math.Logic.{∥∥₁_elim}
use Rattle.semantics.specs.Scenario.{Scenario}
use Rattle.semantics.specs.Guarantee.{Guarantee}
use Rattle.runs.specs.Runs.{RunsAt, run_at}
use Rattle.runs.specs.laws.Event.{SomeEvent}
use Rattle.runs.specs.declared.opened.Opened.{Opened}

-- a bound that follows from a run of any scenario whose runs stand in the file,
pub run-known : (o : Opened) {k m n : ℕ} → k < o.runs.count → ((sc : Scenario) × RunsAt o.file.now sc o.runs × Guarantee sc × (k < o.runs.count) → m ≤ n) → m ≤ n
run-known o below follows = ∥∥₁_elim o.placed le_prop (λ w. follows (w.0, w.1, w.2, below))

-- and from one of its events
pub event-known : (o : Opened) {k j m n : ℕ} → (k < o.runs.count) × (j < (run_at o.runs k).events) → (SomeEvent o.file.now o.runs k j → m ≤ n) → m ≤ n
event-known o within follows = ∥∥₁_elim o.placed le_prop (λ w. follows (w.0, w.1, w.2, within.0, within.1))
