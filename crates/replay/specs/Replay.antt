-- Replay's trace followed whole. Assumes nothing.
use Rattle.std.specs.Prelude.{ℕ, List, length}
use Rattle.std.proofs.Math.Option.{Option}
use Rattle.semantics.specs.Answer.{Answer, accepted, ◌>>=◌}
use Rattle.semantics.specs.Scenario.{Scenario}
use Rattle.semantics.specs.State.{initial, Claim}
use Rattle.semantics.specs.Replay.{replayed_from}
use Rattle.semantics.specs.Verdict.{broken}

-- a trace followed through a scenario
unfoldable pub followed_of : Scenario → List ℕ → Answer (Option Claim)
followed_of sc trace = do
  d ← replayed_from (length trace) sc 0 (initial sc) trace
  accepted (broken sc d)
