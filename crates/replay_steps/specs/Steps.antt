-- One step of a trace as the code answers it. Assumes nothing.
use Rattle.std.specs.Prelude.{ℕ, ◌≡◌, Bool, List, Option as Answered, Some, None}
use Rattle.std.proofs.Math.Option.{Option, none, some}
use Rattle.semantics.specs.Table.{Row}
use Rattle.semantics.specs.Scenario.{Scenario}
use Rattle.semantics.specs.State as definitions
use Rattle.semantics.specs.Moves.{Move}
use Rattle.semantics.specs.Replay.{after, first_step}
use Rattle.classes.specs.Classes.{Refilled}
use Rattle.knowledge.specs.Marks.{Settled}
use Rattle.state.specs.State.{IsState}
use Rattle.replay_steps.specs.declared.Stepped.{Stepped}

-- what the first step of some bytes does to a state
abbrev pub step_after : Scenario → definitions.State → Option (Move × ℕ) → Option (definitions.State × ℕ)
step_after sc d none = none
step_after sc d (some step) = elim (after sc d step.0) [ none ↦ none | some d' ↦ some (d', step.1) ]

-- a step that is allowed, with how many bytes it takes, or none
pub data StepDone (sc : Scenario) (d : definitions.State) (bytes : List ℕ) (stepped : Answered Stepped) : Type 0 where
  is_step :
      {done : Stepped} {d' : definitions.State} → stepped ≡ Some done → step_after sc d (first_step bytes) ≡ some (d', done.length) → IsState sc d' done.state
      → StepDone sc d bytes stepped
  no_step : stepped ≡ None → step_after sc d (first_step bytes) ≡ none → StepDone sc d bytes stepped

-- classes and marks for an event of run u: worked on for a read, else as they were
pub data Worked (rows : List Row) (runs u kind : ℕ) (names classes : List ℕ) (marks : List Bool) (classes' : List ℕ) (marks' : List Bool) : Type 0 where
  for_read : kind ≡ 1 → Refilled rows runs u names classes classes' → Settled rows runs classes' marks marks' → Worked rows runs u kind names classes marks classes' marks'
  for_other : (kind ≡ 1 → ⊥) → classes' ≡ classes → marks' ≡ marks → Worked rows runs u kind names classes marks classes' marks'
