-- A run of a state as the code has it, and the claims of its events. Assumes nothing.
use Rattle.std.specs.Prelude.{ℕ, suc, ◌≡◌, Bool, true, List, length}
use Rattle.std.proofs.Math.Option.{Option, some}
use Rattle.std.proofs.Math.ListN.{get_elem?}
use Rattle.semantics.specs.Roles.{secrecy}
use Rattle.semantics.specs.Basic.{and_then, provided}
use Rattle.semantics.specs.Runs.{Run, all_trusted}
use Rattle.semantics.specs.Scenario.{Scenario}
use Rattle.semantics.specs.Guarantee.{Guarantee}
use Rattle.semantics.specs.State.{Progress, State, events_of, Claim}
use Rattle.semantics.specs.Verdict.{broken_event, broken_in_run, broken}
use Rattle.knowledge.specs.Marks.{Exact}
use Rattle.runs.specs.declared.Runs.{Runs}
use Rattle.runs.specs.Runs.{RunsAt}
use Rattle.rows.specs.Rows.{rows_of}
use Rattle.state.specs.Readings.{sets_of, readings}
use Rattle.runs.specs.declared.opened.Opened.{Opened}
use Rattle.runs.specs.Opened.{Gives}
use Rattle.state.specs.State.{IsState}
use Rattle.state.specs.declared.State.{State as CodeState}
use Rattle.answers.specs.Answers.{claimed_as}
use Rattle.answers.specs.Answers.{Claimed}

-- run k of a scenario, from 0, its progress in a state, and marks that are exact there
pub record AtRun (file : List ℕ) (r : Runs) (sc : Scenario) (d : State) (marks : List Bool) (k : ℕ) (run : Run) (p : Progress) : Type 0 where
  pub runs : RunsAt file sc r
  pub good : Guarantee sc
  pub is_run : get_elem? sc.runs k ≡ some run
  pub is_progress : get_elem? d.progress k ≡ some p
  pub exact : Exact sc.rows (length sc.runs) (readings sc (sets_of d.progress)) d.known marks

-- the claim of event j of run k
abbrev pub claim_at : ℕ → ℕ → Claim
claim_at k j = record { run = suc k; event = j; kind = secrecy }

-- the same, if there is such an event and it is a claim that is broken
abbrev pub event_breaks : Scenario → State → ℕ → Run → Progress → ℕ → Option Claim
event_breaks sc d k run p j = and_then (get_elem? (events_of sc run) j) (broken_event sc d (suc k) run p j)

-- whether event j of a run whose agents are all trusted is a broken claim
abbrev pub AnswersEvent : List ℕ → Runs → List Bool → ℕ → ℕ → Bool → Type 0
AnswersEvent file r marks k j b =
    (sc : Scenario) (d : State) (run : Run) (p : Progress) → AtRun file r sc d marks k run p → true ≡ all_trusted sc.rows run → event_breaks sc d k run p j ≡ provided b (claim_at k j)

-- the first broken claim of a run that has made so many events
abbrev pub AnswersRun : List ℕ → List ℕ → Runs → List Bool → ℕ → ℕ → Claimed → Type 0
AnswersRun file t r marks done k c =
    (sc : Scenario) (d : State) (run : Run) (p : Progress) → AtRun file r sc d marks k run p → sc.rows ≡ rows_of t → done ≡ p.done → c ≡ claimed_as (broken_in_run sc d k)

-- the first broken claim of a state with these positions and marks
abbrev pub AnswersState : Opened → List ℕ → List Bool → Claimed → Type 0
AnswersState o done marks c =
    (sc : Scenario) (d : State) (s : CodeState) → Gives o sc → IsState sc d s → done ≡ s.done → marks ≡ s.marks → c ≡ claimed_as (broken sc d)
