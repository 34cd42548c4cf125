-- The first broken claim of a run: its events are looked at in order, if its agents are all trusted. Assumes nothing.
use Prim.Native.Nat.{ℕ, suc, ◌+◌, ◌<◌, ◌≤◌}
use Rattle.std.proofs.Common.{add-one, arith}
use Rattle.std.specs.Prelude.{◌≡◌, Bool, true, false, ◌&&◌, List, map, None, Some}
use Rattle.std.proofs.Math.Path.{refl}
use Rattle.std.proofs.Math.Option.{none}
use Rattle.std.proofs.Math.ListN.{get_elem?}
use Rattle.semantics.specs.Basic.{provided, first_of, numbers_from}
use Rattle.semantics.specs.Roles.{claim_kind, Event}
use Rattle.semantics.specs.Runs.{Run, all_trusted}
use Rattle.semantics.specs.Scenario.{Scenario}
use Rattle.semantics.specs.State.{Progress, State, events_of}
use Rattle.semantics.specs.Verdict.{is_against, broken_event, broken_in_run}
use Rattle.semantics.proofs.laws.Broken.{first_found, first-none}
use Rattle.runs.specs.declared.Runs.{Runs}
use Rattle.claims.specs.AtRun.{AtRun, event_breaks, AnswersEvent}
use Rattle.answers.specs.Answers.{claimed_as}
use Rattle.answers.specs.declared.ClaimKind.TheVariants.{Secrecy}
use Rattle.claims.specs.laws.Event.{and_then-none}

-- none of the first j events of a run is a broken claim
abbrev pub NoneTo : List ℕ → Runs → List Bool → ℕ → ℕ → Type 0
NoneTo file r marks k j = (sc : Scenario) (d : State) (run : Run) (p : Progress) → AtRun file r sc d marks k run p → true ≡ all_trusted sc.rows run → (i : ℕ) → i < j → event_breaks sc d k run p i ≡ none

-- the first j events, each answered as none
pub none-to : (file : List ℕ) (r : Runs) (marks : List Bool) (k j : ℕ) → ((i : ℕ) → i < j → AnswersEvent file r marks k i false) → NoneTo file r marks k j
none-to file r marks k j each sc d run p at trusts i l = each i l sc d run p at trusts

module _ {file : List ℕ} {r : Runs} {sc : Scenario} {d : State} {marks : List Bool} {k : ℕ} {run : Run} {p : Progress} (at : AtRun file r sc d marks k run p) where
  -- the first broken claim of the run is the first of its events'
  in-run : broken_in_run sc d k ≡ first_of (map (event_breaks sc d k run p) (numbers_from 0 p.done))
  unfolding broken_in_run
  in-run = rw (at.is_run, at.is_progress) refl

  -- an event of a run with an untrusted agent is none
  untrusted-event : false ≡ all_trusted sc.rows run → (j : ℕ) (ev : Event) → broken_event sc d (suc k) run p j ev ≡ none
  unfolding broken_event
  untrusted-event e j ev =
      and_then-none (claim_kind ev.kind) (λ x. provided (all_trusted sc.rows run && is_against sc d (suc k) run p ev x) (record { run = suc k; event = j; kind = x }))
      (λ x. rw (← e) refl)

  -- a run with an untrusted agent breaks none
  pub run-untrusted : false ≡ all_trusted sc.rows run → None ≡ claimed_as (broken_in_run sc d k)
  run-untrusted e = rw (in-run, first-none (event_breaks sc d k run p) 0 p.done (λ i f l. and_then-none (get_elem? (events_of sc run) i) (broken_event sc d (suc k) run p i) (untrusted-event e i))) refl

  module _ (trusts : true ≡ all_trusted sc.rows run) (j : ℕ) (before : NoneTo file r marks k j) {done : ℕ} (made : done ≡ p.done) where
    -- an event that is one, after none, is the first
    pub run-broken : j < done → AnswersEvent file r marks k j true → Some (record { run = k + 1; event = j; kind = Secrecy }) ≡ claimed_as (broken_in_run sc d k)
    run-broken l here =
        rw (in-run, first_found (event_breaks sc d k run p) 0 p.done j (omega arith) (omega arith) (λ i f. before sc d run p at trusts i) (here sc d run p at trusts), add-one k) refl

    -- with all events passed there is none
    pub run_none : done ≤ j → None ≡ claimed_as (broken_in_run sc d k)
    run_none l = rw (in-run, first-none (event_breaks sc d k run p) 0 p.done (λ i f m. before sc d run p at trusts i (omega arith))) refl
