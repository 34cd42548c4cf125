-- The first broken claim of a state: its runs are looked at in order. Assumes nothing.
use Rattle.std.specs.Prelude.{ℕ, ◌<◌, ◌≤◌, ◌≡◌, Bool, List, length, get_or, None, Some, MatchOption}
use Rattle.std.proofs.Common.{arith, ◌∙◌}
use Rattle.std.proofs.Math.Path.{refl, sym, ap}
use Rattle.std.proofs.Math.Option.{Option, none, some}
use Rattle.std.proofs.Math.ListN.{get_elem?}
use Rattle.semantics.specs.Scenario.{Scenario}
use Rattle.semantics.specs.State.{Progress, State}
use Rattle.semantics.specs.State as definitions
use Rattle.semantics.specs.Verdict.{broken_in_run, broken}
use Rattle.semantics.proofs.laws.List.{get_elem-there}
use Rattle.semantics.proofs.laws.Broken.{first_found, first-none}
use Rattle.knowledge.specs.Marks.{Exact}
use Rattle.runs.specs.declared.Runs.{Runs}
use Rattle.runs.specs.declared.opened.Opened.{Opened}
use Rattle.state.specs.declared.State.{State as CodeState}
use Rattle.state.specs.Readings.{sets_of, readings}
use Rattle.runs.specs.Given.{Given}
use Rattle.state.specs.State.{IsState}
use Rattle.claims.specs.AtRun.{AnswersRun, AnswersState}
use Rattle.answers.specs.Answers.{claimed_as}
use Rattle.answers.specs.declared.Claim.{Claim}
use Rattle.answers.specs.Answers.{Claimed}

-- what a state's marks and positions say
pub record StandsIn (file t : List ℕ) (n : ℕ) (r : Runs) (marks : List Bool) (done : List ℕ) (sc : Scenario) (d : State) : Type 0 where
  pub given : Given file t n r sc
  pub progress : length d.progress ≡ length sc.runs
  pub made : (k : ℕ) (p : Progress) → get_elem? d.progress k ≡ some p → get_or done k 0 ≡ p.done
  pub exact : Exact sc.rows (length sc.runs) (readings sc (sets_of d.progress)) d.known marks

pub stands : {file t : List ℕ} {n : ℕ} {r : Runs} {sc : Scenario} {d : State} {s : CodeState} → Given file t n r sc → IsState sc d s → StandsIn file t n r s.marks s.done sc d
stands given is = record { given = given; progress = is.placed.progress; made = is.placed.positions; exact = is.arrays.exact }

module _ (file t : List ℕ) (n : ℕ) (r : Runs) (marks : List Bool) (done : List ℕ) (k : ℕ) where
  -- what is found in run k
  abbrev pub FoundIn : Claimed → Type 0
  FoundIn found = AnswersRun file t r marks (get_or done k 0) k found

  -- none of the first k runs breaks a claim
  abbrev pub NoneBelow : Type 0
  NoneBelow = (sc : Scenario) (d : State) → StandsIn file t n r marks done sc d → (i : ℕ) → i < k → broken_in_run sc d i ≡ none

-- a claim is answered where there is one
is-broken : (o : Option definitions.Claim) (c : Claim) → claimed_as o ≡ Some c → (x : definitions.Claim) × (o ≡ some x)
is-broken none c e = let z : ◌≡◌ {A = ℕ} 0 1 = cc in absurd (omega arith)
is-broken (some x) c e = (x, refl)

is-nothing : (o : Option definitions.Claim) → claimed_as o ≡ None → o ≡ none
is-nothing none e = refl
is-nothing (some x) e = cc

module _ (file t : List ℕ) (n : ℕ) (r : Runs) (marks : List Bool) (done : List ℕ) where
  -- what is found in a run is so for the state
  found_here : (k : ℕ) → k < r.count → (found : Claimed) → FoundIn file t n r marks done k found → (sc : Scenario) (d : State) → StandsIn file t n r marks done sc d → found ≡ claimed_as (broken_in_run sc d k)
  found_here k below found here sc d is =
      let run = get_elem-there sc.runs k (omega (arith, is.given.runs.count)) in
      let p = get_elem-there d.progress k (omega (arith, is.given.runs.count, is.progress)) in
      here sc d run.0 p.0
      (record { runs = is.given.runs; good = is.given.good; is_run = run.1; is_progress = p.1; exact = is.exact }) is.given.rows (is.made k p.0 p.1)

  -- runs that are each answered as none break none
  pub none-below : (k : ℕ) → k ≤ r.count → ((i : ℕ) → i < k → FoundIn file t n r marks done i None) → NoneBelow file t n r marks done k
  none-below k l each sc d is i m = is-nothing (broken_in_run sc d i) (sym (found_here i (omega arith) None (each i m) sc d is))

  module _ (k : ℕ) (before : NoneBelow file t n r marks done k) where
    -- with all runs passed there is none
    pub state-none : r.count ≤ k → (sc : Scenario) (d : State) → StandsIn file t n r marks done sc d → None ≡ claimed_as (broken sc d)
    unfolding broken
    state-none l sc d is = rw (first-none (broken_in_run sc d) 0 (length sc.runs) (λ i f m. before sc d is i (omega (arith, is.given.runs.count)))) refl

    -- a claim that is found, after none, is the first
    pub state-broken : k < r.count → (c : Claim) → FoundIn file t n r marks done k (Some c) → (sc : Scenario) (d : State) → StandsIn file t n r marks done sc d → Some c ≡ claimed_as (broken sc d)
    unfolding broken
    state-broken below c here sc d is =
        let h = found_here k below (Some c) here sc d is in
        let x = is-broken (broken_in_run sc d k) c (sym h) in
        h ∙ ap claimed_as (x.1 ∙ sym (first_found (broken_in_run sc d) 0 (length sc.runs) k (omega arith) (omega (arith, is.given.runs.count)) (λ i f. before sc d is i) x.1))

-- what is answered of none and of a claim is answered
pub answered : (o : Opened) (done : List ℕ) (marks : List Bool) (c : Claimed) → MatchOption c (AnswersState o done marks None) (λ y. AnswersState o done marks (Some y)) → AnswersState o done marks c
answered o done marks None h = h
answered o done marks (Some y) h = h
