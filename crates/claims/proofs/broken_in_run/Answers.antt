-- `broken_in_run` answers the first broken claim of a run: the first event that is one, if the run's agents are all trusted. Assumes nothing.
use Rattle.std.proofs.Common.{ℕ, ◌≤◌, ◌<◌, Bool, List, Option, Some, None, MatchOption, true, false, arith, rules, tests, sym, ◌∙◌}
use Rattle.std.proofs.lemmas.Iterator.{first_from_Range}
use Rattle.runs.specs.declared.Runs.{Runs}
use Rattle.claims.specs.AtRun.{AnswersEvent}
use Rattle.claims.specs.laws.Run.{none-to, run-untrusted, run-broken, run_none}
use Rattle.claims.proofs.broken_in_run.Goals as goal
use Rattle.claims.proofs.broken_in_run.Goals.{After-find}

pub returns-then-not-all_trusted : goal.returns-then-not-all_trusted
returns-then-not-all_trusted c sc d run p at same made =
    run-untrusted at (sym c.if-not-all_trusted.true ∙ c.all_trusted.ensures sc run same at.runs at.good at.is_run)

-- the first of so many events that is a broken claim, or that none is
abbrev First : List ℕ → Runs → List Bool → ℕ → ℕ → Option ℕ → Type 0
First file r marks k done o =
    MatchOption o ((i : ℕ) → 0 ≤ i → i < done → AnswersEvent file r marks k i false)
    (λ j. (0 ≤ j) × (j < done) × AnswersEvent file r marks k j true × ((i : ℕ) → 0 ≤ i → i < j → AnswersEvent file r marks k i false))

-- what is found among the events that the run has made
found : (c : After-find) → First c.args.opened.now.file.now c.args.opened.now.runs c.args.marks.now c.args.k c.args.done c.find.result
found c =
    let answers = λ (j : ℕ) (b : Bool). AnswersEvent c.args.opened.now.file.now c.args.opened.now.runs c.args.marks.now c.args.k j b in
    first_from_Range _ _ _ c.find.result (λ j. answers j true) (λ j. answers j false) c.find.ensures.ran (λ x q k. search (rules, tests)) (λ x q k. (search (rules, tests), search (rules, tests)))

pub returns : goal.returns
returns c sc d run p at same made =
    let here : First c.args.opened.now.file.now c.args.opened.now.runs c.args.marks.now c.args.k c.args.done (Some c.in_ok-event.event) = rw c.in_ok-event.was at (found (goal.at.returns c).After-find) in
    run-broken at (sym c.if-not-all_trusted.false ∙ c.all_trusted.ensures sc run same at.runs at.good at.is_run) c.in_ok-event.event
    (none-to _ _ _ _ _ (λ i l. here.3 i (omega arith) l)) made here.1 here.2

pub returns-in_err-event : goal.returns-in_err-event
returns-in_err-event c sc d run p at same made =
    let none : First c.args.opened.now.file.now c.args.opened.now.runs c.args.marks.now c.args.k c.args.done None = rw c.in_err-event.was at (found (goal.at.returns-in_err-event c).After-find) in
    rw c.from_residual.ensures (run_none at (sym c.if-not-all_trusted.false ∙ c.all_trusted.ensures sc run same at.runs at.good at.is_run) c.args.done
    (none-to _ _ _ _ _ (λ i l. none i (omega arith) l)) made (omega arith))
