-- `lowest_ready` finds the lowest run whose next event is a send or claim. Assumes nothing.
use Rattle.std.proofs.Common.{ℕ, ◌≤◌, ◌<◌, List, true, false, arith, rules, tests, Option, Some, None, MatchOption}
use Rattle.std.proofs.lemmas.Iterator.{first_from_Range}
use Rattle.runs.specs.declared.opened.Opened.{Opened}
use Rattle.search_runs.specs.Runs.{TellsReady, NoneReady, LowestReady}
use Rattle.search_runs.specs.laws.Runs.{UnreadyTo, lowest-here, lowest-none}
use Rattle.search_runs.proofs.lowest_ready.Goals as goal

-- what is found among all runs
lowest : (o : Opened) (done : List ℕ) (k : Option ℕ)
    → MatchOption k (UnreadyTo o done o.runs.count) (λ k. (0 ≤ k) × (k < o.runs.count) × TellsReady o done k true × UnreadyTo o done k)
    → MatchOption k (NoneReady o done) (LowestReady o done)
lowest o done None unready = lowest-none unready (omega arith)
lowest o done (Some k) found = lowest-here found.3 found.1 found.2

pub returns : goal.returns
returns c =
    let o = c.args.opened.now in
    lowest o c.args.done c.find.result
    (first_from_Range _ _ _ c.find.result (λ k. TellsReady o c.args.done k true) (λ k. TellsReady o c.args.done k false) c.find.ensures.ran
    (λ x q k. search (rules, tests)) (λ x q k. (search (rules, tests), search (rules, tests))))
