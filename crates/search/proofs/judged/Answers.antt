-- `judged` is the verdict on an accepted file, by the walk through its list. Assumes nothing.
use Rattle.search_runs.specs.Runs.{list_as}
use Rattle.runs.specs.Opened.{scenario_of}
use Rattle.runs.specs.laws.Blocks.{opened-framed}
use Rattle.search.specs.laws.Verdict.{verdict-walked, opened-budget, first-cut}
use Rattle.search.proofs.judged.Goals as goal

pub budget-budget-requires : goal.budget-budget-requires
budget-budget-requires c = (opened-framed _ _ c.requires.0.is_opened).size

pub returns-then-budget-eq0 : goal.returns-then-budget-eq0
returns-then-budget-eq0 c =
    let o = c.args.opened.now in
    let v = verdict-walked (list_as c.args.list) (scenario_of o) c.args.trace.now (opened-budget _ _ c.requires.0.is_opened c.budget-budget.ensures.0) (first-cut _ _ c.if-budget-eq0.true c.args.trace.now) c.verdict_of.ensures in
    record { value = v.0; trace_after = v.1 }

pub walk_all-walked-requires : goal.walk_all-walked-requires
walk_all-walked-requires c =
    let p = c.requires in
    (p.0, (p.1, c.budget-budget.ensures.1))

pub returns : goal.returns
returns c =
    let o = c.args.opened.now in
    let v = verdict-walked (list_as c.args.list) (scenario_of o) c.args.trace.now (opened-budget _ _ c.requires.0.is_opened c.budget-budget.ensures.0) c.walk_all-walked.ensures c.verdict_of-2.ensures in
    record { value = v.0; trace_after = v.1 }
