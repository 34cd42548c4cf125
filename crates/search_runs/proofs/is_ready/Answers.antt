-- `is_ready` tells whether a run's next event is a send or claim, by its kind. Assumes nothing.
use Rattle.search_runs.specs.laws.Runs.{ready-ended, ready-told}
use Rattle.search_runs.proofs.is_ready.Goals as goal

pub returns-in-Some : goal.returns-in-Some
returns-in-Some c = ready-told c.requires c.in-Some.ensures.0 _ c.in-Some.ensures.1 c.ne.ensures

pub returns-in-None : goal.returns-in-None
returns-in-None c = ready-ended c.requires c.in-None.ensures
