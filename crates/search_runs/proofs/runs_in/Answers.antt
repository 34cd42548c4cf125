-- `runs_in` gives the runs that a list goes on with: all, or the lowest that sends or claims next. Assumes nothing.
use Rattle.search_runs.specs.laws.Runs.{goes-full, goes-all, goes_one}
use Rattle.search_runs.proofs.runs_in.Goals as goal

pub returns-in-Full : goal.returns-in-Full
returns-in-Full c = rw c.in-Full.is goes-full

pub returns-in-Some : goal.returns-in-Some
returns-in-Some c = rw c.in-Short.is (goes_one c.in-Some.ensures)

pub returns-in-None : goal.returns-in-None
returns-in-None c = rw c.in-Short.is (goes-all c.in-None.ensures)
