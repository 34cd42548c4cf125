-- `entered` fills in the names of a run. Assumes nothing.
use Rattle.rows.specs.Rows.{rows_of}
use Rattle.state_start.specs.laws.Start.{EnteredTo}
use Rattle.state_start.proofs.entered.Given as goal

abbrev pub invariant-loop-r : goal.invariant-loop-r
invariant-loop-r l = EnteredTo (rows_of l.t.bytes.now) l.u l.agents l.initial.more l.r l.more
