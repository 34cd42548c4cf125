-- `entered` fills in the names of a run. Assumes nothing.
use native.Mathlib.Omega.{arith}
use Rattle.rows.specs.Rows.{rows_of}
use Rattle.state_start.specs.laws.Start.{entered-more, entered_all}
use Rattle.state_start.proofs.entered.Goals as goal

pub loop-r-preserved : goal.loop-r-preserved
loop-r-preserved c =
    let inv = c.loop-r.invariant in
    entered-more (rows_of c.args.t.now.bytes.now) c.args.u c.args.agents.now c.args.names c.loop-r.more c.loop-r.r c.unwrap_or.result (omega (arith, c.args.t.now.shape.few, c.loop-r-test.true)) c.cell.ensures.0 c.cell.ensures.1 inv (rw c.unwrap_or.ensures c.name_of.ensures)

pub returns : goal.returns
returns c =
    entered_all (rows_of c.args.t.now.bytes.now) c.args.u c.args.agents.now c.args.names c.loop-r.more (omega (arith, c.args.t.now.shape.count, c.loop-r-test.false)) c.loop-r.invariant
