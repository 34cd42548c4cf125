-- `variables::next_value` meets its contract. The loop's invariant: row y with run v is not before the given row and run, and no value of the variable lies between the two.
-- Assumes nothing.
use Rattle.variables.specs.laws.Spans.{first_read, count-read, next-none, next_here, ahead_more}
use Rattle.variables.proofs.next_value.Goals as goal

pub returns-then-run-first : goal.returns-then-run-first
returns-then-run-first c =
    let first = first_read c.args.t.now.bytes.now c.args.t.now.rows c.args.t.now.runs c.args.t.now.shape c.args.x c.requires.0 c.loop-y.y c.kind_of-kind.ensures c.first_run-first.ensures.0 in
    let count = count-read c.args.t.now.bytes.now c.args.t.now.rows c.args.t.now.runs c.args.t.now.shape c.args.x c.requires.0 c.loop-y.y c.kind_of-kind.ensures c.type_of-variable.ensures c.run_count.ensures.0 in
    next_here c.args.t.now.bytes.now c.args.t.now.rows c.args.t.now.runs c.args.t.now.shape c.args.x c.requires.0 c.args.r c.args.w c.loop-y.y c.loop-y.v c.loop-y.invariant c.loop-y-test.true first count c.max-run.ensures c.if-run-first.true

pub loop-y-preserved : goal.loop-y-preserved
loop-y-preserved c =
    let first = first_read c.args.t.now.bytes.now c.args.t.now.rows c.args.t.now.runs c.args.t.now.shape c.args.x c.requires.0 c.loop-y.y c.kind_of-kind.ensures c.first_run-first.ensures.0 in
    let count = count-read c.args.t.now.bytes.now c.args.t.now.rows c.args.t.now.runs c.args.t.now.shape c.args.x c.requires.0 c.loop-y.y c.kind_of-kind.ensures c.type_of-variable.ensures c.run_count.ensures.0 in
    ahead_more c.args.t.now.bytes.now c.args.t.now.rows c.args.t.now.runs c.args.t.now.shape c.args.x c.requires.0 c.args.r c.args.w c.loop-y.y c.loop-y.v c.loop-y.invariant c.loop-y-test.true first count c.max-run.ensures c.if-run-first.false

pub returns : goal.returns
returns c =
    next-none c.args.t.now.bytes.now c.args.t.now.rows c.args.t.now.runs c.args.t.now.shape c.args.x c.requires.0 c.args.r c.args.w c.loop-y.y c.loop-y.v c.loop-y.invariant c.loop-y-test.false
