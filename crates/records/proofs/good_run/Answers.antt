-- `records::good_run` meets its contract: the code tests the rules one after the other. Assumes nothing.
use native.Mathlib.Omega.{arith}
use mathlib.Core.Path.{◌∙◌}
use Rattle.rows.specs.Rows.{rows_of}
use Rattle.records.specs.laws.Runs.{run_short, run-fifth, run-absent, run-agents}
use Rattle.records.proofs.good_run.Goals as goal

pub returns-then-s-roles : goal.returns-then-s-roles
returns-then-s-roles c = λ start. run_short (rows_of c.args.t.now.bytes.now) c.args.roles c.args.i start c.args.s.now (omega arith)

pub returns-then-i-ge-MOST_RUNS : goal.returns-then-i-ge-MOST_RUNS
returns-then-i-ge-MOST_RUNS c = λ start. run-fifth (rows_of c.args.t.now.bytes.now) c.args.roles c.args.i start c.args.s.now (omega arith) (omega arith)

pub returns-then-roles-from : goal.returns-then-roles-from
returns-then-roles-from c =
    λ start. run-absent (rows_of c.args.t.now.bytes.now) c.args.roles c.args.i start c.args.s.now (omega arith) (omega arith) (omega arith)

pub returns : goal.returns
returns c =
    λ start. c.agents_fit.ensures ∙ run-agents (rows_of c.args.t.now.bytes.now) c.args.roles c.args.i start c.args.s.now (omega arith) (omega arith) (omega arith)
