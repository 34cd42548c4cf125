-- `records::bad_run` meets its contract: the record found is the first bad one. Assumes nothing.
use Rattle.std.proofs.Common.{rules, tests, ◌+◌, ◌*◌, ◌<◌, length, true, false}
use Rattle.std.proofs.lemmas.Iterator.{serves_from_Range, first_from_Range}
use Rattle.rows.specs.Rows.{rows_of}
use Rattle.records.specs.laws.Runs.{RunTells, run-within, runs-found}
use Rattle.records.proofs.bad_run.Goals as goal

pub find-requires-clause-callable : goal.find-requires-clause-callable
find-requires-clause-callable c = serves_from_Range (λ x q k. search rules) (λ x lo hi.
    let within : x * (1 + c.args.roles) < length c.args.block.bytes.now = run-within _ _ x (rw c.div_ceil.ensures at hi) in
    search rules)

pub returns : goal.returns
returns c =
    let rows = rows_of c.args.t.now.bytes.now in
    let b = c.args.block.bytes.now in
    runs-found rows c.args.roles c.args.block.start b c.find.result
    (rw c.div_ceil.ensures at (first_from_Range _ _ _ c.find.result (RunTells rows c.args.roles b false) (RunTells rows c.args.roles b true) c.find.ensures.ran (λ x q k. search (rules, tests)) (λ x q k. search (rules, tests))))
    (search rules)
