-- `read_completions::set_of` meets its contract. The loop's invariant: no set misses a class. Assumes nothing.
use Rattle.std.proofs.Common.{◌<◌, arith}
use Rattle.read_completions.specs.Completions.{RowsMissNone}
use Rattle.read_completions.specs.laws.Rows.{rows_start, rows_more}
use Rattle.read_completions.proofs.set_of.Goals as goal
use Rattle.read_completions.proofs.set_of.Goals.{then-known-r, else-known-r, else-loop-r-test, then-loop-r-test+else-r-row}

pub loop-r-init : goal.loop-r-init
loop-r-init c = rows_start c.args.known.now.pattern c.args.dom.now c.args.i

pub loop-r-preserved : goal.loop-r-preserved
loop-r-preserved c = elim c.if-known-r.branch [
  | then-known-r w ↦ rw w.sets-is (rows_more c.args.known.now.pattern c.args.dom.now _ (omega (arith, c.args.known.now.pattern.low, c.args.known.now.pattern.scope.table.shape.few, c.loop-r-test.true)) c.loop-r.invariant w.set_at.ensures)
  | else-known-r w ↦ rw w.sets-is c.loop-r.invariant
]

pub returns : goal.returns
returns c =
    let low : c.args.known.now.pattern.row < 96 = omega (arith, c.args.known.now.pattern.low, c.args.known.now.pattern.scope.table.shape.few) in
    let each_row : RowsMissNone c.args.known.now.pattern c.args.dom.now c.args.i c.loop-r-test.sets = elim c.loop-r-test.branch [
      | else-loop-r-test w ↦ rw w.sets-is c.loop-r.invariant
      | then-loop-r-test+else-r-row w ↦ rw w.sets-is (elim w.if-known-r.branch [
        | then-known-r v ↦ rw v.sets-is (rows_more c.args.known.now.pattern c.args.dom.now _ (omega (arith, c.loop-r.auto.r-end)) c.loop-r.invariant v.set_at.ensures)
        | else-known-r v ↦ rw v.sets-is c.loop-r.invariant
      ])
    ] in
    each_row.each c.args.known.now.pattern.row low
