-- `lists::unfit_row` meets its contract. The loop's invariant: the first unfit row is that of the bytes from byte i on. Assumes nothing.
use native.Mathlib.Omega.{arith}
use mathlib.Core.Path.{sym, ap, ◌∙◌}
use Rattle.rows.specs.Rows.{place_as}
use Rattle.lists.specs.Lists.{has_value}
use Rattle.lists.specs.laws.Knowledge.{marked-absent, marked-not, marked-is, unfit-none, unfit-low, unfit-here, unfit-later}
use Rattle.lists.proofs.unfit_row.Goals as goal
use Rattle.lists.proofs.unfit_row.Goals.{then-r-least-via-then-r-least, then-r-least-via-else-r-least+then-rows-r, then-r-least-via-else-r-least+else-rows-r+then-not-rows-r}

pub returns-then-r-least : goal.returns-then-r-least
returns-then-r-least c = sym (ap place_as (c.loop-i.invariant ∙ elim c.then-r-least.branch [
  | then-r-least-via-then-r-least w ↦
      unfit-low (has_value c.args.rows.now.count c.args.rows.now.clear) c.args.list.start c.args.list.bytes.now c.loop-i.least c.loop-i.i (omega arith) c.from-r.result c.from-r.ensures w.if-r-least.true
  | then-r-least-via-else-r-least+then-rows-r w ↦
      unfit-here (has_value c.args.rows.now.count c.args.rows.now.clear) c.args.list.start c.args.list.bytes.now c.loop-i.least c.loop-i.i (omega arith) c.from-r.result c.from-r.ensures w.if-r-least.false
      (marked-absent c.args.rows.now.count c.args.rows.now.clear c.from-r.result w.if-rows-r.true)
  | then-r-least-via-else-r-least+else-rows-r+then-not-rows-r w ↦
      unfit-here (has_value c.args.rows.now.count c.args.rows.now.clear) c.args.list.start c.args.list.bytes.now c.loop-i.least c.loop-i.i (omega arith) c.from-r.result c.from-r.ensures w.if-r-least.false
      (marked-not c.args.rows.now.count c.args.rows.now.clear c.from-r.result w.if-not-rows-r.true)
]))

pub loop-i-preserved : goal.loop-i-preserved
loop-i-preserved c =
    c.loop-i.invariant
    ∙ unfit-later (has_value c.args.rows.now.count c.args.rows.now.clear) c.args.list.start c.args.list.bytes.now c.loop-i.least c.loop-i.i (omega arith) c.from-r.result c.from-r.ensures c.if-r-least.false
    (marked-is c.args.rows.now.count c.args.rows.now.clear c.from-r.result c.if-rows-r.false c.if-not-rows-r.false)

pub returns : goal.returns
returns c = sym (ap place_as (c.loop-i.invariant ∙ unfit-none (has_value c.args.rows.now.count c.args.rows.now.clear) c.args.list.start c.args.list.bytes.now c.loop-i.least c.loop-i.i (omega arith)))
