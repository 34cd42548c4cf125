-- `content_of` finds the row beneath the encryptions of a row. Assumes nothing.
use Rattle.rows.specs.Kinds.{number_of}
use Rattle.rows.specs.laws.Shape.{shape-sized}
use Rattle.std.proofs.Common.{◌≡◌, arith, rules, tests}
use Rattle.open_marks.specs.laws.Rows.{parts-lower}
use Rattle.open_marks.proofs.content_of.Goals as goal

pub loop-y-init : goal.loop-y-init
loop-y-init c =
    let e : number_of c.kind_of.result ≡ 12 = search (rules, tests) in
    let low = parts-lower c.args.t.now.bytes.now c.args.t.now.rows (shape-sized c.args.t.now.shape) c.args.x c.requires c.kind_of.ensures (omega (arith, e)) in
    omega (arith, c.left_of-y.ensures.0)

pub loop-y-smaller : goal.loop-y-smaller
loop-y-smaller c =
    let e : number_of c.kind_of-in-loop-y.result ≡ 12 = search (rules, tests) in
    let low = parts-lower c.args.t.now.bytes.now c.args.t.now.rows (shape-sized c.args.t.now.shape) c.loop-y.y (omega (arith, c.requires, c.loop-y.invariant)) c.kind_of-in-loop-y.ensures (omega (arith, e)) in
    omega (arith, c.left_of-y-in-loop-y.ensures.0)

pub loop-y-preserved : goal.loop-y-preserved
loop-y-preserved c =
    let e : number_of c.kind_of-in-loop-y.result ≡ 12 = search (rules, tests) in
    let low = parts-lower c.args.t.now.bytes.now c.args.t.now.rows (shape-sized c.args.t.now.shape) c.loop-y.y (omega (arith, c.requires, c.loop-y.invariant)) c.kind_of-in-loop-y.ensures (omega (arith, e)) in
    omega (arith, c.left_of-y-in-loop-y.ensures.0, c.loop-y.invariant)
