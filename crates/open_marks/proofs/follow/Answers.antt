-- `follow` goes down the way that the notes say: its parts are lower rows. Assumes nothing.
use Rattle.rows.specs.Kinds.{number_of}
use Rattle.rows.specs.laws.Shape.{shape-sized}
use Rattle.std.proofs.Common.{arith, ap}
use Rattle.open_marks.specs.laws.Rows.{parts-lower}
use Rattle.open_marks.proofs.follow.Goals as goal

pub loop-more-smaller-in-Some-First : goal.loop-more-smaller-in-Some-First
loop-more-smaller-in-Some-First c =
    let low = parts-lower c.args.t.now.bytes.now c.args.t.now.rows (shape-sized c.args.t.now.shape) c.loop-more.x c.loop-more.invariant c.kind_of.ensures (omega (arith, ap number_of c.in-Pair.is)) in
    omega (arith, c.left_of-left.ensures.0)

pub loop-more-preserved-in-Some-First : goal.loop-more-preserved-in-Some-First
loop-more-preserved-in-Some-First c =
    let low = parts-lower c.args.t.now.bytes.now c.args.t.now.rows (shape-sized c.args.t.now.shape) c.loop-more.x c.loop-more.invariant c.kind_of.ensures (omega (arith, ap number_of c.in-Pair.is)) in
    omega (arith, c.left_of-left.ensures.0, c.loop-more.invariant)

pub loop-more-smaller-in-Some-Second : goal.loop-more-smaller-in-Some-Second
loop-more-smaller-in-Some-Second c =
    let low = parts-lower c.args.t.now.bytes.now c.args.t.now.rows (shape-sized c.args.t.now.shape) c.loop-more.x c.loop-more.invariant c.kind_of.ensures (omega (arith, ap number_of c.in-Pair.is)) in
    omega (arith, c.right_of-right.ensures.0)

pub loop-more-preserved-in-Some-Second : goal.loop-more-preserved-in-Some-Second
loop-more-preserved-in-Some-Second c =
    let low = parts-lower c.args.t.now.bytes.now c.args.t.now.rows (shape-sized c.args.t.now.shape) c.loop-more.x c.loop-more.invariant c.kind_of.ensures (omega (arith, ap number_of c.in-Pair.is)) in
    omega (arith, c.right_of-right.ensures.0, c.loop-more.invariant)

pub loop-more-smaller : goal.loop-more-smaller
loop-more-smaller c =
    let low = parts-lower c.args.t.now.bytes.now c.args.t.now.rows (shape-sized c.args.t.now.shape) c.loop-more.x c.loop-more.invariant c.kind_of.ensures (omega (arith, ap number_of c.in-Encrypted.is)) in
    omega (arith, c.left_of-left.ensures.0)

pub loop-more-preserved : goal.loop-more-preserved
loop-more-preserved c =
    let low = parts-lower c.args.t.now.bytes.now c.args.t.now.rows (shape-sized c.args.t.now.shape) c.loop-more.x c.loop-more.invariant c.kind_of.ensures (omega (arith, ap number_of c.in-Encrypted.is)) in
    omega (arith, c.left_of-left.ensures.0, c.loop-more.invariant)
