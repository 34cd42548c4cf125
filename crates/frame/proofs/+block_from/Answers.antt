-- `frame::block_from` meets its contract: the block at the front, or one of the rest. The measure is the block's number. Assumes nothing.
use native.Mathlib.Omega.{arith}
use mathlib.Core.Path.{◌∙◌}
use Rattle.frame.specs.laws.Frame.{framed-whole, block-first, start_first, front_length, rest-framed, rest-few, block-next, start-next}
use Rattle.frame.proofs.+block_from.Goals as goal

pub split-requires : goal.split-requires
split-requires t c = (framed-whole c.args.n c.args.s.now c.requires.0 (omega arith)).0

pub returns-then-k-eq0 : goal.returns-then-k-eq0
returns-then-k-eq0 t c = (
  (rw c.if-k-eq0.true (start_first c.args.s.now), omega (arith, (framed-whole c.args.n c.args.s.now c.requires.0 (omega arith)).0)),
  c.split.ensures.0 ∙ rw c.if-k-eq0.true (block-first 0 c.args.s.now),
)

pub block_from-start-requires : goal.block_from-start-requires
block_from-start-requires t c =
    (omega arith, (rest-framed c.args.s.now c.split.ensures.1 c.args.n c.requires.0 (omega arith), (omega arith, rest-few c.args.s.now c.split.ensures.1 c.requires.1.1)))

pub returns : goal.returns
returns t c =
    let whole = (framed-whole c.args.n c.args.s.now c.requires.0 (omega arith)).0 in (
      start-next c.args.s.now c.split.ensures.1 c.args.k (omega arith) whole (front_length c.args.s.now whole c.split.ensures.0) c.block_from-start.ensures.0.0 c.block_from-start.ensures.0.1,
      block-next c.args.s.now c.split.ensures.1 c.args.k (omega arith) c.block_from-start.ensures.1,
    )
