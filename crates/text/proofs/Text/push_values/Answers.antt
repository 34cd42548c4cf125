-- `push_values` adds the values two bytes at a time. Assumes nothing.
use Rattle.std.proofs.Common.{◌++◌, length, arith, ap, ◌∙◌, length-append}
use Rattle.std.specs.Slice.Iter.{chunks_exact_rest}
use Rattle.text.specs.Text.{word, decimal}
use Rattle.text.specs.laws.Decimal.{decimal-few}
use Rattle.text.specs.laws.Grows.{grown_length}
use Rattle.text.specs.laws.Steps.{none-added, values-ended, value-added}
use Rattle.text.proofs.Text.push_values.Goals as goal

pub loop-pair-init : goal.loop-pair-init
loop-pair-init c =
    rw c.into_iter-pair-iterator.ensures.into_iter_gives (c.chunks_exact-pair-items.ensures.size, rw c.chunks_exact-pair-items.ensures.rest (none-added c.args.self.now c.args.values.now))

pub push_with-requires-in-loop-pair : goal.push_with-requires-in-loop-pair
push_with-requires-in-loop-pair c =
    let two = c.in-Some.ensures.steps.1.1 ∙ c.loop-pair.invariant.0 in
    omega (arith, c.requires, c.loop-pair.invariant.1.room, two, ap length c.in-Some.ensures.steps.1.0, length-append c.in-Some.pair.now (chunks_exact_rest c.next.new.self), grown_length c.loop-pair.self (word " " ++ decimal c.from.result) c.push_with.ensures.text, decimal-few 2 c.from.result (omega arith))

pub loop-pair-preserved : goal.loop-pair-preserved
loop-pair-preserved c =
    let s = c.in-Some.ensures.steps in (
      s.0 ∙ c.loop-pair.invariant.0,
      value-added c.loop-pair.invariant.1 c.in-Some.pair.now (chunks_exact_rest c.next.new.self) s.1.0 (s.1.1 ∙ c.loop-pair.invariant.0) c.from.ensures c.from-in-loop-pair.ensures (omega arith) (omega arith) c.push_with.ensures.text c.push_with-in-loop-pair.ensures.text,
    )

pub returns-clause-text : goal.returns-clause-text
returns-clause-text c = values-ended c.loop-pair.invariant.1 (omega (arith, c.in-None.ensures.steps.1.0, c.loop-pair.invariant.0))

pub returns-clause-len_bound : goal.returns-clause-len_bound
returns-clause-len_bound c = omega (arith, c.loop-pair.invariant.1.room)
