-- `push_values` adds the values two bytes at a time. The loop's invariant: with the values that are left the text is the one at the start with all of them. Assumes nothing.
use Rattle.std.proofs.Common.{◌≡◌}
use Rattle.std.specs.Slice.Iter.{chunks_exact_rest, chunks_exact_size}
use Rattle.text.specs.laws.Steps.{ValuesLeft}
use Rattle.text.proofs.Text.push_values.Given as goal

abbrev pub invariant-loop-pair : goal.invariant-loop-pair
invariant-loop-pair l = (chunks_exact_size l.pair-iterator ≡ 2) × ValuesLeft l.initial.self l.values l.self (chunks_exact_rest l.pair-iterator)
