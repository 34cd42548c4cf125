-- `scenario::open` meets its contract: the frame, the table, then refusals 6 to 9. Assumes nothing.
use Rattle.std.proofs.lemmas.Result.{err_from_is_err_and}
use Rattle.frame.specs.laws.Frame.{framing-framed}
use Rattle.scenario.specs.laws.Open.{frame_refused, table-refused, terms-shape, opened_rows}
use Rattle.scenario.specs.laws.Blocks.{table-read}
use mathlib.Core.Path.{sym, ◌∙◌}
use Rattle.scenario.proofs.open.Goals as goal

pub part_of-terms-requires : goal.part_of-terms-requires
part_of-terms-requires c = framing-framed c.args.file.now (sym c.check.ensures ∙ c.in_ok-check.was)

pub new-requires : goal.new-requires
new-requires c =
    let file = c.args.file.now in
    rw (c.part_of-terms.ensures.1) (terms-shape file c.check.ensures c.in_ok-check.was (table-read file c.part_of-terms.ensures.1 c.part_of-terms.ensures.0.0 c.check-2.ensures) c.in_ok-rows.was)

pub invariant_of-judged : goal.invariant_of-judged
invariant_of-judged c = record {
  framed = framing-framed c.args.file.now (sym c.check.ensures ∙ c.in_ok-check.was);
  its_table = c.new.ensures.0 ∙ c.part_of-terms.ensures.1;
}

pub returns-in_err-check : goal.returns-in_err-check
returns-in_err-check c =
    let left = err_from_is_err_and c.from_residual.result c.from_residual.ensures.1 in
    rw (left.1, left.2) (frame_refused c.args.file.now c.check.ensures c.in_err-check.was)

pub returns-in_err-rows : goal.returns-in_err-rows
returns-in_err-rows c =
    let file = c.args.file.now in
    let left = err_from_is_err_and c.from_residual-in_err-rows.result c.from_residual-in_err-rows.ensures.1 in
    rw (left.1, left.2) (table-refused file c.check.ensures c.in_ok-check.was (table-read file c.part_of-terms.ensures.1 c.part_of-terms.ensures.0.0 c.check-2.ensures) c.in_err-rows.was)

pub returns : goal.returns
returns c =
    let file = c.args.file.now in
    opened_rows file c.check.ensures c.in_ok-check.was (table-read file c.part_of-terms.ensures.1 c.part_of-terms.ensures.0.0 c.check-2.ensures) c.in_ok-rows.was c.judged.ensures
