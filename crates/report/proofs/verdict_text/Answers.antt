-- `verdict_text` is the text of Search's answer to a file. Assumes nothing.
use native.Mathlib.Omega.{arith}
use borrow.Author.Rules.{rules}
use mathlib.Core.Path.{◌≡◌, ◌∙◌}
use lib.ListN.{length}
use Rattle.report.specs.laws.Verdict.{same_text, shown}
use Rattle.report.proofs.verdict_text.Goals as goal

pub answer_text-requires : goal.answer_text-requires
answer_text-requires c =
    let w = c.search_in-answer.ensures in
    let size : length c.search_in-answer.new.trace ≡ 128 = search rules in
    (_, shown _ _ _ w.value w.trace_after (omega arith))

pub returns : goal.returns
returns c buffer long =
    let w = c.search_in-answer.ensures in
    let size : length c.search_in-answer.new.trace ≡ 128 = search rules in
    c.answer_text.ensures _ (shown _ _ _ w.value w.trace_after (omega arith)) ∙ same_text _ _ _ buffer (omega arith) long
