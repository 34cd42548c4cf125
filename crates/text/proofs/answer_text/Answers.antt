-- `answer_text` is the text of Search's answer. Assumes nothing.
use Rattle.std.proofs.Common.{◌∙◌}
use Rattle.text.specs.laws.Verdict.{text-refused}
use Rattle.text.proofs.answer_text.Goals as goal

pub returns-in-Err : goal.returns-in-Err
returns-in-Err c a shown = c.refused.ensures ∙ text-refused a _ (rw c.in-Err.is at shown.is_answer)
