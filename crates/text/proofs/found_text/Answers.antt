-- `found_text` is the text of what Search finds. Assumes nothing.
use Rattle.std.proofs.Common.{sym, ap, ◌∙◌}
use Rattle.std.specs.Prelude.{Ok}
use Rattle.text.specs.laws.Verdict.{text-held, text-stopped, text-broken}
use Rattle.text.proofs.found_text.Goals as goal

pub returns-in-Broken : goal.returns-in-Broken
returns-in-Broken c a shown =
    let f = text-broken a shown.buffer (ap Ok (sym c.in-Broken.is) ∙ shown.is_answer) shown.is_written in
    c.broken.ensures f.moves f.trace ∙ f.text

pub returns-in-Held : goal.returns-in-Held
returns-in-Held c a shown = c.counted.ensures ∙ text-held a (ap Ok (sym c.in-Held.is) ∙ shown.is_answer)

pub returns-in-Stopped : goal.returns-in-Stopped
returns-in-Stopped c a shown = c.counted-in-Stopped.ensures ∙ text-stopped a (ap Ok (sym c.in-Stopped.is) ∙ shown.is_answer)
