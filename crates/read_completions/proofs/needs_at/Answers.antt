-- `needs_at` tells what rows need, if the domains have it. Assumes nothing.
use Rattle.std.proofs.Common.{sym, ◌∙◌}
use Rattle.read_completions.specs.laws.Rows.{needs-fit}
use Rattle.read_completions.proofs.needs_at.Goals as goal

pub returns : goal.returns
returns c =
    rw c.then_some.ensures (needs-fit c.args.pattern.now c.args.dom.now c.args.r c.requires.1 (sym c.from.ensures ∙ c.if-from-c.false) c.needs_of.result c.needs_of.ensures c.in_ok-need.was c.fit.ensures)
