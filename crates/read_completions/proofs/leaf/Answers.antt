-- `leaf` misses no class: the variable's own that are marked, or those of another with a marked one. Assumes nothing.
use Rattle.std.proofs.Common.{ℕ, get_or, ap, sym, ◌∙◌}
use Rattle.read_completions.specs.laws.Rows.{misses-none-all, misses-none-own, misses-none-other}
use Rattle.read_completions.proofs.leaf.Goals as goal

pub returns-in-None : goal.returns-in-None
returns-in-None c = misses-none-all c.args.known.now.pattern c.args.dom.now c.args.i c.args.r

pub returns-in-Some : goal.returns-in-Some
returns-in-Some c =
    misses-none-own c.args.known.now.pattern c.args.dom.now c.args.i c.args.r c.args.known.now.marked.now c.args.known.now.right c.requires (ap (λ (j : ℕ). get_or c.args.known.now.pattern.vars.rows j 0) (sym c.if-slot-i.true) ∙ c.in-Some.ensures.row)

pub returns-in-Some-2 : goal.returns-in-Some-2
returns-in-Some-2 c =
    misses-none-other c.args.known.now.pattern c.args.dom.now c.args.i c.args.r c.args.known.now.marked.now c.args.known.now.right c.in-Some.ensures.low c.in-Some.ensures.row c.meet.ensures
