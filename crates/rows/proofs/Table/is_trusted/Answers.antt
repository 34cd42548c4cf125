-- `Table::is_trusted` meets its contract: a row is a trusted agent's by its kind. Assumes nothing.
use Rattle.std.specs.Prelude.{ℕ, eqb}
use mathlib.Core.Path.{ap, ◌∙◌}
use borrow.Author.Tests.{le-ltb}
use Rattle.rows.specs.laws.Shape.{shape-sized}
use Rattle.rows.specs.laws.Agents.{trusted-absent, trusted-kind}
use Rattle.rows.specs.declared.Kind.TheVariants.{Trusted}
use Rattle.rows.specs.laws.Kinds.{same-number}
use Rattle.rows.proofs.Table.is_trusted.Goals as goal

pub returns-then-r-self : goal.returns-then-r-self
returns-then-r-self c = same-number _ c.kind_of.result Trusted c.eq.ensures ∙ ap (λ (m : ℕ). eqb m 1) c.kind_of.ensures ∙ trusted-kind c.args.self.now.bytes.now c.args.self.now.rows (shape-sized c.args.self.now.shape) c.args.r c.if-r-self.true

pub returns-else-r-self : goal.returns-else-r-self
returns-else-r-self c = le-ltb _ _ c.if-r-self.false ∙ trusted-absent c.args.self.now.bytes.now c.args.self.now.rows (shape-sized c.args.self.now.shape) c.args.r c.if-r-self.false
