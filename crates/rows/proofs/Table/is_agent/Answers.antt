-- `Table::is_agent` meets its contract: a row is an agent's by its kind. Assumes nothing.
use Rattle.std.specs.Prelude.{ℕ, ◌≤◌, ◌<◌, ◌≡◌, refl, Bool, true, false, leb}
use mathlib.Core.Path.{sym, ap, ◌∙◌}
use borrow.Author.Tests.{le-ltb, le-leb, lt-leb}
use Rattle.rows.specs.laws.Shape.{shape-sized}
use Rattle.rows.specs.laws.Agents.{agent-absent, agent-kind}
use Rattle.rows.proofs.Table.is_agent.Goals as goal

-- what a kind says of its number, as a comparison
by_number : (r : Bool) (n : ℕ) → (r ≡ true → n ≤ 2) × (r ≡ false → 2 < n) → r ≡ leb n 2
by_number true n says = sym (le-leb n 2 (says.0 refl))
by_number false n says = sym (lt-leb n 2 (says.1 refl))

pub returns-then-r-self : goal.returns-then-r-self
returns-then-r-self c = by_number _ _ c.is_agent.ensures ∙ ap (λ (m : ℕ). leb m 2) c.kind_of.ensures ∙ agent-kind c.args.self.now.bytes.now c.args.self.now.rows (shape-sized c.args.self.now.shape) c.args.r c.if-r-self.true

pub returns-else-r-self : goal.returns-else-r-self
returns-else-r-self c = le-ltb _ _ c.if-r-self.false ∙ agent-absent c.args.self.now.bytes.now c.args.self.now.rows (shape-sized c.args.self.now.shape) c.args.r c.if-r-self.false
