-- `table::no_pair` meets its contract: a row below is a pair by its kind. Assumes nothing.
use Rattle.std.proofs.Common.{rules, tests, sym, ap, ◌∙◌}
use borrow.Author.Tests.{le-ltb}
use Rattle.semantics.specs.Table.{no_pair}
use Rattle.table.specs.laws.Below.{below_none, below-pair}
use Rattle.table.proofs.no_pair.Goals as goal

pub returns-else-a-below : goal.returns-else-a-below
returns-else-a-below c = le-ltb _ _ c.if-a-below.false ∙ sym (ap no_pair (below_none _ _ _ c.args.below.now.shape c.args.a c.if-a-below.false))

pub returns-then-a-below : goal.returns-then-a-below
returns-then-a-below c = search (rules, tests) ∙ sym (below-pair _ _ _ c.args.below.now.shape c.args.a c.if-a-below.true c.kind_of.ensures)
