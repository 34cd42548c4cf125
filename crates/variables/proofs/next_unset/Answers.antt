-- `variables::next_unset` meets its contract: the row that is found is the first that is a variable's and has no name. Assumes nothing.
use Rattle.rows.specs.laws.Shape.{shape-sized}
use Rattle.std.proofs.Common.{rules}
use Rattle.std.proofs.lemmas.Iterator.{first_from_Range}
use Rattle.variables.specs.laws.Unset.{next-unset}
use Rattle.variables.specs.Variables.{NotNamed}
use Rattle.variables.proofs.next_unset.Goals as goal

pub returns : goal.returns
returns c =
    next-unset c.args.t.now.bytes.now c.args.t.now.rows (shape-sized c.args.t.now.shape) c.args.names.now c.args.u c.args.below.now c.requires.1 c.find.result
    (first_from_Range _ _ _ c.find.result (NotNamed c.args.t.now.bytes.now c.args.names.now c.args.u c.args.below.now) (λ y. NotNamed c.args.t.now.bytes.now c.args.names.now c.args.u c.args.below.now y → ⊥) c.find.ensures.ran (λ y q k. search rules) (λ y q k. search rules))
