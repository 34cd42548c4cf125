-- `found` asks `class_of_parts`, or tells by its number that no row has the kind. Assumes nothing.
use Rattle.std.proofs.Common.{arith, sym, ap, ◌∙◌}
use Rattle.rows.specs.Kinds.{kind_as}
use Rattle.cells.specs.laws.Found.{found-unknown, found-high, found-known}
use Rattle.cells.proofs.found.Goals as goal

pub returns-in_default : goal.returns-in_default
returns-in_default c = let low = c.in_default.ensures in found-high c.args.t.now.shape (omega (arith, low))

pub returns-in-Some : goal.returns-in-Some
returns-in-Some c = found-known (sym (ap kind_as c.in-Ok.ensures.1) ∙ sym c.of.ensures ∙ c.in-Some.is) c.class_of_parts.result c.class_of_parts.ensures c.unwrap_or.ensures

pub returns-in-None : goal.returns-in-None
returns-in-None c = found-unknown c.args.t.now.shape (sym (ap kind_as c.in-Ok.ensures.1) ∙ sym c.of.ensures ∙ c.in-None.is)
