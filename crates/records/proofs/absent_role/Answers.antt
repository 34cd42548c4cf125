-- `records::absent_role` meets its contract: the row found is the first that names an absent role. Assumes nothing.
use Rattle.std.proofs.Common.{rules, tests}
use Rattle.std.proofs.lemmas.Iterator.{first_from_Range}
use Rattle.rows.specs.laws.Shape.{shape-sized}
use Rattle.records.specs.laws.Absent.{NamesAbsent, NamesPresent, absent-found}
use Rattle.records.proofs.absent_role.Goals as goal

pub returns : goal.returns
returns c =
    let t = c.args.t.now.bytes.now in
    absent-found t c.args.t.now.rows c.args.roles c.args.base (shape-sized c.args.t.now.shape) c.find.result
    (first_from_Range _ _ _ c.find.result (NamesAbsent t c.args.roles) (NamesPresent t c.args.roles) c.find.ensures.ran (λ x q k. search (rules, tests)) (λ x q k. search (rules, tests)))
    (search rules)
