-- `records::roles_present` meets its contract: the records of the first four are counted. Assumes nothing.
use Rattle.std.proofs.Common.{ap, ◌∙◌}
use Rattle.std.proofs.lemmas.Iterator.{YieldsList-from_take}
use Rattle.std.proofs.lemmas.Iterator.Consumers.{YieldsList-from_first, count_from_yields_List}
use Rattle.records.specs.RoleRecords.{begins, read, ahead}
use Rattle.records.specs.laws.RoleRecords.{present-begins}
use Rattle.records.proofs.roles_present.Goals as goal

pub returns : goal.returns
returns c =
    let items = YieldsList-from_first read ahead (begins 0 c.args.b.now) (ap ahead c.take.ensures.source ∙ c.of.ensures) in
    present-begins c.args.b.now (count_from_yields_List _ _ c.count.ensures.ran (YieldsList-from_take 4 items c.take.ensures.count))
