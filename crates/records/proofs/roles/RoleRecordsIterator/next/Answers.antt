-- `RoleRecords::next` gives the record at the front. Assumes nothing.
use Rattle.std.proofs.Common.{rules, ap, length}
use Rattle.records.specs.laws.RoleRecords.{begins-none, begins-step}
use Rattle.records.proofs.roles.RoleRecordsIterator.next.Goals as goal

pub returns-then-is_empty-clause-steps : goal.returns-then-is_empty-clause-steps
returns-then-is_empty-clause-steps c =
    let none = begins-none c.args.self.now.at c.args.self.now.rest.now (search rules) in
    (none, none)

pub returns-clause-steps : goal.returns-clause-steps
returns-clause-steps c = begins-step c.args.self.now.at c.args.self.now.rest.now (search rules) c.role_length.result c.min-size.result c.role_length.ensures.0 c.min-size.ensures

pub returns-clause-goes : goal.returns-clause-goes
returns-clause-goes c =
    let step = begins-step c.args.self.now.at c.args.self.now.rest.now (search rules) c.role_length.result c.min-size.result c.role_length.ensures.0 c.min-size.ensures in
    let shorter = ap length step in
    search rules
