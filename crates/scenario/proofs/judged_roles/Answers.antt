-- `judged_roles` is refusal 6, of a record or of a row that names an absent role. Assumes nothing.
use Rattle.std.proofs.Common.{◌≡◌, rules, tests, Some, MatchOption}
use Rattle.semantics.specs.Roles.{absent_role_from}
use Rattle.rows.specs.Rows.{rows_of, place_as}
use Rattle.scenario.specs.laws.Open.{roles-told}
use Rattle.scenario.specs.laws.Blocks.{rows_in, roles-read, count-read, names-read}
use Rattle.scenario.proofs.judged_roles.Goals as goal

pub returns : goal.returns
returns c =
    let file = c.args.tabled.now.file.now in
    let found : MatchOption c.bad_role.result (c.or_else.result ≡ place_as (absent_role_from c.roles_present-count.result c.part_of.result.start (rows_of c.args.tabled.now.table.bytes.now))) (λ i. c.or_else.result ≡ Some i) = search (rules, tests) in
    roles-told file (rows_in file) c.bad_role.result c.or_else.result
    (roles-read file c.args.tabled.now.its_table c.part_of-roles.ensures.1 c.part_of-roles.ensures.0.0 c.bad_role.ensures)
    found
    (names-read file c.args.tabled.now.its_table c.part_of.ensures.0.0 (count-read file c.part_of-roles.ensures.1 c.roles_present-count.ensures))
