-- `records::bad_role` meets its contract: the record found is the first bad one. Assumes nothing.
use Rattle.std.proofs.Common.{rules, tests, arith, inl, ap, ◌∙◌, ◌≡◌, ◌+◌, ◌<◌, length}
use Rattle.std.specs.List.{enumerate_from, find}
use Rattle.std.specs.Option.{option_map}
use Rattle.std.proofs.lemmas.Iterator.Search.{find_from_yields_List}
use Rattle.std.proofs.lemmas.Iterator.Consumers.{YieldsList-from_first, YieldsList-from_enumerate}
use Rattle.semantics.specs.Value.{without_variables}
use Rattle.rows.specs.Rows.{rows_of}
use Rattle.lists.specs.laws.Clear.{bars-variables}
use Rattle.records.specs.RoleRecords.{begins, read, ahead}
use Rattle.records.specs.laws.RoleRecords.{is_bad, ahead-few, ahead-given, serves, bad-within, bad-found, placed}
use Rattle.records.proofs.bad_role.Goals.{After-find}
use Rattle.records.proofs.bad_role.Goals as goal

-- the record found is the first bad one
found : (c : After-find) → option_map (λ x. (x.0, read x.1)) c.find.result ≡ find (is_bad (rows_of c.args.t.now.bytes.now) c.roles_present-roles.result c.args.block.start) (enumerate_from 0 (begins 0 c.args.block.bytes.now))
found c =
    let items = YieldsList-from_enumerate (YieldsList-from_first read ahead (begins 0 c.args.block.bytes.now) (ap ahead c.enumerate.ensures.source ∙ c.of.ensures)) c.enumerate.ensures.count in
    let count = c.clear_rows-clear.ensures.0 ∙ c.args.t.now.shape.count in
    let valued = c.clear_rows-clear.ensures.1 without_variables bars-variables in
    find_from_yields_List (is_bad (rows_of c.args.t.now.bytes.now) c.roles_present-roles.result c.args.block.start) c.find.new.self _ c.find.result c.find.ensures.ran items (λ x b q k. search (rules, tests))

pub find-requires-clause-can : goal.find-requires-clause-can
find-requires-clause-can c = (tt, tt, inl (omega (arith, c.enumerate.ensures.count, ahead-few c.of.result c.args.block.bytes.now c.of.ensures, ap (λ r. length (ahead r)) c.enumerate.ensures.source)))

pub find-requires-clause-callable : goal.find-requires-clause-callable
find-requires-clause-callable c = serves (λ x q k. search rules) (λ t x u step. let some_bytes = (ahead-given t.iter step.0).0 in search rules)

pub map-requires : goal.map-requires
map-requires c = λ x e.
    let within : x.1.0 < length c.args.block.bytes.now = bad-within (rows_of c.args.t.now.bytes.now) c.roles_present-roles.result c.args.block.start c.args.block.bytes.now (found (goal.at.map-requires c).After-find) (ap (option_map (λ x. (x.0, read x.1))) e) in
    search rules

pub returns : goal.returns
returns c =
    let at = placed (λ p. c.args.block.start + p.1.0) (λ x. (x.0, read x.1)) c.find.result (search rules) in
    at ∙ bad-found (rows_of c.args.t.now.bytes.now) c.roles_present-roles.result c.args.block.start c.args.block.bytes.now (found (goal.at.returns c).After-find) (c.roles_present-roles.ensures c.args.block.start)
