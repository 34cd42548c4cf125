-- `judged` is refusals 6 and 7, then what follows them. Assumes nothing.
use Rattle.std.specs.Prelude.{Err}
use Rattle.std.proofs.Common.{sym, ap, ◌∙◌}
use Rattle.std.proofs.lemmas.Result.{err_from_is_err_and}
use Rattle.answers.specs.declared.Reason.TheVariants.{Role, Event}
use Rattle.answers.specs.laws.Checks.{check-passed, check-refused}
use Rattle.scenario.specs.laws.Open.{roles-refused, no-bad-role, events-refused, events-passed}
use Rattle.scenario.specs.laws.Blocks.{rows_in, roles-good, events-read}
use Rattle.scenario.proofs.judged.Goals as goal

pub returns-in_err-at : goal.returns-in_err-at
returns-in_err-at c =
    let file = c.args.tabled.now.file.now in
    let left = err_from_is_err_and c.from_residual.result c.from_residual.ensures.1 in
    let refused = check-refused Role c.judged_roles.result (sym c.at.ensures ∙ c.in_err-at.was) in
    rw (left.1, left.2) (ap Err refused.2 ∙ roles-refused file (rows_in file) c.judged_roles.ensures refused.1)

pub ill_formed-requires : goal.ill_formed-requires
ill_formed-requires c =
    let file = c.args.tabled.now.file.now in
    roles-good file c.args.tabled.now.its_table c.part_of-roles.ensures.1 c.part_of-roles.ensures.0.0
    (no-bad-role file (rows_in file) c.judged_roles.ensures (check-passed Role c.judged_roles.result (sym c.at.ensures ∙ c.in_ok-at.was)))

pub returns-in_err-at-2 : goal.returns-in_err-at-2
returns-in_err-at-2 c =
    let file = c.args.tabled.now.file.now in
    let left = err_from_is_err_and c.from_residual-in_err-at-2.result c.from_residual-in_err-at-2.ensures.1 in
    let refused = check-refused Event c.ill_formed.result (sym c.at-2.ensures ∙ c.in_err-at-2.was) in
    rw (left.1, left.2) (ap Err refused.2 ∙ events-refused file (rows_in file) c.judged_roles.ensures (check-passed Role c.judged_roles.result (sym c.at.ensures ∙ c.in_ok-at.was))
    (events-read file c.args.tabled.now.its_table c.part_of-roles.ensures.1 c.part_of-roles.ensures.0.0 c.ill_formed.ensures)
    refused.1)

pub judged_runs-requires : goal.judged_runs-requires
judged_runs-requires c =
    let file = c.args.tabled.now.file.now in
    no-bad-role file (rows_in file) c.judged_roles.ensures (check-passed Role c.judged_roles.result (sym c.at.ensures ∙ c.in_ok-at.was))

pub returns : goal.returns
returns c =
    let file = c.args.tabled.now.file.now in
    c.judged_runs.ensures
    ∙ events-passed file (rows_in file) c.judged_roles.ensures (check-passed Role c.judged_roles.result (sym c.at.ensures ∙ c.in_ok-at.was))
    (events-read file c.args.tabled.now.its_table c.part_of-roles.ensures.1 c.part_of-roles.ensures.0.0 c.ill_formed.ensures)
    (check-passed Event c.ill_formed.result (sym c.at-2.ensures ∙ c.in_ok-at-2.was))
