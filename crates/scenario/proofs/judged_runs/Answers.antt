-- `judged_runs` is refusals 8 and 9, or the layout of the accepted file. Assumes nothing.
use Rattle.std.specs.Prelude.{Err}
use Rattle.std.proofs.Common.{sym, ap, ◌∙◌}
use Rattle.std.proofs.lemmas.Result.{err_from_is_err_and}
use Rattle.answers.specs.declared.Reason.TheVariants.{Run, Knowledge}
use Rattle.answers.specs.laws.Checks.{check-passed, check-refused}
use Rattle.scenario.specs.laws.Open.{runs-refused, known-refused, all-accepted}
use Rattle.scenario.specs.laws.Blocks.{rows_in, count-read, count-few, runs-read, known_read}
use Rattle.scenario.proofs.judged_runs.Goals as goal

pub bad_run-requires : goal.bad_run-requires
bad_run-requires c =
    let file = c.args.tabled.now.file.now in
    count-few file (count-read file c.part_of.ensures.1 c.roles_present-roles.ensures)

pub parts_of-requires : goal.parts_of-requires
parts_of-requires c =
    (count-read c.args.tabled.now.file.now c.part_of.ensures.1 c.roles_present-roles.ensures, c.requires)

pub returns-in_err-at : goal.returns-in_err-at
returns-in_err-at c =
    let file = c.args.tabled.now.file.now in
    let left = err_from_is_err_and c.from_residual.result c.from_residual.ensures.1 in
    let refused = check-refused Run c.bad_run.result (sym c.at.ensures ∙ c.in_err-at.was) in
    rw (left.1, left.2) (ap Err refused.2 ∙ runs-refused file (rows_in file)
    (runs-read file c.args.tabled.now.its_table c.part_of-runs.ensures.1 c.part_of-runs.ensures.0.0 (count-read file c.part_of.ensures.1 c.roles_present-roles.ensures) c.bad_run.ensures)
    refused.1)

pub returns-in_err-at-2 : goal.returns-in_err-at-2
returns-in_err-at-2 c =
    let file = c.args.tabled.now.file.now in
    let left = err_from_is_err_and c.from_residual-in_err-at-2.result c.from_residual-in_err-at-2.ensures.1 in
    let refused = check-refused Knowledge c.bad_knowledge.result (sym c.at-2.ensures ∙ c.in_err-at-2.was) in
    rw (left.1, left.2) (ap Err refused.2 ∙ known-refused file (rows_in file)
    (runs-read file c.args.tabled.now.its_table c.part_of-runs.ensures.1 c.part_of-runs.ensures.0.0 (count-read file c.part_of.ensures.1 c.roles_present-roles.ensures) c.bad_run.ensures)
    (check-passed Run c.bad_run.result (sym c.at.ensures ∙ c.in_ok-at.was))
    (known_read file c.args.tabled.now.its_table c.part_of-knowledge.ensures.1 c.part_of-knowledge.ensures.0.0 c.bad_knowledge.ensures)
    refused.1)

pub returns : goal.returns
returns c =
    let file = c.args.tabled.now.file.now in
    all-accepted file (rows_in file)
    (runs-read file c.args.tabled.now.its_table c.part_of-runs.ensures.1 c.part_of-runs.ensures.0.0 (count-read file c.part_of.ensures.1 c.roles_present-roles.ensures) c.bad_run.ensures)
    (check-passed Run c.bad_run.result (sym c.at.ensures ∙ c.in_ok-at.was))
    (known_read file c.args.tabled.now.its_table c.part_of-knowledge.ensures.1 c.part_of-knowledge.ensures.0.0 c.bad_knowledge.ensures)
    (check-passed Knowledge c.bad_knowledge.result (sym c.at-2.ensures ∙ c.in_ok-at-2.was))
    c.parts_of.ensures
