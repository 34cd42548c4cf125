-- `derive::derive` meets its contract: the table, the listed rows and the target, then the answer. Assumes nothing.
use Rattle.std.specs.Prelude.{Err}
use Rattle.std.proofs.Common.{sym, ap, ◌∙◌}
use Rattle.std.proofs.lemmas.Result.{err_from_is_err_and}
use Rattle.answers.specs.declared.Reason.TheVariants.{AbsentRow}
use Rattle.answers.specs.laws.Checks.{check-passed, check-refused}
use Rattle.derive.specs.laws.Answer.{derive-refused, derive-shape, derive-absent, derive-listed, derive-answer}
use Rattle.derive.proofs.derive.Goals as goal

pub new-t-requires : goal.new-t-requires
new-t-requires c = derive-shape c.args.t.now c.args.list.now c.args.target c.check.ensures c.in_ok-n.was

pub is_known-requires : goal.is_known-requires
is_known-requires c =
    rw c.new-t.ensures.1.0 (derive-listed c.args.t.now c.args.list.now c.args.target c.check.ensures c.in_ok-n.was c.absent_at.ensures (check-passed AbsentRow c.absent_at.result (sym c.at.ensures ∙ c.in_ok-at.was)))

pub returns-in_err-n : goal.returns-in_err-n
returns-in_err-n c =
    let left = err_from_is_err_and c.from_residual.result c.from_residual.ensures.1 in
    rw (left.1, left.2) (derive-refused c.args.t.now c.args.list.now c.args.target c.check.ensures c.in_err-n.was)

pub returns-in_err-at : goal.returns-in_err-at
returns-in_err-at c =
    let left = err_from_is_err_and c.from_residual-in_err-at.result c.from_residual-in_err-at.ensures.1 in
    let refused = check-refused AbsentRow c.absent_at.result (sym c.at.ensures ∙ c.in_err-at.was) in
    rw (left.1, left.2) (ap Err refused.2 ∙ derive-absent c.args.t.now c.args.list.now c.args.target c.check.ensures c.in_ok-n.was c.absent_at.ensures refused.1)

pub returns : goal.returns
returns c =
    derive-answer c.args.t.now c.args.list.now c.args.target c.check.ensures c.in_ok-n.was c.absent_at.ensures (check-passed AbsentRow c.absent_at.result (sym c.at.ensures ∙ c.in_ok-at.was)) (rw c.new-t.ensures.0 at c.is_known.ensures)
