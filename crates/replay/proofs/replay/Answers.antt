-- `replay` opens a file and follows a trace through it. Assumes nothing.
use mathlib.Core.Path.{sym, ap, ◌∙◌}
use Rattle.std.proofs.lemmas.Result.{err_from_is_err_and}
use Rattle.answers.specs.Answers.{replayed_as}
use Rattle.answers.specs.laws.Answers.{opened-accepts}
use Rattle.replay.specs.laws.Follow.{replayed-accepted, replayed-refused}
use Rattle.replay.proofs.replay.Goals as goal

pub of-requires : goal.of-requires
of-requires c = opened-accepts _ (sym c.in_ok-layout.was ∙ c.«open».ensures)

pub followed-requires : goal.followed-requires
followed-requires c = c.of.ensures.is_opened

pub returns-in_err-layout : goal.returns-in_err-layout
returns-in_err-layout c =
    let left = err_from_is_err_and c.from_residual.result c.from_residual.ensures.1 in
    rw (left.1, left.2) (replayed-refused _ _ (sym c.in_err-layout.was ∙ c.«open».ensures))

pub returns : goal.returns
returns c =
    let w = opened-accepts _ (sym c.in_ok-layout.was ∙ c.«open».ensures) in
    rw c.of.ensures.file at c.followed.ensures ∙ ap replayed_as (sym (replayed-accepted _ _ _ w.is_opened))
