-- `search_in` opens a file, asks for the buffer's length and judges the file. Assumes nothing.
use mathlib.Core.Path.{sym, ap, ◌∙◌}
use Rattle.std.specs.Prelude.{Ok}
use Rattle.std.proofs.lemmas.Result.{err_from_is_err_and}
use Rattle.answers.specs.Answers.{searched_as}
use Rattle.search_runs.specs.Runs.{list_as}
use Rattle.answers.specs.laws.Answers.{opened-accepts}
use Rattle.search.specs.laws.Verdict.{searched-refused, searched-short, searched-judged, buffer-judged, buffer-passed}
use Rattle.search.proofs.search_in.Goals as goal

pub of-requires : goal.of-requires
of-requires c = opened-accepts _ (sym c.in_ok-layout.was ∙ c.«open».ensures)

pub judged-requires : goal.judged-requires
judged-requires c = (c.of.ensures.is_opened, buffer-passed _ (sym c.in_ok-check_buffer.was ∙ c.check_buffer.ensures))

pub returns-in_err-layout : goal.returns-in_err-layout
returns-in_err-layout c =
    let v = searched-refused (list_as c.args.list) c.args.file.now c.args.trace.now (sym c.in_err-layout.was ∙ c.«open».ensures) in
    let left = err_from_is_err_and c.from_residual.result c.from_residual.ensures.1 in
    record { value = rw (left.1, left.2) v.0; trace_after = v.1 }

pub returns-in_err-check_buffer : goal.returns-in_err-check_buffer
returns-in_err-check_buffer c =
    let a = opened-accepts _ (sym c.in_ok-layout.was ∙ c.«open».ensures) in
    let v = searched-short (list_as c.args.list) c.args.file.now c.args.trace.now a.is_opened (sym c.in_err-check_buffer.was ∙ c.check_buffer.ensures) in
    let left = err_from_is_err_and c.from_residual-in_err-check_buffer.result c.from_residual-in_err-check_buffer.ensures.1 in
    record { value = rw (left.1, left.2) v.0; trace_after = v.1 }

pub returns : goal.returns
returns c =
    let a = opened-accepts _ (sym c.in_ok-layout.was ∙ c.«open».ensures) in
    let passed = sym c.in_ok-check_buffer.was ∙ c.check_buffer.ensures in
    let v = c.judged.ensures in
    record { value = ap Ok (rw c.of.ensures.file at v.value) ∙ ap searched_as (sym (searched-judged _ _ _ a.is_opened passed)); trace_after = rw c.of.ensures.file at v.trace_after ∙ sym (buffer-judged _ _ _ a.is_opened passed) }
