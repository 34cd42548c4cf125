-- `variables::may_take` meets its contract: the run is one of those with which the row is a value. Assumes nothing.
use mathlib.Core.Path.{refl}
use borrow.Author.Tests.{lt-leb}
use Rattle.variables.specs.laws.Spans.{may-absent, may-below, may-counted, first_read, count-read}
use Rattle.variables.proofs.may_take.Goals as goal

pub returns-then-t-value : goal.returns-then-t-value
returns-then-t-value c =
    λ a e. may-absent c.args.t.now.bytes.now c.args.t.now.rows c.args.t.now.runs c.args.t.now.shape c.args.x c.requires.0 c.requires.1 c.args.value.row c.args.value.run e c.if-t-value.true

pub returns-then-first-value : goal.returns-then-first-value
returns-then-first-value c =
    λ a e. may-counted c.args.t.now.bytes.now c.args.t.now.rows c.args.t.now.runs c.args.t.now.shape c.args.x c.requires.0 c.requires.1 c.args.value.row c.args.value.run e c.if-t-value.false
    (first_read c.args.t.now.bytes.now c.args.t.now.rows c.args.t.now.runs c.args.t.now.shape c.args.x c.requires.0 c.args.value.row c.kind_of-kind.ensures c.first_run-first.ensures.0)
    (count-read c.args.t.now.bytes.now c.args.t.now.rows c.args.t.now.runs c.args.t.now.shape c.args.x c.requires.0 c.args.value.row c.kind_of-kind.ensures c.type_of.ensures c.run_count.ensures.0) c.if-first-value.true refl

pub returns-else-first-value : goal.returns-else-first-value
returns-else-first-value c =
    λ a e. rw (lt-leb c.first_run-first.result c.args.value.run c.if-first-value.false) (may-below c.args.t.now.bytes.now c.args.t.now.rows c.args.t.now.runs c.args.t.now.shape c.args.x c.requires.0 c.requires.1 c.args.value.row c.args.value.run e
    (first_read c.args.t.now.bytes.now c.args.t.now.rows c.args.t.now.runs c.args.t.now.shape c.args.x c.requires.0 c.args.value.row c.kind_of-kind.ensures c.first_run-first.ensures.0) c.if-first-value.false)
