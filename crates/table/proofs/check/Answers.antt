-- `table::check` meets its contract. The loop's invariant: i rows are passed, a table with so many variables. Assumes nothing.
use Prim.Native.Nat.{◌/◌}
use native.Mathlib.Omega.{arith}
use mathlib.Core.Path.{◌≡◌, sym, ◌∙◌}
use lib.ListN.{length}
use Rattle.table.specs.laws.Passed.{passed_none, passed-all, passed-short, passed-shape, passed-refused, passed-more}
use Rattle.table.proofs.check.Goals as goal

pub loop-i-init : goal.loop-i-init
loop-i-init c = passed_none c.args.t.now

pub new-requires : goal.new-requires
new-requires c = passed-shape c.args.t.now c.loop-i.i c.loop-i.variables c.loop-i.invariant c.split_at.ensures.front

pub returns-in-Some : goal.returns-in-Some
returns-in-Some c =
    passed-refused c.args.t.now c.loop-i.i c.loop-i.variables c.loop-i.invariant (omega arith) (c.new.ensures.0 ∙ c.split_at.ensures.front) c.split_at.ensures.back c.args.at c.in-Some.reason (sym c.in-Some.is ∙ c.row_refusal.ensures)

pub loop-i-preserved : goal.loop-i-preserved
loop-i-preserved c =
    passed-more c.args.t.now c.loop-i.i c.loop-i.variables c.loop-i.invariant (omega arith) (c.new.ensures.0 ∙ c.split_at.ensures.front) c.split_at.ensures.back c.with_variable-variables.result (sym c.in_default.is ∙ c.row_refusal.ensures)
    c.with_variable-variables.ensures

pub returns-then-rows-t : goal.returns-then-rows-t
returns-then-rows-t c =
    let e : c.loop-i.i ≡ length c.args.t.now / 3 = omega arith in
    passed-short c.args.t.now (length c.args.t.now / 3) c.loop-i.variables (rw e at c.loop-i.invariant) c.args.at (omega arith) (omega arith)

pub returns : goal.returns
returns c =
    let e : c.loop-i.i ≡ length c.args.t.now / 3 = omega arith in
    passed-all c.args.t.now (length c.args.t.now / 3) c.loop-i.variables (rw e at c.loop-i.invariant) c.args.at (omega arith)
