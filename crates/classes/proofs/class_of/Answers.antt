-- `classes::class_of` meets its contract: each way out is one way for a cell to get its class. Assumes nothing.
use Rattle.std.proofs.Common.{arith, sym, ◌∙◌, ltb-false}
use Rattle.classes.specs.laws.ClassOf.{first_read, second-read, class-looked}
use Rattle.cells.specs.laws.Cells.{left-small, second-small}
use Rattle.classes.proofs.class_of.Goals as goal

pub cell-requires : goal.cell-requires
cell-requires c =
    (left-small c.args.t.now.bytes.now c.args.t.now.rows c.args.t.now.runs c.args.t.now.shape c.args.x c.requires.1 (ltb-false _ 8 (sym c.is_before.ensures ∙ c.if-is_before.false)) c.left_of.ensures.0, omega (arith, c.args.t.now.shape.few_runs, c.requires.0))

pub cell-requires-2 : goal.cell-requires-2
cell-requires-2 c =
    (second-small c.args.t.now.bytes.now c.args.t.now.rows c.args.t.now.runs c.args.t.now.shape c.args.x c.requires.1 (ltb-false _ 8 (sym c.is_before.ensures ∙ c.if-is_before.false)) c.second_of.ensures.0, omega (arith, c.args.t.now.shape.few_runs, c.requires.0))

pub returns : goal.returns
returns c =
    let first = first_read c.args.t.now.bytes.now c.args.classes.now c.args.u c.args.x c.told-classes c.left_of.ensures.0 c.cell.ensures.0 c.cell.ensures.1 in
    let second = second-read c.args.t.now.bytes.now c.args.classes.now c.args.u c.args.x c.told-classes c.second_of.ensures.0 c.cell-2.ensures.0 c.cell-2.ensures.1 in
    class-looked c.args.t.now.bytes.now c.args.t.now.rows c.args.t.now.runs c.args.names.now c.args.classes.now c.args.u c.args.x c.kind_of-kind.ensures (rw (← c.kind_of-kind.ensures) at (ltb-false _ 8 (sym c.is_before.ensures ∙ c.if-is_before.false))) (c.in_ok-a.ensures.1 ∙ first) (c.in_ok-b.ensures.1 ∙ second) c.in_ok-a.ensures.0 c.in_ok-b.ensures.0 c.class_of_parts.result c.class_of_parts.ensures c.cell-c.ensures.0 c.unwrap_or.ensures
