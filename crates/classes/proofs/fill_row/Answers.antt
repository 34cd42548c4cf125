-- `classes::fill_row` meets its contract: the cell gets its class, or keeps what it has. Assumes nothing.
use Rattle.classes.specs.laws.Step.{row_put, row_none, row_kept}
use Rattle.classes.proofs.fill_row.Goals as goal

pub returns-in-Some : goal.returns-in-Some
returns-in-Some c =
    row_put c.args.t.now.bytes.now c.args.t.now.rows c.args.t.now.runs c.args.u c.args.names.now c.args.t.now.shape c.args.x c.requires.1 c.requires.0 c.args.classes.now c.cell-c.ensures.0 c.cell-c.ensures.1 c.told-classes c.if-classes-c-eq-ABSENT.true c.in-Some.ensures

pub returns-in_default : goal.returns-in_default
returns-in_default c =
    row_none c.args.t.now.bytes.now c.args.t.now.rows c.args.t.now.runs c.args.u c.args.names.now c.args.t.now.shape c.args.x c.requires.1 c.requires.0 c.args.classes.now c.cell-c.ensures.0 c.cell-c.ensures.1 c.told-classes c.if-classes-c-eq-ABSENT.true c.in_default.ensures

pub returns-else-classes-c-eq-ABSENT : goal.returns-else-classes-c-eq-ABSENT
returns-else-classes-c-eq-ABSENT c =
    row_kept c.args.t.now.bytes.now c.args.t.now.rows c.args.t.now.runs c.args.u c.args.names.now c.args.t.now.shape c.args.x c.requires.1 c.requires.0 c.args.classes.now c.cell-c.ensures.0 c.cell-c.ensures.1 c.told-classes c.if-classes-c-eq-ABSENT.false
