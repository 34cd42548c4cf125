-- `learn` gives exact marks with one more value known. Assumes nothing.
use native.Mathlib.Omega.{arith}
use Prim.Native.Nat.{ℕ, ◌<◌, ◌≤◌}
use mathlib.Core.Path.{◌≡◌}
use mathlib.Core.Bool.{Bool}
use mathlib.Core.List.{List}
use borrow.Author.Rules.{rules}
use lib.ListN.{length}
use Rattle.rows.specs.Rows.{rows_of, Shape}
use Rattle.cells.specs.Cells.{cell_of, Within}
use Rattle.knowledge.specs.Marks.{Learnt, LearnsCell, was_marked, is_worked}
use Rattle.knowledge.specs.laws.Learn.{learnt-exact}
use Rattle.knowledge.proofs.learn.Goals as goal

-- with it the marks are exact
exact : (bytes : List ℕ) (n runs : ℕ) (classes : List ℕ) (r u at : ℕ) (marks more : List Bool)
    → Shape bytes n runs → r < n → u ≤ runs → at ≡ cell_of r u → at < 480 → length marks ≡ 480
    → Learnt (rows_of bytes) runs classes r u marks more → LearnsCell (rows_of bytes) runs classes r u marks more
exact bytes n runs classes r u at marks more shape below run at-is low size learnt =
    let within : Within (rows_of bytes) runs r u = record { row = omega (arith, shape.count, below); run = run } in
    learnt-exact (rows_of bytes) (omega (arith, shape.few, shape.count)) runs r u within classes marks size (omega (arith, at-is, low)) learnt

pub returns-then-marks-c : goal.returns-then-marks-c
returns-then-marks-c c =
    let found : Learnt (rows_of c.args.t.now.bytes.now) c.args.t.now.runs c.args.classes.now c.args.r c.args.u c.args.marks c.args.marks = was_marked (rw (← c.cell-c.ensures.0) c.if-marks-c.true) in
    record {
      learnt = found;
      learns_cell = exact c.args.t.now.bytes.now c.args.t.now.rows c.args.t.now.runs c.args.classes.now c.args.r c.args.u c.cell-c.result c.args.marks c.args.marks c.args.t.now.shape c.requires.0 c.requires.1 c.cell-c.ensures.0 c.cell-c.ensures.1 (search rules) found;
    }

pub returns : goal.returns
returns c =
    let found : Learnt (rows_of c.args.t.now.bytes.now) c.args.t.now.runs c.args.classes.now c.args.r c.args.u c.args.marks c.settle.result = is_worked {more = c.settle.result} (rw (← c.cell-c.ensures.0) c.settle.ensures) in
    record {
      learnt = found;
      learns_cell = exact c.args.t.now.bytes.now c.args.t.now.rows c.args.t.now.runs c.args.classes.now c.args.r c.args.u c.cell-c.result c.args.marks c.settle.result c.args.t.now.shape c.requires.0 c.requires.1 c.cell-c.ensures.0 c.cell-c.ensures.1 (search rules) found;
    }
