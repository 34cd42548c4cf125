-- `parts_of` is the layout of a file. Assumes nothing.
use native.Mathlib.Omega.{arith}
use Rattle.scenario.specs.laws.Open.{layout-right}
use Rattle.scenario.specs.laws.Blocks.{rows_in, count-few, run-count-read}
use Prim.Native.Nat.{ℕ}
use mathlib.Core.List.{List}
use mathlib.Core.Path.{ap}
use lib.ListN.{length}
use Rattle.scenario.proofs.parts_of.Goals as goal

pub run_count-requires : goal.run_count-requires
run_count-requires c = omega (arith, count-few c.args.tabled.now.file.now c.requires.0)

pub returns : goal.returns
returns c =
    let file = c.args.tabled.now.file.now in
    layout-right file (rows_in file) c.requires.1
    c.budget.ensures.0
    c.part_of.ensures.0.0
    (rw c.args.tabled.now.its_table at c.args.tabled.now.table.shape.count)
    c.part_of-2.ensures.0.0
    c.requires.0
    c.part_of-runs.ensures.0.0
    (run-count-read file c.part_of-runs.ensures.1 c.requires.0 c.run_count.ensures)
    c.part_of-knowledge.ensures.0.0
    (ap (λ (bytes : List ℕ). length bytes) c.part_of-knowledge.ensures.1)
