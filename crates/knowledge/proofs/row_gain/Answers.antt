-- `row_gain` finds a class that a row gives in some run. Assumes nothing.
use Rattle.std.proofs.Common.{rules, tests, arith, ℕ, ◌<◌}
use Rattle.cells.specs.Cells.{absent}
use Rattle.rows.specs.laws.Ranges.{find_map-range}
use Rattle.knowledge.specs.Steps.{GainedAt}
use Rattle.knowledge.specs.laws.Steps.{row-gains, row-idles}
use Rattle.knowledge.proofs.row_gain.Goals as goal

pub returns : goal.returns
returns c =
    let At : ℕ → ℕ → Type 0 = GainedAt c.args.t.now.bytes.now c.args.t.now.rows c.args.t.now.runs c.args.classes.now c.args.marks.now c.args.x in
    find_map-range _ (λ u class. (class < absent) × At u class) (λ u. At u absent) (λ x y q k. search (rules, tests)) (λ x y k. search (rules, tests)) (λ x k. search (rules, tests)) _ c.find_map.ensures.runs
    (λ none. row-idles (λ u l. none u (omega arith) (omega arith))) (λ class u lo hi h. (h.0, row-gains c.args.x u (omega arith) h.1 h.0))
