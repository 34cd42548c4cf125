-- `next_gain` finds a class that a row gives. Assumes nothing.
use Rattle.std.proofs.Common.{rules, tests, arith, ℕ, ◌<◌}
use Rattle.cells.specs.Cells.{absent}
use Rattle.rows.specs.laws.Ranges.{find_map-range}
use Rattle.knowledge.specs.Steps.{RowGained}
use Rattle.knowledge.specs.laws.Steps.{rows-idle}
use Rattle.knowledge.proofs.next_gain.Goals as goal

pub returns : goal.returns
returns c =
    let Row : ℕ → ℕ → Type 0 = RowGained c.args.t.now.bytes.now c.args.t.now.rows c.args.t.now.runs c.args.classes.now c.args.marks.now in
    find_map-range _ (λ x class. (class < absent) × Row x class) (λ x. Row x absent) (λ x y q k. search (rules, tests)) (λ x y k. search (rules, tests)) (λ x k. search (rules, tests)) _ c.find_map.ensures.runs
    (λ none. rows-idle (λ x l. none x (omega arith) l)) (λ class x lo l h. (h.0, (x, l, h.1)))
