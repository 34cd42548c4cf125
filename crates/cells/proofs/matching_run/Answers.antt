-- `matching_run` looks for a run, by what `matches_at` tells of each. Assumes nothing.
use Rattle.std.proofs.Common.{rules, tests, arith, ℕ}
use Rattle.rows.specs.laws.Ranges.{find-range}
use Rattle.cells.specs.Cells.{Matches}
use Rattle.cells.proofs.matching_run.Goals as goal

pub returns : goal.returns
returns c =
    let P : ℕ → Type 0 = Matches c.args.t.now.bytes.now c.args.classes.now c.args.a c.args.b c.args.x in
    find-range _ P (λ w. P w → ⊥) (λ x y q k. search (rules, tests)) (λ x k. search (rules, tests)) (λ x k. search (rules, tests)) _ c.find.ensures.runs
    (λ none w l. none w (omega arith) (omega arith)) (λ w lo hi h. (omega arith, h))
