-- `covers` tells whether marks that are kept stand. Assumes nothing.
use Rattle.std.proofs.Common.{arith, rules, tests, ◌≡◌, true}
use Rattle.std.proofs.lemmas.Bool.{false≢true}
use Rattle.rows.specs.laws.Ranges.{all-range}
use Rattle.knowledge.specs.Steps.{On}
use Rattle.open_marks.specs.Sure.{Stand}
use Rattle.open_marks.proofs.covers.Goals as goal

pub returns : goal.returns
returns c =
    all-range _ (λ r. r ≡ true → Stand c.args.n c.args.marks.now c.args.kept.now) (λ x. On c.args.kept.now x → On c.args.marks.now x) (λ x. Unit {0}) (λ x y q k. search (rules, tests)) (λ x k. search (rules, tests)) (λ x k. tt) _ c.all.ensures.runs
    (λ each e x l. each x (omega arith) l) (λ x lo l h e. absurd (false≢true e))
