-- `fit` tells that what each variable needs is in its domain. Assumes nothing.
use Rattle.std.proofs.Common.{ℕ, ◌<◌, ◌≡◌, true, get_or, refl, rules, tests}
use Rattle.rows.specs.laws.Ranges.{all-range}
use Rattle.cells.specs.Cells.{absent}
use Rattle.read_domains.specs.Domains.{Fit, InRow}
use Rattle.read_domains.proofs.fit.Goals as goal

pub returns : goal.returns
returns c =
    let class : ℕ → ℕ = λ j. get_or c.args.need.now (get_or c.args.vars.rows j 0) 0 in
    all-range c.all.result (λ r. Fit c.args.vars c.args.dom.now c.args.need.now → r ≡ true) (λ j. Unit {0}) (λ j. (class j < absent → InRow c.args.dom.now j (class j)) → ⊥) (λ x y q k. search (rules, tests)) (λ x c. tt) (λ x c. search (rules, tests)) _ c.all.ensures.runs
    (λ each fits. refl) (λ j lo hi miss fits. absurd (miss (fits j hi)))
