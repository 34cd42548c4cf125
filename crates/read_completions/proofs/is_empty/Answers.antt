-- `is_empty` finds no domain empty, if each has a class. Assumes nothing.
use Rattle.std.proofs.Common.{ℕ, ◌≡◌, false, [], get_or, refl, rules, tests}
use Rattle.rows.specs.laws.Ranges.{any-range}
use Rattle.read_domains.specs.Domains.{InRow}
use Rattle.read_domains.specs.laws.Sets.{counted}
use Rattle.read_completions.specs.Completions.{NoneEmpty}
use Rattle.read_completions.proofs.is_empty.Goals as goal

pub returns : goal.returns
returns c =
    let dom = c.args.dom.now in
    any-range c.any.result (λ b. NoneEmpty c.args.vars dom → b ≡ false) (λ i. (e : ℕ) → InRow dom i e → ⊥) (λ i. Unit {0}) (λ x y q k. search (rules, tests)) (λ x c e h. let some = counted (get_or dom x []) e h in search (rules, tests)) (λ x c. tt) _ c.any.ensures.runs
    (λ i lo hi empty some. let w = some i hi in absurd (empty w.0 w.1.1)) (λ each some. refl)
