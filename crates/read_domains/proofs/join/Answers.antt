-- `join` keeps the set and adds what is in both others. Assumes nothing.
use Rattle.std.proofs.Common.{◌⊎◌, inl, inr, rules, tests}
use Rattle.rows.specs.laws.Made.{made-marks}
use Rattle.variables.specs.Variables.{In}
use Rattle.read_domains.proofs.join.Goals as goal

pub returns : goal.returns
returns c =
    let marked = made-marks (λ x y q k. search (rules, tests)) c.from_fn.ensures.items (λ k. In c.args.set k ⊎ (In c.args.left.now k × In c.args.right.now k)) (λ x c. search (rules, tests)) (λ x c. search (rules, tests)) in
    record { keeps = λ d l h. (marked d).1 l (inl h); adds = λ d l a b. (marked d).1 l (inr (a, b)) }
