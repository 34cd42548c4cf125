-- `read_domains::meet` meets its contract. Assumes nothing.
use Rattle.std.proofs.Common.{arith, rules, tests}
use Rattle.rows.specs.laws.Ranges.{any-true}
use Rattle.variables.specs.Variables.{In}
use Rattle.read_domains.proofs.meet.Goals as goal

pub returns : goal.returns
returns c = λ d l a b.
    any-true c.any.result (λ e. In c.args.set.now e × In c.args.other.now e) (λ x y q k. search (rules, tests)) (λ x k. search (rules, tests)) _ c.any.ensures.runs d (omega arith) (omega arith) (a, b)
