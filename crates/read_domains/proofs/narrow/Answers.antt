-- `narrow` keeps what is in both. Assumes nothing.
use Rattle.std.proofs.Common.{rules, tests}
use Rattle.rows.specs.laws.Made.{made-marks}
use Rattle.variables.specs.Variables.{In}
use Rattle.read_domains.specs.laws.Sets.{row_stays}
use Rattle.read_domains.specs.Domains.{InRow}
use Rattle.read_domains.proofs.narrow.Goals as goal

pub returns : goal.returns
returns c j d low within is same =
    let marked = made-marks (λ x y q k. search (rules, tests)) c.from_fn.ensures.items (λ k. InRow c.args.dom.now c.args.i k × In c.args.set.now k) (λ x c. search (rules, tests)) (λ x c. search (rules, tests)) in
    row_stays c.args.dom.now c.args.i _ j d (λ e h. (marked d).1 within (h, same e)) is
