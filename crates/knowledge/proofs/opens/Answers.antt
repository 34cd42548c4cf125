-- `opens` tells whether the inverse of a key is marked. Assumes nothing.
use Rattle.std.proofs.Common.{arith, rules, tests}
use Rattle.rows.specs.laws.Ranges.{told}
use Rattle.knowledge.specs.laws.Steps.{left_below, inverse-key, opening-other, opening-itself}
use Rattle.knowledge.proofs.opens.Goals as goal

pub returns-in_default : goal.returns-in_default
returns-in_default c = let d = c.in_default.ensures in
    opening-itself {u = c.place_of-x.result.1} (omega (arith, c.from.ensures, c.place_of-x.ensures)) (omega arith, omega arith) c.kind_of.ensures d.0 d.1 c.is_marked.ensures

pub class_at-agent-requires : goal.class_at-agent-requires
class_at-agent-requires c =
    (left_below c.args.t.now.bytes.now c.args.t.now.rows c.args.t.now.runs c.args.t.now.shape _ c.if-t-x.false c.kind_of.ensures (inverse-key c.in-Some.ensures).0 c.left_of.ensures.0, omega (arith, c.args.t.now.shape.few_runs, c.if-t-u.false))

pub returns : goal.returns
returns c =
    opening-other (omega (arith, c.from.ensures, c.place_of-x.ensures)) (omega arith, omega arith) c.kind_of.ensures c.told-marks c.in-Some.ensures c.left_of.ensures.0 c.class_at-agent.ensures c.class_of_parts-inverse.result c.class_of_parts-inverse.ensures
    (told c.class_of_parts-inverse.result c.is_some_and.ensures (λ e. e) (λ class k. search (rules, tests)))
