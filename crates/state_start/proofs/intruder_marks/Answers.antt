-- `intruder_marks` marks the intruder constants. Assumes nothing.
use Rattle.std.proofs.Common.{◌<◌, ◌≡◌, rules, tests}
use Rattle.rows.specs.laws.Made.{made-marks}
use Rattle.knowledge.specs.Steps.{kind_at}
use Rattle.state_start.specs.laws.Start.{kind-intruder, kind-other, intruders}
use Rattle.state_start.proofs.intruder_marks.Goals as goal

-- the call is named `c` as well, so that a search does not read what is known of the whole array
pub returns : goal.returns
returns c =
    let marked = made-marks (λ x y q k. search (rules, tests)) c.from_fn.ensures.items (λ k. (k < c.args.t.now.rows) × (kind_at c.args.t.now.bytes.now k ≡ 4)) (λ x c. search (rules, tests, kind-intruder)) (λ x c. search (rules, tests, kind-other)) in
    intruders c.args.t.now.bytes.now c.args.t.now.rows c.from_fn.result c.args.t.now.shape.few c.from_fn.ensures.items.long marked
