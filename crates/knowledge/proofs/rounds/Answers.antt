-- `rounds` ends with marks to which nothing can be added. Assumes nothing.
use Rattle.std.proofs.Common.{rules, ◌≡◌, ◌∙◌, length}
use Rattle.knowledge.specs.laws.Steps.{reaches-on, gained-reached, gained-falls, reached-length}
use Rattle.knowledge.specs.Steps.{stays}
use Rattle.knowledge.proofs.rounds.Goals as goal

pub rounds-init : goal.rounds-init
rounds-init c = stays

pub returns : goal.returns
returns c = record { reached = reaches-on c.rounds.invariant c.build.ensures; idle = c.in-None.ensures }

pub rounds-smaller : goal.rounds-smaller
rounds-smaller c =
    let h = c.in-Some.ensures in
    let size : length c.args.start ≡ 480 = search (rules, c.well_formed) in
    rw c.from.ensures (gained-falls h.1 c.build.ensures (reached-length c.build.ensures ∙ reached-length c.rounds.invariant ∙ size) h.0)

pub rounds-preserved : goal.rounds-preserved
rounds-preserved c = let h = c.in-Some.ensures in rw c.from.ensures (gained-reached h.1 (reaches-on c.rounds.invariant c.build.ensures) h.0)
