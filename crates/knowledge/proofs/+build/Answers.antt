-- `build` adds only marks that rows give. Assumes nothing.
use Rattle.knowledge.specs.Steps.{stays}
use Rattle.knowledge.specs.laws.Steps.{reaches-on}
use Rattle.knowledge.proofs.+build.Goals as goal

pub returns-then-r-eq0 : goal.returns-then-r-eq0
returns-then-r-eq0 t c = stays

pub loop-x-init : goal.loop-x-init
loop-x-init t c = stays

pub loop-x-preserved : goal.loop-x-preserved
loop-x-preserved t c = reaches-on c.loop-x.invariant c.build_row.ensures

pub returns : goal.returns
returns t c = reaches-on c.build.ensures c.loop-x.invariant
