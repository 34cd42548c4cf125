-- `gathered` marks the classes of the marked cells. Assumes nothing.
use Rattle.knowledge.specs.laws.Filled.{filled_none}
use Rattle.knowledge.proofs.gathered.Goals as goal

pub loop-u-init : goal.loop-u-init
loop-u-init c = filled_none _ _ _ _
