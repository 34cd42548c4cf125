-- `spread` marks the cells of the marked classes. Assumes nothing.
use Rattle.knowledge.specs.laws.Filled.{filled_none}
use Rattle.knowledge.proofs.spread.Goals as goal

pub loop-u-init : goal.loop-u-init
loop-u-init c = filled_none _ _ _ _
