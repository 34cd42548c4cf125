-- `run_count` counts the run records of a block, by their length. Assumes nothing.
use mathlib.Core.Path.{◌∙◌}
use Rattle.scenario.specs.laws.Open.{counted-ceil}
use Rattle.scenario.proofs.run_count.Goals as goal

pub returns : goal.returns
returns c at = c.div_ceil.ensures ∙ counted-ceil c.args.b.now c.args.roles at
