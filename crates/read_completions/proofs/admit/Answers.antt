-- `read_completions::admit` meets its contract: the variable needs one class, or any. Assumes nothing.
use Rattle.read_completions.specs.laws.Rows.{admitted-all}
use Rattle.read_completions.proofs.admit.Goals as goal

pub returns-else-class-lt-ABSENT : goal.returns-else-class-lt-ABSENT
returns-else-class-lt-ABSENT c = admitted-all c.args.vars c.args.i c.args.need.now c.args.set.now
