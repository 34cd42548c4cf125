-- `push_steps` adds one step after the other. The measure is how many bytes there are. Assumes nothing.
use Rattle.std.proofs.Common.{length}
use Rattle.text.proofs.Text.+push_steps.Given as goal

abbrev pub decreases-push_steps : goal.decreases-push_steps
decreases-push_steps l = length l.trace.now
