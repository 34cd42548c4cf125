-- `tejorva_replay` is the number of Replay's answer to a file and a trace. Assumes nothing.
use mathlib.Core.Path.{ap, ◌∙◌}
use Rattle.packing.specs.Packing.{packed_replaying, replay-packed}
use Rattle.tejorva.proofs.tejorva_replay.Goals as goal

pub returns : goal.returns
returns c = c.replayed.ensures ∙ ap packed_replaying c.replay.ensures ∙ replay-packed c.args.file.now c.args.trace.now
