-- `frame::is_framed` meets its contract: no blocks, a block that runs past the end, or a whole one and the rest. The measure is the number of blocks. Assumes nothing.
use native.Mathlib.Omega.{arith}
use mathlib.Core.Path.{◌∙◌}
use Rattle.frame.specs.laws.Frame.{framed-none, framed-short, framed-next}
use Rattle.frame.proofs.+is_framed.Goals as goal
use Rattle.frame.proofs.+is_framed.Goals.{then-s-lt2-via-then-s-lt2, then-s-lt2-via-else-s-lt2+then-s-length_of}

pub returns-then-n-eq0 : goal.returns-then-n-eq0
returns-then-n-eq0 t c = rw c.if-n-eq0.true (c.is_empty.ensures ∙ framed-none c.args.s.now)

pub returns-then-s-lt2 : goal.returns-then-s-lt2
returns-then-s-lt2 t c = elim c.then-s-lt2.branch [
  | then-s-lt2-via-then-s-lt2 w ↦ framed-short c.args.n c.args.s.now (omega arith) (omega arith)
  | then-s-lt2-via-else-s-lt2+then-s-length_of w ↦ framed-short c.args.n c.args.s.now (omega arith) (omega arith)
]

pub returns : goal.returns
returns t c = framed-next c.args.s.now c.split.ensures.1 c.args.n (omega arith) (omega arith) c.is_framed.ensures
