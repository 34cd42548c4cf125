-- `may_be_read` says no only where no completion of the choice is allowed. Assumes nothing.
use Rattle.read_partial.specs.laws.Refused.{own-refused, peer-refused, row-refused, values-refused}
use Rattle.read_partial.proofs.may_be_read.Goals as goal
use Rattle.read_partial.proofs.may_be_read.Goals.{then-not-own-via-then-not-own, then-not-own-via-else-not-own+then-not-peer}

pub returns-then-possible : goal.returns-then-possible
returns-then-possible c sc d s a from xs vs ws names next kind setting arrays takes =
    values-refused c.args.t.now.shape c.requires from xs vs ws next kind setting arrays takes c.completes.result c.completes.ensures

pub returns-else-possible : goal.returns-else-possible
returns-else-possible c sc d s a from xs vs ws names next kind setting arrays takes answer =
    row-refused c.args.t.now.shape c.requires from xs vs ws next kind setting arrays c.possible.result c.possible.ensures c.if-possible.false

pub returns-then-not-own : goal.returns-then-not-own
returns-then-not-own c sc d s a from xs vs ws names next kind setting arrays takes answer = elim c.then-not-own.branch [
  | then-not-own-via-then-not-own w ↦ own-refused c.args.t.now.shape c.requires from xs vs ws next kind setting arrays w.if-not-own.true
  | then-not-own-via-else-not-own+then-not-peer w ↦ peer-refused c.args.t.now.shape c.requires from xs vs ws next kind setting arrays w.if-not-peer.true
]
