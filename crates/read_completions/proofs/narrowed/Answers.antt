-- `read_completions::narrowed` meets its contract. The loop's invariant: no completion is missed. Assumes nothing.
use Rattle.read_completions.specs.laws.Search.{kept_more}
use Rattle.read_completions.proofs.narrowed.Goals as goal
use Rattle.read_completions.proofs.narrowed.Goals.{then-is_open, else-is_open}

pub loop-i-preserved : goal.loop-i-preserved
loop-i-preserved c = elim c.if-is_open.branch [
  | then-is_open w ↦ rw w.less-is (kept_more c.args.known.now.pattern c.args.dom c.loop-i-test.true c.loop-i.less w.set_of-set.result w.narrow.new.dom c.loop-i.invariant w.set_of-set.ensures w.narrow.ensures)
  | else-is_open w ↦ rw w.less-is c.loop-i.invariant
]
