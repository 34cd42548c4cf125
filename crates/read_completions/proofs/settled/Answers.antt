-- `read_completions::settled` meets its contract. The loop's invariant: no completion is missed. Assumes nothing.
use Rattle.read_completions.specs.laws.Search.{kept-both}
use Rattle.read_completions.proofs.settled.Goals as goal

pub returns-then-eq : goal.returns-then-eq
returns-then-eq c = kept-both c.args.known.now.pattern c.args.dom c.loop.less c.narrowed-less.result c.loop.invariant c.narrowed-less.ensures

pub loop-preserved : goal.loop-preserved
loop-preserved c = kept-both c.args.known.now.pattern c.args.dom c.loop.less c.narrowed-less.result c.loop.invariant c.narrowed-less.ensures
