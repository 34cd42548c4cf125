-- `frame::misframed` meets its contract: the budget runs past the end, or the bytes after it decide. Assumes nothing.
use borrow.Author.Tests.{lt-ltb}
use Rattle.frame.specs.laws.Frame.{budget-cut, blocks-judged, part-decides}
use Rattle.frame.proofs.misframed.Goals as goal
use Rattle.frame.proofs.misframed.Goals.{then-file-lt5, else-file-lt5}

pub returns : goal.returns
returns c =
    rw c.then_some.ensures (elim c.if-file-lt5.branch [
      | then-file-lt5 w ↦ rw (w.then_some-is, lt-ltb _ 5 w.if-file-lt5.true) (budget-cut c.args.file.now w.if-file-lt5.true)
      | else-file-lt5 w ↦ rw w.then_some-is (blocks-judged c.args.file.now w.if-file-lt5.false (part-decides c.args.file.now w.is_framed.ensures))
    ])
