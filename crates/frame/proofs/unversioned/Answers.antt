-- `frame::unversioned` meets its contract: there is no first byte, or it is compared with 1. Assumes nothing.
use native.Mathlib.Omega.{arith}
use mathlib.Core.Path.{sym, ◌∙◌}
use Rattle.std.proofs.Common.{eqb-true}
use Rattle.std.proofs.lemmas.Bool.{eqb-false}
use Rattle.frame.specs.laws.Frame.{version-absent, version-judged}
use Rattle.frame.proofs.unversioned.Goals as goal
use Rattle.frame.proofs.unversioned.Goals.{then-is_empty, else-is_empty}

pub returns : goal.returns
returns c =
    rw c.then_some.ensures (elim c.if-is_empty.branch [
      | then-is_empty w ↦ rw (w.then_some-is, w.if-is_empty.true) (version-absent c.args.file.now (eqb-true _ 0 (sym c.is_empty.ensures ∙ w.if-is_empty.true)))
      | else-is_empty w ↦ rw w.then_some-is (version-judged c.args.file.now (omega (arith, eqb-false _ 0 (sym c.is_empty.ensures ∙ w.if-is_empty.false))))
    ])
