-- `State::initial` is the state before any move. Assumes nothing.
use native.Mathlib.Omega.{arith}
use Prim.Native.Nat.{◌+◌}
use mathlib.Core.Path.{refl}
use Rattle.semantics.specs.Scenario.{Scenario}
use Rattle.runs.specs.Opened.{Gives}
use Rattle.state.specs.laws.Start.{Begun, given-none, given-more, given-listed, given-start}
use Rattle.state.proofs.State.initial.Goals as goal

pub loop-u-init : goal.loop-u-init
loop-u-init c = (refl, λ sc given. given-none given)

pub agents_of-requires : goal.agents_of-requires
agents_of-requires c =
    let given = c.requires.1 in
    (c.requires.0, given.runs, omega (arith, c.args.opened.now.counted), given.size)

pub entered-names-requires : goal.entered-names-requires
entered-names-requires c =
    let given = c.requires.1 in
    (omega (arith, given.runs.few, c.args.opened.now.counted), rw given.rows at (c.agents_of.ensures c.requires.0 given.runs given.good).are)

pub loop-u-preserved : goal.loop-u-preserved
loop-u-preserved c =
    let begun : (sc : Scenario) (given : Gives c.args.opened.now sc) → Begun given (c.loop-u.u + 1) c.entered-names.result c.refill.new.classes = λ sc given.
    given-more given c.loop-u.u _ c.loop-u.names c.entered-names.result c.loop-u.classes c.refill.new.classes (c.loop-u.invariant.1 sc given) c.entered-names.ensures (c.agents_of.ensures sc given.runs given.good) (rw (c.args.opened.now.counted) at c.refill.ensures) in
    ((begun c.requires.0 c.requires.1).classed.size, begun)

pub start_marks-requires : goal.start_marks-requires
start_marks-requires c = given-listed c.requires.1 _ c.requires.2

pub returns : goal.returns
returns c sc given e =
    given-start given _ e c.loop-u.names c.loop-u.classes c.start_marks.result c.settle-marks.result (omega arith) (c.loop-u.invariant.1 sc given) c.start_marks.ensures (rw (c.args.opened.now.counted) at c.settle-marks.ensures)
