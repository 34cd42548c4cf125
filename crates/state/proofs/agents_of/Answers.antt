-- `agents_of` gives the agents of a run as the file has them. Assumes nothing.
use native.Mathlib.Omega.{arith}
use mathlib.Core.Path.{refl}
use Rattle.state.specs.laws.Start.{agents-none, agents-part, agents-inside}
use Rattle.state.proofs.agents_of.Goals as goal

pub returns-then-u-eq0 : goal.returns-then-u-eq0
returns-then-u-eq0 c sc runs good = agents-none sc good c.args.opened.now.file.now c.args.opened.now.runs runs c.args.u c.if-u-eq0.true _ refl

pub overflow_add-first : goal.overflow_add-first
overflow_add-first c =
    let l = agents-inside c.args.opened.now.file.now c.requires.0 c.args.opened.now.runs c.requires.1 c.args.u c.if-u-eq0.false c.requires.2 in
    record { fits = omega (arith, l, c.requires.3) }

pub overflow_add-end : goal.overflow_add-end
overflow_add-end c =
    let l = agents-inside c.args.opened.now.file.now c.requires.0 c.args.opened.now.runs c.requires.1 c.args.u c.if-u-eq0.false c.requires.2 in
    record { fits = omega (arith, l, c.requires.3) }

pub slice_bounds-result-end-2 : goal.slice_bounds-result-end-2
slice_bounds-result-end-2 c =
    let l = agents-inside c.args.opened.now.file.now c.requires.0 c.args.opened.now.runs c.requires.1 c.args.u c.if-u-eq0.false c.requires.2 in
    omega (arith, l, c.requires.3)

pub returns : goal.returns
returns c sc runs good =
    agents-part sc good c.args.opened.now.file.now c.args.opened.now.runs runs c.args.u c.if-u-eq0.false c.requires.2 _ refl
