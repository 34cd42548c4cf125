-- `runs::runs_of` meets its contract. The loop's invariant: the runs below k are found. Assumes nothing.
use Prim.Native.Nat.{◌+◌, ◌*◌}
use native.Mathlib.Omega.{arith}
use mathlib.Core.Path.{ap}
use Rattle.answers.specs.Answers.{scenario_in}
use Rattle.answers.specs.declared.Layout.{Layout}
use Rattle.runs.specs.laws.Found.{SomeRun, start-inside}
use Rattle.runs.specs.laws.Listed.{few-runs, few-roles, found_none, found-run, found-more, found_all}
use Rattle.runs.proofs.runs_of.Goals.{In-loop-k}
use Rattle.runs.proofs.runs_of.Goals as goal

-- in the loop, run k begins where its record stands
some-run : (c : In-loop-k) → SomeRun c.args.file.now (c.args.l.runs.start + c.loop-k.k * (1 + c.args.l.roles.count))
some-run c =
    let e = c.requires.is_opened in
    (scenario_in c.args.file.now, c.loop-k.k, found-run c.args.file.now _ e (c.loop-k.invariant.2 _ e) c.loop-k-test.true)

pub loop-k-init : goal.loop-k-init
loop-k-init c =
    let file = c.args.file.now in
    let p = c.requires in (
      omega (arith, few-runs file _ p.is_opened, ap (λ (l : Layout). l.runs.count) p.layout),
      omega (arith, few-roles file _ p.is_opened, ap (λ (l : Layout). l.roles.count) p.layout),
      λ sc e. found_none file sc e (scenario_in file, p.is_opened, p.layout),
    )

pub overflow_mul-k : goal.overflow_mul-k
overflow_mul-k c = omega (arith, start-inside c.args.file.now _ (some-run (goal.at.overflow_mul-k c).In-loop-k))

pub overflow_add-l : goal.overflow_add-l
overflow_add-l c = omega (arith, start-inside c.args.file.now _ (some-run (goal.at.overflow_add-l c).In-loop-k))

pub run_from-requires : goal.run_from-requires
run_from-requires c = some-run (goal.at.run_from-requires c).In-loop-k

pub loop-k-preserved : goal.loop-k-preserved
loop-k-preserved c =
    (omega arith, omega arith, λ sc e. found-more c.args.file.now sc e (c.loop-k.invariant.2 sc e) c.loop-k-test.true c.run_from.ensures.0 c.run_from.ensures.1)

pub returns : goal.returns
returns c =
    let e = c.requires.is_opened in
    found_all c.args.file.now _ e (c.loop-k.invariant.2 _ e) c.loop-k-test.false
