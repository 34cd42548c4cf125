-- `followed` follows a trace through an accepted file. Assumes nothing.
use native.Mathlib.Omega.{arith}
use Prim.Native.Nat.{ℕ, ◌+◌, ◌-◌, ◌<◌, ◌≤◌}
use mathlib.Core.List.{List}
use mathlib.Core.Path.{◌≡◌, refl, sym, ap, ◌∙◌}
use Rattle.std.proofs.lemmas.Result.{err_from_is_err_and}
use lib.ListN.{length}
use Rattle.std.specs.Prelude.{Option, None, Some, Result, Err, take, drop}
use Rattle.std.specs.Option.{ok_or}
use Rattle.answers.specs.declared.Refusal.{Refusal}
use Rattle.answers.specs.declared.Reason.TheVariants.{Step}
use Rattle.semantics.specs.Scenario.{Scenario}
use Rattle.semantics.specs.State.{State}
use Rattle.answers.specs.Answers.{replayed_as}
use Rattle.runs.specs.declared.Runs.{Runs}
use Rattle.runs.specs.Given.{Given}
use Rattle.state.specs.State.{IsState}
use Rattle.state.specs.declared.State.{State as CodeState}
use Rattle.runs.specs.laws.Blocks.{opened-framed}
use Rattle.runs.specs.laws.Given.{opened-knowledge}
use Rattle.replay_steps.specs.declared.Stepped.{Stepped}
use Rattle.replay_steps.specs.Steps.{StepDone}
use Rattle.replay.specs.laws.Follow.{FollowedSteps, follow-start, follow-end, follow-refused, follow-size, follow-on, claim-answered}
use Rattle.replay.proofs.followed.Goals as goal

-- an allowed step: it has two bytes at least, it ends inside the trace, and the trace is followed past it
taken : {file t : List ℕ} {n : ℕ} {r : Runs} {sc : Scenario} → Given file t n r sc → {trace : List ℕ} {at : ℕ} {s : CodeState} → FollowedSteps sc trace at s
    → at < length trace → {o : Option Stepped} {p : Stepped}
    → ((sc : Scenario) (d : State) → Given file t n r sc → IsState sc d s → StepDone sc d (take (length trace - at) (drop at trace)) o) → o ≡ Some p
    → (2 ≤ p.length) × (at + p.length ≤ length trace) × FollowedSteps sc trace (at + p.length) p.state
taken g f more step allowed =
    let done = step _ f.d g f.is_state in
    let w = follow-size f more refl done allowed in
    (w.0, w.1, follow-on f more refl done allowed)

-- the refusal that is told where a step is not allowed
refusal-told : (x y : Refusal) (o : Option Stepped) (r : Result Stepped Refusal) → o ≡ None → r ≡ Err x → r ≡ ok_or o y → x ≡ y
refusal-told x y None r n is value = let same : ◌≡◌ {A = Result Stepped Refusal} (Err x) (Err y) = sym is ∙ value in cc
refusal-told x y (Some p) r n is value = cc

pub part_of-requires : goal.part_of-requires
part_of-requires c = opened-framed _ _ c.requires.is_opened

pub initial-s-requires : goal.initial-s-requires
initial-s-requires c = (_, c.requires.given, opened-knowledge _ _ c.requires.is_opened c.part_of.ensures.1)

pub loop-at-init : goal.loop-at-init
loop-at-init c = (omega arith, follow-start _ _ (c.initial-s.ensures _ c.requires.given (opened-knowledge _ _ c.requires.is_opened c.part_of.ensures.1)))

pub step-requires : goal.step-requires
step-requires c =
    let f = c.loop-at.invariant.1 in
    (_, f.d, c.requires.given, f.is_state)

pub returns-in_err-stepped : goal.returns-in_err-stepped
returns-in_err-stepped c =
    let f = c.loop-at.invariant.1 in
    let left = err_from_is_err_and c.from_residual.result c.from_residual.ensures.1 in
    let refused = follow-refused f c.loop-at-test.true refl (c.step.ensures _ f.d c.requires.given f.is_state) c.in_err-stepped.ensures.ok_part in
    let told = refusal-told c.in_err-stepped.field-0.0 (record { reason = Step; place = c.loop-at.at }) c.step.result c.ok_or.result c.in_err-stepped.ensures.ok_part c.in_err-stepped.was c.ok_or.ensures.value in
    rw (left.1, left.2, told) (ap replayed_as (sym refused))

pub overflow_add-at : goal.overflow_add-at
overflow_add-at c =
    let w = taken c.requires.given c.loop-at.invariant.1 c.loop-at-test.true {p = c.in_ok-stepped.stepped} c.step.ensures c.in_ok-stepped.ensures.ok_part in
    record { fits = omega (arith, w.1) }

pub loop-at-smaller : goal.loop-at-smaller
loop-at-smaller c =
    let w = taken c.requires.given c.loop-at.invariant.1 c.loop-at-test.true {p = c.in_ok-stepped.stepped} c.step.ensures c.in_ok-stepped.ensures.ok_part in
    omega (arith, w.0, w.1)

pub loop-at-preserved : goal.loop-at-preserved
loop-at-preserved c =
    let w = taken c.requires.given c.loop-at.invariant.1 c.loop-at-test.true {p = c.in_ok-stepped.stepped} c.step.ensures c.in_ok-stepped.ensures.ok_part in
    (w.1, w.2)

pub broken-requires : goal.broken-requires
broken-requires c =
    let f = c.loop-at.invariant.1 in
    (_, f.d, _, c.requires.given, f.is_state, refl, refl)

pub returns : goal.returns
returns c =
    let f = c.loop-at.invariant.1 in
    claim-answered _ _ f.d (c.broken.ensures _ f.d _ c.requires.given f.is_state refl refl) (follow-end f c.loop-at-test.false)
