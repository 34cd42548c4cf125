-- `step` does the step at the front of some bytes. Assumes nothing.
use native.Mathlib.Omega.{arith}
use borrow.Author.Rules.{rules}
use Prim.Native.Nat.{ℕ, suc, ◌+◌, ◌*◌, ◌-◌, ◌<◌, ◌≤◌}
use mathlib.Core.Path.{◌≡◌, refl, sym, ap, ◌∙◌}
use mathlib.Core.Option.{some}
use mathlib.Core.Bool.{Bool}
use mathlib.Core.List.{List}
use lib.ListN.{length, get_or, take, drop}
use Rattle.records.specs.Kinds.{byte_of}
use Rattle.semantics.specs.Scenario.{Scenario}
use Rattle.semantics.specs.State as definitions
use Rattle.semantics.specs.State.{Active, active}
use Rattle.semantics.specs.Replay.{values_in}
use Rattle.rows.specs.Rows.{rows_of, Shape}
use Rattle.state.specs.declared.State.{State}
use Rattle.runs.specs.Given.{Given}
use Rattle.state.specs.State.{Due, IsState, NextMove}
use Rattle.state.specs.laws.Active.{active-zero, active-high, run-ended, Coming, run-coming, coming-move, coming-due}
use Rattle.runs.specs.declared.RunEvent.{RunEvent}
use Rattle.runs.specs.declared.Runs.{Runs}
use Rattle.runs.specs.Runs.{EventRead, ReadsEvent, run_at}
use Rattle.moves.specs.Moves.{AtEvent}
use Rattle.moves.specs.laws.Allowed.{told-some, told_none}
use Rattle.replay_choices.specs.Choices.{Suited}
use Rattle.std.proofs.Common.{Some}
use Rattle.replay_steps.specs.Steps.{Worked}
use Rattle.replay_steps.specs.laws.Steps.{refuses-short, refuses-cut, refuses-inactive, refuses-unsuited, suited-sets, step-refused, step-performed, suited-none, worked-ready}
use Rattle.replay_steps.proofs.step.Goals as goal

-- a run's number and its index
run-number : {u : ℕ} → (u ≡ 0 → ⊥) → suc (u - 1) ≡ u
run-number z = omega arith

run-low : {u n : ℕ} → (u ≡ 0 → ⊥) → u ≤ n → u - 1 < n
run-low z l = omega arith

-- the next event of run u
module _ {file t : List ℕ} {n : ℕ} {r : Runs} {sc : Scenario} {d : definitions.State} {s : State} (given : Given file t n r sc) (state : IsState sc d s) {u : ℕ} (nonzero : u ≡ 0 → ⊥) (few : u ≤ r.count)
    (to_come : get_or s.done (u - 1) 0 < (run_at r (u - 1)).events) (e : RunEvent) (read : ReadsEvent file r (u - 1) (get_or s.done (u - 1) 0) e) where
  coming : (a : Active) × Coming given state (u - 1) (run-low nonzero few) a
  coming = run-coming given state (u - 1) (run-low nonzero few) to_come

  is_read : EventRead sc coming.0.run coming.0.event (byte_of e.kind) e.own e.peer e.row
  is_read = read sc coming.0.run coming.0.event given.runs given.good coming.1.of_run coming.1.of_event

  is-active : active sc d u ≡ some coming.0
  is-active = ap (active sc d) (sym (run-number nonzero)) ∙ coming.1.is_active

  -- in a table with as many runs
  module _ {runs : ℕ} (counted : runs ≡ r.count) where
    next : NextMove t runs (u - 1) e sc d s coming.0
    next = rw counted (coming-move given state (u - 1) (run-low nonzero few) coming.0 coming.1 is_read)

    due : Due n runs (u - 1) e.own e.peer e.row
    due = rw counted (coming-due given state (u - 1) (run-low nonzero few) coming.0 coming.1 is_read)

    shape : Shape t n runs
    shape = rw counted given.shape

    -- the event with values that suit, and classes and marks that were worked on for it
    abbrev at-event : (values : List ℕ) {names : List ℕ} → Suited sc d coming.0 (values_in values) (Some names) → length s.done ≡ 4
        → (classes : List ℕ) (marks : List Bool) → Worked (rows_of t) runs (u - 1 + 1) (byte_of e.kind) names s.classes s.marks classes marks → AtEvent t n runs (u - 1) e classes marks
    at-event values {names} suited size classes marks worked = record {
      sc = sc;
      d = d;
      s = s;
      a = coming.0;
      vs = values_in values;
      names = names;
      shape = shape;
      due = due;
      next = next;
      size = size;
      ready = worked-ready next shape due _ _ (suited-sets suited refl).1 (suited-none next values (suited-sets suited refl).0) worked;
    }

pub returns-then-trace-lt2 : goal.returns-then-trace-lt2
returns-then-trace-lt2 c sc d given state =
    refuses-short sc d _ c.if-trace-lt2.true

pub returns-then-trace-end : goal.returns-then-trace-end
returns-then-trace-end c sc d given state =
    refuses-cut sc d _ c.if-trace-lt2.false c.from.ensures refl c.if-trace-end.true

pub returns-then-u-eq0 : goal.returns-then-u-eq0
returns-then-u-eq0 c sc d given state =
    refuses-inactive sc d _ c.if-trace-lt2.false c.from.ensures refl c.if-trace-end.false c.from-u.ensures (ap (active sc d) c.if-u-eq0.true ∙ active-zero sc d)

pub returns-then-opened-u : goal.returns-then-opened-u
returns-then-opened-u c sc d given state =
    refuses-inactive sc d _ c.if-trace-lt2.false c.from.ensures refl c.if-trace-end.false c.from-u.ensures (active-high sc d _ (omega (arith, c.if-opened-u.true, given.runs.count)))

pub returns-in_err-e : goal.returns-in_err-e
returns-in_err-e c sc d given state =
    rw c.from_residual.ensures (refuses-inactive sc d _ c.if-trace-lt2.false c.from.ensures refl c.if-trace-end.false c.from-u.ensures
    (ap (active sc d) (sym (run-number c.if-u-eq0.false)) ∙ run-ended given state _ (run-low c.if-u-eq0.false c.if-opened-u.false) c.in_err-e.ensures))

pub valued-requires : goal.valued-requires
valued-requires c =
    let of = due c.requires.2 c.requires.3 c.if-u-eq0.false c.if-opened-u.false c.in_ok-e.ensures.0 c.in_ok-e.e c.in_ok-e.ensures.1 c.args.opened.now.counted in
    (of.is_run, of.term)

pub is_allowed-requires : goal.is_allowed-requires
is_allowed-requires c =
    let size : length c.worked-more.new.classes ≡ 480 = search (rules, c.worked-more.auto.classes, c.requires.3.arrays.classed.size) in
    let of = due c.requires.2 c.requires.3 c.if-u-eq0.false c.if-opened-u.false c.in_ok-e.ensures.0 c.in_ok-e.e c.in_ok-e.ensures.1 c.args.opened.now.counted in
    let few = c.requires.2.shape.few in
    (omega (arith, c.requires.2.runs.few, of.is_run), (omega (arith, few, of.agent), (omega (arith, few, of.other), omega (arith, few, of.term))))

pub perform-after-requires : goal.perform-after-requires
perform-after-requires c =
    let size : length c.worked-more.new.classes ≡ 480 = search (rules, c.worked-more.auto.classes, c.requires.3.arrays.classed.size) in
    let of = due c.requires.2 c.requires.3 c.if-u-eq0.false c.if-opened-u.false c.in_ok-e.ensures.0 c.in_ok-e.e c.in_ok-e.ensures.1 c.args.opened.now.counted in
    of

pub returns : goal.returns
returns c sc d given state =
    let values : List ℕ = take (2 + 2 * c.from.result - 2) (drop 2 c.args.trace.now) in
    let suited = c.in_ok-names.ensures sc d (coming given state c.if-u-eq0.false c.if-opened-u.false c.in_ok-e.ensures.0 c.in_ok-e.e c.in_ok-e.ensures.1).0 (next given state c.if-u-eq0.false c.if-opened-u.false c.in_ok-e.ensures.0 c.in_ok-e.e c.in_ok-e.ensures.1 c.args.opened.now.counted) in
    let m = at-event given state c.if-u-eq0.false c.if-opened-u.false c.in_ok-e.ensures.0 c.in_ok-e.e c.in_ok-e.ensures.1 c.args.opened.now.counted values suited (search rules) c.worked-more.new.classes c.worked-more.result c.worked-more.ensures in
    let w = told-some (c.is_allowed.ensures _ _ _ m) c.if-not-is_allowed.false in
    step-performed sc d c.args.trace.now c.if-trace-lt2.false c.from.ensures refl c.if-trace-end.false c.from-u.ensures (is-active given state c.if-u-eq0.false c.if-opened-u.false c.in_ok-e.ensures.0 c.in_ok-e.e c.in_ok-e.ensures.1) values refl suited refl w.1 (rw (c.after.ensures, c.advance-done.ensures) (c.perform-after.ensures m w.0 w.1))

pub returns-then-not-is_allowed : goal.returns-then-not-is_allowed
returns-then-not-is_allowed c sc d given state =
    let values : List ℕ = take (2 + 2 * c.from.result - 2) (drop 2 c.args.trace.now) in
    let suited = c.in_ok-names.ensures sc d (coming given state c.if-u-eq0.false c.if-opened-u.false c.in_ok-e.ensures.0 c.in_ok-e.e c.in_ok-e.ensures.1).0 (next given state c.if-u-eq0.false c.if-opened-u.false c.in_ok-e.ensures.0 c.in_ok-e.e c.in_ok-e.ensures.1 c.args.opened.now.counted) in
    let m = at-event given state c.if-u-eq0.false c.if-opened-u.false c.in_ok-e.ensures.0 c.in_ok-e.e c.in_ok-e.ensures.1 c.args.opened.now.counted values suited (search rules) c.worked-more.new.classes c.worked-more.result c.worked-more.ensures in
    step-refused sc d c.args.trace.now c.if-trace-lt2.false c.from.ensures refl c.if-trace-end.false c.from-u.ensures (is-active given state c.if-u-eq0.false c.if-opened-u.false c.in_ok-e.ensures.0 c.in_ok-e.e c.in_ok-e.ensures.1) values refl suited refl (told_none (c.is_allowed.ensures _ _ _ m) c.if-not-is_allowed.true)

pub returns-in_err-names : goal.returns-in_err-names
returns-in_err-names c sc d given state =
    let values : List ℕ = take (2 + 2 * c.from.result - 2) (drop 2 c.args.trace.now) in
    let suited = c.in_err-names.ensures sc d (coming given state c.if-u-eq0.false c.if-opened-u.false c.in_ok-e.ensures.0 c.in_ok-e.e c.in_ok-e.ensures.1).0 (next given state c.if-u-eq0.false c.if-opened-u.false c.in_ok-e.ensures.0 c.in_ok-e.e c.in_ok-e.ensures.1 c.args.opened.now.counted) in
    rw c.from_residual-in_err-names.ensures (refuses-unsuited sc d c.args.trace.now c.if-trace-lt2.false c.from.ensures refl c.if-trace-end.false c.from-u.ensures (is-active given state c.if-u-eq0.false c.if-opened-u.false c.in_ok-e.ensures.0 c.in_ok-e.e c.in_ok-e.ensures.1) values refl suited refl)
