-- The walk finds what the definitions list, in their order: `walk` from a state, `walk_run` for a run, `walk_values` for the values of a read, `walk_move` and `walk_after` for one move.
-- The measure is the depth, and within it the functions in their order and the rows left. Assumes nothing.
use native.Mathlib.Omega.{arith}
use Prim.Native.Nat.{ℕ, suc, ◌+◌, ◌-◌, ◌<◌}
use mathlib.Core.Path.{◌≡◌, refl, ap, ◌∙◌}
use mathlib.Core.List.{List}
use lib.ListN.{get_or}
use Rattle.records.specs.declared.EventKind.TheVariants.{Read}
use Rattle.records.specs.laws.Kinds.{event-is, event-other}
use Rattle.std.proofs.Common.{subst}
use mathlib.Core.Bool.{Bool}
use Rattle.runs.specs.declared.RunEvent.{RunEvent}
use Rattle.moves.specs.Moves.{MarksAfter}
use Rattle.variables.specs.laws.Values.{value-falls}
use Rattle.search_breaks.specs.Walk.{state_clear}
use Rattle.search_breaks.specs.laws.Finds.{finds-size, passed_on, passed-stops}
use Rattle.search_breaks.specs.laws.Entries.{branches-pruned}
use Rattle.search_breaks.specs.laws.Walk as from-state
use Rattle.search_breaks.specs.laws.Run as of-run
use Rattle.search_breaks.specs.laws.Choose as of_values
use Rattle.search_breaks.specs.laws.Move as of-move
use Rattle.search_same.specs.laws.Memory.{room-on}
use Rattle.search_same.specs.laws.Known as known
use Rattle.std.proofs.lemmas.Result.{err_from_is_err_and}
use Rattle.search_walk.proofs.+walk_walk_after_walk_move_walk_run_walk_values.Goals as goal

-- the table's runs are those of the file
performed : {t : List ℕ} {n m m' k : ℕ} {e : RunEvent} {classes : List ℕ} {marks more : List Bool} → m ≡ m' → MarksAfter t n m k e classes marks more → MarksAfter t n m' k e classes marks more
performed {t} {n} {k = k} {e = e} {classes} {marks} {more} same after = subst (λ (m : ℕ). MarksAfter t n m k e classes marks more) same after

pub walk-broken-claimed-requires : goal.walk-broken-claimed-requires
walk-broken-claimed-requires t c = let m = c.requires.some_state in (m.sc, m.d, _, m.here.reached.given, m.here.state, refl, refl)

pub walk-returns-in_err-count : goal.walk-returns-in_err-count
walk-returns-in_err-count t c =
    let left = err_from_is_err_and c.from_residual.result c.from_residual.ensures.1 in
    record {
      finds_from = λ m. rw (left.1, left.2) (from-state.walk_ends c.args.plan.now m.sc c.args.reach.left c.args.reach.depth m.d (c.broken-claimed.ensures m.sc m.d _ m.here.reached.given m.here.state refl refl) c.own.ensures c.in_err-count.was c.args.trace.now c.args.reach.at);
      remembers = c.requires.room.remembers;
    }

pub walk-returns-then-reach-eq0 : goal.walk-returns-then-reach-eq0
walk-returns-then-reach-eq0 t c = record {
  finds_from = λ m. from-state.walk-alone c.args.plan.now m.sc c.args.reach.left c.args.reach.depth m.d (c.broken-claimed.ensures m.sc m.d _ m.here.reached.given m.here.state refl refl) c.own.ensures c.in_ok-count.was c.if-reach-eq0.true c.args.trace.now c.args.reach.at;
  remembers = c.requires.room.remembers;
}

pub walk-loop-k-init : goal.walk-loop-k-init
walk-loop-k-init t c =
    let m = c.requires.some_state in
    let runs = c.runs_in-k-items in
    let first = from-state.walk-starts c.args.plan.now m.sc c.args.reach.left c.args.reach.depth m.d (c.broken-claimed.ensures m.sc m.d _ m.here.reached.given m.here.state refl refl) c.own.ensures c.in_ok-count.was c.if-reach-eq0.false in
    rw c.into_iter-k-iterator.ensures.into_iter_gives (
      refl,
      first.within,
      runs.ensures.within,
      first.deep,
      λ m. let starts = from-state.walk-starts c.args.plan.now m.sc c.args.reach.left c.args.reach.depth m.d (c.broken-claimed.ensures m.sc m.d _ m.here.reached.given m.here.state refl refl) c.own.ensures c.in_ok-count.was c.if-reach-eq0.false in
          (starts.unbroken, starts.passed runs.result.end runs.result.start (runs.ensures.runs m.sc m.d (from-state.standing m))),
      c.requires.room.remembers,
    )

pub walk-walk_run-found-requires : goal.walk-walk_run-found-requires
walk-walk_run-found-requires t c =
    let l = c.loop-k in
    let m = c.requires.some_state in
    let turn = c.in-Some.ensures.steps.1 in
    (omega (arith, l.invariant.3), (state_clear m (l.invariant.4 m).0, (room-on c.requires.room l.invariant.0 l.invariant.5 _ (omega arith) (omega arith), omega (arith, l.invariant.2, turn.0, turn.1))))

pub walk-behind-requires : goal.walk-behind-requires
walk-behind-requires t c =
    let l = c.loop-k in
    let m = c.requires.some_state in
    (omega (arith, l.invariant.1, c.requires.room.budget), omega (arith, finds-size m.sc _ _ _ (c.walk_run-found.ensures.finds_run (state_clear m (l.invariant.4 m).0)), c.requires.room.budget))

pub walk-returns-in_err-count-2 : goal.walk-returns-in_err-count-2
walk-returns-in_err-count-2 t c = record {
  finds_from = λ m. let l = c.loop-k in
      let turn = c.in-Some.ensures.steps.1 in
      let left = err_from_is_err_and c.from_residual-in_err-count-2.result c.from_residual-in_err-count-2.ensures.1 in
      let passed = from-state.walk-next c.args.plan.now m.sc c.args.reach.left (c.args.reach.depth - 1) m.d (rw (← turn.1) at (l.invariant.4 m).1) (omega (arith, turn.0, turn.1)) in
      rw (← l.invariant.0, left.1, left.2) (passed-stops m.sc c.args.reach.left _ _ _ _ passed (c.walk_run-found.ensures.finds_run (state_clear m (l.invariant.4 m).0)) c.behind.ensures c.in_err-count-2.was);
  remembers = c.walk_run-found.ensures.remembers;
}

pub walk-loop-k-preserved : goal.walk-loop-k-preserved
walk-loop-k-preserved t c =
    let l = c.loop-k in
    let m = c.requires.some_state in
    let steps = c.in-Some.ensures.steps in
    let turn = steps.1 in
    let below : c.in-Some.k < l.k-iterator.end = omega (arith, turn.0, turn.1) in
    let one : c.next.new.self.start ≡ c.in-Some.k + 1 = omega (arith, turn.1, turn.2) in
    let told = c.walk_run-found.ensures.finds_run in
    let next = from-state.walk-next c.args.plan.now m.sc c.args.reach.left (c.args.reach.depth - 1) m.d (rw (← turn.1) at (l.invariant.4 m).1) below in
    let first = passed_on m.sc c.args.reach.left _ _ _ _ next (told (state_clear m (l.invariant.4 m).0)) c.behind.ensures c.in_ok-count-2.was in
    rw (steps.0, one) (
      first.1 ∙ l.invariant.0,
      first.2,
      l.invariant.2,
      l.invariant.3,
      λ m. let next = from-state.walk-next c.args.plan.now m.sc c.args.reach.left (c.args.reach.depth - 1) m.d (rw (← turn.1) at (l.invariant.4 m).1) below in
          ((l.invariant.4 m).0, (passed_on m.sc c.args.reach.left _ _ _ _ next (told (state_clear m (l.invariant.4 m).0)) c.behind.ensures c.in_ok-count-2.was).0),
      c.walk_run-found.ensures.remembers,
    )

pub walk-returns : goal.walk-returns
walk-returns t c = record {
  finds_from = λ m. let l = c.loop-k in
      rw (← l.invariant.0) (from-state.walk_end c.args.plan.now m.sc c.args.reach.left (c.args.reach.depth - 1) m.d (l.invariant.4 m).1 (omega (arith, c.in-None.ensures.steps.1.0)) l.trace c.args.reach.at);
  remembers = c.loop-k.invariant.5;
}

pub walk_after-advance-next-requires : goal.walk_after-advance-next-requires
walk_after-advance-next-requires t c =
    let m = c.requires.some_step.of in
    (omega (arith, m.move.clear.here.reached.given.runs.few, m.move.due.is_run), omega (arith, ap (λ (l : List ℕ). get_or l c.args.turn.run 0) m.is_done, m.move.few))

pub walk_after-key_of-key-requires : goal.walk_after-key_of-key-requires
walk_after-key_of-key-requires t c =
    let m = c.requires.some_step.of in
    (c.requires.room.remembers.rows.low, ((λ j l. omega (arith, of-move.next_low m c.advance-next.ensures j l)), c.requires.room.moves))

pub walk_after-returns-in-Some : goal.walk_after-returns-in-Some
walk_after-returns-in-Some t c =
    record {
      finds_step = λ m. known.known-finds c.args.reach m c.args.state.now.size c.advance-next.ensures c.requires.room.remembers c.key_of-key.ensures c.in-Some.ensures.1 c.in-Some.ensures.0 c.known.ensures c.args.trace.now;
      remembers = c.requires.room.remembers;
    }

pub walk_after-perform-after-requires : goal.walk_after-perform-after-requires
walk_after-perform-after-requires t c = let m = c.requires.some_step.of in rw c.args.plan.now.opened.counted m.move.due

pub walk_after-overflow_mul-bytes : goal.walk_after-overflow_mul-bytes
walk_after-overflow_mul-bytes t c = record { fits = omega (arith, of-move.few-chosen c.requires.some_step.of) }

pub walk_after-overflow_add-bytes : goal.walk_after-overflow_add-bytes
walk_after-overflow_add-bytes t c = record { fits = omega (arith, of-move.few-chosen c.requires.some_step.of) }

pub walk_after-overflow_add-reach : goal.walk_after-overflow_add-reach
walk_after-overflow_add-reach t c = let m = c.requires.some_step.of in record { fits = omega (arith, of-move.few-chosen m, of-move.place-low m) }

pub walk_after-walk-found-requires : goal.walk_after-walk-found-requires
walk_after-walk-found-requires t c =
    (omega arith, (of-move.after-state c.args.reach c.requires.some_step (performed c.args.plan.now.opened.counted c.perform-after.ensures) c.args.state.now.size c.advance-next.ensures, room-on c.requires.room refl c.requires.room.remembers _ (omega arith) (omega arith)))

pub walk_after-keep-requires : goal.walk_after-keep-requires
walk_after-keep-requires t c =
    let found = of-move.found_after c.args.reach c.requires.some_step (performed c.args.plan.now.opened.counted c.perform-after.ensures) c.args.state.now.size c.advance-next.ensures c.walk-found.ensures.finds_from in
    omega (arith, finds-size _ _ _ _ (rw c.in-Ok.is at found), c.requires.room.budget)

pub walk_after-write_before-requires : goal.walk_after-write_before-requires
walk_after-write_before-requires t c =
    of-move.step_fits c.args.reach c.requires.some_step (performed c.args.plan.now.opened.counted c.perform-after.ensures) c.args.state.now.size c.advance-next.ensures c.walk-found.ensures.finds_from c.requires.room.buffer

pub walk_after-after_step-requires : goal.walk_after-after_step-requires
walk_after-after_step-requires t c =
    let m = c.requires.some_step in
    (omega (arith, of-move.step-length c.args.reach m (performed c.args.plan.now.opened.counted c.perform-after.ensures) c.args.state.now.size c.advance-next.ensures c.walk-found.ensures.finds_from), omega (arith, of-move.few-chosen m.of))

pub walk_after-returns-in-Ok : goal.walk_after-returns-in-Ok
walk_after-returns-in-Ok t c =
    record {
      finds_step = λ m. of-move.step-finds c.args.reach m (performed c.args.plan.now.opened.counted c.perform-after.ensures) c.args.state.now.size c.advance-next.ensures c.walk-found.ensures.finds_from c.requires.room.buffer (rw c.in-Ok.is refl) (rw c.in-Ok.is refl);
      remembers = let found = of-move.found_after c.args.reach c.requires.some_step (performed c.args.plan.now.opened.counted c.perform-after.ensures) c.args.state.now.size c.advance-next.ensures c.walk-found.ensures.finds_from in
          known.kept-right c.args.reach c.requires.some_step c.args.state.now.size c.advance-next.ensures c.walk-found.ensures.remembers c.key_of-key.ensures (rw c.in-Ok.is at found) c.keep.ensures;
    }

pub walk_after-returns : goal.walk_after-returns
walk_after-returns t c =
    record {
      finds_step = λ m. of-move.step-finds c.args.reach m (performed c.args.plan.now.opened.counted c.perform-after.ensures) c.args.state.now.size c.advance-next.ensures c.walk-found.ensures.finds_from c.requires.room.buffer c.write_before.ensures c.after_step.ensures;
      remembers = c.walk-found.ensures.remembers;
    }

pub walk_move-is_allowed-requires : goal.walk_move-is_allowed-requires
walk_move-is_allowed-requires t c =
    let m = c.requires.some_move in
    let few = m.move.clear.here.reached.given.shape.few in
    (omega (arith, m.move.clear.here.reached.given.runs.few, m.move.due.is_run), (omega (arith, few, m.move.due.agent), (omega (arith, few, m.move.due.other), omega (arith, few, m.move.due.term))))

pub walk_move-returns-then-not-is_allowed : goal.walk_move-returns-then-not-is_allowed
walk_move-returns-then-not-is_allowed t c =
    record {
      finds_move = λ m. of-move.move-refused m c.is_allowed.ensures c.args.state.now.size (c.if-not-is_allowed.true) c.args.reach c.args.trace.now;
      remembers = c.requires.room.remembers;
    }

pub walk_move-walk_after-requires : goal.walk_move-walk_after-requires
walk_move-walk_after-requires t c =
    (omega arith, (of-move.move_taken c.requires.some_move c.is_allowed.ensures c.args.state.now.size c.if-not-is_allowed.false, c.requires.room))

pub walk_move-returns : goal.walk_move-returns
walk_move-returns t c =
    record {
      finds_move = λ m. of-move.move-done c.args.reach m c.is_allowed.ensures c.args.state.now.size (c.if-not-is_allowed.false) c.walk_after.ensures.finds_step;
      remembers = c.walk_after.ensures.remembers;
    }

pub walk_run-returns-in_default : goal.walk_run-returns-in_default
walk_run-returns-in_default t c = record {
  finds_run = λ m. of-run.run-over c.args.state.now.course c.args.reach m c.args.k c.requires.k_lt_count c.in_default.ensures c.args.trace.now;
  remembers = c.requires.room.remembers;
}

pub walk_run-beneath-under-requires : goal.walk_run-beneath-under-requires
walk_run-beneath-under-requires t c =
    let m = c.requires.some_clear in
    (of-run.at-move c.args.state.now.course c.args.reach m c.args.k c.requires.k_lt_count c.in-Some.ensures.0 c.in-Some.event c.in-Some.ensures.1).due.term

pub walk_run-walk_values-requires : goal.walk_run-walk_values-requires
walk_run-walk_values-requires t c =
    let m = c.requires.some_clear in
    (omega (arith, m.clear.here.reached.given.shape.few), (of-run.read_none c.args.state.now.course c.args.reach m c.args.k c.requires.k_lt_count c.in-Some.ensures.0 c.in-Some.event c.in-Some.ensures.1 c.no_values.ensures (event-is c.in-Some.event.kind Read c.eq.ensures c.if-eq.true) c.beneath-under.ensures, c.requires.room))

pub walk_run-returns-then-eq : goal.walk_run-returns-then-eq
walk_run-returns-then-eq t c = record {
  finds_run = λ m. of-run.run-read c.args.state.now.course c.args.reach m c.args.k c.requires.k_lt_count c.in-Some.ensures.0 c.in-Some.event c.in-Some.ensures.1 c.no_values.ensures (event-is c.in-Some.event.kind Read c.eq.ensures c.if-eq.true) c.beneath-under.ensures c.walk_values.ensures.finds_choice;
  remembers = c.walk_values.ensures.remembers;
}

pub walk_run-walk_move-requires : goal.walk_run-walk_move-requires
walk_run-walk_move-requires t c =
    (omega arith, (of-run.move-none c.args.state.now.course c.args.reach c.requires.some_clear c.args.k c.requires.k_lt_count c.in-Some.ensures.0 c.in-Some.event c.in-Some.ensures.1 c.no_values.ensures (event-other c.in-Some.event.kind Read c.eq.ensures c.if-eq.false), c.requires.room))

pub walk_run-returns : goal.walk_run-returns
walk_run-returns t c = record {
  finds_run = λ m. of-run.run-other c.args.state.now.course c.args.reach m c.args.k c.requires.k_lt_count c.in-Some.ensures.0 c.in-Some.event c.in-Some.ensures.1 c.no_values.ensures (event-other c.in-Some.event.kind Read c.eq.ensures c.if-eq.false) c.walk_move.ensures.finds_move;
  remembers = c.walk_move.ensures.remembers;
}

pub walk_values-overflow_add-turn : goal.walk_values-overflow_add-turn
walk_values-overflow_add-turn t c = let m = c.requires.some_choice.read in record { fits = omega (arith, m.move.clear.here.reached.given.runs.few, m.move.due.is_run) }

pub walk_values-next_unset-requires : goal.walk_values-next_unset-requires
walk_values-next_unset-requires t c =
    let m = c.requires.some_choice.read in
    (omega (arith, m.move.clear.here.reached.given.runs.few, m.move.due.is_run), m.inside)

pub walk_values-walk_move-requires : goal.walk_values-walk_move-requires
walk_values-walk_move-requires t c = (omega arith, (of_values.choice-move (of_values.next-none c.args.plan.now.opened.table.bytes.now c.args.own.now c.args.plan.now.opened.table.rows c.args.choice c.next_unset.ensures c.in_default.is) c.args.reach c.requires.some_choice refl, c.requires.room))

pub walk_values-returns-in_default : goal.walk_values-returns-in_default
walk_values-returns-in_default t c = record {
  finds_choice = λ m. of_values.choice-done (of_values.next-none c.args.plan.now.opened.table.bytes.now c.args.own.now c.args.plan.now.opened.table.rows c.args.choice c.next_unset.ensures c.in_default.is) c.args.reach m refl c.walk_move.ensures.finds_move;
  remembers = c.walk_move.ensures.remembers;
}

pub walk_values-may_be_read-requires : goal.walk_values-may_be_read-requires
walk_values-may_be_read-requires t c = let m = c.requires.some_choice in rw c.args.plan.now.opened.counted m.read.move.due

pub walk_values-returns-then-not-may_be_read : goal.walk_values-returns-then-not-may_be_read
walk_values-returns-then-not-may_be_read t c = record {
  finds_choice = λ m. from-state.finds-nil m.read.sc c.args.reach.left
      (branches-pruned c.args.plan.now m.read.sc c.args.reach.depth m.read.d (suc c.args.choice.turn.run) m.read.a m.vs _ (λ ws takes. c.may_be_read.ensures m.read.sc m.read.d m.read.s m.read.a c.args.choice.from m.xs m.vs ws _ (rw c.args.plan.now.opened.counted m.read.move.next) m.read.is_read m.choosing.setting m.choosing.arrays takes (c.if-not-may_be_read.true)))
      c.args.trace.now c.args.reach.at;
  remembers = c.requires.room.remembers;
}

pub walk_values-loop-value-init : goal.walk_values-loop-value-init
walk_values-loop-value-init t c = (refl, omega arith, omega arith, (λ m unset more. of_values.tried-none unset c.args.reach m more), c.requires.room.remembers)

pub walk_values-next_value-requires : goal.walk_values-next_value-requires
walk_values-next_value-requires t c =
    let m = c.requires.some_choice in
    (of_values.row_low (of_values.next-some c.args.plan.now.opened.table.bytes.now c.args.own.now c.args.plan.now.opened.table.rows c.args.choice c.next_unset.ensures c.in-Some.is) c.args.reach m (of_values.next-inside c.args.plan.now.opened.table.bytes.now c.args.own.now c.args.plan.now.opened.table.rows c.args.choice c.next_unset.ensures c.in-Some.is m.read.under), c.loop-value.invariant.2)

pub walk_values-returns : goal.walk_values-returns
walk_values-returns t c = record {
  finds_choice = λ m. let l = c.loop-value in
      let unset = (of_values.next-some c.args.plan.now.opened.table.bytes.now c.args.own.now c.args.plan.now.opened.table.rows c.args.choice c.next_unset.ensures c.in-Some.is) in
      let more = of_values.next-inside c.args.plan.now.opened.table.bytes.now c.args.own.now c.args.plan.now.opened.table.rows c.args.choice c.next_unset.ensures c.in-Some.is m.read.under in
      rw (← l.invariant.0) (of_values.tried-end unset c.args.reach m more (rw c.args.plan.now.opened.counted at c.next_value.ensures) c.in_default-next_value.is (l.invariant.3 m unset more) l.trace);
  remembers = c.loop-value.invariant.4;
}

pub walk_values-overflow_add-choice : goal.walk_values-overflow_add-choice
walk_values-overflow_add-choice t c = let m = c.requires.some_choice.read in record { fits = omega (arith, m.move.clear.here.reached.given.runs.few, m.move.due.is_run) }

pub walk_values-tried-more_marks-requires : goal.walk_values-tried-more_marks-requires
walk_values-tried-more_marks-requires t c =
    let m = c.requires.some_choice in
    let unset = (of_values.next-some c.args.plan.now.opened.table.bytes.now c.args.own.now c.args.plan.now.opened.table.rows c.args.choice c.next_unset.ensures c.in-Some.is) in
    let more = of_values.next-inside c.args.plan.now.opened.table.bytes.now c.args.own.now c.args.plan.now.opened.table.rows c.args.choice c.next_unset.ensures c.in-Some.is m.read.under in
    let low = of_values.value-within unset c.args.reach m more (rw c.args.plan.now.opened.counted at c.next_value.ensures) c.in-Some-next_value.is in
    let shape = m.read.move.clear.here.reached.given.shape in
    (omega (arith, of_values.row_low unset c.args.reach m more, shape.few), (omega (arith, low.0, shape.few), low.1))

pub walk_values-overflow_sub-reach : goal.walk_values-overflow_sub-reach
walk_values-overflow_sub-reach t c = omega (arith, c.loop-value.invariant.1)

pub walk_values-with_value-requires : goal.walk_values-with_value-requires
walk_values-with_value-requires t c =
    let m = c.requires.some_choice in
    let unset = (of_values.next-some c.args.plan.now.opened.table.bytes.now c.args.own.now c.args.plan.now.opened.table.rows c.args.choice c.next_unset.ensures c.in-Some.is) in
    let more = of_values.next-inside c.args.plan.now.opened.table.bytes.now c.args.own.now c.args.plan.now.opened.table.rows c.args.choice c.next_unset.ensures c.in-Some.is m.read.under in
    let low = of_values.value-within unset c.args.reach m more (rw c.args.plan.now.opened.counted at c.next_value.ensures) c.in-Some-next_value.is in
    (of_values.few-chosen unset c.args.reach m more, (omega (arith, low.0, m.read.move.clear.here.reached.given.shape.few), omega (arith, low.1)))

pub walk_values-overflow_add-x : goal.walk_values-overflow_add-x
walk_values-overflow_add-x t c =
    let m = c.requires.some_choice in
    record { fits = omega (arith, of_values.row_low (of_values.next-some c.args.plan.now.opened.table.bytes.now c.args.own.now c.args.plan.now.opened.table.rows c.args.choice c.next_unset.ensures c.in-Some.is) c.args.reach m (of_values.next-inside c.args.plan.now.opened.table.bytes.now c.args.own.now c.args.plan.now.opened.table.rows c.args.choice c.next_unset.ensures c.in-Some.is c.requires.some_choice.read.under), m.read.move.clear.here.reached.given.shape.few) }

pub walk_values-walk_values-found-requires : goal.walk_values-walk_values-found-requires
walk_values-walk_values-found-requires t c =
    let m = c.requires.some_choice in
    let l = c.loop-value in
    let unset = (of_values.next-some c.args.plan.now.opened.table.bytes.now c.args.own.now c.args.plan.now.opened.table.rows c.args.choice c.next_unset.ensures c.in-Some.is) in
    let more = of_values.next-inside c.args.plan.now.opened.table.bytes.now c.args.own.now c.args.plan.now.opened.table.rows c.args.choice c.next_unset.ensures c.in-Some.is m.read.under in (
      omega (arith, of_values.row_low unset c.args.reach m more, of_values.row_from unset c.args.reach m more),
      (of_values.grown unset c.args.reach m more (rw c.args.plan.now.opened.counted at c.next_value.ensures) c.in-Some-next_value.is (l.invariant.3 m unset more) c.tried-more_marks.result c.tried-more_marks.ensures.names_after (rw c.args.plan.now.opened.counted at c.tried-more_marks.ensures.refilled) (rw c.args.plan.now.opened.counted at c.tried-more_marks.ensures.settled) c.with_value.ensures, room-on c.requires.room l.invariant.0 l.invariant.4 _ (omega arith) (omega arith)),
    )

pub walk_values-behind-requires : goal.walk_values-behind-requires
walk_values-behind-requires t c =
    let m = c.requires.some_choice in
    let l = c.loop-value in
    let unset = (of_values.next-some c.args.plan.now.opened.table.bytes.now c.args.own.now c.args.plan.now.opened.table.rows c.args.choice c.next_unset.ensures c.in-Some.is) in
    let more = of_values.next-inside c.args.plan.now.opened.table.bytes.now c.args.own.now c.args.plan.now.opened.table.rows c.args.choice c.next_unset.ensures c.in-Some.is m.read.under in
    let size = of_values.tried-size unset c.args.reach m more (rw c.args.plan.now.opened.counted at c.next_value.ensures) c.in-Some-next_value.is (l.invariant.3 m unset more) c.tried-more_marks.result c.tried-more_marks.ensures.names_after (rw c.args.plan.now.opened.counted at c.tried-more_marks.ensures.refilled) (rw c.args.plan.now.opened.counted at c.tried-more_marks.ensures.settled) c.with_value.ensures c.walk_values-found.ensures.finds_choice refl in
    (omega (arith, l.invariant.1, c.requires.room.budget), omega (arith, size, c.requires.room.budget))

pub walk_values-returns-in_err-count : goal.walk_values-returns-in_err-count
walk_values-returns-in_err-count t c = record {
  finds_choice = λ m. let l = c.loop-value in
      let left = err_from_is_err_and c.from_residual.result c.from_residual.ensures.1 in
      let unset = (of_values.next-some c.args.plan.now.opened.table.bytes.now c.args.own.now c.args.plan.now.opened.table.rows c.args.choice c.next_unset.ensures c.in-Some.is) in
      let more = of_values.next-inside c.args.plan.now.opened.table.bytes.now c.args.own.now c.args.plan.now.opened.table.rows c.args.choice c.next_unset.ensures c.in-Some.is m.read.under in
      rw (← l.invariant.0, left.1, left.2) (of_values.tried-stops unset c.args.reach m more (rw c.args.plan.now.opened.counted at c.next_value.ensures) c.in-Some-next_value.is (l.invariant.3 m unset more) c.tried-more_marks.result c.tried-more_marks.ensures.names_after (rw c.args.plan.now.opened.counted at c.tried-more_marks.ensures.refilled) (rw c.args.plan.now.opened.counted at c.tried-more_marks.ensures.settled) c.with_value.ensures c.walk_values-found.ensures.finds_choice c.behind.ensures c.in_err-count.was);
  remembers = c.walk_values-found.ensures.remembers;
}

pub walk_values-overflow_add-run : goal.walk_values-overflow_add-run
walk_values-overflow_add-run t c =
    record { fits = omega (arith, (of_values.value-within (of_values.next-some c.args.plan.now.opened.table.bytes.now c.args.own.now c.args.plan.now.opened.table.rows c.args.choice c.next_unset.ensures c.in-Some.is) c.args.reach c.requires.some_choice (of_values.next-inside c.args.plan.now.opened.table.bytes.now c.args.own.now c.args.plan.now.opened.table.rows c.args.choice c.next_unset.ensures c.in-Some.is c.requires.some_choice.read.under) (rw c.args.plan.now.opened.counted at c.next_value.ensures) c.in-Some-next_value.is).1) }

pub walk_values-loop-value-smaller : goal.walk_values-loop-value-smaller
walk_values-loop-value-smaller t c =
    let m = c.requires.some_choice in
    let unset = (of_values.next-some c.args.plan.now.opened.table.bytes.now c.args.own.now c.args.plan.now.opened.table.rows c.args.choice c.next_unset.ensures c.in-Some.is) in
    let more = of_values.next-inside c.args.plan.now.opened.table.bytes.now c.args.own.now c.args.plan.now.opened.table.rows c.args.choice c.next_unset.ensures c.in-Some.is m.read.under in
    let low = of_values.value-within unset c.args.reach m more (rw c.args.plan.now.opened.counted at c.next_value.ensures) c.in-Some-next_value.is in
    value-falls c.args.plan.now.opened.table.rows _ _ _ _ (of_values.value-later unset c.args.reach m more (rw c.args.plan.now.opened.counted at c.next_value.ensures) c.in-Some-next_value.is) low.0 low.1

pub walk_values-loop-value-preserved : goal.walk_values-loop-value-preserved
walk_values-loop-value-preserved t c =
    let l = c.loop-value in
    let m = c.requires.some_choice in
    let unset = (of_values.next-some c.args.plan.now.opened.table.bytes.now c.args.own.now c.args.plan.now.opened.table.rows c.args.choice c.next_unset.ensures c.in-Some.is) in
    let more = of_values.next-inside c.args.plan.now.opened.table.bytes.now c.args.own.now c.args.plan.now.opened.table.rows c.args.choice c.next_unset.ensures c.in-Some.is m.read.under in
    let value = (rw c.args.plan.now.opened.counted at c.next_value.ensures) in
    let put = c.tried-more_marks.ensures.names_after in
    let refilled = (rw c.args.plan.now.opened.counted at c.tried-more_marks.ensures.refilled) in
    let settled = (rw c.args.plan.now.opened.counted at c.tried-more_marks.ensures.settled) in
    let told = c.walk_values-found.ensures.finds_choice in
    let first = of_values.tried-on unset c.args.reach m more value c.in-Some-next_value.is (l.invariant.3 m unset more) c.tried-more_marks.result put refilled settled c.with_value.ensures told c.behind.ensures c.in_ok-count.was in (
      first.1 ∙ l.invariant.0,
      first.2,
      omega (arith, (of_values.value-within unset c.args.reach m more value c.in-Some-next_value.is).0),
      (λ m unset more. (of_values.tried-on unset c.args.reach m more value c.in-Some-next_value.is (l.invariant.3 m unset more) c.tried-more_marks.result put refilled settled c.with_value.ensures told c.behind.ensures c.in_ok-count.was).0),
      c.walk_values-found.ensures.remembers,
    )
