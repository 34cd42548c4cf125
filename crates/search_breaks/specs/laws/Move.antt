-- The walk after one more move: where it begins, what it finds, and the step that is written. Assumes nothing.
use Rattle.std.specs.Prelude.{ℕ, zero, suc, ◌+◌, ◌*◌, ◌<◌, ◌≤◌, ◌≡◌, refl, Bool, true, false, length, get_or, set, Err, Ok}
use Rattle.std.proofs.Common.{add-one, arith, sym, ap, ◌∙◌, subst, true≢false, length-append}
use mathlib.Core.List.{List, [], ◌∷◌, ◌++◌, map, append_assoc, append-nil, Memᴰ}
use Rattle.std.proofs.lemmas.List.{length-map}
use Rattle.semantics.specs.Basic.{joined, present}
use Rattle.semantics.specs.Limits.{most_trace_bytes}
use Rattle.semantics.specs.Scenario.{Scenario}
use Rattle.semantics.specs.State.{Value, State, Claim}
use Rattle.semantics.specs.Moves.{Move, performed}
use Rattle.semantics.specs.Tree.{stays, moves}
use Rattle.semantics.specs.Verdict.{Entry, found, walked, value_bytes, move_bytes, trace_bytes}
use Rattle.semantics.specs.Allowed.{Step, step, AllowedTrace}
use Rattle.semantics.proofs.laws.Tree.{follows-append, follows-map, listed-sound}
use Rattle.semantics.proofs.laws.Moves.{performed-exact}
use Rattle.semantics.proofs.laws.Reached.{takes-length}
use Rattle.semantics.proofs.laws.Bytes.{set-few, trace-bytes}
use Rattle.state.specs.State.{IsState}
use Rattle.moves.specs.Moves.{AtEvent, TellsAllowed, MarksAfter}
use Rattle.moves.specs.laws.Allowed.{told-some, told_none}
use Rattle.answers.specs.Answers.{claim_as, break_as, walked_as}
use Rattle.answers.specs.declared.Break.{Break}
use Rattle.answers.specs.Answers.{Walked}
use Rattle.answers.specs.declared.End.TheVariants.{Broken, Cut}
use Rattle.search_findings.specs.Findings.{made_longer, after_step, is_broken, length_of}
use Rattle.search_breaks.specs.declared.Course.{Course}
use Rattle.search_breaks.specs.declared.Plan.{Plan}
use Rattle.search_breaks.specs.declared.Reach.{Reach}
use Rattle.search_breaks.specs.declared.Turn.{Turn}
use Rattle.search_breaks.specs.Walk.{state_of, judged, over, buffer_as, Finds, next_in, entries_from, after_move, below, step_bytes, step_size, step_before, StepFits, Here, SomeState, SomeMove, SomeStep, move_branches, FindsFrom, FindsAfter, FindsStep}
use Rattle.search_breaks.specs.laws.Walked.{changed, walked-map, found_within}
use Rattle.search_breaks.specs.laws.Finds.{answer-clean, answer-cut, answer-broken}
use Rattle.search_breaks.specs.laws.Entries.{next-step, branches-allowed, branches-refused}
use Rattle.search_breaks.specs.laws.Bytes.{over-length, over-over}
use Rattle.search_breaks.specs.laws.Walk.{finds-nil, finds-same}

-- the bytes of values, of a trace with one more move, and of a trace in two parts
pub value-bytes : (vs : List Value) → length (value_bytes vs) ≡ 2 * length vs
value-bytes [] = refl
value-bytes (v ∷ vs) = let h = value-bytes vs in omega arith

trace-append : (ms ms' : List Move) → trace_bytes (ms ++ ms') ≡ trace_bytes ms ++ trace_bytes ms'
unfolding trace_bytes
trace-append [] ms' = refl
trace-append (m ∷ ms) ms' = ap (λ (l : List ℕ). move_bytes m ++ l) (trace-append ms ms') ∙ sym (append_assoc (move_bytes m) (joined move_bytes ms) (joined move_bytes ms'))

trace-more : (m : Move) (ms : List Move) → trace_bytes (m ∷ ms) ≡ move_bytes m ++ trace_bytes ms
unfolding trace_bytes
trace-more m ms = refl

trace-one : (m : Move) → trace_bytes (m ∷ []) ≡ move_bytes m
unfolding trace_bytes
trace-one m = append-nil (move_bytes m)

-- positions stay low where a low one is put in
set-low : (l : List ℕ) (k v j : ℕ) → get_or l j 0 ≤ 8 → v ≤ 8 → get_or (set l k v) j 0 ≤ 8
set-low [] k v j h w = h
set-low (x ∷ l) zero v zero h w = w
set-low (x ∷ l) zero v (suc j) h w = h
set-low (x ∷ l) (suc k) v zero h w = h
set-low (x ∷ l) (suc k) v (suc j) h w = set-low l k v j h w

module _ {plan : Plan} {course : Course} {names classes : List ℕ} {marks : List Bool} {at : ℕ} {turn : Turn} (m : SomeMove plan course names classes marks at turn) where
  abbrev pub taken : Move
  taken = record { run = suc turn.run; values = m.vs }

  here : Here plan m.sc m.d m.s m.ms at
  here = m.move.clear.here

  -- its event, of which is asked whether it is allowed and what is known after it
  abbrev event_of : length course.done ≡ 4 → AtEvent plan.opened.table.bytes.now plan.opened.table.rows plan.opened.runs.count turn.run turn.event classes marks
  event_of size = record {
    sc = m.sc;
    d = m.d;
    s = m.s;
    a = m.a;
    vs = m.vs;
    names = names;
    shape = m.move.clear.here.reached.given.shape;
    due = m.move.due;
    next = m.move.next;
    size = sym (ap length m.is_done) ∙ size;
    ready = m.chosen.ready;
  }

  -- a trace's end is within the longest trace
  pub place-low : at ≤ most_trace_bytes
  place-low = omega (arith, here.place, trace-bytes m.sc here.reached.given.good m.ms m.d here.reached.allowed)

  -- how far the runs have come after it
  pub next_low : {next : List ℕ} → next ≡ set course.done turn.run (get_or course.done turn.run 0 + 1) → (j : ℕ) → j < 4 → get_or next j 0 ≤ 8
  next_low f j l = rw (f, m.is_done) (set-low m.s.done turn.run (get_or m.s.done turn.run 0 + 1) j (here.low j l) (omega (arith, m.move.few)))

  -- the bytes of the step
  pub step-size : step_size turn ≡ length (move_bytes taken)
  step-size = omega (arith, m.chosen.are.many, value-bytes m.vs)

  step-bytes : step_bytes turn ≡ move_bytes taken
  step-bytes = λ i. add-one turn.run i ∷ m.chosen.are.many i ∷ m.chosen.are.written i

  -- they are at most eight
  pub few-chosen : turn.values.count ≤ 8
  few-chosen = omega (arith, m.chosen.are.many, takes-length m.chosen.takes, set-few m.sc here.reached.given.good m.a)

  module _ {b : Bool} (tells : TellsAllowed turn.run turn.event classes marks b) (size : length course.done ≡ 4) where
    told : b ≡ present (performed m.sc m.d m.a m.vs)
    told = tells plan.opened.table.bytes.now plan.opened.table.rows plan.opened.runs.count (event_of size)

    -- a move that is not allowed
    pub move-refused : b ≡ false → (reach : Reach) (trace : List ℕ) → FindsAfter m reach trace trace (Ok 0)
    move-refused it reach trace =
        finds-nil m.sc reach.left (branches-refused plan m.sc reach.depth m.d (suc turn.run) m.a m.vs (told_none told it)) trace reach.at

    -- one that is
    pub move_taken : b ≡ true → SomeStep plan course names classes marks at turn
    move_taken it = let w = told-some told it in record { of = m; d' = w.0; allowed = w.1 }

pub move-done : {plan : Plan} {course : Course} {names classes : List ℕ} {marks : List Bool} {turn : Turn} (reach : Reach) (m : SomeMove plan course names classes marks reach.at turn) {b : Bool}
    → TellsAllowed turn.run turn.event classes marks b → length course.done ≡ 4 → b ≡ true → {before after : List ℕ} {w : Walked} → FindsStep plan course names classes marks reach turn before after w → FindsAfter m reach before after w
unfolding move_taken
move-done reach m tells size it finds = finds (move_taken m tells size it)

module _ {plan : Plan} {course : Course} {names classes : List ℕ} {marks : List Bool} {turn : Turn} (reach : Reach) (m : SomeStep plan course names classes marks reach.at turn) where
  abbrev sc : Scenario
  sc = m.of.sc

  abbrev its : Move
  its = taken m.of

  -- the state after it is reached by the longer trace
  move_step : Step sc m.of.d its m.d'
  move_step = let w = (performed-exact sc m.of.d m.of.a m.of.vs m.d').0 m.allowed in step m.of.move.next.is_active m.of.chosen.takes w.1 w.2

  pub move-allowed : AllowedTrace sc (m.of.ms ++ (its ∷ [])) m.d'
  move-allowed = follows-append m.of.move.clear.here.reached.allowed (moves move_step stays)

  -- an entry below it has a trace that fits
  entry-fits : (depth : ℕ) {ms' : List Move} {end : State} → Memᴰ (ms', end) (entries_from plan depth sc m.d') → reach.at + step_size turn + length (trace_bytes ms') ≤ most_trace_bytes
  entry-fits depth {ms'} {end} q =
      let here = m.of.move.clear.here in
      let rest = follows-map {Step = λ s x s'. Memᴰ (x, s') (next_in plan sc s)} (λ s. Unit {0}) (λ s g x s' q. tt) {Step' = Step sc} (λ s g x s' q. next-step plan sc s x s' q) tt (listed-sound (next_in plan sc) depth m.d' q) in
      let all : AllowedTrace sc (m.of.ms ++ (its ∷ ms')) end = follows-append here.reached.allowed (moves move_step rest) in
      let fits = trace-bytes sc here.reached.given.good (m.of.ms ++ (its ∷ ms')) end all in
      omega (arith, fits, step-size m.of, ap length (trace-append m.of.ms (its ∷ ms')), length-append (trace_bytes m.of.ms) (trace_bytes (its ∷ ms')), ap length (trace-more its ms'), length-append (move_bytes its) (trace_bytes ms'), here.place)

  -- what is found after it
  module _ (b b' : List ℕ) where
    abbrev after : List Entry
    after = entries_from plan reach.depth sc m.d'

    abbrev Found : Walked → Type 0
    Found w = Finds sc reach.left after b (reach.at + step_size turn) b' w

    abbrev Put : List ℕ → Walked → Type 0
    Put b'' w = Finds sc reach.left (below plan sc reach.depth (move_branches sc m.of.d m.of.a turn m.of.vs)) b reach.at b'' w

    all : below plan sc reach.depth (move_branches sc m.of.d m.of.a turn m.of.vs) ≡ map (after_move its) after
    all = branches-allowed plan sc reach.depth m.of.d (suc turn.run) m.of.a m.of.vs m.allowed

    mapped-walk : walked (judged sc) reach.left (map (after_move its) after) ≡ changed (judged sc) (after_move its) (walked (judged sc) reach.left after)
    mapped-walk = walked-map (judged sc) (after_move its) (λ e. refl) reach.left after

    -- nothing, or the end of the budget
    pub move-clean : {n : ℕ} → Found (Ok n) → Put b' (Ok n)
    move-clean finds =
        let x = answer-clean after (walked (judged sc) reach.left after) finds.answer in
        let None-found = mapped-walk ∙ ap (changed (judged sc) (after_move its)) x.0 in
        finds-same sc reach.left all (record {
          answer = ap Ok (x.1 ∙ sym (length-map after (after_move its))) ∙ sym (ap (walked_as (map (after_move its) after)) None-found);
          buffer = finds.buffer ∙ ap (buffer_as b (reach.at + step_size turn)) x.0 ∙ sym (ap (buffer_as b reach.at) None-found);
        })

    pub move-cut : Found (Err Cut) → Put b' (Err Cut)
    move-cut finds =
        let x = answer-cut after (walked (judged sc) reach.left after) finds.answer in
        let is_cut = mapped-walk ∙ ap (changed (judged sc) (after_move its)) x in
        finds-same sc reach.left all (record { answer = sym (ap (walked_as (map (after_move its) after)) is_cut); buffer = finds.buffer ∙ ap (buffer_as b (reach.at + step_size turn)) x ∙ sym (ap (buffer_as b reach.at) is_cut) })

    -- a break: what is known of it
    record Below (x : Break) : Type 0 where
      pub place : ℕ
      pub entry : Entry
      pub claim : Claim
      pub is_found : walked (judged sc) reach.left after ≡ found place entry claim
      pub is_break : x ≡ break_as place entry.0 claim
      pub fits : reach.at + step_size turn + length (trace_bytes entry.0) ≤ most_trace_bytes
      pub written : b' ≡ over b (reach.at + step_size turn) (trace_bytes entry.0)

    broken-below : {x : Break} → Found (Err (Broken x)) → Below x
    broken-below {x} finds =
        let y = answer-broken after (walked (judged sc) reach.left after) finds.answer in
        record {
          place = y.0;
          entry = y.1;
          claim = y.2;
          is_found = y.3;
          is_break = y.4;
          fits = entry-fits reach.depth (found_within (judged sc) reach.left after y.3).1;
          written = finds.buffer ∙ ap (buffer_as b (reach.at + step_size turn)) y.3;
        }

    -- with the step written in front
    put-broken : {x : Break} → Found (Err (Broken x)) → most_trace_bytes ≤ length b → Put (over b' reach.at (step_bytes turn)) (Err (Broken (made_longer x (step_size turn))))
    put-broken {x} finds room =
        let y = broken-below finds in
        let is-found = mapped-walk ∙ ap (changed (judged sc) (after_move its)) y.is_found in
        let long : length (trace_bytes (its ∷ y.entry.0)) ≡ step_size turn + length (trace_bytes y.entry.0) =
        ap length (trace-more its y.entry.0) ∙ length-append (move_bytes its) (trace_bytes y.entry.0) ∙ ap (λ (n : ℕ). n + length (trace_bytes y.entry.0)) (sym (step-size m.of)) in
        let start : reach.at + step_size turn ≡ reach.at + length (move_bytes its) = ap (λ (n : ℕ). reach.at + n) (step-size m.of) in
        let whole : over b' reach.at (step_bytes turn) ≡ over b reach.at (trace_bytes (its ∷ y.entry.0)) =
        (λ i. over (y.written i) reach.at (step-bytes m.of i)) ∙ over-over b reach.at (move_bytes its) (trace_bytes y.entry.0) start (omega (arith, y.fits)) ∙ ap (over b reach.at) (sym (trace-more its y.entry.0)) in
        finds-same sc reach.left all (record {
          answer = ap (λ (z : Break). Err (Broken (made_longer z (step_size turn)))) y.is_break
              ∙ ap (λ (l : ℕ). Err (Broken (record { place = y.place; length = l; claim = claim_as y.claim }))) (sym long)
              ∙ sym (ap (walked_as (map (after_move its) after)) is-found);
          buffer = whole ∙ sym (ap (buffer_as b reach.at) is-found);
        })

    -- whatever it is, the step is put in front
    put : (w : Walked) → Found w → most_trace_bytes ≤ length b → Put (step_before b' reach.at turn w) (after_step w (step_size turn))
    put (Err (Broken x)) finds room = put-broken finds room
    put (Ok n) finds room = move-clean finds
    put (Err Cut) finds room = move-cut finds

    -- where it is written there is room for it, and the trace is not too long
    step-inside : (w : Walked) → Found w → most_trace_bytes ≤ length b → is_broken w ≡ true → reach.at + step_size turn ≤ length b'
    step-inside (Err (Broken x)) finds room q =
        let y = broken-below finds in
        omega (arith, y.fits, ap length y.written, over-length b (reach.at + step_size turn) (trace_bytes y.entry.0) (omega (arith, y.fits)))
    step-inside (Ok n) finds room q = absurd (true≢false (sym q))
    step-inside (Err Cut) finds room q = absurd (true≢false (sym q))

    fits_in : {w : Walked} → Found w → most_trace_bytes ≤ length b → StepFits (length b') reach.at turn w
    fits_in {w} finds room = record {
      inside = step-inside w finds room;
      few = few-chosen m.of;
      low = omega (arith, m.of.move.clear.here.reached.given.runs.few, m.of.move.due.is_run);
    }

    is-short : (w : Walked) → Found w → length_of w ≤ most_trace_bytes
    is-short (Err (Broken x)) finds = let y = broken-below finds in omega (arith, y.fits, ap (λ (z : Break). z.length) y.is_break)
    is-short (Ok n) finds = omega arith
    is-short (Err Cut) finds = omega arith

  -- the state after it, with what is answered of the marks, and how far the walk goes from there
  module _ {more : List Bool} (performs : MarksAfter plan.opened.table.bytes.now plan.opened.table.rows plan.opened.runs.count turn.run turn.event classes marks more) (size : length course.done ≡ 4) {next : List ℕ} (e : next ≡ set course.done turn.run (get_or course.done turn.run 0 + 1)) where
    pub after-state : SomeState plan (state_of (record { done = next }) names classes more) (reach.at + step_size turn)
    after-state =
        let here = m.of.move.clear.here in
        record {
          sc = sc;
          d = m.d';
          ms = m.of.ms ++ (its ∷ []);
          here = record {
            reached = record { is_opened = here.reached.is_opened; given = here.reached.given; allowed = move-allowed };
            state = subst (λ (l : List ℕ). IsState sc m.d' (record { done = l; names = names; classes = classes; marks = more })) (sym (e ∙ ap (λ (l : List ℕ). set l turn.run (get_or l turn.run 0 + 1)) m.of.is_done)) (performs (event_of m.of size) m.d' m.allowed);
            low = next_low m.of e;
            place = (λ i. here.place i + (step-size m.of ∙ ap length (sym (trace-one its))) i) ∙ sym (ap length (trace-append m.of.ms (its ∷ [])) ∙ length-append (trace_bytes m.of.ms) (trace_bytes (its ∷ [])));
          };
        }

    -- what a walk from it finds, after the move
    module _ {b b' : List ℕ} {w : Walked} (told : FindsFrom plan (state_of (record { done = next }) names classes more) (record { left = reach.left; at = reach.at + step_size turn; depth = reach.depth }) b b' w) where
      pub found_after : Finds sc reach.left (entries_from plan reach.depth sc m.d') b (reach.at + step_size turn) b' w
      unfolding after-state
      found_after = told after-state

      pub step-length : length_of w ≤ most_trace_bytes
      step-length = is-short b b' w found_after

      module _ (room : most_trace_bytes ≤ length b) where
        pub step_fits : StepFits (length b') reach.at turn w
        step_fits = fits_in b b' found_after room

        pub step-finds : {w' : Walked} {b'' : List ℕ} → b'' ≡ step_before b' reach.at turn w → w' ≡ after_step w (step_size turn) → FindsAfter m.of reach b b'' w'
        step-finds f g = rw (f, g) (put b b' w found_after room)
