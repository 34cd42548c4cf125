-- The laws of the list of traces, with their proofs: each allowed trace once, in order. Assumes nothing.
use Rattle.std.specs.Prelude.{ℕ, zero, suc, ◌<◌, ◌≡◌, refl, ◌↔◌, length, set}
use Rattle.std.proofs.Common.{le_refl, arith, sym, ◌∙◌}
use Rattle.std.proofs.Math.Option.{some, some-injective, none-ne-some}
use mathlib.Core.List.{List, [], ◌∷◌, ◌++◌, Memᴰ}
use Rattle.std.proofs.Math.ListN.{get_elem?}
use Rattle.semantics.specs.Basic.{Ordered}
use Rattle.semantics.specs.Roles.{Event}
use Rattle.semantics.specs.Runs.{Run}
use Rattle.semantics.specs.Scenario.{Scenario}
use Rattle.semantics.specs.State.{Progress, State, initial, events_of, events_left_from, events_left}
use Rattle.semantics.specs.Moves.{Move, advanced, Listing, full, short, moves_in}
use Rattle.semantics.specs.Tree.{Earlier}
use Rattle.semantics.specs.Verdict.{Entry, trace_list}
use Rattle.semantics.specs.Allowed.{Step, step, AllowedTrace, StepIn, TraceIn, MoveBefore}
use Rattle.semantics.proofs.laws.List.{get_elem-below}
use Rattle.semantics.proofs.laws.Tree.{follows-determined, follows-map, earlier-prefix, places-order, places-once, listed-first, listed-sound, listed-complete, listed-ordered}
use Rattle.semantics.proofs.laws.Moves.{active-in, moves-exact, after-exact, move_before-asymmetric, moves-ordered}

-- one more event of a run leaves one less
left-set : (sc : Scenario) (runs : List Run) (ps : List Progress) (k : ℕ) {run : Run} {p : Progress} {e : Event} (q : Progress)
    → get_elem? runs k ≡ some run → get_elem? ps k ≡ some p → get_elem? (events_of sc run) p.done ≡ some e → q.done ≡ suc p.done
    → suc (events_left_from sc runs (set ps k q)) ≡ events_left_from sc runs ps
unfolding events_left_from
left-set sc [] ps k {run} q r h e d = absurd (none-ne-some run r)
left-set sc (x ∷ runs) [] k {p = p} q r h e d = absurd (none-ne-some p h)
left-set sc (x ∷ runs) (y ∷ ps) zero {run} {p} q r h e d =
    let b = get_elem-below (events_of sc run) p.done e in
    rw (some-injective x run r, some-injective y p h) (omega arith)
left-set sc (x ∷ runs) (y ∷ ps) (suc k) q r h e d = omega (arith, left-set sc runs ps k q r h e d)

-- a move makes one event
pub step-uses-one : (sc : Scenario) (s : State) (m : Move) (s' : State) → Step sc s m s' → suc (events_left sc s') ≡ events_left sc s
unfolding events_left advanced
step-uses-one sc s m s' (step {a} e t p q) = let w = active-in sc s m.run e in rw q (left-set sc sc.runs s.progress a.index _ w.of_run w.of_progress w.of_event refl)

-- so a move leaves fewer events
pub step-uses : (sc : Scenario) (s : State) (m : Move) (s' : State) → Step sc s m s' → events_left sc s' < events_left sc s
step-uses sc s m s' p = omega (arith, step-uses-one sc s m s' p)

-- a move fixes the state after it
pub step-determined : (sc : Scenario) (s : State) (m : Move) (t t' : State) → Step sc s m t → Step sc s m t' → t ≡ t'
step-determined sc s m t t' p q = some-injective t t' (sym ((after-exact sc s m t).1 p) ∙ (after-exact sc s m t').1 q)

-- nothing is asked of a state
abbrev Any : State → Type 0
Any s = Unit

-- a move of a list is allowed
pub step_in : (which : Listing) (sc : Scenario) (s : State) (m : Move) (s' : State) → StepIn which sc s m s' → Step sc s m s'
step_in full sc s m s' p = p
step_in short sc s m s' p = p.1

-- so is a trace of a list
pub trace-in : (which : Listing) (sc : Scenario) {ms : List Move} {s : State} → TraceIn which sc ms s → AllowedTrace sc ms s
trace-in which sc = follows-map Any (λ s g m s' p. tt) (λ s g m s'. step_in which sc s m s') tt

-- the traces of the full list are the allowed ones
pub full-exact : (sc : Scenario) (ms : List Move) (s : State) → TraceIn full sc ms s ↔ AllowedTrace sc ms s
full-exact sc ms s = (λ f. f, λ f. f)

-- a trace fixes the state that it ends in
pub traces-end : (sc : Scenario) (ms : List Move) (s s' : State) → AllowedTrace sc ms s → AllowedTrace sc ms s' → s ≡ s'
traces-end sc ms s s' = follows-determined (step-determined sc)

module _ (which : Listing) (sc : Scenario) where
  -- a listed trace is one of the list
  trace-allowed : {ms : List Move} {s : State} → Memᴰ (ms, s) (trace_list which sc) → TraceIn which sc ms s
  unfolding trace_list
  trace-allowed h = follows-map Any (λ s g m s' p. tt) (λ s g m s'. (moves-exact sc s which m s').0) tt (listed-sound (moves_in which sc) _ _ h)

  -- and every such trace is listed
  allowed-trace : {ms : List Move} {s : State} → TraceIn which sc ms s → Memᴰ (ms, s) (trace_list which sc)
  unfolding trace_list
  allowed-trace f =
      listed-complete (moves_in which sc) Any (λ s g m s' p. tt) (events_left sc) (λ s g m s' h. step-uses sc s m s' (step_in which sc s m s' ((moves-exact sc s which m s').0 h))) _ _ tt (le_refl _)
      (follows-map Any (λ s g m s' p. tt) (λ s g m s'. (moves-exact sc s which m s').1) tt f)

  -- the traces listed are those of the list
  pub traces-exact : (ms : List Move) (s : State) → Memᴰ (ms, s) (trace_list which sc) ↔ TraceIn which sc ms s
  traces-exact ms s = (trace-allowed, allowed-trace)

  -- the list is in order
  trace_list-ordered : Ordered (λ e f. Earlier MoveBefore e.0 f.0) (trace_list which sc)
  unfolding trace_list
  trace_list-ordered = listed-ordered (moves_in which sc) Any (λ s g m s' p. tt) MoveBefore (λ s g. moves-ordered sc s which) _ _ tt

  module _ (i j : ℕ) (e f : Entry) (p : get_elem? (trace_list which sc) i ≡ some e) (q : get_elem? (trace_list which sc) j ≡ some f) where
    -- the earlier trace stands at the earlier place
    pub traces-ordered : (i < j) ↔ Earlier MoveBefore e.0 f.0
    traces-ordered = places-order move_before-asymmetric trace_list-ordered i j p q

    -- a trace stands at one place only
    pub traces-once : e.0 ≡ f.0 → i ≡ j
    traces-once = places-once move_before-asymmetric trace_list-ordered i j p q

    -- a trace precedes its extensions
    pub traces-prefix : (m : Move) (ms : List Move) → f.0 ≡ e.0 ++ (m ∷ ms) → i < j
    traces-prefix m ms r = traces-ordered.1 (rw r (earlier-prefix e.0 m ms))

  -- the empty trace is the first
  pub traces-first : get_elem? (trace_list which sc) 0 ≡ some ([], initial sc)
  unfolding trace_list
  traces-first = listed-first (moves_in which sc) _ _

  -- so there is one
  pub traces-nonempty : 0 < length (trace_list which sc)
  traces-nonempty = get_elem-below (trace_list which sc) 0 traces-first
