-- Ahead: a trace of the short list leads ahead of every allowed trace, by sends and claims, and so breaks whatever the allowed trace breaks. Assumes nothing.
use Rattle.std.specs.Prelude.{ℕ, zero, suc, ◌≤◌, ◌<◌, ◌≡◌, refl, length, set}
use Rattle.std.proofs.Common.{le_refl, ◌∙◌}
use native.Mathlib.Omega.{arith}
use Rattle.std.proofs.Math.Decide.{ℕ_discrete, dec_lt}
use Rattle.std.proofs.Math.Path.{sym, ap}
use Rattle.std.proofs.Math.Logic.{⊎_elim}
use mathlib.Core.List.{List, [], ◌∷◌, ◌++◌, map, append-nil, Memᴰ}
use Rattle.std.proofs.Math.Option.{Option, none, some, some-injective}
use Rattle.std.proofs.Math.ListN.{get_elem?}
use Rattle.semantics.specs.Basic.{first_of}
use Rattle.semantics.specs.Term.{Atom, Term}
use Rattle.semantics.specs.Value.{value_of}
use Rattle.semantics.specs.Roles.{ClaimKind, EventKind, send, read, claim, Event}
use Rattle.semantics.specs.Runs.{Run}
use Rattle.semantics.specs.Scenario.{Scenario}
use Rattle.semantics.specs.State.{Value, Progress, State, Active, active, initial, events_of, events_left, reading_in, new_variables, paired, Message, Claim}
use Rattle.semantics.specs.Moves.{Move, to_set, set_after, message_after, advanced, short, ready_at, run_numbers}
use Rattle.semantics.specs.Tree.{Follows, stays, moves}
use Rattle.semantics.specs.Allowed.{Takes, takes_none, Performs, sends, reads, claims, Step, step, AllowedTrace, Ready, lowest_ready, none_ready, StepIn, TraceIn, Against, value_known, Breaks, breaks}
use Rattle.semantics.specs.Guarantee.{Guarantee}
use Rattle.semantics.specs.Meaning.{ActiveIn}
use Rattle.semantics.proofs.laws.Test.{none-there, There}
use Rattle.semantics.proofs.laws.List.{get_elem-below, get_elem-there, set_cases, set_same, set_other}
use Rattle.semantics.proofs.laws.Inference.{derives-monotone}
use Rattle.semantics.proofs.laws.Tree.{follows-append}
use Rattle.semantics.proofs.laws.Active.{no_read, active-in, active-at, Readiness, first_ready, closed, readiness}
use Rattle.semantics.proofs.laws.Traces.{step-uses, trace-in}
use Rattle.semantics.proofs.laws.Reached.{Reached, trace-reached, reached-message}
use Rattle.semantics.proofs.laws.SameKnown.{Sent, at_start, in_run, trace-knows, message_in}

-- A run that has come at least as far, by sends and claims, with the same values.
record AheadRun (sc : Scenario) (run : Run) (p q : Progress) : Type 0 where
  further : p.done ≤ q.done
  values : p.values ≡ q.values
  silent : (j : ℕ) (e : Event) → get_elem? (events_of sc run) j ≡ some e → p.done ≤ j → j < q.done → e.kind ≡ read → ⊥

abbrev Ahead : Scenario → State → State → Type 0
Ahead sc s t =
    (k : ℕ) (run : Run) (p q : Progress) → get_elem? sc.runs k ≡ some run → get_elem? s.progress k ≡ some p → get_elem? t.progress k ≡ some q → AheadRun sc run p q

-- no run is ready
abbrev Closed : Scenario → State → Type 0
Closed sc t = (u : ℕ) → Ready sc t u → ⊥

module _ (sc : Scenario) where
  run-itself : {run : Run} {p q : Progress} → p ≡ q → AheadRun sc run p q
  run-itself e = rw e (record { further = le_refl _; values = refl; silent = λ j d f l h r. absurd (omega arith) })

  ahead-itself : (s : State) → Ahead sc s s
  ahead-itself s k run p q f e e' = run-itself (some-injective p q (sym e ∙ e'))

  run-trans : {run : Run} {p q r : Progress} → AheadRun sc run p q → AheadRun sc run q r → AheadRun sc run p r
  run-trans {q = q} a b = record {
    further = omega (arith, a.further, b.further);
    values = a.values ∙ b.values;
    silent = λ j e f l h z. elim (dec_lt j q.done) [ yes m ↦ a.silent j e f l m z | no n ↦ b.silent j e f (omega arith) h z ];
  }

  -- a run that is there in one of two reached states is there in the other
  there-too : {s t : State} → Reached sc s → Reached sc t → (k : ℕ) {p : Progress} → get_elem? s.progress k ≡ some p → (q : Progress) × (get_elem? t.progress k ≡ some q)
  there-too {s} {t} r r' k e = get_elem-there t.progress k (omega (arith, get_elem-below s.progress k e, r.counted, r'.counted))

  ahead-trans : {s t : State} (v : State) → Reached sc s → Reached sc t → Ahead sc s t → Ahead sc t v → Ahead sc s v
  ahead-trans v r r' a b k run p q f e e' = let w = there-too r r' k e in run-trans (a k run p w.0 f e w.1) (b k run w.0 q f w.1 e')

  -- an event that is no read sets nothing
  sets-nothing : (a : Active) (vs : List Value) → (a.event.kind ≡ read → ⊥) → (to_set sc a ≡ []) × (a.progress.values ≡ set_after sc a vs)
  unfolding set_after new_variables
  sets-nothing a vs n = go a.event.kind n
    where
      go : (kind : EventKind) → (kind ≡ read → ⊥)
          → (new_variables sc.rows a.progress.values kind a.event.row ≡ []) × (a.progress.values ≡ a.progress.values ++ paired (new_variables sc.rows a.progress.values kind a.event.row) vs)
      go send n = (refl, sym (append-nil a.progress.values))
      go read n = absurd (n refl)
      go (claim kind) n = (refl, sym (append-nil a.progress.values))

  -- what moves of a run do to being ahead: the moved run by itself, every other as before
  module _ (s : State) (u : ℕ) (a : Active) (is_in : ActiveIn sc s u a) (vs : List Value) (known : List Term) where
    abbrev after : Progress
    after = record { done = suc a.progress.done; values = set_after sc a vs }

    ahead-moved : (t : State) → Ahead sc s t → ((q : Progress) → get_elem? t.progress a.index ≡ some q → AheadRun sc a.run after q) → Ahead sc (advanced sc s a vs known) t
    unfolding advanced
    ahead-moved t ahead own k run p q f e e' = ⊎_elim moved (λ e₀. ahead k run p q f e₀ e') (set_cases s.progress a.index after k e)
      where
        moved : (k ≡ a.index) × (p ≡ after) → AheadRun sc run p q
        moved w =
            let same : run ≡ a.run = some-injective run a.run (sym f ∙ ap (get_elem? sc.runs) w.0 ∙ is_in.of_run) in
            rw (same, w.1) (own q (ap (get_elem? t.progress) (sym w.0) ∙ e'))

    -- a state is behind the one after a send or claim
    ahead-silent : (a.event.kind ≡ read → ⊥) → Ahead sc s (advanced sc s a vs known)
    unfolding advanced
    ahead-silent n k run p q f e e' = ⊎_elim moved (λ e₀. run-itself (some-injective p q (sym e ∙ e₀))) (set_cases s.progress a.index after k e')
      where
        moved : (k ≡ a.index) × (q ≡ after) → AheadRun sc run p q
        moved w =
            let same : run ≡ a.run = some-injective run a.run (sym f ∙ ap (get_elem? sc.runs) w.0 ∙ is_in.of_run) in
            let was : p ≡ a.progress = some-injective p a.progress (sym e ∙ ap (get_elem? s.progress) w.0 ∙ is_in.of_progress) in
            rw (same, was, w.1) (record {
              further = omega arith;
              values = (sets-nothing a vs n).1;
              silent = λ j d g l h z.
                  let last : j ≡ a.progress.done = omega arith in
                  n (ap (λ (x : Event). x.kind) (some-injective a.event d (sym is_in.of_event ∙ ap (get_elem? (events_of sc a.run)) (sym last) ∙ g)) ∙ z);
            })

module _ {sc : Scenario} (g : Guarantee sc) where
  -- a send or claim is allowed in every reached state
  ready-step : {ms : List Move} {t : State} → AllowedTrace sc ms t → {u : ℕ} (r : Ready sc t u) → (known : List Term) × Step sc t (record { run = u; values = [] }) (advanced sc t r.0 [] known)
  ready-step {ms} {t} allowed {u} r =
      let a = r.0 in
      let takes : Takes sc.rows (length sc.runs) (to_set sc a) [] = rw (sets-nothing sc a [] r.2).0 takes_none in
      let w = reached-message sc g ms t allowed u a r.1 [] takes in
      let p = go a.event.kind r.2 (message_after sc a []) w in
      (p.0, step r.1 takes p.1 refl)
    where
      go : (kind : EventKind) → (kind ≡ read → ⊥) → (o : Option Message) → There o → (known : List Term) × Performs t.known kind o known
      go send n none w = none-there w
      go send n (some m) w = (_, sends refl)
      go read n o w = absurd (n refl)
      go (claim k) n o w = (_, claims refl)

  -- Every reached state leads, by moves of the short list, to a closed state ahead of it.
  record Closing (t : State) : Type 0 where
    trace : List Move
    end : State
    follows : Follows (StepIn short sc) t trace end
    is_closed : Closed sc end
    ahead : Ahead sc t end

  closes : (n : ℕ) {ms : List Move} (t : State) → AllowedTrace sc ms t → events_left sc t ≤ n → Closing t
  closes zero {ms} t allowed l = go (first_of (map (ready_at sc t) (run_numbers sc))) (readiness sc t)
    where
      go : (o : Option ℕ) → Readiness sc t o → Closing t
      go none (closed no-ready) = record { trace = []; end = t; follows = stays; is_closed = no-ready; ahead = ahead-itself sc t }
      go (some u) (first_ready r low) = let s = ready-step allowed r in let f = step-uses sc t (record { run = u; values = [] }) (advanced sc t r.0 [] s.0) s.1 in absurd (omega arith)
  closes (suc n) {ms} t allowed l = go (first_of (map (ready_at sc t) (run_numbers sc))) (readiness sc t) (λ ms₁ t₁ allowed₁ l₁. closes n {ms = ms₁} t₁ allowed₁ l₁)
    where
      go : (o : Option ℕ) → Readiness sc t o → ((ms₁ : List Move) (t₁ : State) → AllowedTrace sc ms₁ t₁ → events_left sc t₁ ≤ n → Closing t₁) → Closing t
      go none (closed no-ready) next = record { trace = []; end = t; follows = stays; is_closed = no-ready; ahead = ahead-itself sc t }
      go (some u) (first_ready r low) next =
          let s = ready-step allowed r in
          let m : Move = record { run = u; values = [] } in
          let t₁ : State = advanced sc t r.0 [] s.0 in
          let f = step-uses sc t m t₁ s.1 in
          let allowed₁ : AllowedTrace sc (ms ++ (m ∷ [])) t₁ = follows-append allowed (moves s.1 stays) in
          let rest = next (ms ++ (m ∷ [])) t₁ allowed₁ (omega arith) in
          record {
            trace = m ∷ rest.trace;
            end = rest.end;
            follows = moves (lowest_ready r low, s.1) rest.follows;
            is_closed = rest.is_closed;
            ahead = ahead-trans sc rest.end (trace-reached g allowed) (trace-reached g allowed₁) (ahead-silent sc t u r.0 (active-in sc t u r.1) [] s.0 r.2) rest.ahead;
          }

  module _ {ms ns : List Move} {s t : State} (allowed : AllowedTrace sc ms s) (allowed' : AllowedTrace sc ns t) (ahead : Ahead sc s t) where
    -- what is known is known ahead
    ahead-known : (x : Term) → Memᴰ x s.known → Memᴰ x t.known
    ahead-known x h = (trace-knows g allowed' x).1 (sent ((trace-knows g allowed x).0 h))
      where
        sent : Sent sc s.progress x → Sent sc t.progress x
        sent (at_start i) = at_start i
        sent (in_run k j {run} {p} {e} {m} f q n l z v i) =
            let w = there-too sc (trace-reached g allowed) (trace-reached g allowed') k q in
            let r = ahead k run p w.0 f q w.1 in
            in_run k j f w.1 n (omega (arith, r.further)) z (ap (λ (sets : List (Atom × Value)). message_in sc k run (record { done = 0; values = sets }) e) (sym r.values) ∙ v) i

    -- a claim that is broken is broken ahead
    ahead-breaks : (c : Claim) → Breaks sc s c → Breaks sc t c
    ahead-breaks c (breaks {k = k} {run = run} {p = p} {e = e} f q n l z trusts against num) =
        let w = there-too sc (trace-reached g allowed) (trace-reached g allowed') k q in
        let r = ahead k run p w.0 f q w.1 in
        breaks f w.1 n (omega (arith, r.further)) z trusts (still w.0 r.values against) num
      where
        still : (p' : Progress) → p.values ≡ p'.values → {kind : ClaimKind} → Against sc s (suc k) run p e kind → Against sc t (suc k) run p' e kind
        still p' same (value_known value derives) =
            value_known (ap (λ (sets : List (Atom × Value)). value_of (reading_in sc.rows (suc k) run sets) sc.rows e.row) (sym same) ∙ value) (derives-monotone ahead-known derives)

    -- A closed state ahead follows every allowed move, by moves of the short list.
    record Catching (s' : State) : Type 0 where
      trace : List Move
      end : State
      follows : Follows (StepIn short sc) t trace end
      is_closed : Closed sc end
      still : Ahead sc s' end

    catches : Closed sc t → {m : Move} {s' : State} → Step sc s m s' → Catching s'
    unfolding advanced
    catches is_closed {m} {s'} (step {a} {known} act takes performs e) = rw e (go (ℕ_discrete a.progress.done q.0.done))
      where
        is_in : ActiveIn sc s m.run a
        is_in = active-in sc s m.run act

        q : (q : Progress) × (get_elem? t.progress a.index ≡ some q)
        q = there-too sc (trace-reached g allowed) (trace-reached g allowed') a.index is_in.of_progress

        own : AheadRun sc a.run a.progress q.0
        own = ahead a.index a.run a.progress q.0 is_in.of_run is_in.of_progress q.1

        go : Dec (a.progress.done ≡ q.0.done) → Catching (advanced sc s a m.values known)
        -- the run is ahead: what it does was done there
        go (no n) =
            let below : a.progress.done < q.0.done = omega (arith, own.further) in
            let other : a.event.kind ≡ read → ⊥ = own.silent a.progress.done a.event is_in.of_event (le_refl _) below in
            record {
              trace = [];
              end = t;
              follows = stays;
              is_closed = is_closed;
              still = ahead-moved sc s m.run a is_in m.values known t ahead (λ r f.
                  rw (some-injective r q.0 (sym f ∙ q.1)) (record {
                    further = below;
                    values = sym (sets-nothing sc a m.values other).1 ∙ own.values;
                    silent = λ j d h l. own.silent j d h (omega arith);
                  }));
            }
        -- the run is where it is there, so its event is a read and is allowed there
        go (yes same) =
            let p : a.progress ≡ q.0 = λ i. record { done = same i; values = own.values i } in
            let there : get_elem? t.progress a.index ≡ some a.progress = q.1 ∙ ap some (sym p) in
            let act' : active sc t m.run ≡ some a = active-at sc t m.run (record { numbered = is_in.numbered; of_run = is_in.of_run; of_progress = there; of_event = is_in.of_event }) in
            let s₁ = again act' a.event.kind refl performs in
            let t₁ : State = advanced sc t a m.values s₁.0 in
            let step₁ : Step sc t m t₁ = step act' takes s₁.1 refl in
            let allowed₁ : AllowedTrace sc (ns ++ (m ∷ [])) t₁ = follows-append allowed' (moves step₁ stays) in
            let rest = closes (events_left sc t₁) t₁ allowed₁ (le_refl _) in
            let mine : AllowedTrace sc (ms ++ (m ∷ [])) (advanced sc s a m.values known) = follows-append allowed (moves (step act takes performs refl) stays) in
            record {
              trace = m ∷ rest.trace;
              end = rest.end;
              follows = moves (none_ready is_closed, step₁) rest.follows;
              is_closed = rest.is_closed;
              still = ahead-trans sc rest.end (trace-reached g mine) (trace-reached g allowed₁) (both-moved s₁.0) rest.ahead;
            }
          where
            again : active sc t m.run ≡ some a → (kind : EventKind) → a.event.kind ≡ kind → {o : Option Message} → Performs s.known kind o known → (known' : List Term) × Performs t.known kind o known'
            again act' send z h = absurd (is_closed m.run (a, act', λ r. no_read send tt (sym z ∙ r)))
            again act' read z (reads x y w r) = (t.known, reads (derives-monotone ahead-known x) (derives-monotone ahead-known y) (derives-monotone ahead-known w) refl)
            again act' (claim k) z h = absurd (is_closed m.run (a, act', λ r. no_read (claim k) tt (sym z ∙ r)))

            -- the run stands alike in both, and every other as before
            both-moved : (known' : List Term) → Ahead sc (advanced sc s a m.values known) (advanced sc t a m.values known')
            both-moved known' k run p r f e e' = at (ℕ_discrete k a.index)
              where
                after : Progress
                after = record { done = suc a.progress.done; values = set_after sc a m.values }

                at : Dec (k ≡ a.index) → AheadRun sc run p r
                at (yes x) =
                    let mine = set_same s.progress a.index after (get_elem-below s.progress a.index is_in.of_progress) in
                    let theirs = set_same t.progress a.index after (get_elem-below t.progress a.index q.1) in
                    run-itself sc (some-injective p r (sym e ∙ ap (get_elem? (set s.progress a.index after)) x ∙ mine ∙ sym theirs ∙ ap (get_elem? (set t.progress a.index after)) (sym x) ∙ e'))
                at (no d) = ahead k run p r f (sym (set_other s.progress a.index after k d) ∙ e) (sym (set_other t.progress a.index after k d) ∙ e')

  -- So a trace of the short list leads ahead of every allowed trace.
  record Overtaking (s : State) : Type 0 where
    trace : List Move
    end : State
    follows : TraceIn short sc trace end
    ahead : Ahead sc s end

  overtakes : {ms ns ls : List Move} {s t e : State} → AllowedTrace sc ms s → TraceIn short sc ns t → Closed sc t → Ahead sc s t → Follows (Step sc) s ls e → Overtaking e
  overtakes {ms = ms} {ns = ns} {t = t} allowed path is_closed ahead stays = record { trace = ns; end = t; follows = path; ahead = ahead }
  overtakes {ms = ms} allowed path is_closed ahead (moves {m = m} p h) =
      let c = catches allowed (trace-in short sc path) ahead is_closed p in
      overtakes {ms = ms ++ (m ∷ [])} (follows-append allowed (moves p stays)) (follows-append path c.follows) c.is_closed c.still h

  overtaken : {ms : List Move} {s : State} → AllowedTrace sc ms s → Overtaking s
  overtaken f =
      let c = closes (events_left sc (initial sc)) (initial sc) stays (le_refl _) in
      overtakes stays c.follows c.is_closed c.ahead f

  -- Whatever an allowed trace breaks a trace of the short list breaks too.
  pub short-breaks : {ms : List Move} {s : State} → AllowedTrace sc ms s → (c : Claim) → Breaks sc s c → (ns : List Move) × (t : State) × TraceIn short sc ns t × Breaks sc t c
  short-breaks f c b = let o = overtaken f in (o.trace, o.end, o.follows, ahead-breaks f (trace-in short sc o.follows) o.ahead c b)
