-- In a reached state what is known is what was known at the start and what was sent, read with the values of the state. Assumes nothing.
use Rattle.std.specs.Prelude.{ℕ, suc, ◌<◌, ◌≡◌, refl, ◌↔◌, ◌⊎◌, set}
use Rattle.std.proofs.Common.{not-suc-le-zero, sym, ◌∙◌, subst}
use native.Mathlib.Omega.{arith}
use Rattle.std.proofs.Math.Decide.{ℕ_discrete, dec_lt}
use Rattle.std.proofs.Math.Path.{ap}
use Rattle.std.proofs.Math.Logic.{inl, inr, ⊎_elim}
use mathlib.Core.List.Memᴰ
use mathlib.Core.List.{List, [], ◌∷◌, ◌++◌, map, Memᴰ}
use Rattle.std.proofs.Math.Option.{Option, none, some, some-injective}
use Rattle.std.proofs.Math.ListN.{get_elem?}
use Rattle.semantics.specs.Term.{Atom, Term}
use Rattle.semantics.specs.Roles.{EventKind, send, Event}
use Rattle.semantics.specs.Runs.{Run}
use Rattle.semantics.specs.Scenario.{Scenario}
use Rattle.semantics.specs.State.{Value, Progress, State, Active, initial_knowledge, initial, reading_in, events_of, paired, Message}
use Rattle.semantics.specs.Moves.{Move, message, message_after, to_set, set_after, advanced}
use Rattle.semantics.specs.Tree.{stays, moves}
use Rattle.semantics.specs.Allowed.{Performs, sends, reads, claims, Step, step, AllowedTrace}
use Rattle.semantics.specs.Guarantee.{Guarantee, HasValue}
use Rattle.semantics.proofs.laws.Test.{none-there}
use Rattle.semantics.proofs.laws.List.{mem-map, mem-get_elem, get_elem-below, set_cases}
use Rattle.semantics.proofs.laws.Inference.{derivable-members}
use Rattle.semantics.proofs.laws.Tree.{follows-append, follows-good}
use Rattle.semantics.proofs.laws.Moves.{ActiveIn, active-in}
use Rattle.semantics.proofs.laws.Reached.{unmoved, passed-value}
use Rattle.semantics.proofs.laws.List.{set_same, set_other}
use Rattle.semantics.specs.Same.{Both, none_of, some_of, Each, SameRun, Same}
use Rattle.semantics.proofs.laws.Each.{each_at, each-turned}
use Rattle.semantics.proofs.laws.SameValues.{value_stays, reading-stays, message-same, runs-turned}
use Rattle.semantics.proofs.laws.Same.{row_same}

-- the terms that a message makes known
abbrev pub parts_of : Message → List Term
parts_of m = m.sender ∷ m.receiver ∷ m.term ∷ []

-- the message of an event with what a run has set
abbrev pub message_in : Scenario → ℕ → Run → Progress → Event → Option Message
message_in sc k run p e = message sc.rows (reading_in sc.rows (suc k) run p.values) run e

-- a term is known at the start, or a run has sent it
pub data Sent (sc : Scenario) (progress : List Progress) (t : Term) : Type 0 where
  at_start : Memᴰ t (initial_knowledge sc) → Sent sc progress t
  in_run :
      (k j : ℕ) {run : Run} {p : Progress} {e : Event} {m : Message} → get_elem? sc.runs k ≡ some run → get_elem? progress k ≡ some p → get_elem? (events_of sc run) j ≡ some e → j < p.done
      → e.kind ≡ send → message_in sc k run p e ≡ some m → Memᴰ t (parts_of m) → Sent sc progress t

-- what is known is what was sent
abbrev pub Knows : Scenario → State → Type 0
Knows sc d = (t : Term) → Memᴰ t d.known ↔ Sent sc d.progress t

-- at the start nothing was sent
initial-knows : (sc : Scenario) → Knows sc (initial sc)
unfolding initial
initial-knows sc t = (at_start, back)
  where
    none_done : (p : Progress) (j : ℕ) → p ≡ unmoved → j < p.done → ⊥
    none_done p j e l = not-suc-le-zero (subst (λ (q : Progress). j < q.done) e l)

    back : Sent sc (map (λ run. unmoved) sc.runs) t → Memᴰ t (initial_knowledge sc)
    back (at_start h) = h
    back (in_run k j {p = p} f q n l s e h) = absurd (none_done p j ((mem-map (λ run. unmoved) sc.runs).0 ((mem-get_elem (map (λ run. unmoved) sc.runs)).1 (k, q))).2 l)

-- what is known after an event: what was known, and after a send the parts of the message
performs-new : {known after : List Term} {kind : EventKind} {o : Option Message} → Performs known kind o after → (t : Term) → Memᴰ t after
    → Memᴰ t known ⊎ ((m : Message) × (kind ≡ send) × (o ≡ some m) × Memᴰ t (parts_of m))
performs-new (sends {m = m} e) t h = ⊎_elim (λ i. inr (m, refl, refl, i)) inl (Memᴰ.append_cases (parts_of m) (rw e at h))
performs-new (reads a b c e) t h = inl (rw e at h)
performs-new (claims e) t h = inl (rw e at h)

-- what was known stays known
performs-old : {known after : List Term} {kind : EventKind} {o : Option Message} → Performs known kind o after → (t : Term) → Memᴰ t known → Memᴰ t after
performs-old (sends {m = m} e) t h = rw e (Memᴰ.tail (Memᴰ.tail (Memᴰ.tail h)))
performs-old (reads a b c e) t h = rw e h
performs-old (claims e) t h = rw e h

-- and what a send sends is known after it
performs-sent : {known after : List Term} {kind : EventKind} {o : Option Message} → Performs known kind o after → (m : Message) → kind ≡ send → o ≡ some m → (t : Term) → Memᴰ t (parts_of m)
    → Memᴰ t after
performs-sent {known} (sends {m = m'} e) m z f t h = rw (e, some-injective m' m f) (Memᴰ.append_left known h)
performs-sent (reads a b c e) m z f t h = let w : ◌≡◌ {A = ℕ} 0 1 = cc in absurd (omega arith)
performs-sent (claims e) m z f t h = let w : ◌≡◌ {A = ℕ} 0 1 = cc in absurd (omega arith)

module _ {sc : Scenario} (g : Guarantee sc) where
  -- the message of an event that has a value stays as variables are set
  message-stays : (u : ℕ) (run : Run) (sets more : List (Atom × Value)) (e : Event) → HasValue (reading_in sc.rows u run sets) sc.rows e.row
      → message sc.rows (reading_in sc.rows u run sets) run e ≡ message sc.rows (reading_in sc.rows u run (sets ++ more)) run e
  message-stays u run sets more e w =
      message-same sc.rows u run sets (sets ++ more) e
      (value_stays g.table (reading_in sc.rows u run sets) (reading_in sc.rows u run (sets ++ more)) (λ x a t. reading-stays sc.rows u run sets more a t) e.row w)

  module _ {s : State} (ms : List Move) (allowed : AllowedTrace sc ms s) (u : ℕ) (a : Active) (vs : List Value) (known : List Term) (is_in : ActiveIn sc s u a)
      (performs : Performs s.known a.event.kind (message_after sc a vs) known) where
    -- the run after its event
    abbrev after : Progress
    after = record { done = suc a.progress.done; values = set_after sc a vs }

    -- the events that it had made have the messages that they had
    passed-same : (j : ℕ) (e : Event) → get_elem? (events_of sc a.run) j ≡ some e → j < a.progress.done → message_in sc a.index a.run a.progress e ≡ message_in sc a.index a.run after e
    unfolding set_after
    passed-same j e f l =
        message-stays (suc a.index) a.run a.progress.values (paired (to_set sc a) vs) e
        (passed-value sc g ms s allowed a.index a.run a.progress j e is_in.of_run is_in.of_progress f l)

    module _ (t : Term) where
      -- a term is sent after the event
      abbrev Next : Type 0
      Next = Sent sc (set s.progress a.index after) t

      -- a term is part of the event's own message
      abbrev Own : Type 0
      Own = (m : Message) × (a.event.kind ≡ send) × (message_after sc a vs ≡ some m) × Memᴰ t (parts_of m)

      -- the run's position after the event
      here-after : get_elem? (set s.progress a.index after) a.index ≡ some after
      here-after = set_same s.progress a.index after (get_elem-below s.progress a.index is_in.of_progress)

      -- something follows from what a run with such a position has sent
      abbrev SentAt : Type 0 → ℕ → Run → Progress → Type 0
      SentAt Result k run p =
          (j : ℕ) (e : Event) (m : Message) → get_elem? (events_of sc run) j ≡ some e → j < p.done → e.kind ≡ send → message_in sc k run p e ≡ some m → Memᴰ t (parts_of m) → Result

      -- what the run had sent is sent after the event
      moved_before : SentAt Next a.index a.run a.progress
      moved_before j e m n l z f h = in_run a.index j is_in.of_run here-after n (omega arith) z (sym (passed-same j e n l) ∙ f) h

      -- and so is its own message
      own-next : Own → Next
      unfolding message_after
      own-next w = in_run a.index a.progress.done is_in.of_run here-after is_in.of_event (omega arith) w.1 w.2 w.3

      -- and what any run had sent
      sent-next : Sent sc s.progress t → Next
      sent-next (at_start h) = at_start h
      sent-next (in_run k j {run} {p} {e} {m} f q n l z v h) = go (ℕ_discrete k a.index)
        where
          go : Dec (k ≡ a.index) → Next
          go (yes x) =
              let same : run ≡ a.run = some-injective run a.run (sym f ∙ ap (get_elem? sc.runs) x ∙ is_in.of_run) in
              let same' : p ≡ a.progress = some-injective p a.progress (sym q ∙ ap (get_elem? s.progress) x ∙ is_in.of_progress) in
              let all : SentAt Next k run p = rw (x, same, same') moved_before in
              all j e m n l z v h
          go (no d) = in_run k j f (set_other s.progress a.index after k d ∙ q) n l z v h

      -- what the run has sent after the event it had sent before, or it is the event's own
      moved_back : SentAt (Sent sc s.progress t ⊎ Own) a.index a.run after
      unfolding message_after
      moved_back j e m n l z f h = go (dec_lt j a.progress.done)
        where
          go : Dec (j < a.progress.done) → Sent sc s.progress t ⊎ Own
          go (yes b) = inl (in_run a.index j is_in.of_run is_in.of_progress n b z (passed-same j e n b ∙ f) h)
          go (no b) =
              let last : j ≡ a.progress.done = omega arith in
              let own : e ≡ a.event = some-injective e a.event (sym n ∙ ap (get_elem? (events_of sc a.run)) last ∙ is_in.of_event) in
              inr (m, rw own at z, rw own at f, h)

      -- and so for any run
      next-sent : Next → Sent sc s.progress t ⊎ Own
      next-sent (at_start h) = inl (at_start h)
      next-sent (in_run k j {run} {p} {e} {m} f q n l z v h) = ⊎_elim moved (λ q'. inl (in_run k j f q' n l z v h)) (set_cases s.progress a.index after k q)
        where
          moved : (k ≡ a.index) × (p ≡ after) → Sent sc s.progress t ⊎ Own
          moved w =
              let same : run ≡ a.run = some-injective run a.run (sym f ∙ ap (get_elem? sc.runs) w.0 ∙ is_in.of_run) in
              let all : SentAt (Sent sc s.progress t ⊎ Own) k run p = rw (w.0, same, w.1) moved_back in
              all j e m n l z v h

    -- what is known after the event is what was sent then
    next-knows : Knows sc s → Knows sc (advanced sc s a vs known)
    unfolding advanced
    next-knows knows t = (
      λ h. ⊎_elim (λ i. sent-next t ((knows t).0 i)) (own-next t) (performs-new performs t h),
      λ w. ⊎_elim (λ i. performs-old performs t ((knows t).1 i)) (λ o. performs-sent performs o.0 o.1 o.2 t o.3) (next-sent t w),
    )

  -- an allowed trace that ends in a state that knows what was sent
  abbrev Ends : State → Type 0
  Ends s = ((ms : List Move) × AllowedTrace sc ms s) × Knows sc s

  -- an allowed move leads to such a state again
  step-ends : (s : State) → Ends s → (m : Move) (s' : State) → Step sc s m s' → Ends s'
  step-ends s h m s' p = ((h.0.0 ++ m ∷ [], follows-append h.0.1 (moves p stays)), go p)
    where
      go : Step sc s m s' → Knows sc s'
      go (step {a = a} {known = known} act takes performs e) = rw e (next-knows h.0.0 h.0.1 m.run a m.values known (active-in sc s m.run act) performs h.1)

  -- in a reached state what is known is what was sent
  pub trace-knows : {ms : List Move} {s : State} → AllowedTrace sc ms s → Knows sc s
  trace-knows t = (follows-good Ends step-ends (([], stays), initial-knows sc) t).1

  -- what was sent is the same where positions and values are
  sent-same : {progress progress' : List Progress} → Each (SameRun sc.rows) progress progress' → (t : Term) → Sent sc progress t → Sent sc progress' t
  sent-same same t (at_start h) = at_start h
  sent-same {progress} {progress'} same t (in_run k j {run} {p} {e} {m} f q n l z v h) = go (get_elem? progress k) (get_elem? progress' k) (each_at same k) q refl
    where
      go : (o o' : Option Progress) → Both (SameRun sc.rows) o o' → o ≡ some p → get_elem? progress' k ≡ o' → Sent sc progress' t
      go none none none_of q r = none-there (p, q)
      go (some p₀) (some p') (some_of runs) q r =
          let was : p₀ ≡ p = some-injective p₀ p q in
          let runs' : SameRun sc.rows p p' = rw was at runs in
          let l' : j < p'.done = rw runs'.done at l in
          let messages = message-same sc.rows (suc k) run p.values p'.values e (row_same sc g.table (suc k) run p.values p'.values runs'.sets e.row) in
          in_run k j f r n l' z (sym messages ∙ v) h
      go none (some p') x7 q r = elim x7 [ ]
      go (some p₀) none x6 q r = elim x6 [ ]

  -- Reached states with equal positions and values differ in nothing that counts.
  pub same-reached : {ms ms' : List Move} {d d' : State} → AllowedTrace sc ms d → AllowedTrace sc ms' d' → Each (SameRun sc.rows) d.progress d'.progress → Same sc.rows d d'
  same-reached {d = d} {d' = d'} t t' same =
      let knows = trace-knows t in
      let knows' = trace-knows t' in
      record {
        progress = same;
        derives =
            derivable-members d.known d'.known (λ x m. (knows' x).1 (sent-same same x ((knows x).0 m)))
            (λ x m. (knows x).1 (sent-same (each-turned runs-turned same) x ((knows' x).0 m)));
      }
