-- One step of a trace: its bytes, and the state after it. Assumes nothing.
use Rattle.std.specs.Prelude.{ℕ, ◌+◌, ◌*◌, ◌-◌, ◌<◌, ◌≤◌, ◌≡◌, refl, Bool, true, false, List, [], ◌∷◌, length, get_or, take, drop, Option as Answered, Some, None}
use Rattle.std.proofs.Common.{arith, sym, ap, subst, ◌∙◌, true≢false, le-leb}
use Rattle.std.proofs.Math.Option.{Option, none, some, some-injective, none-ne-some}
use Rattle.std.proofs.lemmas.Bool.{lt-leb}
use Rattle.semantics.specs.Basic.{and_then}
use Rattle.semantics.specs.Scenario.{Scenario}
use Rattle.semantics.specs.State.{Value, State, Active, active}
use Rattle.semantics.specs.Moves.{Move, to_set, performed}
use Rattle.semantics.specs.Replay.{suits, after, values_in, first_step}
use Rattle.records.specs.Kinds.{byte_of}
use Rattle.runs.specs.declared.RunEvent.{RunEvent}
use Rattle.state.specs.declared.State.{State as CodeState}
use Rattle.rows.specs.Rows.{rows_of, Shape}
use Rattle.state.specs.State.{Due, IsState, NextMove, Sets, Ready}
use Rattle.state.specs.laws.Ready.{grown-ready, kept-ready}
use Rattle.replay_choices.specs.Choices.{Suited, is_suited, not_suited}
use Rattle.replay_choices.specs.laws.Values.{only_none}
use Rattle.replay_steps.specs.Steps.{step_after, StepDone, is_step, no_step, Worked, for_read, for_other}

-- a step that is cut short
first_short : (bytes : List ℕ) → length bytes < 2 → first_step bytes ≡ none
unfolding first_step
first_short [] l = refl
first_short (u ∷ []) l = refl
first_short (u ∷ c ∷ bytes) l = absurd (omega arith)

first-cut : (bytes : List ℕ) → 2 ≤ length bytes → length bytes < 2 + 2 * get_or bytes 1 0 → first_step bytes ≡ none
unfolding first_step
first-cut [] l h = absurd (omega arith)
first-cut (u ∷ []) l h = absurd (omega arith)
first-cut (u ∷ c ∷ bytes) l h = rw (lt-leb (2 * c) (length bytes) (omega arith)) refl

-- a whole one
first-whole : (bytes : List ℕ) → 2 ≤ length bytes → 2 + 2 * get_or bytes 1 0 ≤ length bytes
    → first_step bytes ≡ some (record { run = get_or bytes 0 0; values = values_in (take (2 * get_or bytes 1 0) (drop 2 bytes)) }, 2 + 2 * get_or bytes 1 0)
unfolding first_step
first-whole [] l h = absurd (omega arith)
first-whole (u ∷ []) l h = absurd (omega arith)
first-whole (u ∷ c ∷ bytes) l h = rw (le-leb (2 * c) (length bytes) (omega arith)) refl

-- the state after a move of a run without an event to come, and of every other
after_none : (sc : Scenario) (d : State) (m : Move) → active sc d m.run ≡ none → after sc d m ≡ none
unfolding after
after_none sc d m e = rw e refl

abbrev tested : Option State → Bool → Option State
tested o b = elim b [ true ↦ o | false ↦ none ]

by-active : (sc : Scenario) (d : State) (m : Move) (a : Active) → active sc d m.run ≡ some a → after sc d m ≡ tested (performed sc d a m.values) (suits sc.rows (length sc.runs) (to_set sc a) m.values)
unfolding after
by-active sc d m a e = ap (λ (o : Option Active). and_then o (λ (b : Active). tested (performed sc d b m.values) (suits sc.rows (length sc.runs) (to_set sc b) m.values))) e

after-unsuited : (sc : Scenario) (d : State) (m : Move) (a : Active) → active sc d m.run ≡ some a → suits sc.rows (length sc.runs) (to_set sc a) m.values ≡ false → after sc d m ≡ none
after-unsuited sc d m a e h = by-active sc d m a e ∙ by-test (suits sc.rows (length sc.runs) (to_set sc a) m.values) h
  where
    by-test : (b : Bool) → b ≡ false → tested (performed sc d a m.values) b ≡ none
    by-test true q = absurd (true≢false q)
    by-test false q = refl

after-suited : (sc : Scenario) (d : State) (m : Move) (a : Active) → active sc d m.run ≡ some a → suits sc.rows (length sc.runs) (to_set sc a) m.values ≡ true → after sc d m ≡ performed sc d a m.values
after-suited sc d m a e h = by-active sc d m a e ∙ by-test (suits sc.rows (length sc.runs) (to_set sc a) m.values) h
  where
    by-test : (b : Bool) → b ≡ true → tested (performed sc d a m.values) b ≡ performed sc d a m.values
    by-test true q = refl
    by-test false q = absurd (true≢false (sym q))

-- one answer is no other
pub clash : {A : Type 0} {x : A} {o : Answered A} {B : Type 0} → o ≡ Some x → o ≡ None → B
clash {A} {x} {o} e f = let z : ◌≡◌ {A = ℕ} 0 1 = cc in absurd (omega arith)

-- values that suit are set in the names
pub suited-sets : {sc : Scenario} {d : State} {a : Active} {vs : List Value} {chosen : Answered (List ℕ)} {names : List ℕ} → Suited sc d a vs chosen → chosen ≡ Some names
    → (suits sc.rows (length sc.runs) (to_set sc a) vs ≡ true) × Sets sc d a vs names
suited-sets {sc} {d} {a} {vs} {chosen} {names} (is_suited {names = names'} e f g) h = let same : names' ≡ names = cc in (f, subst (λ (l : List ℕ). Sets sc d a vs l) same g)
suited-sets (not_suited e f) h = clash h e

module _ (sc : Scenario) (d : State) (bytes : List ℕ) where
  abbrev pub Refuses : Type 0
  Refuses = StepDone sc d bytes None

  pub refuses-short : length bytes < 2 → Refuses
  refuses-short l = no_step refl (ap (step_after sc d) (first_short bytes l))

  module _ (two : 2 ≤ length bytes) {count end : ℕ} (counts : count ≡ get_or bytes 1 0) (ends : end ≡ 2 + 2 * count) where
    pub refuses-cut : length bytes < end → Refuses
    refuses-cut l = no_step refl (ap (step_after sc d) (first-cut bytes two (omega arith)))

    module _ (whole : end ≤ length bytes) {u : ℕ} (run : u ≡ get_or bytes 0 0) where
      abbrev move : Move
      move = record { run = get_or bytes 0 0; values = values_in (take (2 * get_or bytes 1 0) (drop 2 bytes)) }

      is_whole : first_step bytes ≡ some (move, 2 + 2 * get_or bytes 1 0)
      is_whole = first-whole bytes two (omega arith)

      not_after : after sc d move ≡ none → step_after sc d (first_step bytes) ≡ none
      not_after e = ap (step_after sc d) is_whole ∙ go (after sc d move) e
        where
          go : (o : Option State) → o ≡ none → ◌≡◌ {A = Option (State × ℕ)} (elim o [ none ↦ none | some d' ↦ some (d', 2 + 2 * get_or bytes 1 0) ]) none
          go none h = refl
          go (some d') h = absurd (none-ne-some d' (sym h))

      is-after : {d' : State} → after sc d move ≡ some d' → step_after sc d (first_step bytes) ≡ some (d', end)
      is-after {d'} e = ap (step_after sc d) is_whole ∙ go (after sc d move) e
        where
          go : (o : Option State) → o ≡ some d' → ◌≡◌ {A = Option (State × ℕ)} (elim o [ none ↦ none | some d'' ↦ some (d'', 2 + 2 * get_or bytes 1 0) ]) (some (d', end))
          go none h = absurd (none-ne-some d' h)
          go (some d'') h = λ i. some (some-injective d'' d' h i, size i)
            where
              size : 2 + 2 * get_or bytes 1 0 ≡ end
              size = omega arith

      pub refuses-inactive : active sc d u ≡ none → Refuses
      refuses-inactive e = no_step refl (not_after (after_none sc d move (ap (active sc d) (sym run) ∙ e)))

      module _ {a : Active} (is_active : active sc d u ≡ some a) (values : List ℕ) (part : values ≡ take (end - 2) (drop 2 bytes)) {chosen : Answered (List ℕ)} (suited : Suited sc d a (values_in values) chosen) where
        same-values : values_in values ≡ move.values
        same-values = let size : end - 2 ≡ 2 * get_or bytes 1 0 = omega arith in ap values_in (part ∙ ap (λ (m : ℕ). take m (drop 2 bytes)) size)

        active-here : active sc d move.run ≡ some a
        active-here = ap (active sc d) (sym run) ∙ is_active

        pub refuses-unsuited : chosen ≡ None → Refuses
        refuses-unsuited h = go suited
          where
            go : Suited sc d a (values_in values) chosen → Refuses
            go (is_suited e f g) = clash e h
            go (not_suited e f) = no_step refl (not_after (after-unsuited sc d move a active-here (ap (suits sc.rows (length sc.runs) (to_set sc a)) (sym same-values) ∙ f)))

        module _ {names : List ℕ} (h : chosen ≡ Some names) where
          is-performed : after sc d move ≡ performed sc d a (values_in values)
          is-performed = after-suited sc d move a active-here (ap (suits sc.rows (length sc.runs) (to_set sc a)) (sym same-values) ∙ (suited-sets suited h).0) ∙ ap (performed sc d a) (sym same-values)

          pub step-refused : performed sc d a (values_in values) ≡ none → Refuses
          step-refused e = no_step refl (not_after (is-performed ∙ e))

          pub step-performed : {d' : State} → performed sc d a (values_in values) ≡ some d' → {s' : CodeState} → IsState sc d' s' → StepDone sc d bytes (Some (record { length = end; state = s' }))
          step-performed e state = is_step refl (is-after (is-performed ∙ e)) state

-- values that suit an event that is no read are none
pub suited-none : {t : List ℕ} {runs k : ℕ} {e : RunEvent} {sc : Scenario} {d : State} {s : CodeState} {a : Active} → NextMove t runs k e sc d s a → (values : List ℕ)
    → suits sc.rows (length sc.runs) (to_set sc a) (values_in values) ≡ true → (byte_of e.kind ≡ 1 → ⊥) → values_in values ≡ []
suited-none next values h kind = only_none next kind values (values_in values) h

-- classes and marks that were worked on are ready for the event
pub worked-ready : {t : List ℕ} {n runs k : ℕ} {e : RunEvent} {sc : Scenario} {d : State} {s : CodeState} {a : Active} → NextMove t runs k e sc d s a → Shape t n runs → Due n runs k e.own e.peer e.row → (vs : List Value) (names : List ℕ)
    → Sets sc d a vs names → ((byte_of e.kind ≡ 1 → ⊥) → vs ≡ []) → {classes : List ℕ} {marks : List Bool} → Worked (rows_of t) runs (k + 1) (byte_of e.kind) names s.classes s.marks classes marks → Ready sc d a vs names classes marks
worked-ready next shape due vs names sets only (for_read kind refilled settled) = grown-ready next shape due vs names sets refilled settled
worked-ready next shape due vs names sets only (for_other kind e f) = let z = only kind in rw (z, e, f) (kept-ready next (rw z at sets))
