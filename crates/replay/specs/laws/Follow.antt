-- A trace followed step by step: what is left of it, its end, and a step that is refused. Assumes nothing.
use Rattle.std.specs.Prelude.{ℕ, zero, suc, ◌+◌, ◌*◌, ◌-◌, ◌<◌, ◌≤◌, ◌≡◌, Bool, true, false, List, [], ◌∷◌, leb, length, take, drop, Option as Answered, Some, None, Err, Ok}
use Rattle.std.proofs.Common.{arith, sym, subst, ◌∙◌, take_all, drop-drop, leb-true}
use Rattle.std.proofs.Math.Path.{refl, ap}
use Rattle.std.proofs.Math.Option.{Option, none, some, some-injective, none-ne-some}
use Rattle.std.proofs.Math.ListN.{length-drop}
use Rattle.semantics.specs.Basic.{provided}
use Rattle.semantics.specs.Answer.{Answer, accepted, refuse, ◌>>=◌}
use Rattle.semantics.specs.Scenario.{Scenario, opened}
use Rattle.semantics.specs.State.{State, initial}
use Rattle.semantics.specs.Moves.{Move}
use Rattle.semantics.specs.Replay.{after, values_in, first_step, replayed_from, replayed}
use Rattle.semantics.specs.Verdict.{broken}
use Rattle.answers.specs.Answers.{Claimed, claimed_as}
use Rattle.answers.specs.Answers.{opened_as, replayed_as}
use Rattle.answers.specs.laws.Answers.{opened-refused}
use Rattle.answers.specs.declared.Refusal.{Refusal}
use Rattle.state.specs.State.{IsState}
use Rattle.state.specs.declared.State.{State as CodeState}
use Rattle.replay_steps.specs.declared.Stepped.{Stepped}
use Rattle.replay_steps.specs.Steps.{step_after, StepDone, is_step, no_step}
use Rattle.replay_steps.specs.laws.Steps.{clash}
use Rattle.replay.specs.Replay.{followed_of}

-- nothing is left
at-end : (fuel : ℕ) (sc : Scenario) (at : ℕ) (d : State) (bytes : List ℕ) → length bytes ≡ 0 → replayed_from fuel sc at d bytes ≡ accepted d
unfolding replayed_from
at-end zero sc at d [] e = refl
at-end (suc fuel) sc at d [] e = refl
at-end fuel sc at d (b ∷ bytes) e = absurd (omega arith)

-- what following some bytes comes to, by what their first step does
abbrev onward : ℕ → Scenario → ℕ → List ℕ → Option (State × ℕ) → Answer State
onward fuel sc at bytes none = refuse 12 at
onward fuel sc at bytes (some step) = replayed_from fuel sc (at + step.1) step.0 (drop step.1 bytes)

by-step : (fuel : ℕ) (sc : Scenario) (at : ℕ) (d : State) (bytes : List ℕ) → 1 ≤ length bytes → replayed_from (suc fuel) sc at d bytes ≡ onward fuel sc at bytes (step_after sc d (first_step bytes))
unfolding replayed_from
by-step fuel sc at d [] l = absurd (omega arith)
by-step fuel sc at d (b ∷ bytes) l = go (first_step (b ∷ bytes))
  where
    inner : (size : ℕ) (o : Option State)
        → ◌≡◌ {A = Answer State} (elim o [ none ↦ refuse 12 at | some d' ↦ replayed_from fuel sc (at + size) d' (drop size (b ∷ bytes)) ]) (onward fuel sc at (b ∷ bytes) (elim o [ none ↦ none | some d' ↦ some (d', size) ]))
    inner size none = refl
    inner size (some d') = refl

    go : (o : Option (Move × ℕ))
        → ◌≡◌ {A = Answer State}
        (elim o [
          | none ↦ refuse 12 at
          | some step ↦ elim (after sc d step.0) [ none ↦ refuse 12 at | some d' ↦ replayed_from fuel sc (at + step.1) d' (drop step.1 (b ∷ bytes)) ]
        ])
        (onward fuel sc at (b ∷ bytes) (step_after sc d o))
    go none = refl
    go (some step) = inner step.1 (after sc d step.0)

-- a step has two bytes at least, and no more than there are
step-size : (bytes : List ℕ) (step : Move × ℕ) → first_step bytes ≡ some step → (2 ≤ step.1) × (step.1 ≤ length bytes)
unfolding first_step
step-size [] step e = absurd (none-ne-some step e)
step-size (u ∷ []) step e = absurd (none-ne-some step e)
step-size (u ∷ count ∷ bytes) step e = go (leb (2 * count) (length bytes)) refl e
  where
    move : Move
    move = record { run = u; values = values_in (take (2 * count) bytes) }

    go : (b : Bool) → leb (2 * count) (length bytes) ≡ b → provided b (move, 2 + 2 * count) ≡ some step → (2 ≤ step.1) × (step.1 ≤ suc (suc (length bytes)))
    go true h q = let s : 2 + 2 * count ≡ step.1 = ap (λ (x : Move × ℕ). x.1) (some-injective (move, 2 + 2 * count) step q) in (omega arith, omega (arith, leb-true (2 * count) (length bytes) h))
    go false h q = absurd (none-ne-some step q)

taken-size : (sc : Scenario) (d d' : State) (bytes : List ℕ) (size : ℕ) → step_after sc d (first_step bytes) ≡ some (d', size) → (2 ≤ size) × (size ≤ length bytes)
taken-size sc d d' bytes size e = go (first_step bytes) refl e
  where
    inner : (m : ℕ) (o : Option State) → ◌≡◌ {A = Option (State × ℕ)} (elim o [ none ↦ none | some d'' ↦ some (d'', m) ]) (some (d', size)) → m ≡ size
    inner m none q = absurd (none-ne-some (d', size) q)
    inner m (some d'') q = ap (λ (x : State × ℕ). x.1) (some-injective (d'', m) (d', size) q)

    go : (o : Option (Move × ℕ)) → first_step bytes ≡ o → step_after sc d o ≡ some (d', size) → (2 ≤ size) × (size ≤ length bytes)
    go none h q = absurd (none-ne-some (d', size) q)
    go (some step) h q =
        let w = step-size bytes step h in
        let s = inner step.1 (after sc d step.0) q in
        (omega arith, omega arith)

-- a trace followed up to a place, at which the code has a state: what is left of it decides
pub record FollowedSteps (sc : Scenario) (trace : List ℕ) (at : ℕ) (s : CodeState) : Type 0 where
  pub d : State
  pub fuel : ℕ
  pub is_state : IsState sc d s
  pub enough : length trace ≤ at + fuel
  pub left : replayed_from (length trace) sc 0 (initial sc) trace ≡ replayed_from fuel sc at d (drop at trace)

-- at its start
pub follow-start : (sc : Scenario) (trace : List ℕ) {s : CodeState} → IsState sc (initial sc) s → FollowedSteps sc trace 0 s
follow-start sc trace state = record { d = initial sc; fuel = length trace; is_state = state; enough = omega arith; left = refl }

module _ {sc : Scenario} {trace : List ℕ} {at : ℕ} {s : CodeState} (f : FollowedSteps sc trace at s) where
  -- at its end
  pub follow-end : length trace ≤ at → followed_of sc trace ≡ accepted (broken sc f.d)
  unfolding followed_of
  follow-end l = ap (λ (o : Answer State). ◌>>=◌ o (λ d. accepted (broken sc d))) (f.left ∙ at-end f.fuel sc at f.d (drop at trace) (omega (arith, length-drop at trace)))

  module _ (more : at < length trace) {part : List ℕ} (is_part : part ≡ take (length trace - at) (drop at trace)) {o : Answered Stepped} (done : StepDone sc f.d part o) where
    rest : part ≡ drop at trace
    rest = is_part ∙ take_all (length trace - at) (drop at trace) (omega (arith, length-drop at trace))

    fuel-left : f.fuel ≡ suc (f.fuel - 1)
    fuel-left = omega (arith, f.enough)

    onward-from : replayed_from (length trace) sc 0 (initial sc) trace ≡ onward (f.fuel - 1) sc at (drop at trace) (step_after sc f.d (first_step part))
    onward-from = f.left ∙ ap (λ (m : ℕ). replayed_from m sc at f.d (drop at trace)) fuel-left ∙ by-step (f.fuel - 1) sc at f.d (drop at trace) (omega (arith, length-drop at trace))
        ∙ ap (λ (bytes : List ℕ). onward (f.fuel - 1) sc at (drop at trace) (step_after sc f.d (first_step bytes))) (sym rest)

    -- at a step that is not allowed
    pub follow-refused : o ≡ None → followed_of sc trace ≡ refuse 12 at
    unfolding followed_of
    follow-refused h = go done
      where
        go : StepDone sc f.d part o → followed_of sc trace ≡ refuse 12 at
        go (is_step e g st) = clash e h
        go (no_step e g) = ap (λ (o : Answer State). ◌>>=◌ o (λ d. accepted (broken sc d))) (onward-from ∙ ap (onward (f.fuel - 1) sc at (drop at trace)) g)

    -- past one that is
    module _ {p : Stepped} (h : o ≡ Some p) where
      pub follow-size : (2 ≤ p.length) × (at + p.length ≤ length trace)
      follow-size = go done
        where
          go : StepDone sc f.d part o → (2 ≤ p.length) × (at + p.length ≤ length trace)
          go (no_step e g) = clash h e
          go (is_step {done = q} {d' = d'} e g st) =
              let same : q ≡ p = cc in
              let w = taken-size sc f.d d' part q.length g in
              subst (λ (x : Stepped). (2 ≤ x.length) × (at + x.length ≤ length trace)) same (w.0, omega (arith, w.1, ap length rest, length-drop at trace))

      pub follow-on : FollowedSteps sc trace (at + p.length) p.state
      follow-on = go done
        where
          go : StepDone sc f.d part o → FollowedSteps sc trace (at + p.length) p.state
          go (no_step e g) = clash h e
          go (is_step {done = q} {d' = d'} e g st) =
              let same : q ≡ p = cc in
              let w = taken-size sc f.d d' part q.length g in
              subst (λ (x : Stepped). FollowedSteps sc trace (at + x.length) x.state) same (record {
                d = d';
                fuel = f.fuel - 1;
                is_state = st;
                enough = omega (arith, w.0, f.enough);
                left = onward-from ∙ ap (onward (f.fuel - 1) sc at (drop at trace)) g ∙ ap (replayed_from (f.fuel - 1) sc (at + q.length) d') (drop-drop q.length at trace);
              })

-- an accepted file: the trace is followed
module _ (file trace : List ℕ) where
  pub replayed-accepted : (sc : Scenario) → opened file ≡ accepted sc → replayed file trace ≡ followed_of sc trace
  unfolding replayed followed_of
  replayed-accepted sc e = rw e refl

  -- a refused one
  pub replayed-refused : {x : Refusal} → Err x ≡ opened_as file (opened file) → Err x ≡ replayed_as (replayed file trace)
  unfolding replayed
  replayed-refused e =
      let w = opened-refused file (opened file) e in
      rw w.1 (ap Err w.2)

-- the answer by the claim broken
pub claim-answered : (sc : Scenario) (trace : List ℕ) (d : State) {o : Claimed} → o ≡ claimed_as (broken sc d) → followed_of sc trace ≡ accepted (broken sc d) → Ok o ≡ replayed_as (followed_of sc trace)
claim-answered sc trace d e f = ap Ok e ∙ ap replayed_as (sym f)
