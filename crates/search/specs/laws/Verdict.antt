-- The verdict by what the walk through a whole list finds, and Search by the verdict. Assumes nothing.
use Rattle.std.specs.Prelude.{ℕ, ◌+◌, ◌≤◌, ◌≡◌, Bool, true, false, List, ◌++◌, ltb, length, drop, Err, Ok}
use Rattle.std.proofs.Common.{arith, ◌∙◌, ltb-false}
use Rattle.std.proofs.Math.Path.{refl, sym, ap}
use Rattle.semantics.specs.Basic.{provided}
use Rattle.semantics.specs.Answer.{Answer, refused, accepted, checked, ◌>>◌}
use Rattle.semantics.specs.Frame.{budget_of}
use Rattle.semantics.specs.Scenario.{Scenario, scenario_of, opened}
use Rattle.semantics.specs.State.{initial, events_left}
use Rattle.semantics.specs.Moves.{Listing, moves_in}
use Rattle.semantics.specs.Verdict.{Finding, found, nothing, cut, walked, Verdict, verdict_from, verdict, trace_list, trace_bytes, short_buffer, written, searched_in, buffer_in}
use Rattle.semantics.proofs.laws.Open.{opened-inverts}
use Rattle.answers.specs.Answers.{scenario_in, checked_as, opened_as, verdict_as, searched_as, answered}
use Rattle.answers.specs.laws.Answers.{opened-refused, answer-found}
use Rattle.answers.specs.declared.Refusal.{Refusal}
use Rattle.search_breaks.specs.Walk.{judged, over, buffer_as, Finds}
use Rattle.search_breaks.specs.laws.Walk.{walk-cut}
use Rattle.answers.specs.Answers.{Walked}
use Rattle.answers.specs.declared.End.TheVariants.{Cut}
use Rattle.answers.specs.declared.Verdict.{Verdict as CodeVerdict}

-- a trace at the buffer's front
over-front : (before bytes : List ℕ) → over before 0 bytes ≡ bytes ++ drop (length bytes) before
over-front before bytes = let z : 0 + length bytes ≡ length bytes = omega arith in ap (λ (m : ℕ). bytes ++ drop m before) z

module _ (which : Listing) (sc : Scenario) (before : List ℕ) where
  buffer-found : (size budget : ℕ) (f : Finding) → buffer_as before 0 f ≡ written before (accepted (verdict_from size budget f))
  buffer-found size budget (found p e c) = over-front before (trace_bytes e.0)
  buffer-found size budget nothing = refl
  buffer-found size budget cut = refl

  -- the verdict, by a walk through the whole list with the file's budget and what is answered to it
  pub verdict-walked : {after : List ℕ} {w : Walked} {left : ℕ} → left ≡ sc.budget → Finds sc left (trace_list which sc) before 0 after w → {r : CodeVerdict} → r ≡ answered left w
      → (r ≡ verdict_as (verdict which sc)) × (after ≡ written before (accepted (verdict which sc)))
  unfolding verdict
  verdict-walked {left = left} e finds answer =
      let es = trace_list which sc in
      let whole : verdict_from (length es) left (walked (judged sc) left es) ≡ verdict which sc = (λ i. verdict_from (length es) (e i) (walked (judged sc) (e i) es)) in (
        answer ∙ answer-found es left (walked (judged sc) left es) finds.answer ∙ ap verdict_as whole,
        finds.buffer ∙ buffer-found (length es) left (walked (judged sc) left es) ∙ ap (λ (v : Verdict). written before (accepted v)) whole,
      )

module _ (file : List ℕ) (sc : Scenario) (is_opened : opened file ≡ accepted sc) where
  -- the scenario's budget is the file's
  pub opened-budget : {budget : ℕ} → budget ≡ budget_of file → budget ≡ sc.budget
  unfolding scenario_of
  opened-budget e = e ∙ sym (ap (λ (x : Scenario). x.budget) (opened-inverts file sc is_opened).scenario)

-- the walk with no budget
pub first-cut : (which : Listing) (sc : Scenario) {left : ℕ} → left ≡ 0 → (before : List ℕ) → Finds sc left (trace_list which sc) before 0 before (Err Cut)
unfolding trace_list
first-cut which sc {left} z before = walk-cut (moves_in which sc) sc left (initial sc) before 0 (events_left sc (initial sc)) z

module _ (which : Listing) (file buffer : List ℕ) where
  -- a refused file
  pub searched-refused : {x : Refusal} → Err x ≡ opened_as file (opened file) → (Err x ≡ searched_as (searched_in which file buffer)) × (buffer ≡ buffer_in which file buffer)
  unfolding searched_in buffer_in
  searched-refused e =
      let w = opened-refused file (opened file) e in
      rw w.1 (ap Err w.2, refl)

  module _ (is_opened : opened file ≡ accepted (scenario_in file)) where
    by-buffer : searched_in which file buffer ≡ ◌>>◌ (checked 10 (short_buffer buffer)) (accepted (verdict which (scenario_in file)))
    unfolding searched_in
    by-buffer = rw is_opened refl

    -- a buffer that is too short
    pub searched-short : {x : Refusal} → Err x ≡ checked_as (checked 10 (short_buffer buffer)) → (Err x ≡ searched_as (searched_in which file buffer)) × (buffer ≡ buffer_in which file buffer)
    unfolding buffer_in
    searched-short {x} e = let w = go (checked 10 (short_buffer buffer)) e in (w.0 ∙ ap searched_as (sym by-buffer), w.1 ∙ ap (written buffer) (sym by-buffer))
      where
        rest : Answer Verdict
        rest = accepted (verdict which (scenario_in file))

        go : (a : Answer (Unit {0})) → Err x ≡ checked_as a → (Err x ≡ searched_as (◌>>◌ a rest)) × (buffer ≡ written buffer (◌>>◌ a rest))
        go (refused r) q = (cc, refl)
        go (accepted u) q = let z : ◌≡◌ {A = ℕ} 0 1 = cc in absurd (omega arith)

    -- one that is not
    module _ (passed : Ok tt ≡ checked_as (checked 10 (short_buffer buffer))) where
      pub searched-judged : searched_in which file buffer ≡ accepted (verdict which (scenario_in file))
      searched-judged = by-buffer ∙ go (checked 10 (short_buffer buffer)) passed
        where
          go : (a : Answer (Unit {0})) → Ok tt ≡ checked_as a → ◌≡◌ {A = Answer Verdict} (◌>>◌ a (accepted (verdict which (scenario_in file)))) (accepted (verdict which (scenario_in file)))
          go (refused r) q = let z : ◌≡◌ {A = ℕ} 0 1 = cc in absurd (omega arith)
          go (accepted u) q = refl

      pub buffer-judged : buffer_in which file buffer ≡ written buffer (accepted (verdict which (scenario_in file)))
      unfolding buffer_in
      buffer-judged = ap (written buffer) searched-judged

-- a buffer that is not too short
pub buffer-passed : (buffer : List ℕ) → Ok tt ≡ checked_as (checked 10 (short_buffer buffer)) → 128 ≤ length buffer
unfolding short_buffer
buffer-passed buffer e = go (ltb (length buffer) 128) refl e
  where
    go : (b : Bool) → ltb (length buffer) 128 ≡ b → Ok tt ≡ checked_as (checked 10 (provided b (length buffer))) → 128 ≤ length buffer
    go true h q = let z : ◌≡◌ {A = ℕ} 0 1 = cc in absurd (omega arith)
    go false h q = ltb-false (length buffer) 128 h
