-- The state before any move, where the walk begins, and what is found from there. Assumes nothing.
use Rattle.std.specs.Prelude.{ℕ, zero, suc, ◌≡◌, refl, List, [], ◌∷◌, map, replicate}
use Rattle.std.proofs.Common.{arith, ap, ◌∙◌}
use Rattle.std.proofs.Math.Option.{some, some-injective, none-ne-some}
use Rattle.std.proofs.Math.ListN.{get_elem?}
use Rattle.semantics.specs.Answer.{accepted}
use Rattle.semantics.specs.Runs.{Run}
use Rattle.semantics.specs.Scenario.{Scenario, opened}
use Rattle.semantics.specs.State.{Progress, initial, events_left}
use Rattle.semantics.specs.Tree.{stays}
use Rattle.semantics.specs.Verdict.{trace_bytes, trace_list}
use Rattle.runs.specs.Opened.{Gives}
use Rattle.state.specs.State.{IsState}
use Rattle.state.specs.declared.State.{State}
use Rattle.search_memory.specs.laws.Words.{zeros-read}
use Rattle.answers.specs.Answers.{Walked}
use Rattle.search_runs.specs.Runs.{list_as}
use Rattle.search_breaks.specs.declared.Plan.{Plan}
use Rattle.search_breaks.specs.Walk.{state_of, next_in, FindsAll, SomeState, FindsFrom}

-- no run has made an event before any move
first_done : (rs : List Run) (k : ℕ) (p : Progress) → get_elem? (map (λ run. record { done = 0; values = [] }) rs) k ≡ some p → 0 ≡ p.done
first_done [] k p e = absurd (none-ne-some p e)
first_done (r ∷ rs) zero p e = ap (λ (q : Progress). q.done) (some-injective (record { done = 0; values = [] }) p e)
first_done (r ∷ rs) (suc k) p e = first_done rs k p e

module _ (plan : Plan) {sc : Scenario} {s : State} (is_opened : opened plan.opened.file.now ≡ accepted sc) (given : Gives plan.opened sc) (state : IsState sc (initial sc) s) {done : List ℕ} (none_done : done ≡ replicate 4 0) where
  pub state-first : SomeState plan (state_of (record { done = done }) s.names s.classes s.marks) 0
  unfolding trace_bytes initial
  state-first = record {
    sc = sc;
    d = initial sc;
    ms = [];
    here = rw none_done (record {
      reached = record { is_opened = is_opened; given = given; allowed = stays };
      state = record { placed = record { progress = state.placed.progress; positions = λ k p q. zeros-read 4 k ∙ first_done sc.runs k p q; named = state.placed.named; sized = state.placed.sized; valued = state.placed.valued }; arrays = state.arrays };
      low = λ k l. omega (arith, zeros-read 4 k);
      place = refl;
    });
  }

  -- what is found from it on is what is found in the whole list
  pub first_finds : {left depth : ℕ} → depth ≡ events_left sc (initial sc) → {b b' : List ℕ} {w : Walked} → FindsFrom plan (state_of (record { done = done }) s.names s.classes s.marks) (record { left = left; at = 0; depth = depth }) b b' w
      → FindsAll (list_as plan.list) sc left b b' w
  unfolding next_in trace_list state-first
  first_finds e told = rw (← e) (told state-first)
