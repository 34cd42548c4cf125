-- A move to a state that the memory may know: what is answered if it does, and that the memory stays right once the state is stored. Assumes nothing.
use Rattle.std.specs.Prelude.{ℕ, ◌+◌, ◌<◌, ◌≡◌, refl, Bool, true, false, List, [], ◌∷◌, ◌++◌, ltb, length, get_or, set, Ok}
use Rattle.std.proofs.Common.{◌∙◌, ltb-true, ltb-false}
use Rattle.search_memory.specs.Memory.{IsKey, LookedUp, Kept}
use Rattle.answers.specs.Answers.{Walked}
use Rattle.search_findings.specs.Findings.{known_as}
use Rattle.search_findings.specs.laws.Findings.{known-beyond, known-within}
use Rattle.search_breaks.specs.declared.Course.{Course}
use Rattle.search_breaks.specs.declared.Plan.{Plan}
use Rattle.search_breaks.specs.declared.Reach.{Reach}
use Rattle.search_breaks.specs.declared.Turn.{Turn}
use Rattle.search_breaks.specs.Walk.{Finds, ReachedBy, entries_from, step_size, SomeStep, FindsAfter}
use Rattle.search_breaks.specs.laws.Move.{taken, move-allowed, move-clean, move-cut}
use Rattle.state.specs.State.{Placed}
use Rattle.search_same.specs.Clean.{Clean}
use Rattle.search_same.specs.Memory.{Remembers}
use Rattle.search_same.specs.laws.Clean.{clean_found, clean-some, clean-finds, clean-cuts}
use Rattle.search_same.specs.laws.Placed.{placed-next}
use Rattle.search_same.specs.laws.Memory.{remembered, remembers-stored}

module _ {plan : Plan} {course : Course} {names classes : List ℕ} {marks : List Bool} {turn : Turn} (reach : Reach) (m : SomeStep plan course names classes marks reach.at turn)
    (size : length course.done ≡ 4) {next : List ℕ} (moved : next ≡ set course.done turn.run (get_or course.done turn.run 0 + 1))
    {memory : List ℕ} (remembers : Remembers plan memory) {key : List ℕ} (is-key : IsKey plan.variables next names reach.depth key) where
  reached : ReachedBy plan m.of.sc m.d' (m.of.ms ++ (taken m.of ∷ []))
  reached = let r = m.of.move.clear.here.reached in record { is_opened = r.is_opened; given = r.given; allowed = move-allowed reach m }

  placed : Placed m.of.sc m.d' next names
  placed = placed-next m size moved

  -- what is remembered of the state, held against the budget
  pub known-finds : {known : ℕ} → LookedUp memory key known → 0 < known → {w : Walked} → w ≡ known_as reach.left known → (b : List ℕ) → FindsAfter m.of reach b b w
  known-finds {known} found some_known {w} e b = go (ltb reach.left known) refl
    where
      clean : Clean m.of.sc (entries_from plan reach.depth m.of.sc m.d') known
      clean = remembered remembers reached placed is-key found some_known

      go : (c : Bool) → ltb reach.left known ≡ c → FindsAfter m.of reach b b w
      go true q = let l = ltb-true reach.left known q in rw (e ∙ known-beyond reach.left known l) (move-cut reach m b b (clean-cuts clean l b (reach.at + step_size turn)))
      go false q = let l = ltb-false reach.left known q in rw (e ∙ known-within reach.left known l) (move-clean reach m b b (clean-finds clean l b (reach.at + step_size turn)))

  -- the memory stays right once what was found without a break is kept
  pub kept-right : {n : ℕ} {b b' : List ℕ} → Finds m.of.sc reach.left (entries_from plan reach.depth m.of.sc m.d') b (reach.at + step_size turn) b' (Ok n) → {after : List ℕ} → Kept memory after key n → Remembers plan after
  kept-right finds kept = let clean = clean_found finds in remembers-stored remembers reached placed is-key (kept.stored (clean-some plan reach.depth m.d' clean)) clean
