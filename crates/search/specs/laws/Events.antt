-- How many events the runs have together: as many moves as a trace can have. Assumes nothing.
use Rattle.std.specs.Prelude.{ℕ, zero, suc, ◌+◌, ◌≤◌, ◌<◌, ◌≡◌, refl, List, [], ◌∷◌, map, length, get_or, take}
use Rattle.std.proofs.Common.{arith, add-one, ap, ◌∙◌}
use Rattle.std.proofs.Math.Option.{some}
use Rattle.std.proofs.Math.ListN.{get_elem?}
use Rattle.semantics.specs.Basic.{total}
use Rattle.semantics.specs.Runs.{Run}
use Rattle.semantics.specs.Scenario.{Scenario}
use Rattle.semantics.specs.State.{initial, events_of, events_left_from, events_left}
use Rattle.runs.specs.Runs.{RunsAt, no_place}
use Rattle.runs.specs.declared.RunPlace.{RunPlace}
use Rattle.runs.specs.declared.Runs.{Runs}

-- the events of so many places
abbrev pub event_total : List RunPlace → ℕ
event_total places = total (map (λ p. p.events) places)

-- one run more
pub total-more : (places : List RunPlace) (k : ℕ) → k < length places → event_total (take (k + 1) places) ≡ event_total (take k places) + (get_or places k no_place).events
total-more [] k l = absurd (omega arith)
total-more (p ∷ places) zero l = omega arith
total-more (p ∷ places) (suc k) l =
    let e = rw (add-one k) at (total-more places k (omega arith)) in
    rw (add-one (suc k)) (omega (arith, e))

-- before any move all of them are left
pub total_left : (file : List ℕ) (sc : Scenario) (r : Runs) → RunsAt file sc r → length r.runs ≡ 4 → event_total (take r.count r.runs) ≡ events_left sc (initial sc)
unfolding events_left initial events_left_from
total_left file sc r runs size = ap (λ (m : ℕ). event_total (take m r.runs)) runs.count ∙ go sc.runs r.runs (omega (arith, runs.count, runs.few)) (λ k run e. (runs.each k run e).count)
  where
    go : (rs : List Run) (places : List RunPlace) → length rs ≤ length places
        → ((k : ℕ) (run : Run) → get_elem? rs k ≡ some run → (get_or places k no_place).events ≡ length (events_of sc run))
        → event_total (take (length rs) places) ≡ events_left_from sc rs (map (λ run. record { done = 0; values = [] }) rs)
    go [] places l each = refl
    go (run ∷ rs) [] l each = absurd (omega arith)
    go (run ∷ rs) (p ∷ places) l each =
        let rest = go rs places (omega arith) (λ k other q. each (suc k) other q) in
        let first : p.events ≡ length (events_of sc run) = each 0 run refl in
        omega arith
