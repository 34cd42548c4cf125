-- The events of a role record that is not refused: each of its fours of bytes is one. Assumes nothing.
use Rattle.std.specs.Prelude.{ℕ, zero, suc, ◌+◌, ◌*◌, ◌<◌, ◌≤◌, ◌≡◌, refl, List, [], ◌∷◌, T, length}
use Rattle.std.proofs.Common.{arith, add-zero, ap, ◌∙◌}
use Rattle.std.proofs.Math.Option.{Option, none, some}
use Rattle.std.proofs.Math.ListN.{get_elem?}
use Rattle.semantics.specs.Basic.{every, present_ones}
use Rattle.semantics.specs.Table.{Row}
use Rattle.semantics.specs.Roles.{Event, knowledge_count, event_count, events_in, event_fits}
use Rattle.semantics.proofs.laws.Test.{both_right}
use Rattle.records.specs.Records.{part_at, event_at}
use Rattle.records.specs.laws.Events.{events_left, left-events-all, left-events-cons, left-events-none}

module _ (rows : List Row) (roles : ℕ) where
  -- where every event fits, all are there
  present-all : (os : List (Option Event)) → T (every (event_fits rows roles) os) → length (present_ones os) ≡ length os
  present-all [] t = refl
  present-all (none ∷ os) t = absurd t
  present-all (some e ∷ os) t = ap suc (present-all os (both_right (event_fits rows roles (some e)) (every (event_fits rows roles) os) t))

  present-each : (os : List (Option Event)) → T (every (event_fits rows roles) os) → (j : ℕ) {o : Option Event} → get_elem? os j ≡ some o → get_elem? (present_ones os) j ≡ o
  present-each [] t j e = cc
  present-each (none ∷ os) t j e = absurd t
  present-each (some e ∷ os) t zero h = cc
  present-each (some e ∷ os) t (suc j) h = present-each os (both_right (event_fits rows roles (some e)) (every (event_fits rows roles) os) t) j h

module _ (start : ℕ) (s : List ℕ) (first count : ℕ) (whole : first + 4 * count ≤ length s) where
  -- the events from one on, counted and by number
  left-count : (m j : ℕ) → j + m ≡ count → length (events_left start s first count j) ≡ m
  left-count zero j e = rw (left-events-none start s first count j (omega arith))
  left-count (suc m) j e = rw (left-events-cons start s first count j (omega arith) whole) (ap suc (left-count m (j + 1) (omega arith)))

  left-each : (i j : ℕ) → j + i < count → get_elem? (events_left start s first count j) i ≡ some (event_at s (first + 4 * (j + i)) (start + (first + 4 * (j + i))))
  left-each zero j l = rw (left-events-cons start s first count j (omega arith) whole, add-zero j)
  left-each (suc i) j l =
      let z : j + 1 + i ≡ j + suc i = omega arith in
      rw (left-events-cons start s first count j (omega arith) whole) (rw z at (left-each i (j + 1) (omega arith)))

  module _ (is_first : first ≡ 2 + knowledge_count s) (is_count : count ≡ event_count s) where
    -- those of the record
    pub events-count : length (events_in (part_at start s)) ≡ count
    events-count = rw (left-events-all start s first count is_first is_count) (left-count count 0 (omega arith))

    module _ (rows : List Row) (roles : ℕ) (fit : T (every (event_fits rows roles) (events_in (part_at start s)))) where
      -- as many as it says, and each is the event of its bytes
      pub record-count : length (present_ones (events_in (part_at start s))) ≡ count
      record-count = present-all rows roles (events_in (part_at start s)) fit ∙ events-count

      pub record-each : (j : ℕ) → j < count → get_elem? (present_ones (events_in (part_at start s))) j ≡ event_at s (first + 4 * j) (start + (first + 4 * j))
      record-each j l = present-each rows roles (events_in (part_at start s)) fit j (ap (λ (os : List (Option Event)). get_elem? os j) (left-events-all start s first count is_first is_count) ∙ each)
        where
          each : get_elem? (events_left start s first count 0) j ≡ some (event_at s (first + 4 * j) (start + (first + 4 * j)))
          each = let z : 0 + j ≡ j = omega arith in rw z at (left-each j 0 (omega arith))
