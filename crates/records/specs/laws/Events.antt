-- The events of a role record, four bytes each, and whether they fit. Assumes nothing.
use Rattle.std.specs.Prelude.{ℕ, zero, suc, ◌+◌, ◌-◌, ◌*◌, ◌≤◌, ◌<◌, ◌≡◌, refl, Bool, true, false, ◌&&◌, List, [], ◌∷◌, length, get_or, take, drop}
use Rattle.std.proofs.Common.{add-one, sym, ap, ◌∙◌, drop-cons}
use Rattle.std.proofs.Math.Numerals.{add-two, add-three, add-four}
use native.Mathlib.Omega.{arith}
use Rattle.std.proofs.Math.Bool.{and-false}
use Rattle.std.proofs.Math.Decide.{ℕ_discrete}
use Rattle.std.proofs.Math.Option.{Option}
use Rattle.semantics.specs.Basic.{every}
use Rattle.semantics.specs.Table.{Row}
use Rattle.semantics.specs.Roles.{Event, events_from, knowledge_count, event_count, events_in, event_fits}
use Rattle.records.specs.Records.{part_at, event_at}

-- the second count stands before the first event
pub count-read : (s : List ℕ) (knowledge events : ℕ) → knowledge ≡ get_or s 0 0 → events ≡ get_or s (2 + knowledge - 1) 0 → events ≡ event_count s
count-read s knowledge events e f = let z : 2 + knowledge - 1 ≡ 1 + knowledge_count s = omega arith in rw f (rw z)

-- four elements from a place on
drop-four : (s : List ℕ) (f : ℕ) → f + 4 ≤ length s → drop f s ≡ get_or s f 0 ∷ get_or s (f + 1) 0 ∷ get_or s (f + 2) 0 ∷ get_or s (f + 3) 0 ∷ drop (f + 4) s
drop-four s f h =
    rw (add-one f, add-two f, add-three f, add-four f) (
    drop-cons s f 0 (omega arith)
    ∙ ap (λ (x : List ℕ). get_or s f 0 ∷ x)
    (drop-cons s (suc f) 0 (omega arith)
    ∙ ap (λ (x : List ℕ). get_or s (suc f) 0 ∷ x)
    (drop-cons s (suc (suc f)) 0 (omega arith)
    ∙ ap (λ (x : List ℕ). get_or s (suc (suc f)) 0 ∷ x) (drop-cons s (suc (suc (suc f))) 0 (omega arith))))
    )

-- four bytes are an event
events-cons : (place : ℕ) (s : List ℕ) (f m : ℕ) → f + 4 ≤ length s
    → events_from place (take (4 * suc m) (drop f s)) ≡ event_at s f place ∷ events_from (place + 4) (take (4 * m) (drop (f + 4) s))
unfolding events_from
events-cons place s f m h =
    let e : 4 * suc m ≡ suc (suc (suc (suc (4 * m)))) = omega arith in
    rw (e, drop-four s f h)

module _ (start : ℕ) (s : List ℕ) (first count : ℕ) where
  -- the events from one with a number on
  abbrev pub events_left : ℕ → List (Option Event)
  events_left j = events_from (start + (first + 4 * j)) (take (4 * (count - j)) (drop (first + 4 * j) s))

  -- from the first on they are those of the record
  pub left-events-all : first ≡ 2 + knowledge_count s → count ≡ event_count s → events_in (part_at start s) ≡ events_left 0
  unfolding events_in
  left-events-all e f =
      let z : first + 0 ≡ 2 + knowledge_count s = omega arith in
      let c : count - 0 ≡ event_count s = omega arith in
      rw (z, c)

  -- there is the event with the number, and those behind it
  pub left-events-cons : (j : ℕ) → j < count → first + 4 * count ≤ length s → events_left j ≡ event_at s (first + 4 * j) (start + (first + 4 * j)) ∷ events_left (j + 1)
  left-events-cons j l h =
      let d : count - j ≡ suc (count - (j + 1)) = omega arith in
      let q : first + 4 * (j + 1) ≡ first + 4 * j + 4 = omega arith in
      let p : start + (first + 4 * j + 4) ≡ start + (first + 4 * j) + 4 = omega arith in
      rw (d, q, p) (events-cons (start + (first + 4 * j)) s (first + 4 * j) (count - (j + 1)) (omega arith))

  -- behind the last there is none
  pub left-events-none : (j : ℕ) → count ≤ j → events_left j ≡ []
  unfolding events_from
  left-events-none j h = let d : 4 * (count - j) ≡ 0 = omega arith in rw d

-- whether an event fits, in a table with so many rows
abbrev pub EventFits : List ℕ → ℕ → ℕ → ℕ → Bool → Type 0
EventFits s n roles at b = (rows : List Row) (place : ℕ) → n ≡ length rows → b ≡ event_fits rows roles (event_at s at place)

-- whether all events of a role record fit
abbrev pub EventsFit : List ℕ → ℕ → ℕ → Bool → Type 0
EventsFit s n roles b = (rows : List Row) (start : ℕ) → n ≡ length rows → b ≡ every (event_fits rows roles) (events_in (part_at start s))

module _ (s : List ℕ) (n roles first count : ℕ) (within : first + 4 * count ≤ length s) where
  module _ (rows : List Row) (start : ℕ) where
    -- whether an event fits, and whether all from one on do
    abbrev here : ℕ → Bool
    here j = event_fits rows roles (event_at s (first + 4 * j) (start + (first + 4 * j)))

    abbrev left : ℕ → Bool
    left j = every (event_fits rows roles) (events_left start s first count j)

    step : (j : ℕ) → j < count → left j ≡ (here j && left (j + 1))
    step j l = ap (every (event_fits rows roles)) (left-events-cons start s first count j l within)

    -- all fit if each does
    left-each : (m j : ℕ) → j + m ≡ count → ((i : ℕ) → i < count → here i ≡ true) → left j ≡ true
    left-each zero j e fits = ap (every (event_fits rows roles)) (left-events-none start s first count j (omega arith))
    left-each (suc m) j e fits = step j (omega arith) ∙ rw (fits j (omega arith)) (left-each m (j + 1) (omega arith) fits)

    -- and not if one does not
    left_one : (m j : ℕ) → j + m ≡ count → (i : ℕ) → j ≤ i → i < count → here i ≡ false → left j ≡ false
    left_one zero j e i l h unfit = absurd (omega arith)
    left_one (suc m) j e i l h unfit = step j (omega arith) ∙ later (ℕ_discrete i j) (λ n. left_one m (j + 1) (omega arith) i (omega arith) h unfit)
      where
        later : Dec (i ≡ j) → (¬ (i ≡ j) → left (j + 1) ≡ false) → (here j && left (j + 1)) ≡ false
        later (yes f) rest = rw (← f) (rw unfit)
        later (no f) rest = rw (rest f) (and-false (here j))

  -- all events of the record fit exactly if each does
  pub fits-if : first ≡ 2 + knowledge_count s → count ≡ event_count s → {r : Bool}
      → (r ≡ true → (j : ℕ) → j < count → EventFits s n roles (first + 4 * j) true) → (r ≡ false → (j : ℕ) × (j < count) × EventFits s n roles (first + 4 * j) false)
      → EventsFit s n roles r
  fits-if e f {r = true} each unfit rows start k =
      sym (ap (every (event_fits rows roles)) (left-events-all start s first count e f)
      ∙ left-each rows start count 0 (omega arith) (λ i l. sym (each refl i l rows (start + (first + 4 * i)) k)))
  fits-if e f {r = false} each unfit rows start k =
      let w = unfit refl in
      sym (ap (every (event_fits rows roles)) (left-events-all start s first count e f)
      ∙ left_one rows start count 0 (omega arith) w.0 (omega arith) w.1 (sym (w.2 rows (start + (first + 4 * w.0)) k)))
