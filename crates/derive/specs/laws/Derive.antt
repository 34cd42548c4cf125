-- Refusal 11, from what a search of the list tells: a listed row that is absent, or else the target. Assumes nothing.
use Rattle.std.specs.Prelude.{ℕ, zero, suc, ◌+◌, ◌<◌, ◌≤◌, ◌≡◌, length, get_or, drop, None, Some, MatchOption}
use Rattle.std.proofs.Common.{add-one, arith, ◌∙◌}
use Rattle.std.proofs.Math.Path.{refl}
use mathlib.Core.List.{List}
use borrow.Author.Tests.{lt-ltb, le-ltb}
use Rattle.std.proofs.Math.Decide.{dec_lt}
use Rattle.std.proofs.Math.ListN.{drop_of_length-le}
use Rattle.std.proofs.Math.Seq.{drop-cons}
use Rattle.semantics.specs.Table.{Row}
use Rattle.semantics.specs.Derive.{absent_from}
use Rattle.rows.specs.Rows.{Place, place_as}
use Rattle.derive.specs.Absent.{AbsentAt}

module _ (list : List ℕ) (n target : ℕ) where
  -- what is left of the list decides
  abbrev LeftAt : ℕ → Type 0
  LeftAt i = (rows : List Row) → n ≡ length rows → absent_from rows 0 list target ≡ absent_from rows i (drop i list) target

  module _ (i : ℕ) (left : LeftAt i) where
    -- a listed row that is absent
    absent-here : i < length list → n ≤ get_or list i 0 → (rows : List Row) → n ≡ length rows → Some i ≡ place_as (absent_from rows 0 list target)
    unfolding absent_from
    absent-here l h rows e = rw (left rows e, drop-cons list i 0 l, le-ltb (get_or list i 0) (length rows) (omega arith), absent_from) refl

    -- one that is present
    absent-on : i < length list → get_or list i 0 < n → LeftAt (i + 1)
    unfolding absent_from
    absent-on l h rows e = left rows e ∙ rw (add-one i, drop-cons list i 0 l, lt-ltb (get_or list i 0) (length rows) (omega arith), absent_from) refl

  -- the rows of a front are all there
  left-below : (i : ℕ) → i ≤ length list → ((k : ℕ) → k < i → get_or list k 0 < n) → LeftAt i
  left-below zero l there = λ rows e. refl
  left-below (suc i) l there = rw (← add-one i) (absent-on i (left-below i (omega arith) (λ k h. there k (omega arith))) (omega arith) (there i (omega arith)))

  module _ (there : (k : ℕ) → k < length list → get_or list k 0 < n) where
    -- all are, and the target is not
    target-absent : n ≤ target → (rows : List Row) → n ≡ length rows → Some (length list) ≡ place_as (absent_from rows 0 list target)
    unfolding absent_from
    target-absent h rows e =
        rw (left-below (length list) (omega arith) there rows e, drop_of_length-le list {i = length list} (omega arith), le-ltb target (length rows) (omega arith)) refl

    -- all are
    none-absent : target < n → (rows : List Row) → n ≡ length rows → None ≡ place_as (absent_from rows 0 list target)
    unfolding absent_from
    none-absent h rows e =
        rw (left-below (length list) (omega arith) there rows e, drop_of_length-le list {i = length list} (omega arith), lt-ltb target (length rows) (omega arith)) refl

  -- the first listed row that is absent, if there is one, then the target
  pub absent-told : {place : Place} (first : Place) → MatchOption first ((k : ℕ) → k < length list → get_or list k 0 < n) (λ i. (i < length list) × (n ≤ get_or list i 0) × ((k : ℕ) → k < i → get_or list k 0 < n))
      → MatchOption first ((n ≤ target → place ≡ Some (length list)) × (target < n → place ≡ None)) (λ i. place ≡ Some i) → AbsentAt n list target place
  absent-told {place} None there told rows e = go (dec_lt target n)
    where
      go : Dec (target < n) → place ≡ place_as (absent_from rows 0 list target)
      go (yes l) = told.1 l ∙ none-absent there l rows e
      go (no h) = told.0 (omega arith) ∙ target-absent there (omega arith) rows e
  absent-told (Some i) found told rows e = told ∙ absent-here i (left-below i (omega (arith, found.0)) found.2) found.0 found.1 rows e
