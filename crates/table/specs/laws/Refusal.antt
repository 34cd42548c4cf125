-- The refusal of a row after the rows below it, and how many variables there are with it. Assumes nothing.
use Rattle.std.specs.Prelude.{ℕ, ◌+◌, ◌≤◌, ◌<◌, ◌≡◌, Bool, List, [], ◌∷◌, ◌++◌, T, Some, None, ltb, leb, eqb, length, get_or}
use Rattle.std.proofs.Common.{arith, ◌∙◌, lt→ltb, eqb-true}
use Rattle.std.proofs.Math.Path.{refl, sym}
use Rattle.std.proofs.Math.Bool.{true, false}
use Rattle.std.proofs.Math.Option.{Option, none, some}
use Rattle.std.specs.declared.option.Option as code
use Rattle.std.specs.Bool.{then_some}
use Rattle.std.proofs.Math.Dec.{le→leb}
use Rattle.std.proofs.lemmas.Bool.{eqb-false}
use Rattle.semantics.specs.Basic.{keep}
use Rattle.semantics.specs.Table.{Row, variable_row, fits, admissible, repeated, row_refusal}
use Rattle.semantics.specs.Encoding.{RowBytes}
use Rattle.semantics.proofs.laws.Table.{admissible-holds}
use Rattle.semantics.proofs.laws.Test.{all_three, passes-true, fails-false}
use Rattle.semantics.proofs.laws.List.{keep-cons}
use Rattle.semantics.proofs.laws.Encoding.{decode-exactly}
use Rattle.rows.specs.Rows.{decoded_at}
use Rattle.table.specs.Check.{fits_decoded, repeats_decoded, reason_as}
use Rattle.answers.specs.Answers.{reason_of}
use Rattle.answers.specs.declared.Reason.{Reason}
use Rattle.answers.specs.declared.Reason.TheVariants as reasons
use Rattle.rows.specs.laws.Decode.{decodes-variable}

module _ {A : Type 0} (p : A → Bool) where
  -- how many of a list and one element more pass a test
  keep-end : (xs : List A) (x : A) → length (keep p (xs ++ x ∷ [])) ≡ length (keep p xs) + length (keep p (x ∷ []))
  keep-end [] x = omega arith
  keep-end (y ∷ xs) x = rw (keep-cons p y (xs ++ x ∷ []), keep-cons p y xs) (omega (arith, keep-end xs x))

  -- one element that passes, and one that does not
  keep_one : (x : A) → p x ≡ true → length (keep p (x ∷ [])) ≡ 1
  keep_one x e = rw (e, keep)

  keep-no : (x : A) → p x ≡ false → length (keep p (x ∷ [])) ≡ 0
  keep-no x e = rw (e, keep)

-- how many variables there are with a row, by its kind byte
pub variables-more : (below : List Row) {k l r : ℕ} {row : Row} → RowBytes k l r row → (v n : ℕ) → v ≡ length (keep variable_row below) → ((k ≡ 6 → n ≡ v + 1) × ((k ≡ 6 → ⊥) → n ≡ v))
    → n ≡ length (keep variable_row (below ++ row ∷ []))
variables-more below {k} {row = row} d v n e w = go (eqb k 6) refl
  where
    go : (b : Bool) → eqb k 6 ≡ b → n ≡ length (keep variable_row (below ++ row ∷ []))
    go true f = omega (arith, keep-end variable_row below row, keep_one variable_row row (decodes-variable d ∙ f), w.0 (eqb-true k 6 f))
    go false f = omega (arith, keep-end variable_row below row, keep-no variable_row row (decodes-variable d ∙ f), w.1 (eqb-false k 6 f))

-- the reason of a refusal, by whether the row is admissible and whether it is repeated
abbrev pub reason_if : Bool → Bool → code.Option Reason
reason_if true r = then_some r reasons.RepeatedRow
reason_if false r = Some reasons.Row

module _ (below : List Row) (row : Row) where
  -- the reason of the refusal of a row
  reason-if : (a r : Bool) → admissible below row ≡ a → repeated below row ≡ r → reason_as (row_refusal below (some row)) ≡ reason_if a r
  unfolding row_refusal
  reason-if true true e f = rw (e, row_refusal, f)
  reason-if true false e f = rw (e, row_refusal, f)
  reason-if false r e f = rw (e, row_refusal)

  -- a row that is against the rules is refused with 4
  number-four : ¬ ((length below < 96) × (length (keep variable_row (below ++ row ∷ [])) ≤ 8) × T (fits below row)) → Some reasons.Row ≡ reason_as (row_refusal below (some row))
  number-four n = sym (reason-if false (repeated below row) (fails-false (admissible below row) (λ u. n (admissible-holds below row u))) refl)

  -- a row that is not against them is refused only if it is repeated
  number-five : length below < 96 → length (keep variable_row (below ++ row ∷ [])) ≤ 8 → fits below row ≡ true → (r : Bool) → repeated below row ≡ r → reason_if true r ≡ reason_as (row_refusal below (some row))
  unfolding admissible
  number-five few few_variables e r f = sym (reason-if true r (passes-true (admissible below row) (
      (all_three (ltb (length below) 96) (leb (length (keep variable_row (below ++ row ∷ []))) 8) (fits below row)).1 (lt→ltb (length below) 96 few, le→leb (length (keep variable_row (below ++ row ∷ []))) 8 few_variables, rw e tt)
      )) f)

-- what the code's reason says of the refusal
pub refusal_none : (o : Option ℕ) → None ≡ reason_as o → o ≡ none
refusal_none none e = refl
refusal_none (some n) e = let z : ◌≡◌ {A = ℕ} 0 1 = cc in absurd (omega arith)

pub refusal_some : (o : Option ℕ) (r : Reason) → Some r ≡ reason_as o → (n : ℕ) × (o ≡ some n) × (r ≡ reason_of n)
refusal_some none r e = let z : ◌≡◌ {A = ℕ} 0 1 = cc in absurd (omega arith)
refusal_some (some n) r e = (n, refl, cc)

module _ (below : List Row) (bytes : List ℕ) where
  -- a 97th row is refused with 4
  pub refusal-many : 96 ≤ length below → Some reasons.Row ≡ reason_as (row_refusal below (decoded_at bytes 0))
  unfolding row_refusal
  refusal-many h = go (decoded_at bytes 0)
    where
      go : (o : Option Row) → Some reasons.Row ≡ reason_as (row_refusal below o)
      go none = refl
      go (some row) = number-four below row (λ w. omega arith)

  -- a row that does not fit is refused with 4
  pub refusal-unfit : fits_decoded below (decoded_at bytes 0) ≡ false → Some reasons.Row ≡ reason_as (row_refusal below (decoded_at bytes 0))
  unfolding row_refusal
  refusal-unfit = go (decoded_at bytes 0)
    where
      go : (o : Option Row) → fits_decoded below o ≡ false → Some reasons.Row ≡ reason_as (row_refusal below o)
      go none e = refl
      go (some row) e = number-four below row (λ w. rw e at w.2)

  module _ (v n : ℕ) (counted : v ≡ length (keep variable_row below)) (more : (get_or bytes 0 0 ≡ 6 → n ≡ v + 1) × ((get_or bytes 0 0 ≡ 6 → ⊥) → n ≡ v)) where
    -- how many variables there are with the row
    pub variables-with : (row : Row) → decoded_at bytes 0 ≡ some row → n ≡ length (keep variable_row (below ++ row ∷ []))
    unfolding decoded_at
    variables-with row e = variables-more below ((decode-exactly (get_or bytes 0 0) (get_or bytes 1 0) (get_or bytes 2 0) row).0 e) v n counted more

    -- a ninth variable is refused with 4
    pub refusal-variables : 8 < n → Some reasons.Row ≡ reason_as (row_refusal below (decoded_at bytes 0))
    unfolding row_refusal
    refusal-variables h = go (decoded_at bytes 0) refl
      where
        go : (o : Option Row) → decoded_at bytes 0 ≡ o → Some reasons.Row ≡ reason_as (row_refusal below o)
        go none e = refl
        go (some row) e = number-four below row (λ w. omega (arith, variables-with row e))

    -- any other row is refused with 5 if it is repeated, and otherwise not
    pub refusal-other : length below < 96 → n ≤ 8 → fits_decoded below (decoded_at bytes 0) ≡ true → (r : Bool) → repeats_decoded below (decoded_at bytes 0) ≡ r
        → reason_if true r ≡ reason_as (row_refusal below (decoded_at bytes 0))
    refusal-other few few_variables = go (decoded_at bytes 0) refl
      where
        go : (o : Option Row) → decoded_at bytes 0 ≡ o → fits_decoded below o ≡ true → (r : Bool) → repeats_decoded below o ≡ r → reason_if true r ≡ reason_as (row_refusal below o)
        go none e f r g = let z : ◌≡◌ {A = ℕ} 0 1 = cc in absurd (omega arith)
        go (some row) e f r g = number-five below row few (omega (arith, variables-with row e)) f r g
