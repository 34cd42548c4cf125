-- Small tools of the definitions: tests, lists and what may be missing. Assumes nothing.
use Rattle.std.specs.Prelude.{ℕ, zero, suc, ◌+◌, Bool, true, false, ◌&&◌, ltb, leb}
use mathlib.Core.List.{List, [], ◌∷◌, ◌++◌, Memᴰ}
use Rattle.std.proofs.Math.Option.{Option, none, some}

-- whether a decision says yes
abbrev pub decided : {A : Type 0} → Dec A → Bool
decided (yes a) = true
decided (no n) = false

-- whether there is a value
abbrev pub present : {A : Type 0} → Option A → Bool
present none = false
present (some a) = true

-- what follows from a value, where there is one
abbrev pub and_then : {A B : Type 0} → Option A → (A → Option B) → Option B
and_then none f = none
and_then (some a) f = f a

abbrev pub mapped : {A B : Type 0} → (A → B) → Option A → Option B
mapped f none = none
mapped f (some a) = some (f a)

-- two values joined, where both are there
abbrev pub mapped₂ : {A B C : Type 0} → (A → B → C) → Option A → Option B → Option C
mapped₂ f none b = none
mapped₂ f (some a) none = none
mapped₂ f (some a) (some b) = some (f a b)

-- a value where the test holds, and none otherwise
abbrev pub provided : {A : Type 0} → Bool → A → Option A
provided true a = some a
provided false a = none

-- the first value of a sequence that is there
abbrev pub first_of : {A : Type 0} → List (Option A) → Option A
first_of [] = none
first_of (none ∷ os) = first_of os
first_of (some a ∷ os) = some a

abbrev pub every : {A : Type 0} → (A → Bool) → List A → Bool
every p [] = true
every p (x ∷ xs) = p x && every p xs

abbrev pub keep : {A : Type 0} → (A → Bool) → List A → List A
keep p [] = []
keep p (x ∷ xs) = elim (p x) [ true ↦ x ∷ keep p xs | false ↦ keep p xs ]

-- the values that are there
abbrev pub present_ones : {A : Type 0} → List (Option A) → List A
present_ones [] = []
present_ones (none ∷ os) = present_ones os
present_ones (some a ∷ os) = a ∷ present_ones os

-- what each element gives, one after the other
abbrev pub joined : {A B : Type 0} → (A → List B) → List A → List B
joined f [] = []
joined f (x ∷ xs) = f x ++ joined f xs

-- n numbers from a on
abbrev pub numbers_from : ℕ → ℕ → List ℕ
numbers_from a zero = []
numbers_from a (suc n) = a ∷ numbers_from (suc a) n

-- each number above the one before
abbrev pub rising : List ℕ → Bool
rising [] = true
rising (a ∷ []) = true
rising (a ∷ b ∷ bs) = ltb a b && rising (b ∷ bs)

abbrev pub total : List ℕ → ℕ
total [] = 0
total (n ∷ ns) = n + total ns

-- Every element stands in the relation to each later one.
pub data Ordered {A : Type 0} (R : A → A → Type 0) : List A → Type 0 where
  ordered-none : Ordered R []
  ordered-more : {x : A} {xs : List A} → ((y : A) → Memᴰ y xs → R x y) → Ordered R xs → Ordered R (x ∷ xs)

-- the place of the first byte that fails a test or is below a number, which rises above each byte passed
unfoldable pub unfit_from : (ℕ → Bool) → ℕ → ℕ → List ℕ → Option ℕ
unfit_from fits at least [] = none
unfit_from fits at least (r ∷ bytes) =
    elim (leb least r && fits r) [
      | true ↦ unfit_from fits (suc at) (suc r) bytes
      | false ↦ some at
    ]
