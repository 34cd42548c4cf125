-- Laws of lists: membership and order. Assumes nothing.
use Rattle.std.specs.Prelude.{ℕ, zero, suc, ◌+◌, ◌≤◌, ◌<◌, ◌≡◌, refl, ◌↔◌, ◌⊎◌, Bool, true, false, T, length, get_or, set}
use Rattle.std.proofs.Common.{le_refl, le_of_suc-le-suc, not-suc-le-zero, eq-or-lt_of_le, arith, sym, ap, ◌∙◌, inl, inr, ⊎_elim, length-append}
use Rattle.std.proofs.Math.Logic.{⊎_map}
use Rattle.std.proofs.Math.Option.{Option, none, some, some-injective, none-ne-some}
use mathlib.Core.List.Memᴰ
use mathlib.Core.List.{List, [], ◌∷◌, ◌++◌, map, Memᴰ}
use Rattle.std.proofs.Math.ListN.{get_elem?}
use Rattle.semantics.specs.Basic.{joined, keep, present_ones, numbers_from, every, Ordered, ordered-none, ordered-more}
use Rattle.semantics.proofs.laws.Test.{both_left, both_right, both}

-- an element is the first one or a later one
pub mem-cases : {A P : Type 0} {x y : A} {xs : List A} → Memᴰ y (x ∷ xs) → (y ≡ x → P) → (Memᴰ y xs → P) → P
mem-cases (Memᴰ.head e) first later = first e
mem-cases (Memᴰ.tail m) first later = later m

module _ {A : Type 0} where
  -- the elements that a test keeps
  pub mem-keep : (p : A → Bool) (xs : List A) {x : A} → Memᴰ x (keep p xs) ↔ (Memᴰ x xs × T (p x))
  mem-keep p [] = (λ h. absurd (Memᴰ.not-nil h), λ w. w.0)
  mem-keep p (y ∷ xs) {x} = go (p y) refl (mem-keep p xs)
    where
      go : (b : Bool) → p y ≡ b → Memᴰ x (keep p xs) ↔ (Memᴰ x xs × T (p x)) → Memᴰ x (keep p (y ∷ xs)) ↔ (Memᴰ x (y ∷ xs) × T (p x))
      go true e rest = rw (e, keep) (
        λ h. mem-cases h (λ q. (Memᴰ.head q, rw (q, e) tt)) (λ m. (Memᴰ.tail (rest.0 m).0, (rest.0 m).1)),
        λ w. mem-cases w.0 (λ q. Memᴰ.head q) (λ m. Memᴰ.tail (rest.1 (m, w.1))),
      )
      go false e rest = rw (e, keep) (
        λ h. (Memᴰ.tail (rest.0 h).0, (rest.0 h).1),
        λ w. mem-cases w.0 (λ q. absurd (rw (q, e) at w.1)) (λ m. rest.1 (m, w.1)),
      )

  -- the values that are there
  pub mem-present : (os : List (Option A)) {x : A} → Memᴰ x (present_ones os) ↔ Memᴰ (some x) os
  mem-present [] = (λ h. absurd (Memᴰ.not-nil h), λ h. absurd (Memᴰ.not-nil h))
  mem-present (none ∷ os) {x} = (λ h. Memᴰ.tail ((mem-present os).0 h), λ h. mem-cases h (λ e. absurd (none-ne-some x (sym e))) (mem-present os).1)
  mem-present (some y ∷ os) {x} = (
    λ h. mem-cases h (λ e. Memᴰ.head (ap some e)) (λ m. Memᴰ.tail ((mem-present os).0 m)),
    λ h. mem-cases h (λ e. Memᴰ.head (some-injective x y e)) (λ m. Memᴰ.tail ((mem-present os).1 m)),
  )

  -- a test that every element passes
  pub every-iff : (p : A → Bool) (xs : List A) → T (every p xs) ↔ ((x : A) → Memᴰ x xs → T (p x))
  every-iff p [] = (λ t x h. absurd (Memᴰ.not-nil h), λ a. tt)
  every-iff p (y ∷ xs) = (
    λ t x h. mem-cases h (λ e. rw e (both_left (p y) (every p xs) t)) ((every-iff p xs).0 (both_right (p y) (every p xs) t) x),
    λ a. both (p y) (every p xs) (a y (Memᴰ.head refl)) ((every-iff p xs).1 (λ x h. a x (Memᴰ.tail h))),
  )

  -- an element stands at some place
  pub mem-get_elem : (xs : List A) {x : A} → Memᴰ x xs ↔ ((i : ℕ) × (get_elem? xs i ≡ some x))
  mem-get_elem xs {x} = (place, λ w. element xs w.0 w.1)
    where
      place : {xs : List A} → Memᴰ x xs → (i : ℕ) × (get_elem? xs i ≡ some x)
      place (Memᴰ.head e) = (0, ap some (sym e))
      place (Memᴰ.tail h) = (suc (place h).0, (place h).1)

      element : (xs : List A) (i : ℕ) → get_elem? xs i ≡ some x → Memᴰ x xs
      element [] i e = absurd (none-ne-some x e)
      element (y ∷ xs) zero e = Memᴰ.head (sym (some-injective y x e))
      element (y ∷ xs) (suc i) e = Memᴰ.tail (element xs i e)

module _ {A B : Type 0} (f : A → List B) where
  -- what the elements give, one after the other
  pub mem-joined : (xs : List A) {y : B} → Memᴰ y (joined f xs) ↔ ((x : A) × Memᴰ x xs × Memᴰ y (f x))
  mem-joined [] = (λ h. absurd (Memᴰ.not-nil h), λ w. absurd (Memᴰ.not-nil w.1))
  mem-joined (x ∷ xs) = (
    λ h. ⊎_elim (λ m. (x, Memᴰ.head refl, m)) (λ m. let w = (mem-joined xs).0 m in (w.0, Memᴰ.tail w.1, w.2)) (Memᴰ.append_cases (f x) h),
    λ w. mem-cases w.1 (λ e. Memᴰ.append_left (joined f xs) (rw e at w.2)) (λ m. Memᴰ.append_right (f x) ((mem-joined xs).1 (w.0, m, w.2))),
  )

module _ {A B : Type 0} (f : A → B) where
  -- the images of the elements
  pub mem-map : (xs : List A) {y : B} → Memᴰ y (map f xs) ↔ ((x : A) × Memᴰ x xs × (y ≡ f x))
  mem-map [] = (λ h. absurd (Memᴰ.not-nil h), λ w. absurd (Memᴰ.not-nil w.1))
  mem-map (x ∷ xs) = (
    λ h. mem-cases h (λ e. (x, Memᴰ.head refl, e)) (λ m. let w = (mem-map xs).0 m in (w.0, Memᴰ.tail w.1, w.2)),
    λ w. mem-cases w.1 (λ e. Memᴰ.head (rw e at w.2)) (λ m. Memᴰ.tail ((mem-map xs).1 (w.0, m, w.2))),
  )

-- n numbers from a on
pub mem-numbers_from : (a n : ℕ) {k : ℕ} → Memᴰ k (numbers_from a n) ↔ ((a ≤ k) × (k < a + n))
mem-numbers_from a zero = (λ h. absurd (Memᴰ.not-nil h), λ w. absurd (omega arith))
mem-numbers_from a (suc n) = (
  λ h. mem-cases h (λ e. omega arith) (λ m. let w = (mem-numbers_from (suc a) n).0 m in omega arith),
  λ w. ⊎_elim (λ e. Memᴰ.head (sym e)) (λ l. Memᴰ.tail ((mem-numbers_from (suc a) n).1 (omega arith))) (eq-or-lt_of_le w.0),
)

-- the first element stands in the relation to each later one, and those are in order
pub ordered-first : {A : Type 0} {R : A → A → Type 0} {x : A} {xs : List A} → Ordered R (x ∷ xs) → (y : A) → Memᴰ y xs → R x y
ordered-first (ordered-more a o) = a

pub ordered-rest : {A : Type 0} {R : A → A → Type 0} {x : A} {xs : List A} → Ordered R (x ∷ xs) → Ordered R xs
ordered-rest (ordered-more a o) = o

-- n numbers from a on are in order
pub ordered-numbers_from : (a n : ℕ) → Ordered ◌<◌ (numbers_from a n)
ordered-numbers_from a zero = ordered-none
ordered-numbers_from a (suc n) = ordered-more (λ k m. ((mem-numbers_from (suc a) n).0 m).0) (ordered-numbers_from (suc a) n)

module _ {A : Type 0} {R : A → A → Type 0} where
  -- a relation that follows from another
  pub ordered-imply : {S : A → A → Type 0} → ((x y : A) → R x y → S x y) → {xs : List A} → Ordered R xs → Ordered S xs
  ordered-imply h ordered-none = ordered-none
  ordered-imply h (ordered-more {x = x} a o) = ordered-more (λ y m. h x y (a y m)) (ordered-imply h o)

  -- one sequence after another
  pub ordered-append : {xs ys : List A} → Ordered R xs → Ordered R ys → ((x y : A) → Memᴰ x xs → Memᴰ y ys → R x y) → Ordered R (xs ++ ys)
  ordered-append ordered-none q across = q
  ordered-append (ordered-more {x = x} {xs = xs} a p) q across =
      ordered-more (λ y m. ⊎_elim (a y) (across x y (Memᴰ.head refl)) (Memᴰ.append_cases xs m)) (ordered-append p q (λ x y m. across x y (Memᴰ.tail m)))

  -- the elements that a test keeps
  pub ordered-keep : (p : A → Bool) {xs : List A} → Ordered R xs → Ordered R (keep p xs)
  ordered-keep p ordered-none = ordered-none
  ordered-keep p (ordered-more {x = x} {xs = xs} a o) = go (p x) refl (ordered-keep p o)
    where
      go : (b : Bool) → p x ≡ b → Ordered R (keep p xs) → Ordered R (keep p (x ∷ xs))
      go true e rest = rw (e, keep) (ordered-more (λ y m. a y ((mem-keep p xs).0 m).0) rest)
      go false e rest = rw (e, keep) rest

  -- the element at an earlier place stands in the relation to that at a later one
  pub ordered_at : {xs : List A} → Ordered R xs → (i j : ℕ) {x y : A} → get_elem? xs i ≡ some x → get_elem? xs j ≡ some y → i < j → R x y
  ordered_at ordered-none i j {x} e f l = absurd (none-ne-some x e)
  ordered_at (ordered-more a o) i zero e f l = absurd (not-suc-le-zero l)
  ordered_at (ordered-more {x = z} {xs = xs} a o) zero (suc j) {x} {y} e f l = rw (← some-injective z x e) (a y ((mem-get_elem xs).1 (j, f)))
  ordered_at (ordered-more a o) (suc i) (suc j) e f l = ordered_at o i j e f (le_of_suc-le-suc l)

  module _ {B : Type 0} where
    -- the images of the elements
    pub ordered-map : (f : B → A) {xs : List B} → Ordered (λ a b. R (f a) (f b)) xs → Ordered R (map f xs)
    ordered-map f ordered-none = ordered-none
    ordered-map f (ordered-more {xs = xs} a o) = ordered-more (λ y m. let w = (mem-map f xs).0 m in rw (← w.2) at (a w.0 w.1)) (ordered-map f o)

    -- what the elements give, one after the other
    pub ordered-joined : {S : B → B → Type 0} (f : B → List A) {xs : List B} → Ordered S xs → ((x : B) → Memᴰ x xs → Ordered R (f x))
        → ((x x' : B) (y y' : A) → S x x' → Memᴰ y (f x) → Memᴰ y' (f x') → R y y') → Ordered R (joined f xs)
    ordered-joined f ordered-none each across = ordered-none
    ordered-joined f (ordered-more {x = x} {xs = xs} a o) each across =
        ordered-append (each x (Memᴰ.head refl)) (ordered-joined f o (λ z m. each z (Memᴰ.tail m)) across)
        (λ y y' m m'. let w = (mem-joined f xs).0 m' in across x w.0 y y' (a w.0 w.1) m w.2)

    -- the values that are there
    pub ordered-present : {S : B → B → Type 0} (g : B → Option A) {xs : List B} → Ordered S xs
        → ((b b' : B) (y y' : A) → S b b' → g b ≡ some y → g b' ≡ some y' → R y y') → Ordered R (present_ones (map g xs))
    ordered-present g ordered-none across = ordered-none
    ordered-present g (ordered-more {x = x} {xs = xs} a o) across = go (g x) refl (ordered-present g o across)
      where
        go : (v : Option A) → g x ≡ v → Ordered R (present_ones (map g xs)) → Ordered R (present_ones (v ∷ map g xs))
        go none e rest = rest
        go (some y) e rest =
            ordered-more (λ y' m. let w = (mem-map g xs).0 ((mem-present (map g xs)).0 m) in across x w.0 y y' (a w.0 w.1) e (sym w.2)) rest

module _ {A : Type 0} where
  -- a place with an element is below the length
  pub get_elem-below : (xs : List A) (i : ℕ) {x : A} → get_elem? xs i ≡ some x → i < length xs
  get_elem-below [] i {x} e = absurd (none-ne-some x e)
  get_elem-below (y ∷ xs) zero e = omega arith
  get_elem-below (y ∷ xs) (suc i) e = let l = get_elem-below xs i e in omega arith

  -- each place below the length has an element
  pub get_elem-there : (xs : List A) (i : ℕ) → i < length xs → (x : A) × (get_elem? xs i ≡ some x)
  get_elem-there [] i l = absurd (not-suc-le-zero l)
  get_elem-there (y ∷ xs) zero l = (y, refl)
  get_elem-there (y ∷ xs) (suc i) l = get_elem-there xs i (le_of_suc-le-suc l)

  -- with one more element, a place has the element that it had, or it is the last place and has the new one
  pub get_elem-more : (xs : List A) (x : A) (i : ℕ) {y : A} → get_elem? (xs ++ x ∷ []) i ≡ some y → (get_elem? xs i ≡ some y) ⊎ ((i ≡ length xs) × (y ≡ x))
  get_elem-more [] x zero {y} e = inr (refl, sym (some-injective x y e))
  get_elem-more [] x (suc i) e = inl e
  get_elem-more (z ∷ xs) x zero e = inl e
  get_elem-more (z ∷ xs) x (suc i) e = ⊎_elim inl (λ w. inr (ap suc w.0, w.1)) (get_elem-more xs x i e)

  -- the values that are there are no more than all
  pub present-length : (os : List (Option A)) → length (present_ones os) ≤ length os
  present-length [] = omega arith
  present-length (none ∷ os) = let l = present-length os in omega arith
  present-length (some x ∷ os) = let l = present-length os in omega arith

-- one element is in order
pub ordered-one : {A : Type 0} {R : A → A → Type 0} {x : A} → Ordered R (x ∷ [])
ordered-one = ordered-more (λ y h. absurd (Memᴰ.not-nil h)) ordered-none

module _ {A : Type 0} where
  -- the element at a place, with a default
  pub get_elem-get_d : (xs : List A) (i : ℕ) (d : A) {x : A} → get_elem? xs i ≡ some x → get_or xs i d ≡ x
  get_elem-get_d [] i d {x} e = absurd (none-ne-some x e)
  get_elem-get_d (y ∷ xs) zero d {x} e = some-injective y x e
  get_elem-get_d (y ∷ xs) (suc i) d e = get_elem-get_d xs i d e

  -- the element behind a list
  pub get_elem-seam : (xs : List A) (y : A) (ys : List A) → get_elem? (xs ++ y ∷ ys) (length xs) ≡ some y
  get_elem-seam [] y ys = refl
  get_elem-seam (x ∷ xs) y ys = get_elem-seam xs y ys

  -- what stands in a list after one element was replaced
  pub set_same : (xs : List A) (i : ℕ) (y : A) → i < length xs → get_elem? (set xs i y) i ≡ some y
  set_same [] i y l = absurd (not-suc-le-zero l)
  set_same (x ∷ xs) zero y l = refl
  set_same (x ∷ xs) (suc i) y l = set_same xs i y (le_of_suc-le-suc l)

  pub set_other : (xs : List A) (i : ℕ) (y : A) (j : ℕ) → (j ≡ i → ⊥) → get_elem? (set xs i y) j ≡ get_elem? xs j
  set_other [] i y j d = refl
  set_other (x ∷ xs) zero y zero d = absurd (d refl)
  set_other (x ∷ xs) zero y (suc j) d = refl
  set_other (x ∷ xs) (suc i) y zero d = refl
  set_other (x ∷ xs) (suc i) y (suc j) d = set_other xs i y j (λ e. d (ap suc e))

  -- the elements after one has been replaced
  pub set_cases : (xs : List A) (i : ℕ) (y : A) (j : ℕ) {x : A} → get_elem? (set xs i y) j ≡ some x → ((j ≡ i) × (x ≡ y)) ⊎ (get_elem? xs j ≡ some x)
  set_cases [] i y j e = inr e
  set_cases (z ∷ xs) zero y zero {x} e = inl (refl, sym (some-injective y x e))
  set_cases (z ∷ xs) zero y (suc j) e = inr e
  set_cases (z ∷ xs) (suc i) y zero e = inr e
  set_cases (z ∷ xs) (suc i) y (suc j) e = ⊎_map (λ w. (ap suc w.0, w.1)) (λ h. h) (set_cases xs i y j e)

  -- how many elements pass a test: one by one
  pub keep-cons : (p : A → Bool) (x : A) (xs : List A) → length (keep p (x ∷ xs)) ≡ length (keep p (x ∷ [])) + length (keep p xs)
  keep-cons p x xs = go (p x) refl
    where
      go : (b : Bool) → p x ≡ b → length (keep p (x ∷ xs)) ≡ length (keep p (x ∷ [])) + length (keep p xs)
      go true e = rw (e, keep) (omega arith)
      go false e = rw (e, keep) (omega arith)

  -- an element that does not pass
  pub keep-not : (p : A → Bool) (x : A) → ¬ T (p x) → length (keep p (x ∷ [])) ≡ 0
  keep-not p x n = go (p x) refl
    where
      go : (b : Bool) → p x ≡ b → length (keep p (x ∷ [])) ≡ 0
      go true e = absurd (n (rw e tt))
      go false e = rw (e, keep)

  -- a test that implies another passes no more elements
  pub keep-fewer : (p q : A → Bool) → ((x : A) → T (q x) → T (p x)) → (xs : List A) → length (keep q xs) ≤ length (keep p xs)
  keep-fewer p q h [] = le_refl 0
  keep-fewer p q h (x ∷ xs) = go (q x) refl (p x) refl (h x) (keep-fewer p q h xs)
    where
      go : (b : Bool) → q x ≡ b → (c : Bool) → p x ≡ c → (T (q x) → T (p x)) → length (keep q xs) ≤ length (keep p xs) → length (keep q (x ∷ xs)) ≤ length (keep p (x ∷ xs))
      go true e true f k l = rw (e, f, keep) (omega arith)
      go true e false f k l = absurd (rw f at (k (rw e tt)))
      go false e true f k l = rw (e, f, keep) (omega arith)
      go false e false f k l = rw (e, f, keep) l

  module _ {B : Type 0} (f : B → Option A) (b : B → Bool) (p q : A → Bool) (weaker : (x : A) → T (q x) → T (p x)) where
    -- those that pass one test and are chosen, and those that pass a stronger test, are apart if none chosen passes that
    pub keep_apart : (ns : List B) → ((n : B) (x : A) → Memᴰ n ns → T (b n) → f n ≡ some x → T (p x) → ¬ T (q x))
        → length (keep p (present_ones (map f (keep b ns)))) + length (keep q (present_ones (map f ns))) ≤ length (keep p (present_ones (map f ns)))
    keep_apart [] h = le_refl 0
    keep_apart (n ∷ ns) h = go (b n) refl (f n) refl (keep_apart ns (λ m x k. h m x (Memᴰ.tail k)))
      where
        chosen : List A
        chosen = present_ones (map f (keep b ns))

        rest : List A
        rest = present_ones (map f ns)

        go : (c : Bool) → b n ≡ c → (o : Option A) → f n ≡ o → length (keep p chosen) + length (keep q rest) ≤ length (keep p rest)
            → length (keep p (present_ones (map f (keep b (n ∷ ns))))) + length (keep q (present_ones (map f (n ∷ ns)))) ≤ length (keep p (present_ones (map f (n ∷ ns))))
        go true e none g l = rw (e, keep) (rw (g, present_ones) l)
        go false e none g l = rw (e, keep) (rw (g, present_ones) l)
        go true e (some x) g l =
            let apart = keep-not q x (λ t. h n x (Memᴰ.head refl) (rw e tt) g (weaker x t) t) in
            rw (e, keep) (rw (g, present_ones) (rw (keep-cons p x chosen, keep-cons q x rest, keep-cons p x rest) (omega arith)))
        go false e (some x) g l =
            let fewer = keep-fewer p q weaker (x ∷ []) in
            rw (e, keep) (rw (g, present_ones) (rw (keep-cons q x rest, keep-cons p x rest) (omega arith)))

  -- numbers one higher
  map-shift : (g : ℕ → A) (a n : ℕ) → map g (numbers_from (suc a) n) ≡ map (λ i. g (suc i)) (numbers_from a n)
  map-shift g a zero = refl
  map-shift g a (suc n) = ap (λ r. g (suc a) ∷ r) (map-shift g (suc a) n)

  -- what is found at each place of a list
  pub map-places : {B : Type 0} (h : Option B → A) (xs : List B) → map (λ i. h (get_elem? xs i)) (numbers_from 0 (length xs)) ≡ map (λ x. h (some x)) xs
  map-places h [] = refl
  map-places h (x ∷ xs) = ap (λ r. h (some x) ∷ r) (map-shift (λ i. h (get_elem? (x ∷ xs) i)) 0 (length xs) ∙ map-places h xs)

module _ {A : Type 0} where
  -- an element stands where it stood with others behind
  pub get_elem-append : (xs ys : List A) (i : ℕ) {x : A} → get_elem? xs i ≡ some x → get_elem? (xs ++ ys) i ≡ some x
  get_elem-append [] ys i {x} e = absurd (none-ne-some x e)
  get_elem-append (y ∷ xs) ys zero e = e
  get_elem-append (y ∷ xs) ys (suc i) e = get_elem-append xs ys i e

  -- how many elements of two lists pass a test
  pub keep_append : (p : A → Bool) (xs ys : List A) → length (keep p (xs ++ ys)) ≡ length (keep p xs) + length (keep p ys)
  keep_append p [] ys = omega arith
  keep_append p (x ∷ xs) ys = let e = keep_append p xs ys in let f = keep-cons p x (xs ++ ys) in let g = keep-cons p x xs in omega arith

  -- values that are all there
  pub present-all : (xs : List A) → present_ones (map some xs) ≡ xs
  present-all [] = refl
  present-all (x ∷ xs) = ap (λ r. x ∷ r) (present-all xs)

-- A list that has elements of another, in their order.
pub data Within {A : Type 0} : List A → List A → Type 0 where
  within_none : {ys : List A} → Within [] ys
  within_both : {x : A} {xs ys : List A} → Within xs ys → Within (x ∷ xs) (x ∷ ys)
  within_rest : {y : A} {xs ys : List A} → Within xs ys → Within xs (y ∷ ys)

pub within-itself : {A : Type 0} (xs : List A) → Within xs xs
within-itself [] = within_none
within-itself (x ∷ xs) = within_both (within-itself xs)

-- one element of a list alone
pub within-one : {A : Type 0} {x : A} {ys : List A} → Memᴰ x ys → Within (x ∷ []) ys
within-one {x = x} (Memᴰ.head e) = rw e (within_both within_none)
within-one (Memᴰ.tail m) = within_rest (within-one m)

-- lists one after the other
within-behind : {A : Type 0} {xs ys : List A} (zs : List A) → Within xs ys → Within xs (zs ++ ys)
within-behind [] w = w
within-behind (z ∷ zs) w = within_rest (within-behind zs w)

within-append : {A : Type 0} {xs ys : List A} (zs : List A) → Within xs ys → Within (zs ++ xs) (zs ++ ys)
within-append [] w = w
within-append (z ∷ zs) w = within_both (within-append zs w)

module _ {A B : Type 0} (f : A → List B) where
  -- what fewer elements give
  pub within-joined : {xs ys : List A} → Within xs ys → Within (joined f xs) (joined f ys)
  within-joined within_none = within_none
  within-joined (within_both {x = x} w) = within-append (f x) (within-joined w)
  within-joined (within_rest {y = y} w) = within-behind (f y) (within-joined w)

  -- is no longer, where none of them gives more
  pub joined-fewer : (g : A → List B) → ((x : A) → length (f x) ≤ length (g x)) → {xs ys : List A} → Within xs ys → length (joined f xs) ≤ length (joined g ys)
  joined-fewer g fewer within_none = omega arith
  joined-fewer g fewer (within_both {x = x} {xs = xs} {ys = ys} w) =
      omega (arith, fewer x, joined-fewer g fewer w, length-append (f x) (joined f xs), length-append (g x) (joined g ys))
  joined-fewer g fewer (within_rest {y = y} {ys = ys} w) = omega (arith, joined-fewer g fewer w, length-append (g y) (joined g ys))
