-- What a chain over a range of numbers answers, from what its closure tells of each number. Assumes nothing.
use Rattle.std.specs.Prelude.{ℕ, zero, suc, List, get_or, ◌+◌, ◌-◌, ◌<◌, ◌≤◌, ◌≡◌, Bool, true, false, refl, Option, Some, None, MatchOption}
use Rattle.std.proofs.Common.{arith, sym, ap, ◌∙◌, subst}
use Rattle.std.proofs.Math.Decide.{ℕ_discrete}
use Rattle.std.specs.Array.{IsFromFnResult, IsFromFnResultFrom}
use Rattle.std.specs.Fn.{Called, CalledAt}
use Rattle.std.specs.Iterator.Runs.{Run, SomeRun, ItemsCountUp, CallKeepsClosure, AllItems, AllItemsGive, AnyItemGives, IsFirstToGive, NoItemPasses, EndsAtFirstPassing}
use Rattle.std.specs.Bool.{MatchBool}
use Rattle.std.specs.Option.{option_map, IsSomeAnd}
use Rattle.std.specs.Range.{range_inclusive_start, range_inclusive_end, range_inclusive_exhausted}
use Rattle.std.specs.declared.ops.Range.{Range}
use Rattle.std.specs.declared.ops.RangeInclusive.{RangeInclusive}
use Rattle.std.proofs.iter.runs.Sources.{range_runs, inclusive_listed, nat_range_inclusive_steps}
use Rattle.std.proofs.iter.Yields.{nat_range_steps}
use denote.Param.Members.{Mut}
use denote.Ref.{Bor}

-- the number at a place of a run
at_place : (o : Option ℕ) (n : ℕ) (P : ℕ → Type 0) → option_map (λ y. y) o ≡ Some n → MatchOption o (Unit {0}) P → P n
at_place None n P e h = cc
at_place (Some x) n P e h = let q : x ≡ n = cc in subst P q h

-- a number of a run that is known to be there
pub of_place : (o : Option ℕ) (P Q : ℕ → Type 0) → MatchOption o (Unit {0}) P → IsSomeAnd o Q → (x : ℕ) × P x × Q x
of_place None P Q h q = absurd q
of_place (Some x) P Q h q = (x, h, q)

-- what `find_map` and `find` say of the run that they made
abbrev MapFound : {S A B F : Type 0} {steps : S → Option A → S → Type 0} → Mut F (A × Unit {0}) (Option B) → F → Option B → Run steps → Type 0
MapFound g f r p = MatchOption r ((p.whole ≡ true) × AllItemsGive p g f None) (λ y. (i : ℕ) × (i < p.len) × (p.len ≡ i + 1) × IsFirstToGive p g f (Some y) None i)

abbrev ItemFound : {S A F : Type 0} {steps : S → Option A → S → Type 0} → Mut F (Bor A × Unit {0}) Bool → F → Option A → Run steps → Type 0
ItemFound g f r p = MatchOption r ((p.whole ≡ true) × NoItemPasses p g f) (EndsAtFirstPassing p g f)

module _ {S : Type 0} {steps : S → Option ℕ → S → Type 0} (p : Run steps) (a b : ℕ) (up : ItemsCountUp p a b) where
  -- what holds of each item of a whole run holds of each number
  each_number : (P : ℕ → Type 0) → p.whole ≡ true → AllItems p P → (k : ℕ) → a ≤ k → k < b → P k
  each_number P w h k lo hi =
      let e : a + (k - a) ≡ k = omega arith in
      let l : k - a < p.len = omega (arith, up.1 w) in
      subst P e (at_place (p.at (k - a)) (a + (k - a)) P (up.3 (k - a) l) (h (k - a)))

  module _ {B F : Type 0} (g : Mut F (ℕ × Unit {0}) (Option B)) (f : F) (keeps : CallKeepsClosure g f)
      (Yes : ℕ → B → Type 0) (No : ℕ → Type 0) (some : (x : ℕ) (y : B) → Called g f (x, tt) (Some y) f → Yes x y) (none : (x : ℕ) → Called g f (x, tt) None f → No x) where
    -- `find_map` over numbers that count up from a to below b
    map_found : (r : Option B) → MapFound g f r p → MatchOption r ((k : ℕ) → a ≤ k → k < b → No k) (λ y. (k : ℕ) × (a ≤ k) × (k < b) × Yes k y)
    map_found None h = λ k lo hi. none k (each_number (λ x. Called g f (x, tt) None f) h.0 (h.1 keeps) k lo hi)
    map_found (Some y) h =
        let w = of_place (p.at h.0) (λ x. (x ≡ a + h.0) × (x < b)) (λ x. Called g f (x, tt) (Some y) f) (up.2 h.0) (h.3 keeps).0 in
        (w.0, omega (arith, w.1.0), w.1.1, some w.0 y w.2)

    -- and none of the numbers before it gives anything
    map_first : (r : Option B) → MapFound g f r p → MatchOption r ((k : ℕ) → a ≤ k → k < b → No k) (λ y. (k : ℕ) × (a ≤ k) × (k < b) × Yes k y × ((j : ℕ) → a ≤ j → j < k → No j))
    map_first None h = map_found None h
    map_first (Some y) h =
        let first = h.3 keeps in
        let w = of_place (p.at h.0) (λ x. (x ≡ a + h.0) × (x < b)) (λ x. Called g f (x, tt) (Some y) f) (up.2 h.0) first.0 in (
          w.0,
          omega (arith, w.1.0),
          w.1.1,
          some w.0 y w.2,
          λ j lo hi.
              let v = of_place (p.at (j - a)) (λ x. (x ≡ a + (j - a)) × (x < b)) (λ x. Called g f (x, tt) None f) (up.2 (j - a)) (first.1 (j - a) (omega (arith, w.1.0))) in
              let e : v.0 ≡ j = omega (arith, v.1.0) in
              none j (subst (λ x. Called g f (x, tt) None f) e v.2),
        )

  module _ {F : Type 0} (g : Mut F (ℕ × Unit {0}) Bool) (f : F) (keeps : CallKeepsClosure g f) (Yes : ℕ → Type 0) (r : Bool) (yes : (x : ℕ) → Called g f (x, tt) r f → Yes x) where
    -- one of them, or each, of which the closure answers alike
    some_gives : AnyItemGives p g f r → (k : ℕ) × (a ≤ k) × (k < b) × Yes k
    some_gives h =
        let hit = h keeps in
        let w = of_place (p.at hit.0) (λ x. (x ≡ a + hit.0) × (x < b)) (λ x. Called g f (x, tt) r f) (up.2 hit.0) hit.2 in
        (w.0, omega (arith, w.1.0), w.1.1, yes w.0 w.2)

    each_gives : (p.whole ≡ true) × AllItemsGive p g f r → (k : ℕ) → a ≤ k → k < b → Yes k
    each_gives h k lo hi = yes k (each_number (λ x. Called g f (x, tt) r f) h.0 (h.1 keeps) k lo hi)

  module _ {F : Type 0} (g : Mut F (Bor ℕ × Unit {0}) Bool) (f : F) (keeps : CallKeepsClosure g f)
      (Yes No : ℕ → Type 0) (yes : (x : ℕ) → CalledAt g f x true f → Yes x) (no : (x : ℕ) → CalledAt g f x false f → No x) where
    -- `find` over them
    found : (r : Option ℕ) → ItemFound g f r p → MatchOption r ((k : ℕ) → a ≤ k → k < b → No k) (λ k. (a ≤ k) × (k < b) × Yes k)
    found None h = λ k lo hi. no k (each_number (λ x. CalledAt g f x false f) h.0 (h.1 keeps) k lo hi)
    found (Some y) h =
        let at : (y ≡ a + h.0) × (y < b) = subst (λ o. MatchOption o (Unit {0}) (λ x. (x ≡ a + h.0) × (x < b))) h.2 (up.2 h.0) in
        (omega (arith, at.0), at.1, yes y (h.3 keeps).0)

-- the numbers of a range, and of one with its end that is not spent
counts_below : (s : Range ℕ) (p : Run nat_range_steps) → p.from ≡ s → ItemsCountUp p s.start s.end
counts_below s p from = subst (λ z. ItemsCountUp p z.start z.end) from (range_runs p p.seen)

counts_up_to : (s : RangeInclusive ℕ) → range_inclusive_exhausted s ≡ false → (p : Run nat_range_inclusive_steps) → p.from ≡ s → ItemsCountUp p (range_inclusive_start s) (range_inclusive_end s + 1)
counts_up_to s fresh p from =
    let up = inclusive_listed p p.seen in
    let a : up.0 ≡ range_inclusive_start s = up.2 ∙ ap range_inclusive_start from in
    let b : up.1 ≡ range_inclusive_end s + 1 = up.3 ∙ ap (λ z. range_inclusive_end z + 1) from in
    subst (λ z. ItemsCountUp p (range_inclusive_start s) z) b (subst (λ z. ItemsCountUp p z up.1) a (up.4 (ap range_inclusive_exhausted from ∙ fresh)).0)

-- what is known of none and of some of them tells what was looked for
pub told : {B : Type 0} (r : Option B) {P P' : Type 0} {Q Q' : B → Type 0} → MatchOption r P Q → (P → P') → ((y : B) → Q y → Q' y) → MatchOption r P' Q'
told None h p q = p h
told (Some y) h p q = q y h

module _ {B F : Type 0} {g : Mut F (ℕ × Unit {0}) (Option B)} {f : F} (r : Option B)
    (Yes : ℕ → B → Type 0) (No : ℕ → Type 0) (keeps : CallKeepsClosure g f) (some : (x : ℕ) (y : B) → Called g f (x, tt) (Some y) f → Yes x y) (none : (x : ℕ) → Called g f (x, tt) None f → No x)
    {P : Type 0} {Q : B → Type 0} where
  -- `(a..b).find_map(f)`: no number gives anything, or one gives the result
  pub find_map-range : (s : Range ℕ) → SomeRun nat_range_steps s (MapFound g f r) → (((k : ℕ) → s.start ≤ k → k < s.end → No k) → P) → ((y : B) (k : ℕ) → s.start ≤ k → k < s.end → Yes k y → Q y) → MatchOption r P Q
  find_map-range s h p q = told r (map_found h.0 s.start s.end (counts_below s h.0 h.1) g f keeps Yes No some none r h.2) p (λ y w. q y w.0 w.1 w.2 w.3)

  -- and none before that one
  pub find_map-first : (s : Range ℕ) → SomeRun nat_range_steps s (MapFound g f r) → (((k : ℕ) → s.start ≤ k → k < s.end → No k) → P) → ((y : B) (k : ℕ) → s.start ≤ k → k < s.end → Yes k y → ((j : ℕ) → s.start ≤ j → j < k → No j) → Q y) → MatchOption r P Q
  find_map-first s h p q = told r (map_first h.0 s.start s.end (counts_below s h.0 h.1) g f keeps Yes No some none r h.2) p (λ y w. q y w.0 w.1 w.2 w.3 w.4)

  -- `(a..=b).find_map(f)`
  pub find_map-range_to : (s : RangeInclusive ℕ) → range_inclusive_exhausted s ≡ false → SomeRun nat_range_inclusive_steps s (MapFound g f r)
      → (((k : ℕ) → range_inclusive_start s ≤ k → k ≤ range_inclusive_end s → No k) → P) → ((y : B) (k : ℕ) → range_inclusive_start s ≤ k → k ≤ range_inclusive_end s → Yes k y → Q y) → MatchOption r P Q
  find_map-range_to s fresh h p q = told r (map_found h.0 _ _ (counts_up_to s fresh h.0 h.1) g f keeps Yes No some none r h.2) (λ w. p (λ k lo hi. w k lo (omega arith))) (λ y w. q y w.0 w.1 (omega (arith, w.2)) w.3)

module _ {F : Type 0} {g : Mut F (Bor ℕ × Unit {0}) Bool} {f : F} (r : Option ℕ)
    (Yes No : ℕ → Type 0) (keeps : CallKeepsClosure g f) (yes : (x : ℕ) → CalledAt g f x true f → Yes x) (no : (x : ℕ) → CalledAt g f x false f → No x)
    {P : Type 0} {Q : ℕ → Type 0} where
  -- `(a..b).find(f)`
  pub find-range : (s : Range ℕ) → SomeRun nat_range_steps s (ItemFound g f r) → (((k : ℕ) → s.start ≤ k → k < s.end → No k) → P) → ((k : ℕ) → s.start ≤ k → k < s.end → Yes k → Q k) → MatchOption r P Q
  find-range s h p q = told r (found h.0 s.start s.end (counts_below s h.0 h.1) g f keeps Yes No yes no r h.2) p (λ k w. q k w.0 w.1 w.2)

  -- `(a..=b).find(f)`
  pub find-range_to : (s : RangeInclusive ℕ) → range_inclusive_exhausted s ≡ false → SomeRun nat_range_inclusive_steps s (ItemFound g f r)
      → (((k : ℕ) → range_inclusive_start s ≤ k → k ≤ range_inclusive_end s → No k) → P) → ((k : ℕ) → range_inclusive_start s ≤ k → k ≤ range_inclusive_end s → Yes k → Q k) → MatchOption r P Q
  find-range_to s fresh h p q = told r (found h.0 _ _ (counts_up_to s fresh h.0 h.1) g f keeps Yes No yes no r h.2) (λ w. p (λ k lo hi. w k lo (omega arith))) (λ k w. q k w.0 (omega (arith, w.1)) w.2)

module _ {F : Type 0} {g : Mut F (ℕ × Unit {0}) Bool} {f : F} (r : Bool) (P : Bool → Type 0) (Yes No : ℕ → Type 0) (keeps : CallKeepsClosure g f)
    (yes : (x : ℕ) → Called g f (x, tt) true f → Yes x) (no : (x : ℕ) → Called g f (x, tt) false f → No x) (s : Range ℕ) where
  -- `(a..b).any(f)`
  pub any-range : SomeRun nat_range_steps s (λ p. MatchBool r (AnyItemGives p g f true) ((p.whole ≡ true) × AllItemsGive p g f false))
      → ((k : ℕ) → s.start ≤ k → k < s.end → Yes k → P true) → (((k : ℕ) → s.start ≤ k → k < s.end → No k) → P false) → P r
  any-range h hit none = go r h.2
    where
      go : (r : Bool) → MatchBool r (AnyItemGives h.0 g f true) ((h.0.whole ≡ true) × AllItemsGive h.0 g f false) → P r
      go true w = let k = some_gives h.0 s.start s.end (counts_below s h.0 h.1) g f keeps Yes true yes w in hit k.0 k.1 k.2 k.3
      go false w = none (each_gives h.0 s.start s.end (counts_below s h.0 h.1) g f keeps No false no w)

  -- `(a..b).all(f)`
  pub all-range : SomeRun nat_range_steps s (λ p. MatchBool r ((p.whole ≡ true) × AllItemsGive p g f true) (AnyItemGives p g f false))
      → (((k : ℕ) → s.start ≤ k → k < s.end → Yes k) → P true) → ((k : ℕ) → s.start ≤ k → k < s.end → No k → P false) → P r
  all-range h each miss = go r h.2
    where
      go : (r : Bool) → MatchBool r ((h.0.whole ≡ true) × AllItemsGive h.0 g f true) (AnyItemGives h.0 g f false) → P r
      go true w = each (each_gives h.0 s.start s.end (counts_below s h.0 h.1) g f keeps Yes true yes w)
      go false w = let k = some_gives h.0 s.start s.end (counts_below s h.0 h.1) g f keeps No false no w in miss k.0 k.1 k.2 k.3

-- `any` answers true, if some number cannot be answered false
pub any-true : {F : Type 0} {g : Mut F (ℕ × Unit {0}) Bool} {f : F} (r : Bool) (P : ℕ → Type 0) → CallKeepsClosure g f → ((x : ℕ) → Called g f (x, tt) false f → P x → ⊥)
    → (s : Range ℕ) → SomeRun nat_range_steps s (λ p. MatchBool r (AnyItemGives p g f true) ((p.whole ≡ true) × AllItemsGive p g f false)) → (k : ℕ) → s.start ≤ k → k < s.end → P k → r ≡ true
any-true r P keeps never s h k lo hi p = any-range r (λ b. b ≡ true) (λ x. Unit {0}) (λ x. P x → ⊥) keeps (λ x c. tt) never s h (λ x a b y. refl) (λ none. absurd (none k lo hi p))

-- `array::from_fn(f)`: each element is what the closure gives at its index
module _ {B F : Type 0} {g : Mut F (ℕ × Unit {0}) B} {f : F} (keeps : CallKeepsClosure g f) {ys : List B} {n : ℕ} (made : IsFromFnResult g f ys n) where
  pub from_fn-at : (k : ℕ) (d : B) → k < n → Called g f (k, tt) (get_or ys k d) f
  from_fn-at k d l = go 0 n made.each (omega arith) (omega arith)
    where
      go : (i m : ℕ) → IsFromFnResultFrom g f ys i m → i ≤ k → k < i + m → Called g f (k, tt) (get_or ys k d) f
      go i zero h lo hi = absurd (omega arith)
      go i (suc m) (q, y, at, c, rest) lo hi = elim (ℕ_discrete k i) [
        | yes e ↦
            let value : get_or ys k d ≡ y = rw e (at.1 d) in
            subst (λ j. Called g f (j, tt) (get_or ys k d) f) (sym e) (subst (λ z. Called g f (i, tt) z f) (sym value) (subst (λ p. Called g f (i, tt) y p) (keeps (i, tt) y q c) c))
        | no e ↦ go (i + 1) m (subst (λ p. IsFromFnResultFrom g p ys (i + 1) m) (keeps (i, tt) y q c) rest) (omega arith) (omega arith)
      ]
