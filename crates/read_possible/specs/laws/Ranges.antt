-- What `any` answers over the numbers up to an end, that one among them. Assumes nothing.
use Rattle.std.specs.Prelude.{ℕ, ◌+◌, ◌-◌, ◌<◌, ◌≤◌, ◌≡◌, Bool, true, false, refl, Option, Some, None, MatchOption}
use Rattle.std.proofs.Common.{arith, ap, ◌∙◌, subst}
use Rattle.std.specs.Fn.{Called}
use Rattle.std.specs.Iterator.Runs.{SomeRun, CallKeepsClosure, AllItemsGive, AnyItemGives}
use Rattle.std.specs.Bool.{MatchBool}
use Rattle.std.specs.Option.{option_map}
use Rattle.std.specs.Range.{range_inclusive_start, range_inclusive_end, range_inclusive_exhausted}
use Rattle.std.specs.declared.ops.RangeInclusive.{RangeInclusive}
use Rattle.std.proofs.iter.runs.Sources.{inclusive_listed, nat_range_inclusive_steps}
use denote.Param.Members.{Mut}

-- the number at a place of a run
at_place : (o : Option ℕ) (n : ℕ) (P : ℕ → Type 0) → option_map (λ y. y) o ≡ Some n → MatchOption o (Unit {0}) P → P n
at_place None n P e h = cc
at_place (Some x) n P e h = let q : x ≡ n = cc in subst P q h

-- `(a..=b).any(f)` is true, if some number cannot be answered false
pub any-true_to : {F : Type 0} {g : Mut F (ℕ × Unit {0}) Bool} {f : F} (r : Bool) (P : ℕ → Type 0) → CallKeepsClosure g f → ((x : ℕ) → Called g f (x, tt) false f → P x → ⊥)
    → (s : RangeInclusive ℕ) → range_inclusive_exhausted s ≡ false
    → SomeRun nat_range_inclusive_steps s (λ p. MatchBool r (AnyItemGives p g f true) ((p.whole ≡ true) × AllItemsGive p g f false))
    → (k : ℕ) → range_inclusive_start s ≤ k → k ≤ range_inclusive_end s → P k → r ≡ true
any-true_to {F} {g} {f} r P keeps never s fresh h k lo hi holds = go r h.2
  where
    go : (r : Bool) → MatchBool r (AnyItemGives h.0 g f true) ((h.0.whole ≡ true) × AllItemsGive h.0 g f false) → r ≡ true
    go true w = refl
    go false w =
        let up = inclusive_listed h.0 h.0.seen in
        let a : up.0 ≡ range_inclusive_start s = up.2 ∙ ap range_inclusive_start h.1 in
        let b : up.1 ≡ range_inclusive_end s + 1 = up.3 ∙ ap (λ z. range_inclusive_end z + 1) h.1 in
        let items = (up.4 (ap range_inclusive_exhausted h.1 ∙ fresh)).0 in
        let l : k - up.0 < h.0.len = omega (arith, items.1 w.0, a, b) in
        let e : up.0 + (k - up.0) ≡ k = omega (arith, a) in
        absurd (never k (subst (λ x. Called g f (x, tt) false f) e (at_place (h.0.at (k - up.0)) (up.0 + (k - up.0)) (λ x. Called g f (x, tt) false f) (items.3 (k - up.0) l) (w.1 keeps (k - up.0)))) holds)
