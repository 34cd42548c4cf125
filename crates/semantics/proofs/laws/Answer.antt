-- Laws of answers: what the acceptance or the refusal of a sequence of conditions says of each. Assumes nothing.
use Rattle.std.specs.Prelude.{ℕ, ◌≡◌, refl, ◌↔◌, ◌⊎◌}
use Rattle.std.proofs.Common.{arith, sym, ap, inl, inr, ⊎_elim}
use Rattle.std.proofs.Math.Option.{Option, none, some}
use Rattle.semantics.specs.Answer.{Refusal, Answer, refused, accepted, refuse, checked, ◌>>=◌, ◌>>◌}

-- a refusal is no acceptance
pub refused-not-accepted : {A : Type 0} {r : Refusal} {x : A} → ¬ (refused r ≡ accepted x)
refused-not-accepted e = let z : ◌≡◌ {A = ℕ} 0 1 = cc in omega arith

-- two equal refusals have one number and one place
pub refused-same : {A : Type 0} {m n p q : ℕ} → ◌≡◌ {A = Answer A} (refuse m p) (refuse n q) → (m ≡ n) × (p ≡ q)
refused-same {A} {m} {n} {p} {q} e = (ap (λ a. (refusal_of a).number) e, ap (λ a. (refusal_of a).place) e)
  where
    refusal_of : Answer A → Refusal
    refusal_of (refused r) = r
    refusal_of (accepted x) = record { number = m; place = p }

-- two equal acceptances are of equal things
pub accepted-same : {A : Type 0} {x y : A} → accepted x ≡ accepted y → x ≡ y
accepted-same e = cc

-- a number that refuses is absent where the answer is an acceptance
pub unrefused : {A : Type 0} (o : Option ℕ) (at : ℕ) (b : Answer A) (x : A) → ◌≡◌ {A = Answer A} (elim o [ some n ↦ refuse n at | none ↦ b ]) (accepted x) → (o ≡ none) × (b ≡ accepted x)
unrefused none at b x e = (refl, e)
unrefused (some n) at b x e = absurd (refused-not-accepted e)

-- a condition that is passed
pub checked-passed : {B : Type 0} (n : ℕ) (o : Option ℕ) (b : Answer B) {x : B} → ◌>>◌ (checked n o) b ≡ accepted x → (o ≡ none) × (b ≡ accepted x)
checked-passed n none b e = (refl, e)
checked-passed n (some at) b e = absurd (refused-not-accepted e)

-- an answer that is gone on with
pub bound-passed : {A B : Type 0} (a : Answer A) (f : A → Answer B) {y : B} → ◌>>=◌ a f ≡ accepted y → (x : A) × (a ≡ accepted x) × (f x ≡ accepted y)
bound-passed (refused r) f e = absurd (refused-not-accepted e)
bound-passed (accepted x) f e = (x, refl, e)

-- what is gone on with refuses as the answer does, or as what follows
pub bound-refused : {A B : Type 0} (a : Answer A) (f : A → Answer B) {n at : ℕ} → (◌>>=◌ a f ≡ refuse n at) ↔ ((a ≡ refuse n at) ⊎ ((x : A) × (a ≡ accepted x) × (f x ≡ refuse n at)))
bound-refused (refused r) f = (λ e. inl (ap refused (same e)), λ w. ⊎_elim (λ e. ap refused (same e)) (λ v. absurd (refused-not-accepted v.1)) w)
  where
    same : {X : Type 0} {q : Refusal} → ◌≡◌ {A = Answer X} (refused r) (refused q) → r ≡ q
    same e = cc
bound-refused (accepted x) f = (
  λ e. inr (x, refl, e),
  λ w. ⊎_elim (λ e. absurd (refused-not-accepted (sym e))) (λ v. rw (accepted-same v.1) v.2) w,
)

-- and accepts as what follows does
pub bound-accepted : {A B : Type 0} (a : Answer A) (f : A → Answer B) {y : B} → (◌>>=◌ a f ≡ accepted y) ↔ ((x : A) × (a ≡ accepted x) × (f x ≡ accepted y))
bound-accepted a f = (bound-passed a f, λ w. rw w.1 w.2)
