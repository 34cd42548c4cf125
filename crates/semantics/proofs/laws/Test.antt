-- Laws of tests, decisions and what may be missing. Assumes nothing.
use Rattle.std.specs.Prelude.{◌≡◌, refl, ◌↔◌, ◌⊎◌, Bool, true, false, ◌&&◌, ◌||◌, not, [], ◌∷◌, ℕ, ◌<◌, ◌≤◌, T, ltb, leb, eqb}
use Rattle.std.proofs.Common.{sym, ap, inl, inr, ⊎_elim, ltb→lt, lt→ltb, leb→le, le→leb, eqb→eq}
use Rattle.std.proofs.Math.Option.{Option, none, some, some-injective, none-ne-some}
use Rattle.std.proofs.Math.Dec.{eqb_refl}
use Rattle.semantics.specs.Basic.{decided, present, and_then, mapped, mapped₂, provided, first_of}

-- two tests pass
pub both_left : (a b : Bool) → T (a && b) → T a
both_left true b t = tt
both_left false b t = t

pub both_right : (a b : Bool) → T (a && b) → T b
both_right true b t = t
both_right false b t = absurd t

pub both : (a b : Bool) → T a → T b → T (a && b)
both true b x y = y
both false b x y = x

-- three tests pass
pub all_three : (a b c : Bool) → T (a && b && c) ↔ (T a × T b × T c)
all_three true true c = (λ t. (tt, tt, t), λ w. w.2)
all_three true false c = (λ t. absurd t, λ w. w.1)
all_three false b c = (λ t. absurd t, λ w. w.0)

-- four and five tests pass
pub four-tests : (a b c d : Bool) → T a → T b → T c → T d → T (a && b && c && d)
four-tests a b c d x y z u = both (a && b && c) d ((all_three a b c).1 (x, y, z)) u

pub five-tests : (a b c d e : Bool) → T a → T b → T c → T d → T e → T (a && b && c && d && e)
five-tests a b c d e x y z u v = both (a && b && c && d) e (four-tests a b c d x y z u) v

-- one of two tests passes
pub either_left : (a b : Bool) → T a → T (a || b)
either_left true b t = tt
either_left false b t = absurd t

pub either-right : (a b : Bool) → T b → T (a || b)
either-right true b t = tt
either-right false b t = t

pub either-cases : (a b : Bool) → T (a || b) → T a ⊎ T b
either-cases true b t = inl tt
either-cases false b t = inr t

-- a test passes, or two others both do
pub either-both : (a b c : Bool) → T b → T c → T (a || (b && c))
either-both a b c x y = either-right a (b && c) (both b c x y)

pub either-both-cases : (a b c : Bool) → T (a || (b && c)) → T a ⊎ (T b × T c)
either-both-cases true b c t = inl tt
either-both-cases false b c t = inr (both_left b c t, both_right b c t)

-- a test that does not hold
pub not_iff : (a : Bool) → T (not a) ↔ ¬ T a
not_iff true = (λ t u. t, λ n. n tt)
not_iff false = (λ t u. u, λ n. tt)

-- a test that does not fail passes
pub not-not : (a : Bool) → ¬ T (not a) → T a
not-not true n = tt
not-not false n = n tt

-- two tests that pass together are equal
pub same_test : (a b : Bool) → T a ↔ T b → a ≡ b
same_test true true e = refl
same_test true false e = absurd (e.0 tt)
same_test false true e = absurd (e.1 tt)
same_test false false e = refl

-- a test that passes is true, and one that does not is false
pub passes-true : (a : Bool) → T a → a ≡ true
passes-true true t = refl
passes-true false t = absurd t

pub fails-false : (a : Bool) → ¬ T a → a ≡ false
fails-false true n = absurd (n tt)
fails-false false n = refl

-- a test is decided
pub test-dec : (a : Bool) → Dec (T a)
test-dec true = yes tt
test-dec false = no (λ t. t)

-- a decision says yes exactly of what holds
pub decided-holds : {A : Type 0} (d : Dec A) → T (decided d) → A
decided-holds (yes a) t = a
decided-holds (no n) t = absurd t

pub holds-decided : {A : Type 0} (d : Dec A) → A → T (decided d)
holds-decided (yes a) x = tt
holds-decided (no n) x = n x

module _ {A : Type 0} where
  -- a value is given exactly where the test passes
  pub provided-some : (b : Bool) {a x : A} → (provided b a ≡ some x) ↔ (T b × (x ≡ a))
  provided-some true {a} {x} = (λ e. (tt, sym (some-injective a x e)), λ w. ap some (sym w.1))
  provided-some false {x = x} = (λ e. absurd (none-ne-some x e), λ w. absurd w.0)

  -- and so is what may be missing
  pub guarded-some : (b : Bool) {o : Option A} {x : A} → (◌≡◌ {A = Option A} (elim b [ true ↦ o | false ↦ none ]) (some x)) ↔ (T b × (o ≡ some x))
  guarded-some true = (λ e. (tt, e), λ w. w.1)
  guarded-some false {x = x} = (λ e. absurd (none-ne-some x e), λ w. absurd w.0)

module _ {A B : Type 0} where
  -- what follows from a value is there exactly if the value is and gives it
  pub and_then-some : (o : Option A) (f : A → Option B) {y : B} → (and_then o f ≡ some y) ↔ ((x : A) × (o ≡ some x) × (f x ≡ some y))
  and_then-some none f {y} = (λ e. absurd (none-ne-some y e), λ w. absurd (none-ne-some w.0 w.1))
  and_then-some (some x) f = (λ e. (x, refl, e), λ w. rw (← some-injective x w.0 w.1) at w.2)

  -- the image of a value is there exactly if the value is
  pub mapped-some : (f : A → B) (o : Option A) {y : B} → (mapped f o ≡ some y) ↔ ((x : A) × (o ≡ some x) × (y ≡ f x))
  mapped-some f none {y} = (λ e. absurd (none-ne-some y e), λ w. absurd (none-ne-some w.0 w.1))
  mapped-some f (some x) {y} = (λ e. (x, refl, sym (some-injective (f x) y e)), λ w. cc)

-- two values joined are there exactly if both are
pub mapped₂-some : {A B C : Type 0} (f : A → B → C) (o : Option A) (p : Option B) {z : C}
    → (mapped₂ f o p ≡ some z) ↔ ((x : A) × (y : B) × (o ≡ some x) × (p ≡ some y) × (z ≡ f x y))
mapped₂-some f none p {z} = (λ e. absurd (none-ne-some z e), λ w. absurd (none-ne-some w.0 w.2))
mapped₂-some f (some x) none {z} = (λ e. absurd (none-ne-some z e), λ w. absurd (none-ne-some w.1 w.3))
mapped₂-some f (some x) (some y) {z} = (λ e. (x, y, refl, refl, sym (some-injective (f x y) z e)), λ w. cc)

-- a value that is there
pub present-some : {A : Type 0} (o : Option A) → T (present o) → (a : A) × (o ≡ some a)
present-some none t = absurd t
present-some (some a) t = (a, refl)

pub has_value-iff : {A : Type 0} (o : Option A) → T (present o) ↔ ((x : A) × (o ≡ some x))
has_value-iff o = (present-some o, λ w. rw w.1 tt)

-- where a failed test gives a value, there is none only if the test passes
pub passed_none : {A : Type 0} (a : Bool) (o : Option A) (x : A) → ◌≡◌ {A = Option A} (elim a [ true ↦ o | false ↦ some x ]) none → T a × (o ≡ none)
passed_none true o x e = (tt, e)
passed_none false o x e = absurd (none-ne-some x (sym e))

-- and then there is none if there is none otherwise
pub passed-gives : {A : Type 0} (a : Bool) (o : Option A) (x : A) → T a → o ≡ none → ◌≡◌ {A = Option A} (elim a [ true ↦ o | false ↦ some x ]) none
passed-gives true o x t e = e
passed-gives false o x t e = absurd t

-- there is no value only where the test fails
pub provided-none : {A : Type 0} (a : Bool) (x : A) → provided a x ≡ none → ¬ T a
provided-none true x e t = none-ne-some x (sym e)
provided-none false x e t = t

-- and there is none where it does
pub failed-none : {A : Type 0} (a : Bool) (x : A) → ¬ T a → provided a x ≡ none
failed-none true x n = absurd (n tt)
failed-none false x n = refl

-- where a missing value gives a value, there is none only if the value is there and gives none
pub found_none : {A B : Type 0} (o : Option A) (f : A → Option B) (x : B) → ◌≡◌ {A = Option B} (elim o [ none ↦ some x | some a ↦ f a ]) none → (a : A) × (o ≡ some a) × (f a ≡ none)
found_none none f x e = absurd (none-ne-some x (sym e))
found_none (some a) f x e = (a, refl, e)

-- and a value that is there gives what it gives
pub found-gives : {A B : Type 0} (o : Option A) (f : A → Option B) (x : B) {a : A} → o ≡ some a → ◌≡◌ {A = Option B} (elim o [ none ↦ some x | some a ↦ f a ]) (f a)
found-gives none f x {a} e = absurd (none-ne-some a e)
found-gives (some b) f x {a} e = ap f (some-injective b a e)

-- neither of two values is there
pub first_of-none : {A : Type 0} (o p : Option A) → first_of (o ∷ p ∷ []) ≡ none → (o ≡ none) × (p ≡ none)
first_of-none none none e = (refl, refl)
first_of-none none (some x) e = absurd (none-ne-some x (sym e))
first_of-none (some x) p e = absurd (none-ne-some x (sym e))

pub first_of-gives : {A : Type 0} (o p : Option A) → o ≡ none → p ≡ none → first_of (o ∷ p ∷ []) ≡ none
first_of-gives o p e f = rw (e, f) refl

-- each of several tests that pass
pub ruleset both-parts = (both_left, both_right)

-- a value that is there
abbrev pub There : {A : Type 0} → Option A → Type 0
There {A} o = (x : A) × (o ≡ some x)

pub none-there : {A P : Type 0} → There {A = A} none → P
none-there w = absurd (none-ne-some w.0 w.1)

-- what is not present is none
pub absent_none : {A : Type 0} (o : Option A) → T (not (present o)) → o ≡ none
absent_none none t = refl
absent_none (some x) t = absurd t

module _ {A B : Type 0} where
  -- what follows from a value is there if the value is and if that follows
  pub and_then-there : (f : A → Option B) (o : Option A) → There o → ((x : A) → o ≡ some x → There (f x)) → There (and_then o f)
  and_then-there f none w next = none-there w
  and_then-there f (some x) w next = next x refl

  -- a value is there before a function exactly if it is after it
  pub mapped-there : (f : A → B) (o : Option A) → There (mapped f o) ↔ There o
  mapped-there f none = (none-there, none-there)
  mapped-there f (some x) = (λ w. (x, refl), λ w. (f x, refl))

  -- two values joined are there exactly if both are
  pub mapped₂-there : {C : Type 0} (f : A → B → C) (o : Option A) (p : Option B) → There (mapped₂ f o p) ↔ (There o × There p)
  mapped₂-there f none p = (none-there, λ w. none-there w.0)
  mapped₂-there f (some x) none = (none-there, λ w. none-there w.1)
  mapped₂-there f (some x) (some y) = (λ w. ((x, refl), (y, refl)), λ w. (f x y, refl))

-- what numbers are compared by
pub ltb_iff : (m n : ℕ) → T (ltb m n) ↔ (m < n)
ltb_iff m n = (ltb→lt m n, lt→ltb m n)

pub leb-iff : (m n : ℕ) → T (leb m n) ↔ (m ≤ n)
leb-iff m n = (leb→le m n, le→leb m n)

pub eqb-iff : (m n : ℕ) → T (eqb m n) ↔ (m ≡ n)
eqb-iff m n = (eqb→eq m n, λ e. rw e (eqb_refl n))

-- both of two tests, and what each says
pub both_iff : {A B : Type 0} (a b : Bool) → T a ↔ A → T b ↔ B → T (a && b) ↔ (A × B)
both_iff a b e f = (λ t. (e.0 (both_left a b t), f.0 (both_right a b t)), λ w. both a b (e.1 w.0) (f.1 w.1))

-- where a failed test gives a value, what is given is that, or what there is otherwise
pub choice-some : {A : Type 0} (b : Bool) (o : Option A) (x y : A)
    → (◌≡◌ {A = Option A} (elim b [ true ↦ o | false ↦ some x ]) (some y)) ↔ ((T b × (o ≡ some y)) ⊎ ((¬ T b) × (y ≡ x)))
choice-some true o x y = (λ e. inl (tt, e), λ w. ⊎_elim (λ h. h.1) (λ h. absurd (h.0 tt)) w)
choice-some false o x y = (λ e. inr ((λ t. t), sym (some-injective x y e)), λ w. ⊎_elim (λ h. absurd h.0) (λ h. ap some (sym h.1)) w)
