-- What the marks tell that `array::from_fn` makes. Assumes nothing.
use Rattle.std.specs.Prelude.{ℕ, ◌<◌, ◌≡◌, refl, Bool, true, false, List, get_or}
use Rattle.std.specs.Array.{IsFromFnResult}
use Rattle.std.specs.Fn.{Called}
use Rattle.std.specs.Iterator.Runs.{CallKeepsClosure}
use Rattle.std.proofs.Common.{arith, sym, ◌∙◌}
use Rattle.std.proofs.Math.Decide.{dec_lt}
use Rattle.std.proofs.Math.ListN.{get_or-eq_default}
use Rattle.std.proofs.lemmas.Bool.{false≢true}
use Rattle.rows.specs.laws.Ranges.{from_fn-at}
use denote.Param.Members.{Mut}

module _ {F : Type 0} {g : Mut F (ℕ × Unit {0}) Bool} {f : F} (keeps : CallKeepsClosure g f) {marks : List Bool} {n : ℕ} (made : IsFromFnResult g f marks n)
    (P : ℕ → Type 0) (is : (x : ℕ) → Called g f (x, tt) true f → P x) (not : (x : ℕ) → Called g f (x, tt) false f → P x → ⊥) where
  told : (k : ℕ) (b : Bool) → Called g f (k, tt) b f → (b ≡ true → P k) × (P k → b ≡ true)
  told k true c = (λ e. is k c, λ p. refl)
  told k false c = (λ e. absurd (false≢true e), λ p. absurd (not k c p))

  -- a mark stands only within them
  within : (k : ℕ) → get_or marks k false ≡ true → k < n
  within k o = go (dec_lt k n)
    where
      go : Dec (k < n) → k < n
      go (yes l) = l
      go (no h) = absurd (false≢true (sym (get_or-eq_default marks false {n = k} (omega (arith, made.long))) ∙ o))

  -- a mark stands exactly where the closure's answer says so
  pub made-marks : (k : ℕ) → (get_or marks k false ≡ true → P k) × (k < n → P k → get_or marks k false ≡ true)
  made-marks k = (λ o. (told k _ (from_fn-at keeps made k false (within k o))).0 o, λ l p. (told k _ (from_fn-at keeps made k false l)).1 p)

-- the same of marks that a test gives
module _ {F : Type 0} {g : Mut F (ℕ × Unit {0}) Bool} {f : F} (keeps : CallKeepsClosure g f) {marks : List Bool} {n : ℕ} (made : IsFromFnResult g f marks n)
    (test : ℕ → Bool) (is : (x : ℕ) → Called g f (x, tt) true f → test x ≡ true) (not : (x : ℕ) → Called g f (x, tt) false f → test x ≡ false) where
  pub made-as : (k : ℕ) → k < n → get_or marks k false ≡ test k
  made-as k l = go _ (from_fn-at keeps made k false l)
    where
      go : (b : Bool) → Called g f (k, tt) b f → b ≡ test k
      go true c = sym (is k c)
      go false c = sym (not k c)
