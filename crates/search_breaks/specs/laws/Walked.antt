-- A walk through a list in parts, and through entries after one more move. Assumes nothing.
use Prim.Native.Nat.{ℕ, zero, suc, ◌+◌, ◌-◌, ◌≤◌}
use native.Mathlib.Omega.{arith}
use Rattle.std.proofs.Math.Path.{◌≡◌, refl, sym, ap}
use Rattle.std.proofs.Common.{◌∙◌, subst}
use mathlib.Core.List.{List, [], ◌∷◌, ◌++◌, map, Memᴰ}
use Rattle.std.proofs.Math.Option.{Option, none, some, some-injective, none-ne-some}
use Rattle.std.proofs.Math.ListN.{length}
use Rattle.semantics.specs.State.{Claim}
use Rattle.semantics.specs.Verdict.{Entry, Finding, found, nothing, cut, later, walked}
use Rattle.semantics.proofs.laws.List.{mem-get_elem}
use Rattle.semantics.proofs.laws.Verdict.{Walked, walked_found, walked_all, walked_cut, walked-view}

-- what is found so many entries later
abbrev pub later_by : ℕ → Finding → Finding
later_by n (found p e c) = found (n + p) e c
later_by n nothing = nothing
later_by n cut = cut

-- what is found in so many entries and, if that is nothing, in those behind them
abbrev pub continued : ℕ → Finding → Finding → Finding
continued n (found p e c) g = found p e c
continued n nothing g = later_by n g
continued n cut g = cut

-- the first entry, or else what is found behind it
abbrev first_or : Entry → Option Claim → Finding → Finding
first_or x o f = elim o [ some c ↦ found 1 x c | none ↦ later f ]

by_zero : (f : Finding) → later_by 0 f ≡ f
by_zero (found p e c) = let z : 0 + p ≡ p = omega arith in ap (λ (m : ℕ). found m e c) z
by_zero nothing = refl
by_zero cut = refl

later-by : (n : ℕ) (g : Finding) → later (later_by n g) ≡ later_by (suc n) g
later-by n (found p e c) = let z : suc (n + p) ≡ suc n + p = omega arith in ap (λ (m : ℕ). found m e c) z
later-by n nothing = refl
later-by n cut = refl

later-continued : (n : ℕ) (f g : Finding) → later (continued n f g) ≡ continued (suc n) (later f) g
later-continued n (found p e c) g = refl
later-continued n nothing g = later-by n g
later-continued n cut g = refl

module _ (judge : Entry → Option Claim) where
  -- a list in two parts
  pub walked-append : (left : ℕ) (xs ys : List Entry) → walked judge left (xs ++ ys) ≡ continued (length xs) (walked judge left xs) (walked judge (left - length xs) ys)
  unfolding walked
  walked-append left [] ys = let z : left - 0 ≡ left = omega arith in sym (by_zero (walked judge (left - 0) ys) ∙ ap (λ (m : ℕ). walked judge m ys) z)
  walked-append zero (x ∷ xs) ys = refl
  walked-append (suc left) (x ∷ xs) ys = go (judge x) (walked-append left xs ys)
    where
      go : (o : Option Claim) → walked judge left (xs ++ ys) ≡ continued (length xs) (walked judge left xs) (walked judge (left - length xs) ys)
          → first_or x o (walked judge left (xs ++ ys)) ≡ continued (suc (length xs)) (first_or x o (walked judge left xs)) (walked judge (suc left - suc (length xs)) ys)
      go (some c) e = refl
      go none e =
          let z : left - length xs ≡ suc left - suc (length xs) = omega arith in
          ap later e ∙ later-continued (length xs) (walked judge left xs) (walked judge (left - length xs) ys)
          ∙ ap (λ (m : ℕ). continued (suc (length xs)) (later (walked judge left xs)) (walked judge m ys)) z

  -- nothing is found only if the budget is enough
  pub nothing-within : (left : ℕ) (es : List Entry) → walked judge left es ≡ nothing → length es ≤ left
  unfolding walked
  nothing-within left [] e = omega arith
  nothing-within zero (x ∷ es) e = absurd (cut-nothing e)
    where
      is_cut : Finding → ℕ
      is_cut (found p e c) = 0
      is_cut nothing = 0
      is_cut cut = 1

      cut-nothing : cut ≡ nothing → ⊥
      cut-nothing q = let z : ◌≡◌ {A = ℕ} 1 0 = ap is_cut q in omega arith
  nothing-within (suc left) (x ∷ es) e = go (judge x) e (nothing-within left es)
    where
      is-found : Finding → ℕ
      is-found (found p e c) = 1
      is-found nothing = 0
      is-found cut = 0

      is_cut : Finding → ℕ
      is_cut (found p e c) = 0
      is_cut nothing = 0
      is_cut cut = 1

      found_nothing : (p : ℕ) (y : Entry) (c : Claim) → found p y c ≡ nothing → ⊥
      found_nothing p y c q = let z : ◌≡◌ {A = ℕ} 1 0 = ap is-found q in omega arith

      earlier : (f : Finding) → later f ≡ nothing → f ≡ nothing
      earlier (found p y c) q = absurd (found_nothing (suc p) y c q)
      earlier nothing q = refl
      earlier cut q = let z : ◌≡◌ {A = ℕ} 1 0 = ap is_cut q in absurd (omega arith)

      go : (o : Option Claim) → ◌≡◌ {A = Finding} (elim o [ some c ↦ found 1 x c | none ↦ later (walked judge left es) ]) nothing → (walked judge left es ≡ nothing → length es ≤ left) → length (x ∷ es) ≤ suc left
      go (some c) q rest = absurd (found_nothing 1 x c q)
      go none q rest = let l = rest (earlier (walked judge left es) q) in omega arith

  -- entries that are changed but judged alike
  abbrev pub changed : (Entry → Entry) → Finding → Finding
  changed f (found p e c) = found p (f e) c
  changed f nothing = nothing
  changed f cut = cut

  later-changed : (f : Entry → Entry) (g : Finding) → later (changed f g) ≡ changed f (later g)
  later-changed f (found p e c) = refl
  later-changed f nothing = refl
  later-changed f cut = refl

  pub walked-map : (f : Entry → Entry) → ((e : Entry) → judge (f e) ≡ judge e) → (left : ℕ) (es : List Entry) → walked judge left (map f es) ≡ changed f (walked judge left es)
  unfolding walked
  walked-map f same left [] = refl
  walked-map f same zero (x ∷ es) = refl
  walked-map f same (suc left) (x ∷ es) = go (judge (f x)) (judge x) (same x) (walked-map f same left es)
    where
      go : (o p : Option Claim) → o ≡ p → walked judge left (map f es) ≡ changed f (walked judge left es)
          → ◌≡◌ {A = Finding} (elim o [ some c ↦ found 1 (f x) c | none ↦ later (walked judge left (map f es)) ]) (changed f (elim p [ some c ↦ found 1 x c | none ↦ later (walked judge left es) ]))
      go (some c) (some c') q e = ap (λ (z : Claim). found 1 (f x) z) (some-injective c c' q)
      go (some c) none q e = absurd (none-ne-some c (sym q))
      go none (some c) q e = absurd (none-ne-some c q)
      go none none q e = ap later e ∙ later-changed f (walked judge left es)

  -- a break is found within the budget, at an entry of the list
  pub found_within : (left : ℕ) (es : List Entry) {p : ℕ} {e : Entry} {c : Claim} → walked judge left es ≡ found p e c → (p ≤ left) × Memᴰ e es
  found_within left es {p} {e} {c} q = go (walked-view judge left es) q
    where
      is-found : Finding → ℕ
      is-found (found p e c) = 1
      is-found nothing = 0
      is-found cut = 0

      place : Finding → ℕ
      place (found p e c) = p
      place nothing = 0
      place cut = 0

      entry : Finding → Entry
      entry (found p e c) = e
      entry nothing = e
      entry cut = e

      go : {f : Finding} → Walked judge left es f → f ≡ found p e c → (p ≤ left) × Memᴰ e es
      go (walked_found {e = e'} {c = c'} i l at j before) r =
          let z : suc i ≡ p = ap place r in
          let same : e' ≡ e = ap entry r in
          (omega arith, subst (λ (x : Entry). Memᴰ x es) same ((mem-get_elem es).1 (i, at)))
      go (walked_all l all) r = let z : ◌≡◌ {A = ℕ} 0 1 = ap is-found r in absurd (omega arith)
      go (walked_cut l all) r = let z : ◌≡◌ {A = ℕ} 0 1 = ap is-found r in absurd (omega arith)
