-- What right classes say of values, and how they stay right. Assumes nothing.
use Rattle.std.specs.Prelude.{ℕ, zero, suc, ◌<◌, ◌≤◌, ◌≡◌, refl, ◌⊎◌, length, set, replicate}
use Rattle.std.proofs.Common.{arith, ap, ◌∙◌}
use Rattle.std.proofs.Math.Decide.{ℕ_discrete}
use Rattle.std.proofs.Math.Path.{sym}
use Rattle.std.proofs.Math.Logic.{inl, inr, ⊎_elim}
use mathlib.Core.List.Memᴰ.{head as here}
use mathlib.Core.List.{List, Memᴰ}
use Rattle.std.proofs.Math.Option.{Option, none, some, some-injective, none-ne-some}
use Rattle.std.proofs.Math.ListN.{get_or, length-set}
use Rattle.std.proofs.lemmas.List.{length-replicate}
use Rattle.std.proofs.Math.Seq.{get_or-set_same, get_or-set_other}
use Rattle.semantics.specs.Term.{Term}
use Rattle.semantics.specs.Table.{Row, atomic, pk_of, sk_of, shared_of, pair_of, encrypted_of}
use Rattle.semantics.specs.Value.{value_of}
use Rattle.semantics.specs.Guarantee.{refers_to, GoodTable}
use Rattle.semantics.proofs.laws.Test.{There}
use Rattle.semantics.proofs.laws.Value.{row_value, value-unfolds, row-induction}
use Rattle.cells.specs.Cells.{cell_of, absent, Within, cell_value}
use Rattle.classes.specs.Classes.{Stands, by_name, by_cell, Classes}

-- a cell tells its row and its run
cell_same : {r u x w : ℕ} → r < 96 → x < 96 → cell_of r u ≡ cell_of x w → (r ≡ x) × (u ≡ w)
cell_same l k e = (omega arith, omega arith)

-- what stands for a value stands for no other
stands_one : {rows : List Row} {value : ℕ → ℕ → Option Term} {x w : ℕ} {t s : Term} → Stands rows value x w t → Stands rows value x w s → t ≡ s
stands_one {t = t} {s = s} (by_name {a = a} p c e) (by_name {a = b} q d f) = let same = some-injective a b (sym p ∙ q) in e ∙ rw same (sym f)
stands_one (by_name {a = a} p c e) (by_cell q f) = absurd (none-ne-some a (sym q ∙ p))
stands_one (by_cell p e) (by_name {a = b} q d f) = absurd (none-ne-some b (sym p ∙ q))
stands_one {t = t} {s = s} (by_cell p e) (by_cell q f) = some-injective t s (sym e ∙ f)

-- what stands for a value still does where values stay
pub stands-kept : {rows : List Row} {value value' : ℕ → ℕ → Option Term} {x w : ℕ} {t : Term} → (value x w ≡ some t → value' x w ≡ some t)
    → Stands rows value x w t → Stands rows value' x w t
stands-kept keep (by_name p c e) = by_name p c e
stands-kept keep (by_cell p e) = by_cell p (keep e)

-- classes are right for other values that are equal
pub classes-same : {rows : List Row} {runs : ℕ} {value value' : ℕ → ℕ → Option Term} {classes : List ℕ}
    → ((r u : ℕ) → Within rows runs r u → value r u ≡ value' r u) → Classes rows runs value classes → Classes rows runs value' classes
classes-same same right = record {
  size = right.size;
  none = λ r u w e. right.none r u w (same r u w ∙ e);
  stands = λ r u t w e. let s = right.stands r u t w (same r u w ∙ e) in (s.0, s.1, s.2, s.3, stands-kept (λ f. sym (same s.0 s.1 s.3) ∙ f) s.4);
  same = λ r u r' u' t w w' e e'. right.same r u r' u' t w w' (same r u w ∙ e) (same r' u' w' ∙ e');
}

module _ {rows : List Row} {runs : ℕ} (good : GoodTable rows) (few : runs ≤ 4) where
  -- a cell has a number below the one for no value
  within-cell : {r u : ℕ} → Within rows runs r u → cell_of r u < absent
  within-cell w = omega (arith, good.few, w.row, w.run)

  within_same : {r u x v : ℕ} → Within rows runs r u → Within rows runs x v → cell_of r u ≡ cell_of x v → (r ≡ x) × (u ≡ v)
  within_same w k e = cell_same (omega (arith, good.few, w.row)) (omega (arith, good.few, k.row)) e

  module _ {value : ℕ → ℕ → Option Term} {classes : List ℕ} (right : Classes rows runs value classes) where
    -- a cell with a value has a class
    pub classes-present : {r u : ℕ} {t : Term} → Within rows runs r u → value r u ≡ some t → get_or classes (cell_of r u) absent < absent
    classes-present {r} {u} {t} w e = let s = right.stands r u t w e in rw s.2 (within-cell s.3)

    -- a cell without a class has no value
    pub classes-none : {r u : ℕ} → Within rows runs r u → absent ≤ get_or classes (cell_of r u) absent → value r u ≡ none
    classes-none {r} {u} w l = go (value r u) refl
      where
        go : (o : Option Term) → value r u ≡ o → value r u ≡ none
        go none e = e
        go (some t) e = absurd (omega (arith, classes-present w e))

    -- a cell with a class has a value
    pub classes-there : {r u : ℕ} → Within rows runs r u → (get_or classes (cell_of r u) absent ≡ absent → ⊥) → There (value r u)
    classes-there {r} {u} w h = go (value r u) refl
      where
        go : (o : Option Term) → value r u ≡ o → There (value r u)
        go none e = absurd (h (right.none r u w e))
        go (some t) e = (t, e)

    -- cells with equal classes have equal values
    pub classes-equal : {r u x v : ℕ} → Within rows runs r u → Within rows runs x v → get_or classes (cell_of r u) absent ≡ get_or classes (cell_of x v) absent
        → value r u ≡ value x v
    classes-equal {r} {u} {x} {v} w k e = go (value r u) refl (value x v) refl
      where
        go : (o : Option Term) → value r u ≡ o → (p : Option Term) → value x v ≡ p → value r u ≡ value x v
        go none f none g = f ∙ sym g
        go none f (some s) g = absurd (omega (arith, right.none r u w f, classes-present k g))
        go (some t) f none g = absurd (omega (arith, classes-present w f, right.none x v k g))
        go (some t) f (some s) g =
            let a = right.stands r u t w f in
            let b = right.stands x v s k g in
            let at = within_same a.3 b.3 (sym a.2 ∙ e ∙ b.2) in
            f ∙ ap some (stands_one a.4 (rw (← at.0, ← at.1) at b.4)) ∙ sym g

    -- cells with equal values have equal classes
    pub values-equal : {r u x v : ℕ} → Within rows runs r u → Within rows runs x v → value r u ≡ value x v
        → get_or classes (cell_of r u) absent ≡ get_or classes (cell_of x v) absent
    values-equal {r} {u} {x} {v} w k e = go (value r u) refl
      where
        go : (o : Option Term) → value r u ≡ o → get_or classes (cell_of r u) absent ≡ get_or classes (cell_of x v) absent
        go none f = right.none r u w f ∙ sym (right.none x v k (sym e ∙ f))
        go (some t) f = right.same r u x v t w k f (sym e ∙ f)

-- The class of a cell suits a value that the cell gets: none for none, and that of the cells with its value.
pub data Suits (rows : List Row) (runs : ℕ) (value value' : ℕ → ℕ → Option Term) (classes : List ℕ) (x u class : ℕ) : Type 0 where
  suits_none : value' x u ≡ none → class ≡ absent → Suits rows runs value value' classes x u class
  suits_some :
      (t : Term) (y w : ℕ) → value' x u ≡ some t → class ≡ cell_of y w → Within rows runs y w → Stands rows value' y w t
      → ((r v : ℕ) → Within rows runs r v → value r v ≡ some t → get_or classes (cell_of r v) absent ≡ class) → Suits rows runs value value' classes x u class

module _ {rows : List Row} {runs : ℕ} (good : GoodTable rows) (few : runs ≤ 4) {value value' : ℕ → ℕ → Option Term} {classes : List ℕ} {x u : ℕ} (class : ℕ)
    (right : Classes rows runs value classes) (within : Within rows runs x u) (before : value x u ≡ none)
    (elsewhere : (r v : ℕ) → (r ≡ x → v ≡ u → ⊥) → value r v ≡ value' r v) where
  after : List ℕ
  after = set classes (cell_of x u) class

  -- the classes once one cell has another
  own : get_or after (cell_of x u) absent ≡ class
  unfolding after
  own = get_or-set_same classes (cell_of x u) class absent (omega (arith, right.size, within-cell good few within))

  -- a cell is the one that gets a value, or keeps its value and its class
  other : (r v : ℕ) → Within rows runs r v → ((x ≡ r) × (u ≡ v)) ⊎ ((value r v ≡ value' r v) × (get_or after (cell_of r v) absent ≡ get_or classes (cell_of r v) absent))
  unfolding after
  other r v w = go (ℕ_discrete (cell_of r v) (cell_of x u))
    where
      go : Dec (cell_of r v ≡ cell_of x u) → ((x ≡ r) × (u ≡ v)) ⊎ ((value r v ≡ value' r v) × (get_or after (cell_of r v) absent ≡ get_or classes (cell_of r v) absent))
      go (yes e) = inl (within_same good few within w (sym e))
      go (no n) = inr (elsewhere r v (λ p q. n (rw (p, q))), get_or-set_other classes (cell_of x u) (cell_of r v) class absent n)

  -- so a value stays
  kept : {r v : ℕ} {t : Term} → Within rows runs r v → value r v ≡ some t → value' r v ≡ some t
  kept {r} {v} {t} w e = ⊎_elim (λ s. absurd (none-ne-some t (sym before ∙ rw (← s.0, ← s.1) at e))) (λ o. sym o.0 ∙ e) (other r v w)

  -- a value is that of the cell that gets it, or was there before
  pick : {P : Type 0} {r v : ℕ} {t : Term} → Within rows runs r v → value' r v ≡ some t → (value' x u ≡ some t → get_or after (cell_of r v) absent ≡ class → P)
      → (value r v ≡ some t → get_or after (cell_of r v) absent ≡ get_or classes (cell_of r v) absent → P) → P
  pick {r = r} {v = v} w e gets had = ⊎_elim
      (λ s. gets (rw (← s.0, ← s.1) at e) (rw (← s.0, ← s.1) own))
      (λ o. had (o.0 ∙ e) o.1)
      (other r v w)

  -- what a class that suits a value says
  suits-none : Suits rows runs value value' classes x u class → value' x u ≡ none → class ≡ absent
  suits-none (suits_none e c) f = c
  suits-none (suits_some t y w e c i s a) f = absurd (none-ne-some t (sym f ∙ e))

  suits-stands : {t : Term} → Suits rows runs value value' classes x u class → value' x u ≡ some t
      → (y : ℕ) × (w : ℕ) × (class ≡ cell_of y w) × Within rows runs y w × Stands rows value' y w t
  suits-stands {t} (suits_none e c) f = absurd (none-ne-some t (sym e ∙ f))
  suits-stands {t} (suits_some s y w e c i h a) f = (y, w, c, i, rw (some-injective t s (sym f ∙ e)) h)

  suits-same : {t : Term} {r v : ℕ} → Suits rows runs value value' classes x u class → value' x u ≡ some t → Within rows runs r v → value r v ≡ some t
      → get_or classes (cell_of r v) absent ≡ class
  suits-same {t} (suits_none e c) f w g = absurd (none-ne-some t (sym e ∙ f))
  suits-same {t} {r} {v} (suits_some s y z e c i h a) f w g = a r v w (g ∙ sym f ∙ e)

  -- classes stay right if a cell gets a value and a class that suits it
  pub classes-put : Suits rows runs value value' classes x u class → Classes rows runs value' (set classes (cell_of x u) class)
  unfolding after
  classes-put suits = record {
    size = length-set classes (cell_of x u) class ∙ right.size;
    none = λ r v w e. ⊎_elim
        (λ s. rw (← s.0, ← s.1) (own ∙ suits-none suits (rw (← s.0, ← s.1) at e)))
        (λ o. o.1 ∙ right.none r v w (o.0 ∙ e))
        (other r v w);
    stands = λ r v t w e. pick w e
        (λ f c. let s = suits-stands suits f in (s.0, s.1, c ∙ s.2, s.3, s.4))
        (λ f c. let s = right.stands r v t w f in (s.0, s.1, c ∙ s.2, s.3, stands-kept (kept s.3) s.4));
    same = λ r v r' v' t w w' e e'. pick w e
        (λ f c. pick w' e' (λ f' c'. c ∙ sym c') (λ f' c'. c ∙ sym (c' ∙ suits-same suits f w' f')))
        (λ f c. pick w' e' (λ f' c'. c ∙ suits-same suits f' w f ∙ sym c') (λ f' c'. c ∙ right.same r v r' v' t w w' f f' ∙ sym c'));
  }

-- a row has no value if no atom has one
row-none : (value : ℕ → Option Term) (row : Row) → ((r : ℕ) → Memᴰ r (refers_to row) → value r ≡ none) → row_value (λ a. none) value row ≡ none
row-none value (atomic a) h = refl
row-none value (pk_of a) h = rw (h a (here refl))
row-none value (sk_of a) h = rw (h a (here refl))
row-none value (shared_of a b) h = rw (h a (here refl))
row-none value (pair_of l r) h = rw (h l (here refl))
row-none value (encrypted_of l r) h = rw (h l (here refl))

-- the same everywhere, and as the default
replicate-any : {A : Type 0} (n i : ℕ) (a : A) → get_or (replicate n a) i a ≡ a
replicate-any zero i a = refl
replicate-any (suc n) zero a = refl
replicate-any (suc n) (suc i) a = replicate-any n i a

-- where nothing stands for anything, cells have no classes
pub no-values : (rows : List Row) (runs : ℕ) → GoodTable rows → Classes rows runs (cell_value (λ u a. none) rows) (replicate 480 480)
no-values rows runs good = record {
  size = length-replicate {A = ℕ} 480 480;
  none = λ r u w e. replicate-any {A = ℕ} 480 (cell_of r u) 480;
  stands = λ r u t w e. absurd (none-ne-some t (sym (nothing r w.row) ∙ e));
  same = λ r u r' u' t w w' e. absurd (none-ne-some t (sym (nothing r w.row) ∙ e));
}
  where
    nothing : (r : ℕ) → r < length rows → value_of (λ a. none) rows r ≡ none
    nothing = row-induction good (λ r. value_of (λ a. none) rows r ≡ none) (λ r row e below. value-unfolds good (λ a. none) r e ∙ row-none (value_of (λ a. none) rows) row below)
