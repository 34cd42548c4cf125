-- What lies beneath a row, found in one pass from that row down: each marked row marks its parts. Assumes nothing.
use Rattle.std.specs.Prelude.{ℕ, ◌+◌, ◌*◌, ◌<◌, ◌≤◌, ◌≡◌, refl, ◌⊎◌, Bool, true, false, cond, T, ltb, length, get_or, set, replicate}
use Rattle.std.proofs.Common.{eq-or-lt_of_le, arith, sym, ◌∙◌, inl, inr, ⊎_elim, length-set, get_or-set_same, get_or-set_other}
use Rattle.std.proofs.Math.Decide.{ℕ_discrete}
use Rattle.std.proofs.lemmas.Bool.{false≢true}
use mathlib.Core.List.Memᴰ
use mathlib.Core.List.{List, Memᴰ}
use Rattle.std.proofs.Math.Option.{some, some-injective}
use Rattle.std.proofs.Math.ListN.{get_elem?}
use Rattle.std.proofs.lemmas.List.{get_or-replicate}
use Rattle.semantics.specs.Table.{Row}
use Rattle.semantics.specs.Value.{beneath}
use Rattle.semantics.specs.Guarantee.{GoodTable, refers_to}
use Rattle.semantics.specs.Encoding.{RowBytes, trusted_bytes, untrusted_bytes, global_bytes, intruder_bytes, role_bytes, agent_variable_bytes, fresh_variable_bytes, local_bytes, public_bytes, secret_bytes, shared_bytes, pair_bytes, encrypted_bytes}
use Rattle.semantics.proofs.laws.Test.{same_test, passes-true}
use Rattle.semantics.proofs.laws.List.{mem-cases, get_elem-there, get_elem-below}
use Rattle.semantics.proofs.laws.Value.{row-induction, beneath-iff}
use Rattle.rows.specs.Rows.{rows_of, Sized, second_of}
use Rattle.rows.specs.laws.Table.{table-good}
use Rattle.cells.specs.laws.Cells.{parts-referred, row-there, row-decodes, left-lower, second-lower}
use Rattle.variables.specs.Variables.{Beneath, In, ClosedFrom}

-- a test that is true passes
true-passes : {b : Bool} → b ≡ true → T b
true-passes e = rw e tt

-- an atom refers to no row
no-parts : {k l r : ℕ} {row : Row} → RowBytes k l r row → k < 8 → (q : ℕ) → Memᴰ q (refers_to row) → ⊥
no-parts trusted_bytes h q m = Memᴰ.not-nil m
no-parts untrusted_bytes h q m = Memᴰ.not-nil m
no-parts global_bytes h q m = Memᴰ.not-nil m
no-parts intruder_bytes h q m = Memᴰ.not-nil m
no-parts (role_bytes i) h q m = Memᴰ.not-nil m
no-parts agent_variable_bytes h q m = Memᴰ.not-nil m
no-parts fresh_variable_bytes h q m = Memᴰ.not-nil m
no-parts local_bytes h q m = Memᴰ.not-nil m
no-parts public_bytes h q m = omega arith
no-parts secret_bytes h q m = omega arith
no-parts shared_bytes h q m = omega arith
no-parts pair_bytes h q m = omega arith
no-parts encrypted_bytes h q m = omega arith

-- any other row refers to its left and its second part, and to no other row
two-parts : {k l r : ℕ} {row : Row} → RowBytes k l r row → 8 ≤ k → (q : ℕ) → Memᴰ q (refers_to row) → (q ≡ l) ⊎ (q ≡ cond (ltb k 10) l r)
two-parts trusted_bytes h q m = absurd (omega arith)
two-parts untrusted_bytes h q m = absurd (omega arith)
two-parts global_bytes h q m = absurd (omega arith)
two-parts intruder_bytes h q m = absurd (omega arith)
two-parts (role_bytes i) h q m = absurd (omega arith)
two-parts agent_variable_bytes h q m = absurd (omega arith)
two-parts fresh_variable_bytes h q m = absurd (omega arith)
two-parts local_bytes h q m = absurd (omega arith)
two-parts public_bytes h q m = inl (Memᴰ.eq_of_singleton m)
two-parts secret_bytes h q m = inl (Memᴰ.eq_of_singleton m)
two-parts shared_bytes h q m = mem-cases m inl (λ n. inr (Memᴰ.eq_of_singleton n))
two-parts pair_bytes h q m = mem-cases m inl (λ n. inr (Memᴰ.eq_of_singleton n))
two-parts encrypted_bytes h q m = mem-cases m inl (λ n. inr (Memᴰ.eq_of_singleton n))

module _ {rows : List Row} (good : GoodTable rows) where
  -- a row lies beneath itself
  beneath-self : (i : ℕ) → i < length rows → T (beneath rows i i)
  beneath-self i l = (beneath-iff good i i (get_elem-there rows i l).1).1 (inl refl)

  -- the parts of a row lie beneath whatever the row lies beneath
  beneath-part : (z r : ℕ) {row : Row} → get_elem? rows z ≡ some row → Memᴰ r (refers_to row) → (i : ℕ) → i < length rows → T (beneath rows z i) → T (beneath rows r i)
  beneath-part z r {row} e m = row-induction good (λ i. T (beneath rows z i) → T (beneath rows r i)) λ i own f below t.
      ⊎_elim (λ (q : z ≡ i). let same = some-injective row own (sym e ∙ rw (← q) at f) in
      (beneath-iff good r i f).1 (inr (r, rw same at m, beneath-self r (omega (arith, good.lower z row e r m, get_elem-below rows z e)))))
      (λ w. (beneath-iff good r i f).1 (inr (w.0, w.1, below w.0 w.1 w.2)))
      ((beneath-iff good z i f).0 t)

  -- what lies beneath a marked row is marked, if the marks are closed
  closed-below : {x : ℕ} {below : List Bool} → ClosedFrom rows x 0 below → (y i : ℕ) → i < length rows → In below i → T (beneath rows y i) → In below y
  closed-below {x} {below} s y = row-induction good (λ i. In below i → T (beneath rows y i) → In below y) λ i row e deeper m t.
      ⊎_elim (λ (q : y ≡ i). rw q m) (λ w. deeper w.0 w.1 (s.closed i row e (omega arith) m w.0 w.1) w.2) ((beneath-iff good y i e).0 t)

-- a mark that is set
marked-set : (below : List Bool) (a y : ℕ) → In below y → length below ≡ 96 → a < 96 → In (set below a true) y
marked-set below a y m size l = go (ℕ_discrete y a)
  where
    go : Dec (y ≡ a) → In (set below a true) y
    go (yes e) = rw e (get_or-set_same below a true false (omega arith))
    go (no d) = get_or-set_other below a y true false d ∙ m

-- a mark after one is set is that one, or was there
set-marked : (below : List Bool) (a y : ℕ) → In (set below a true) y → (y ≡ a) ⊎ In below y
set-marked below a y m = go (ℕ_discrete y a)
  where
    go : Dec (y ≡ a) → (y ≡ a) ⊎ In below y
    go (yes e) = inl e
    go (no d) = inr (sym (get_or-set_other below a y true false d) ∙ m)

module _ {rows : List Row} {x : ℕ} where
  -- one mark more, of a row below those that are settled
  closed-set : {from a : ℕ} {below : List Bool} → a < from → a < 96 → T (beneath rows a x) → ClosedFrom rows x from below → ClosedFrom rows x from (set below a true)
  closed-set {from} {a} {below} low small t s = record {
    size = length-set below a true ∙ s.size;
    within = s.within;
    top = marked-set below a x s.top s.size small;
    sound = λ y l m. ⊎_elim (λ (e : y ≡ a). rw e t) (s.sound y l) (set-marked below a y m);
    closed = λ z row e l m r h. ⊎_elim (λ (q : z ≡ a). absurd (omega arith)) (λ k. marked-set below a r (s.closed z row e l k r h) s.size small) (set-marked below a z m);
  }

  -- one row more is settled
  closed-more : {r : ℕ} {below : List Bool} → ClosedFrom rows x (r + 1) below → ((row : Row) → get_elem? rows r ≡ some row → In below r → (q : ℕ) → Memᴰ q (refers_to row) → In below q)
      → ClosedFrom rows x r below
  closed-more {r} {below} s h = record {
    size = s.size;
    within = s.within;
    top = s.top;
    sound = s.sound;
    closed = λ z row e l m q k. ⊎_elim (λ (f : r ≡ z). h row (rw f e) (rw f m) q k) (λ (b : r < z). s.closed z row e (omega arith) m q k) (eq-or-lt_of_le l);
  }

-- the pass begins with the row itself
pub closed-start : (rows : List Row) (x : ℕ) → GoodTable rows → x < length rows → ClosedFrom rows x (x + 1) (set (replicate 96 false) x true)
closed-start rows x good l = record {
  size = length-set (replicate 96 false) x true;
  within = l;
  top = get_or-set_same (replicate 96 false) x true false (omega (arith, good.few));
  sound = λ y k m. ⊎_elim (λ (e : y ≡ x). rw e (beneath-self good x l)) (λ n. absurd (none y k n)) (set-marked (replicate 96 false) x y m);
  closed = λ z row e k m r h. ⊎_elim (λ (q : z ≡ x). absurd (omega arith)) (λ n. absurd (none z (get_elem-below rows z e) n)) (set-marked (replicate 96 false) x z m);
}
  where
    none : (y : ℕ) → y < length rows → In (replicate 96 false) y → ⊥
    none y k m = false≢true (sym (get_or-replicate 96 y false false (omega (arith, good.few))) ∙ m)

module _ (bytes : List ℕ) (n : ℕ) (sized : Sized bytes n) (r : ℕ) (low : r < n) where
  -- a row that is not marked has nothing to mark
  pub closed-unmarked : (below : List Bool) → get_or below r false ≡ false → (x : ℕ) → ClosedFrom (rows_of bytes) x (r + 1) below → ClosedFrom (rows_of bytes) x r below
  closed-unmarked below e x s = closed-more s (λ row f m. absurd (false≢true (sym e ∙ m)))

  -- nor has an atom
  pub closed-atom : (below : List Bool) → get_or bytes (3 * r) 0 < 8 → (x : ℕ) → ClosedFrom (rows_of bytes) x (r + 1) below → ClosedFrom (rows_of bytes) x r below
  closed-atom below h x s = closed-more s λ row f m q k.
      let w = row-there bytes n 0 sized r low in
      absurd (no-parts (row-decodes bytes n 0 sized r low) h q (rw (← some-injective w.0 row (sym w.1 ∙ f)) at k))

  -- a marked row marks its parts
  pub closed_parts : (below : List Bool) → In below r → 8 ≤ get_or bytes (3 * r) 0 → {a b : ℕ} → a ≡ get_or bytes (3 * r + 1) 0 → b ≡ second_of bytes r
      → (x : ℕ) → ClosedFrom (rows_of bytes) x (r + 1) below → ClosedFrom (rows_of bytes) x r (set (set below a true) b true)
  closed_parts below m h {a} {b} ea eb x s = closed-more both λ row f _ q k.
      ⊎_elim (λ e. let f : q ≡ a = e ∙ sym ea in marked-set (set below a true) b q (rw f (get_or-set_same below a true false (omega (arith, left-low, few)))) one.size (omega (arith, second-low, few)))
      (λ e. let f : q ≡ b = e ∙ sym eb in rw f (get_or-set_same (set below a true) b true false (omega (arith, one.size, second-low, few))))
      (two-parts decodes h q (rw (← some-injective own row (sym at-r ∙ f)) at k))
    where
      own : Row
      own = (row-there bytes n 0 sized r low).0

      at-r : get_elem? (rows_of bytes) r ≡ some own
      at-r = (row-there bytes n 0 sized r low).1

      decodes : RowBytes (get_or bytes (3 * r) 0) (get_or bytes (3 * r + 1) 0) (get_or bytes (3 * r + 2) 0) own
      decodes = row-decodes bytes n 0 sized r low

      refers : Memᴰ (get_or bytes (3 * r + 1) 0) (refers_to own) × Memᴰ (second_of bytes r) (refers_to own)
      refers = parts-referred decodes h

      left-low : a < r
      left-low = omega (arith, left-lower bytes n 0 sized r low h)

      second-low : b < r
      second-low = omega (arith, second-lower bytes n 0 sized r low h)

      few : n ≤ 96
      few = sized.few

      under : (q : ℕ) → Memᴰ q (refers_to own) → T (beneath (rows_of bytes) q x)
      under q k = beneath-part (table-good bytes sized.table) r q at-r k x s.within (s.sound r (omega (arith, sized.count)) m)

      one : ClosedFrom (rows_of bytes) x (r + 1) (set below a true)
      one = closed-set (omega (arith, left-low)) (omega (arith, left-low, few)) (under a (rw ea refers.0)) s

      both : ClosedFrom (rows_of bytes) x (r + 1) (set (set below a true) b true)
      both = closed-set (omega (arith, second-low)) (omega (arith, second-low, few)) (under b (rw eb refers.1)) one

-- where every row is settled, the marks say what lies beneath
pub closed_all : (bytes : List ℕ) (n : ℕ) → Sized bytes n → {x r : ℕ} {below : List Bool} → r ≡ 0 → ClosedFrom (rows_of bytes) x r below → Beneath (rows_of bytes) x below
closed_all bytes n sized {x} {r} {below} z s = record {
  size = s.size;
  each = λ y l. same_test (get_or below y false) (beneath (rows_of bytes) y x) (
    λ t. s.sound y l (passes-true (get_or below y false) t),
    λ t. true-passes (closed-below (table-good bytes sized.table) (rw z at s) y x s.within s.top t),
  );
}
