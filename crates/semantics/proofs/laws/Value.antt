-- The laws of values and of what lies beneath a row. Assumes nothing.
use Prim.Native.Nat.{ℕ, zero, suc, ◌+◌, ◌≤◌, ◌<◌}
use Rattle.std.proofs.Common.{add-zero, zero-add, not-suc-le-zero, arith, ◌∙◌, inl, inr, ⊎_elim, eqb→eq, get_or-take, length-take-le}
use Rattle.std.proofs.Math.Decide.{dec_lt}
use Rattle.std.specs.Prelude.{◌≡◌, refl, ◌↔◌, ◌⊎◌, ◌||◌, T, eqb, get_or, take}
use Rattle.std.proofs.Math.Path.{sym}
use Rattle.std.proofs.Math.Logic.{⊎_map}
use mathlib.Core.Logic.Iff
use Rattle.std.proofs.Math.Bool.{Bool, false}
use Rattle.std.proofs.Math.Option.{Option, none, some, some-injective, none-ne-some}
use mathlib.Core.List.Memᴰ
use mathlib.Core.List.Memᴰ.{head as here}
use mathlib.Core.List.Memᴰ.{tail as later}
use mathlib.Core.List.{List, [], ◌∷◌, ◌++◌, append-nil, Memᴰ}
use Rattle.std.proofs.Math.Dec.{eqb_refl}
use Rattle.std.proofs.Math.ListN.{length, get_elem?, length-append, get_or-eq_default}
use Rattle.std.proofs.Math.Seq.{append_snoc, take-append_seam}
use Rattle.semantics.specs.Basic.{and_then, mapped, mapped₂}
use Rattle.semantics.specs.Term.{Atom, Term, atom, pk, sk, shared, pair, encrypted, shared_key}
use Rattle.semantics.specs.Table.{Row, atomic, pk_of, sk_of, shared_of, pair_of, encrypted_of}
use Rattle.semantics.specs.Value.{Reading, as_atoms, folded, value_from, values, value_of, beneath_from, beneath}
use Rattle.semantics.specs.Runs.{atom_of, atom_at}
use Rattle.semantics.specs.Guarantee.{refers_to, GoodTable, HasValue}
use Rattle.semantics.proofs.laws.Test.{either_left, either-right, either-cases, There, none-there, mapped-there, mapped₂-there}
use Rattle.semantics.proofs.laws.Inference.{Carried}
use Rattle.semantics.proofs.laws.List.{mem-cases, get_elem-below, get_elem-there, get_elem-get_d, get_elem-seam}

module _ {A : Type 0} (f : List A → Row → A) where
  -- one result for each row
  pub folded-length : (below : List A) (rows : List Row) → length (folded f below rows) ≡ length below + length rows
  unfolding folded
  folded-length below [] = sym (add-zero (length below))
  folded-length below (row ∷ rows) = folded-length (below ++ f below row ∷ []) rows ∙ rw length-append (omega arith)

  -- the results below stay
  folded-begins : (below : List A) (rows : List Row) → (rest : List A) × (folded f below rows ≡ below ++ rest)
  unfolding folded
  folded-begins below [] = ([], sym (append-nil below))
  folded-begins below (row ∷ rows) = let w = folded-begins (below ++ f below row ∷ []) rows in (f below row ∷ w.0, w.1 ∙ append_snoc below (f below row) w.0)

  -- each result is made from those before it
  pub folded-at : (below : List A) (rows : List Row) (i : ℕ) {row : Row} → get_elem? rows i ≡ some row
      → get_elem? (folded f below rows) (length below + i) ≡ some (f (take (length below + i) (folded f below rows)) row)
  unfolding folded
  folded-at below [] i {row} e = absurd (none-ne-some row e)
  folded-at below (r ∷ rows) zero {row} e =
      let w = folded-begins (below ++ f below r ∷ []) rows in
      rw (add-zero, w.1, append_snoc below (f below r) w.0, take-append_seam, get_elem-seam, some-injective r row e)
  folded-at below (r ∷ rows) (suc i) e =
      let places : length (below ++ f below r ∷ []) + i ≡ length below + suc i = rw length-append (omega arith) in
      rw places at (folded-at (below ++ f below r ∷ []) rows i e)

-- the value of a row from the values of other rows
abbrev pub row_value : Reading → (ℕ → Option Term) → Row → Option Term
row_value reading value (atomic a) = reading a
row_value reading value (pk_of a) = mapped pk (value a)
row_value reading value (sk_of a) = mapped sk (value a)
row_value reading value (shared_of a b) = mapped₂ shared_key (value a) (value b)
row_value reading value (pair_of l r) = mapped₂ pair (value l) (value r)
row_value reading value (encrypted_of l r) = mapped₂ encrypted (value l) (value r)

-- whether a row lies beneath the row with a number, from whether it lies beneath other rows
abbrev pub row_beneath : ℕ → ℕ → (ℕ → Bool) → Row → Bool
row_beneath x i below (atomic a) = eqb x i
row_beneath x i below (pk_of a) = eqb x i || below a
row_beneath x i below (sk_of a) = eqb x i || below a
row_beneath x i below (shared_of a b) = eqb x i || (below a || below b)
row_beneath x i below (pair_of l r) = eqb x i || (below l || below r)
row_beneath x i below (encrypted_of l r) = eqb x i || (below l || below r)

module _ (x i : ℕ) (below : ℕ → Bool) where
  -- beneath a row that refers to one row, and to two
  beneath-one : (a : ℕ) → T (eqb x i || below a) ↔ ((x ≡ i) ⊎ ((r : ℕ) × Memᴰ r (a ∷ []) × T (below r)))
  beneath-one a = (
    λ t. ⊎_map (eqb→eq x i) (λ u. (a, here refl, u)) (either-cases (eqb x i) (below a) t),
    ⊎_elim (λ e. either_left (eqb x i) (below a) (rw e (eqb_refl i))) (λ w. either-right (eqb x i) (below a) (rw (Memᴰ.eq_of_singleton w.1) at w.2)),
  )

  beneath-two : (a b : ℕ) → T (eqb x i || (below a || below b)) ↔ ((x ≡ i) ⊎ ((r : ℕ) × Memᴰ r (a ∷ b ∷ []) × T (below r)))
  beneath-two a b = (
    λ t. ⊎_map (eqb→eq x i) (λ u. ⊎_elim (λ v. (a, here refl, v)) (λ v. (b, later (here refl), v)) (either-cases (below a) (below b) u)) (either-cases (eqb x i) (below a || below b) t),
    ⊎_elim (λ e. either_left (eqb x i) (below a || below b) (rw e (eqb_refl i)))
        (λ w. either-right (eqb x i) (below a || below b)
        (mem-cases w.1 (λ e. either_left (below a) (below b) (rw e at w.2))
        (λ m. either-right (below a) (below b) (rw (Memᴰ.eq_of_singleton m) at w.2)))),
  )

-- a row lies beneath itself, and what lies beneath a row referred to lies beneath the row: nothing else does
row_beneath-iff : (x i : ℕ) (below : ℕ → Bool) (row : Row) → T (row_beneath x i below row) ↔ ((x ≡ i) ⊎ ((r : ℕ) × Memᴰ r (refers_to row) × T (below r)))
row_beneath-iff x i below (atomic a) = (λ t. inl (eqb→eq x i t), ⊎_elim (λ e. rw e (eqb_refl i)) (λ w. absurd (Memᴰ.not-nil w.1)))
row_beneath-iff x i below (pk_of a) = beneath-one x i below a
row_beneath-iff x i below (sk_of a) = beneath-one x i below a
row_beneath-iff x i below (shared_of a b) = beneath-two x i below a b
row_beneath-iff x i below (pair_of l r) = beneath-two x i below l r
row_beneath-iff x i below (encrypted_of l r) = beneath-two x i below l r

-- a term with its atoms read; none where an atom has no value
abbrev pub substituted : Reading → Term → Option Term
substituted reading (atom a) = reading a
substituted reading (pk t) = mapped pk (substituted reading t)
substituted reading (sk t) = mapped sk (substituted reading t)
substituted reading (shared t u) = mapped₂ shared_key (substituted reading t) (substituted reading u)
substituted reading (pair t u) = mapped₂ pair (substituted reading t) (substituted reading u)
substituted reading (encrypted t k) = mapped₂ encrypted (substituted reading t) (substituted reading k)

-- that a term has a value is carried by inference
pub substituted-carried : (reading : Reading) → Carried (λ t. There (substituted reading t))
substituted-carried reading = record {
  joins = λ t u p q. (mapped₂-there pair (substituted reading t) (substituted reading u)).1 (p, q);
  left = λ t u p. ((mapped₂-there pair (substituted reading t) (substituted reading u)).0 p).0;
  right = λ t u p. ((mapped₂-there pair (substituted reading t) (substituted reading u)).0 p).1;
  seals = λ t k p q. (mapped₂-there encrypted (substituted reading t) (substituted reading k)).1 (p, q);
  content = λ t k p i. ((mapped₂-there encrypted (substituted reading t) (substituted reading k)).0 p).0;
}

module _ (reading : Reading) where
  -- a part, or two parts, with their atoms read
  substituted-one : (f : Term → Term) → ((t : Term) → substituted reading (f t) ≡ mapped f (substituted reading t))
      → (o : Option Term) → mapped f (and_then o (substituted reading)) ≡ and_then (mapped f o) (substituted reading)
  substituted-one f reads none = refl
  substituted-one f reads (some t) = sym (reads t)

  substituted-two : (f : Term → Term → Term) → ((t u : Term) → substituted reading (f t u) ≡ mapped₂ f (substituted reading t) (substituted reading u))
      → (o p : Option Term) → mapped₂ f (and_then o (substituted reading)) (and_then p (substituted reading)) ≡ and_then (mapped₂ f o p) (substituted reading)
  substituted-two f reads none p = refl
  substituted-two f reads (some t) none = elim (substituted reading t) as (λ o. mapped₂ {B = Term} f o none ≡ none) [ none ↦ refl | some u ↦ refl ]
  substituted-two f reads (some t) (some u) = sym (reads t u)

  -- a row's value is its term with the atoms read, if that is so of the rows that it refers to
  substituted-row : (value term : ℕ → Option Term) (row : Row) → ((r : ℕ) → Memᴰ r (refers_to row) → value r ≡ and_then (term r) (substituted reading))
      → row_value reading value row ≡ and_then (row_value as_atoms term row) (substituted reading)
  substituted-row value term (atomic a) h = refl
  substituted-row value term (pk_of a) h = rw (h a (here refl)) (substituted-one pk (λ t. refl) (term a))
  substituted-row value term (sk_of a) h = rw (h a (here refl)) (substituted-one sk (λ t. refl) (term a))
  substituted-row value term (shared_of a b) h = rw (h a (here refl), h b (later (here refl))) (substituted-two shared_key (λ t u. refl) (term a) (term b))
  substituted-row value term (pair_of l r) h = rw (h l (here refl), h r (later (here refl))) (substituted-two pair (λ t u. refl) (term l) (term r))
  substituted-row value term (encrypted_of l r) h = rw (h l (here refl), h r (later (here refl))) (substituted-two encrypted (λ t u. refl) (term l) (term r))

module _ (reading : Reading) (value : ℕ → Option Term) where
  -- What a row's value asks for: a reading of its atom and a value of each row that it refers to.
  abbrev Asks : Option Atom → List ℕ → Type 0
  Asks a rs = ((b : Atom) → a ≡ some b → There (reading b)) × ((r : ℕ) → Memᴰ r rs → There (value r))

  -- a row that refers to one row, and to two
  asks-one : (f : Term → Term) (x : ℕ) → There (mapped f (value x)) ↔ Asks none (x ∷ [])
  asks-one f x = (
    λ w. (λ b e. none-there (b, e), λ r m. rw (Memᴰ.eq_of_singleton m) ((mapped-there f (value x)).0 w)),
    λ h. (mapped-there f (value x)).1 (h.1 x (here refl)),
  )

  asks_two : (f : Term → Term → Term) (x y : ℕ) → There (mapped₂ f (value x) (value y)) ↔ Asks none (x ∷ y ∷ [])
  asks_two f x y = (
    λ w. let v = (mapped₂-there f (value x) (value y)).0 w in
        (λ b e. none-there (b, e), λ r m. mem-cases m (λ e. rw e v.0) (λ n. rw (Memᴰ.eq_of_singleton n) v.1)),
    λ h. (mapped₂-there f (value x) (value y)).1 (h.1 x (here refl), h.1 y (later (here refl))),
  )

  -- a row has a value exactly if what that asks for is there
  row_value-there : (row : Row) → There (row_value reading value row) ↔ Asks (atom_of (some row)) (refers_to row)
  row_value-there (atomic a) = (
    λ w. (λ b e. rw (← some-injective a b e) w, λ r m. absurd (Memᴰ.not-nil m)),
    λ h. h.0 a refl,
  )
  row_value-there (pk_of a) = asks-one pk a
  row_value-there (sk_of a) = asks-one sk a
  row_value-there (shared_of a b) = asks_two shared_key a b
  row_value-there (pair_of l r) = asks_two pair l r
  row_value-there (encrypted_of l r) = asks_two encrypted l r

-- every atom beneath a row has a reading
abbrev pub ReadBeneath : Reading → List Row → ℕ → Type 0
ReadBeneath reading rows i = (x : ℕ) (a : Atom) → atom_at rows x ≡ some a → T (beneath rows x i) → There (reading a)

-- a row with a value is in the table
pub value-within : (reading : Reading) (rows : List Row) (i : ℕ) → HasValue reading rows i → i < length rows
unfolding value_of values
value-within reading rows i w = go (dec_lt i (length rows))
  where
    go : Dec (i < length rows) → i < length rows
    go (yes l) = l
    go (no n) =
        let enough : length (values reading rows) ≤ i = rw (folded-length (value_from reading) [] rows) (omega arith) in
        none-there (rw (get_or-eq_default (values reading rows) none enough) at w)

module _ {rows : List Row} (good : GoodTable rows) where
  -- each result of a fold, with a default
  folded-row : {A : Type 0} (f : List A → Row → A) (d : A) (i : ℕ) {row : Row} → get_elem? rows i ≡ some row
      → get_or (folded f [] rows) i d ≡ f (take i (folded f [] rows)) row
  folded-row f d i e = get_elem-get_d (folded f [] rows) i d (rw zero-add at (folded-at f [] rows i e))

  -- the results of the rows referred to are among those below
  referred : {A : Type 0} (vs : List A) (d : A) (i : ℕ) {row : Row} → get_elem? rows i ≡ some row → (r : ℕ) → Memᴰ r (refers_to row)
      → get_or (take i vs) r d ≡ get_or vs r d
  referred vs d i {row} e r m = get_or-take i vs r d (good.lower i row e r m)

  -- a row's value comes from the values of the rows that it refers to
  pub value-unfolds : (reading : Reading) (i : ℕ) {row : Row} → get_elem? rows i ≡ some row
      → value_of reading rows i ≡ row_value reading (value_of reading rows) row
  unfolding value_of values value_from
  value-unfolds reading i {row} e = folded-row (value_from reading) none i e ∙ go row (referred vs none i e)
    where
      vs : List (Option Term)
      vs = folded (value_from reading) [] rows

      go : (row : Row) → ((r : ℕ) → Memᴰ r (refers_to row) → get_or (take i vs) r none ≡ get_or vs r none)
          → value_from reading (take i vs) row ≡ row_value reading (λ r. get_or vs r none) row
      go (atomic a) h = refl
      go (pk_of a) h = rw (h a (here refl))
      go (sk_of a) h = rw (h a (here refl))
      go (shared_of a b) h = rw (h a (here refl), h b (later (here refl)))
      go (pair_of l r) h = rw (h l (here refl), h r (later (here refl)))
      go (encrypted_of l r) h = rw (h l (here refl), h r (later (here refl)))

  -- and so does what lies beneath it
  pub beneath-unfolds : (x i : ℕ) {row : Row} → get_elem? rows i ≡ some row → beneath rows x i ≡ row_beneath x i (beneath rows x) row
  unfolding beneath beneath_from
  beneath-unfolds x i {row} e = folded-row (beneath_from x) false i e ∙ go row (referred bs false i e)
    where
      bs : List Bool
      bs = folded (beneath_from x) [] rows

      own : length (take i bs) ≡ i
      own = let l = get_elem-below rows i e in length-take-le i bs (rw (folded-length (beneath_from x) [] rows) (omega arith))

      go : (row : Row) → ((r : ℕ) → Memᴰ r (refers_to row) → get_or (take i bs) r false ≡ get_or bs r false)
          → beneath_from x (take i bs) row ≡ row_beneath x i (λ r. get_or bs r false) row
      go (atomic a) h = rw own
      go (pk_of a) h = rw (own, h a (here refl))
      go (sk_of a) h = rw (own, h a (here refl))
      go (shared_of a b) h = rw (own, h a (here refl), h b (later (here refl)))
      go (pair_of l r) h = rw (own, h l (here refl), h r (later (here refl)))
      go (encrypted_of l r) h = rw (own, h l (here refl), h r (later (here refl)))

  -- What holds of a row if it holds of the rows that it refers to holds of every row.
  pub row-induction : (P : ℕ → Type 0) → ((i : ℕ) (row : Row) → get_elem? rows i ≡ some row → ((r : ℕ) → Memᴰ r (refers_to row) → P r) → P i)
      → (i : ℕ) → i < length rows → P i
  row-induction P up i l = up_to (length rows) i l l
    where
      up_to : (n i : ℕ) → i < n → i < length rows → P i
      up_to zero i l within = absurd (not-suc-le-zero l)
      up_to (suc n) i l within =
          let w = get_elem-there rows i within in
          up i w.0 w.1 (λ r m. let b = good.lower i w.0 w.1 r m in up_to n r (omega arith) (omega arith))

  -- what lies beneath a row: itself, and what lies beneath the rows that it refers to
  pub beneath-iff : (x i : ℕ) {row : Row} → get_elem? rows i ≡ some row
      → T (beneath rows x i) ↔ ((x ≡ i) ⊎ ((r : ℕ) × Memᴰ r (refers_to row) × T (beneath rows x r)))
  beneath-iff x i {row} e = rw (beneath-unfolds x i e) (row_beneath-iff x i (beneath rows x) row)

  module _ (reading : Reading) where
    -- a row has a value exactly if every atom beneath it has one
    pub value-exact : (i : ℕ) → i < length rows → HasValue reading rows i ↔ ReadBeneath reading rows i
    value-exact = row-induction (λ i. HasValue reading rows i ↔ ReadBeneath reading rows i) λ i row e below.
        let asked = row_value-there reading (value_of reading rows) row in (
          λ w x a f b.
              let h = asked.0 (rw (value-unfolds reading i e) at w) in
              ⊎_elim (λ q. h.0 a (rw e at (rw q at f))) (λ v. (below v.0 v.1).0 (h.1 v.0 v.1) x a f v.2) ((beneath-iff x i e).0 b),
          λ h.
              rw (value-unfolds reading i e)
              (asked.1 (
                λ a f. h i a (rw e f) ((beneath-iff i i e).1 (inl refl)),
                λ r m. (below r m).1 (λ x a f b. h x a f ((beneath-iff x i e).1 (inr (r, m, b)))),
              )),
        )

    -- a row's value is its role-level term with the atoms read
    pub value-substituted : (i : ℕ) → i < length rows → value_of reading rows i ≡ and_then (value_of as_atoms rows i) (substituted reading)
    value-substituted = row-induction (λ i. value_of reading rows i ≡ and_then (value_of as_atoms rows i) (substituted reading)) λ i row e below.
        rw (value-unfolds reading i e, value-unfolds as_atoms i e) (substituted-row reading (value_of reading rows) (value_of as_atoms rows) row below)

  -- in a table every row has a role-level value
  pub as_atoms-value : (i : ℕ) → i < length rows → HasValue as_atoms rows i
  as_atoms-value i l = (value-exact as_atoms i l).1 (λ x a f b. (atom a, refl))

  -- a row has a value exactly if its role-level term has
  pub value-term : (reading : Reading) (i : ℕ) {t : Term} → value_of as_atoms rows i ≡ some t → HasValue reading rows i ↔ There (substituted reading t)
  value-term reading i {t} e = rw (value-substituted reading i (value-within as_atoms rows i (t, e)), e) Iff.rfl

  -- a row keeps a value where every atom of the table does
  pub value-imply : (reading reading' : Reading) → ((x : ℕ) (a : Atom) → atom_at rows x ≡ some a → There (reading a) → There (reading' a))
      → (i : ℕ) → HasValue reading rows i → HasValue reading' rows i
  value-imply reading reading' h i w =
      let l = value-within reading rows i w in
      (value-exact reading' i l).1 (λ x a f b. h x a f ((value-exact reading i l).0 w x a f b))
