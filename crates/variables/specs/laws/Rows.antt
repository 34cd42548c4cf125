-- The rows of a table's variables, one after the other. Assumes nothing.
use Rattle.std.specs.Prelude.{ℕ, zero, suc, ◌+◌, ◌*◌, ◌<◌, ◌≤◌, ◌≡◌, refl, Bool, true, false, List, [], ◌∷◌, T, length, get_or, take, set}
use Rattle.std.proofs.Math.Decide.{ℕ_discrete, dec_lt}
use Rattle.std.proofs.Common.{add-one, arith, below_more, sym, ap, ◌∙◌, length-set, get_or-set_same, get_or-set_other}
use Rattle.std.proofs.Math.Option.{some, some-injective, none-ne-some}
use Rattle.std.proofs.Math.ListN.{get_elem?, get_or-eq_default}
use Rattle.semantics.specs.Basic.{keep}
use Rattle.semantics.specs.Table.{variable_row}
use Rattle.semantics.proofs.laws.List.{keep-cons, get_elem-there}
use Rattle.rows.specs.Rows.{rows_of, Sized}
use Rattle.rows.specs.laws.Decode.{six-variable}
use Rattle.rows.specs.laws.Table.{table-good, table-row}
use Rattle.variables.specs.Variables.{In}

-- how many of the first rows are variables
abbrev pub variables_below : List ℕ → ℕ → ℕ
variables_below t x = length (keep variable_row (take x (rows_of t)))

-- an element that passes a test
keep-passes : {A : Type 0} (p : A → Bool) (x : A) → T (p x) → length (keep p (x ∷ [])) ≡ 1
keep-passes p x h = go (p x) refl
  where
    go : (b : Bool) → p x ≡ b → length (keep p (x ∷ [])) ≡ 1
    go true e = rw (e, keep)
    go false e = absurd (rw e at h)

module _ {A : Type 0} (p : A → Bool) where
  -- of the first elements no more pass than of all
  keep-first : (xs : List A) (i : ℕ) → length (keep p (take i xs)) ≤ length (keep p xs)
  keep-first [] zero = omega arith
  keep-first [] (suc i) = omega arith
  keep-first (y ∷ xs) zero = omega arith
  keep-first (y ∷ xs) (suc i) = omega (arith, keep-first xs i, keep-cons p y xs, keep-cons p y (take i xs))

  -- of one element more no fewer pass
  keep-next : (xs : List A) (i : ℕ) → length (keep p (take i xs)) ≤ length (keep p (take (suc i) xs))
  keep-next [] zero = omega arith
  keep-next [] (suc i) = omega arith
  keep-next (y ∷ xs) zero = omega arith
  keep-next (y ∷ xs) (suc i) = omega (arith, keep-next xs i, keep-cons p y (take i xs), keep-cons p y (take (suc i) xs))

  -- and one more if the element passes
  keep_one : (xs : List A) (i : ℕ) (x : A) → get_elem? xs i ≡ some x → T (p x) → length (keep p (take i xs)) + 1 ≤ length (keep p (take (suc i) xs))
  keep_one [] i x e h = absurd (none-ne-some x e)
  keep_one (y ∷ xs) zero x e h = omega (arith, keep-passes p y (rw (some-injective y x e) h))
  keep_one (y ∷ xs) (suc i) x e h = omega (arith, keep_one xs i x e h, keep-cons p y (take i xs), keep-cons p y (take (suc i) xs))

-- what holds of the first numbers of a list and of the next holds of one more
written : (P : ℕ → Type 0) (rows : List ℕ) (count x : ℕ) → count < length rows → ((i : ℕ) → i < count → P (get_or rows i 0)) → P x → (i : ℕ) → i < count + 1 → P (get_or (set rows count x) i 0)
written P rows count x l before new =
    below_more _ count (λ i k. rw (get_or-set_other rows count i x 0 (λ e. omega arith)) (before i k)) (rw (get_or-set_same rows count x 0 l) new)

-- a row that an array gets, or one that it has
written_small : (rows : List ℕ) (count x : ℕ) → count < length rows → x < 96 → ((i : ℕ) → i < 8 → get_or rows i 0 < 96) → (i : ℕ) → i < 8 → get_or (set rows count x) i 0 < 96
written_small rows count x l low before i k = go (ℕ_discrete i count)
  where
    go : Dec (i ≡ count) → get_or (set rows count x) i 0 < 96
    go (yes e) = rw e (rw (get_or-set_same rows count x 0 l) low)
    go (no d) = rw (get_or-set_other rows count i x 0 d) (before i k)

-- the variables among the first x rows of a table that are in a set have the first places of an array
pub record GatheredRows (t : List ℕ) (n : ℕ) (wanted : List Bool) (rows : List ℕ) (count x : ℕ) : Type 0 where
  pub size : length rows ≡ 8
  pub few : count ≤ variables_below t x
  pub small : (i : ℕ) → i < 8 → get_or rows i 0 < 96
  pub row : (i : ℕ) → i < count → get_or rows i 0 < n
  pub kind : (i : ℕ) → i < count → get_or t (3 * get_or rows i 0) 0 ≡ 6
  pub each : (i : ℕ) → i < count → In wanted (get_or rows i 0)
  pub all : (y : ℕ) → y < x → get_or t (3 * y) 0 ≡ 6 → In wanted y → (i : ℕ) × (i < count) × (get_or rows i 0 ≡ y)

module _ (t : List ℕ) (n : ℕ) (sized : Sized t n) where
  -- there is a place for one more variable
  pub place-left : {count x : ℕ} → count ≤ variables_below t x → x < n → get_or t (3 * x) 0 ≡ 6 → count + 1 ≤ variables_below t (x + 1) × (count < 8)
  place-left {count} {x} few l e =
      let inside : x < length (rows_of t) = omega (arith, sized.count) in
      let row = get_elem-there (rows_of t) x inside in
      let more = keep_one variable_row (rows_of t) x row.0 row.1 (six-variable (table-row t sized.table x row.0 row.1 inside) e) in
      let next : variables_below t (suc x) ≡ variables_below t (x + 1) = ap (variables_below t) (sym (add-one x)) in
      (omega (arith, more, next), omega (arith, more, keep-first variable_row (rows_of t) (suc x), (table-good t sized.table).few_variables))

  module _ (wanted : List Bool) {rows : List ℕ} {count x : ℕ} (g : GatheredRows t n wanted rows count x) where
    -- row x is no variable, or not in the set
    pub gathered-other : (get_or t (3 * x) 0 ≡ 6 → In wanted x → ⊥) → GatheredRows t n wanted rows count (x + 1)
    gathered-other other = record {
      size = g.size;
      few =
          let next : variables_below t (suc x) ≡ variables_below t (x + 1) = ap (variables_below t) (sym (add-one x)) in
          omega (arith, g.few, keep-next variable_row (rows_of t) x, next);
      small = g.small;
      row = g.row;
      kind = g.kind;
      each = g.each;
      all = below_more (λ y. get_or t (3 * y) 0 ≡ 6 → In wanted y → (i : ℕ) × (i < count) × (get_or rows i 0 ≡ y)) x g.all (λ e i. absurd (other e i));
    }

    -- row x is a variable of the set
    pub gathered-variable : x < n → get_or t (3 * x) 0 ≡ 6 → In wanted x → GatheredRows t n wanted (set rows count x) (count + 1) (x + 1)
    gathered-variable l e inside =
        let place = place-left g.few l e in
        let free : count < length rows = omega (arith, place.1, g.size) in record {
          size = length-set rows count x ∙ g.size;
          few = place.0;
          small = written_small rows count x free (omega (arith, sized.few)) g.small;
          row = written (λ y. y < n) rows count x free g.row l;
          kind = written (λ y. get_or t (3 * y) 0 ≡ 6) rows count x free g.kind e;
          each = written (In wanted) rows count x free g.each inside;
          all =
              below_more (λ y. get_or t (3 * y) 0 ≡ 6 → In wanted y → (i : ℕ) × (i < count + 1) × (get_or (set rows count x) i 0 ≡ y)) x
              (λ y h k v. let w = g.all y h k v in (w.0, omega (arith, w.1), get_or-set_other rows count w.0 x 0 (λ p. omega (arith, w.1, p)) ∙ w.2))
              (λ k v. (count, omega arith, get_or-set_same rows count x 0 free));
        }

    -- there are few of them
    pub gathered-few : count ≤ 8
    gathered-few = omega (arith, g.few, keep-first variable_row (rows_of t) x, (table-good t sized.table).few_variables)

    -- and each place holds a row
    pub gathered-low : (j : ℕ) → get_or rows j 0 < 96
    gathered-low j = go (dec_lt j 8)
      where
        go : Dec (j < 8) → get_or rows j 0 < 96
        go (yes l) = g.small j l
        go (no h) = omega (arith, get_or-eq_default rows 0 {n = j} (omega (arith, g.size)))
