-- Rows one above the other, each with a value: as the code finds the first that is not, and as the definitions say. Assumes nothing.
use Prim.Native.Nat.{ℕ, suc, ◌+◌, ◌-◌, ◌≤◌, ◌<◌}
use Rattle.std.proofs.Common.{ap, ◌∙◌, drop_of_length-le, drop-cons, ltb-true, ltb-false, le-leb, lt-ltb, le-ltb}
use Rattle.std.proofs.Math.Numerals.{add-one}
use native.Mathlib.Omega.{arith}
use Rattle.std.specs.Prelude.{is_some, ◌≡◌, Bool, true, false, ◌&&◌, not, ltb, leb, length, get_or, take, drop}
use Rattle.std.proofs.Math.Path.{refl, sym, fun_ext}
use Rattle.std.proofs.Math.Bool.{and-false, and_assoc}
use Rattle.std.proofs.Math.Option.{Option, none, some}
use mathlib.Core.List.{List, [], ◌∷◌}
use Rattle.std.proofs.Math.Dec.{leb-zero}
use Rattle.std.proofs.lemmas.Bool.{lt-leb}
use Rattle.semantics.specs.Basic.{unfit_from, present, every, rising}
use Rattle.semantics.specs.Table.{Row}
use Rattle.semantics.specs.Value.{Reading, value_of, without_variables, without_run}
use Rattle.semantics.specs.Roles.{knowledge_in, knowledge_fits}
use Rattle.semantics.specs.Runs.{bad_knowledge_from}
use Rattle.rows.specs.Rows.{place_as}
use Rattle.rows.specs.Rows.{Place}
use Rattle.semantics.proofs.laws.Value.{value-within}
use Rattle.lists.specs.Lists.{Valued, has_value}

-- a row that is absent has no value
absent-value : (reading : Reading) (rows : List Row) (r : ℕ) → length rows ≤ r → false ≡ present (value_of reading rows r)
absent-value reading rows r l = go (value_of reading rows r) refl
  where
    go : (o : Option _) → value_of reading rows r ≡ o → false ≡ present o
    go none e = refl
    go (some v) e = absurd (omega (arith, value-within reading rows r (v, e)))

-- the rows marked are those that have a value
pub value-marked : (reading : Reading) (rows : List Row) (n : ℕ) (clear : List Bool) → n ≡ length rows → Valued rows reading clear
    → has_value n clear ≡ (λ r. present (value_of reading rows r))
value-marked reading rows n clear e v = fun_ext (λ r. go r (ltb r n) refl)
  where
    go : (r : ℕ) (b : Bool) → ltb r n ≡ b → (b && get_or clear r false) ≡ present (value_of reading rows r)
    go r true f = v.each r (omega (arith, ltb-true r n f))
    go r false f = absent-value reading rows r (omega (arith, ltb-false r n f))

module _ (n : ℕ) (clear : List Bool) (r : ℕ) where
  -- a row that is absent is not marked, nor one without a mark, any other is
  pub marked-absent : n ≤ r → has_value n clear r ≡ false
  marked-absent h = rw (le-ltb r n h)

  pub marked-not : get_or clear r false ≡ false → has_value n clear r ≡ false
  marked-not e = rw e (and-false (ltb r n))

  pub marked-is : r < n → get_or clear r false ≡ true → has_value n clear r ≡ true
  marked-is h e = rw (lt-ltb r n h, e)

module _ (fits : ℕ → Bool) where
  -- the first unfit byte from a place on, in bytes that begin at another
  abbrev pub unfit_left : ℕ → List ℕ → ℕ → ℕ → Option ℕ
  unfit_left base b least i = unfit_from fits (base + i) least (drop i b)

  -- behind the end there is none
  pub unfit-none : (base : ℕ) (b : List ℕ) (least i : ℕ) → length b ≤ i → unfit_left base b least i ≡ none
  unfolding unfit_from
  unfit-none base b least i h = rw (drop_of_length-le b h)

  module _ (base : ℕ) (b : List ℕ) (least i : ℕ) (within : i < length b) (r : ℕ) (e : r ≡ get_or b i 0) where
    -- the bytes from one on
    rest : drop i b ≡ r ∷ drop (i + 1) b
    rest = rw (e, add-one i) (drop-cons b i 0 within)

    -- a byte that is not above the one before it is unfit, and so is one that fails the test
    pub unfit-low : r < least → unfit_left base b least i ≡ some (base + i)
    unfolding unfit_from
    unfit-low l = rw rest (rw (lt-leb least r l, unfit_from))

    pub unfit-here : least ≤ r → fits r ≡ false → unfit_left base b least i ≡ some (base + i)
    unfolding unfit_from
    unfit-here l f = rw rest (rw (le-leb least r l, f, unfit_from))

    -- behind a byte that is fit it is the first of the others
    pub unfit-later : least ≤ r → fits r ≡ true → unfit_left base b least i ≡ unfit_left base b (r + 1) (i + 1)
    unfolding unfit_from
    unfit-later l f = let z : base + (i + 1) ≡ suc (base + i) = omega arith in rw (rest, z, add-one r) (rw (le-leb least r l, f, unfit_from))

  -- whether the first of some bytes is at least a number
  abbrev from : ℕ → List ℕ → Bool
  from least [] = true
  from least (r ∷ bytes) = leb least r

  -- no byte is unfit exactly if they rise, from a number on, and each passes the test
  fit-from : (at least : ℕ) (bytes : List ℕ) → not (present (unfit_from fits at least bytes)) ≡ (from least bytes && (rising bytes && every fits bytes))
  unfolding unfit_from
  fit-from at least [] = refl
  fit-from at least (r ∷ bytes) = go (leb least r) refl (fits r) refl bytes (fit-from (suc at) (suc r) bytes)
    where
      rest : (bytes : List ℕ) → (from (suc r) bytes && (rising bytes && every fits bytes)) ≡ (rising (r ∷ bytes) && every fits bytes)
      rest [] = refl
      rest (q ∷ bytes) = sym (and_assoc (leb (suc r) q) (rising (q ∷ bytes)) (fits q && every fits bytes))

      go : (a : Bool) → leb least r ≡ a → (c : Bool) → fits r ≡ c → (bytes : List ℕ)
          → not (present (unfit_from fits (suc at) (suc r) bytes)) ≡ (from (suc r) bytes && (rising bytes && every fits bytes))
          → not (present (unfit_from fits at least (r ∷ bytes))) ≡ (a && (rising (r ∷ bytes) && (c && every fits bytes)))
      go true e true f bytes h = rw (e, f, unfit_from) (h ∙ rest bytes)
      go true e false f bytes h = rw (e, f, unfit_from) (sym (and-false (rising (r ∷ bytes))))
      go false e c f bytes h = rw (e, unfit_from)

  -- no byte is unfit exactly if they rise and each passes the test
  pub fit-rising : (at : ℕ) (bytes : List ℕ) → not (present (unfit_from fits at 0 bytes)) ≡ (rising bytes && every fits bytes)
  fit-rising at [] = fit-from at 0 []
  fit-rising at (r ∷ bytes) = fit-from at 0 (r ∷ bytes) ∙ rw (leb-zero r)

-- whether there is no place
none-told : (o : Option ℕ) (r : Bool) → is_some (place_as o) ≡ not r → r ≡ not (present o)
none-told none true e = refl
none-told none false e = e
none-told (some place) true e = e
none-told (some place) false e = refl

-- the first unfit byte of the knowledge list, which the code finds by the rows marked
pub knowledge-found : (rows : List Row) (n : ℕ) (clear : List Bool) → n ≡ length rows → Valued rows without_run clear → (base : ℕ) (bytes : List ℕ)
    → unfit_from (has_value n clear) base 0 bytes ≡ bad_knowledge_from rows base 0 bytes
knowledge-found rows n clear e v base bytes = rw (value-marked without_run rows n clear e v)

-- and so whether the knowledge of a role fits
pub knowledge-fits : (s : List ℕ) (n : ℕ) (clear : List Bool) (k : ℕ) → k ≡ get_or s 0 0 → {place : Place} → place ≡ place_as (unfit_from (has_value n clear) 0 0 (take (1 + k - 1) (drop 1 s)))
    → (rows : List Row) → n ≡ length rows → Valued rows without_variables clear → {r : Bool} → is_some place ≡ not r → r ≡ knowledge_fits rows (knowledge_in s)
unfolding knowledge_fits knowledge_in
knowledge-fits s n clear k e {place} f rows g v w =
    let z : 1 + k - 1 ≡ get_or s 0 0 = omega arith in
    none-told (unfit_from (has_value n clear) 0 0 (take (get_or s 0 0) (drop 1 s))) _ (ap is_some (sym (rw z at f)) ∙ w)
    ∙ rw (value-marked without_variables rows n clear g v) (fit-rising (λ r. present (value_of without_variables rows r)) 0 (take (get_or s 0 0) (drop 1 s)))
