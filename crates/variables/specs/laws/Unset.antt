-- The unset variables beneath a pattern, row by row. Assumes nothing.
use Prim.Native.Nat.{ℕ, zero, suc, ◌+◌, ◌-◌, ◌<◌, ◌≤◌}
use Rattle.std.proofs.Common.{sym, ap, ◌∙◌}
use native.Mathlib.Omega.{arith}
use Rattle.std.specs.Prelude.{◌≡◌, refl, Bool, true, false, ◌&&◌, not, List, [], ◌∷◌, map, T, get_or}
use Rattle.std.proofs.Math.Option.{Option, none, some}
use Rattle.std.specs.Prelude as std
use Rattle.std.specs.Prelude.{None, Some, MatchOption}
use Rattle.std.proofs.Math.ListN.{length}
use Rattle.semantics.specs.Basic.{present, keep, present_ones, numbers_from}
use Rattle.semantics.specs.Term.{Atom}
use Rattle.semantics.specs.Table.{Row, variable_atom}
use Rattle.semantics.specs.Value.{beneath}
use Rattle.semantics.specs.Runs.{atom_at}
use Rattle.semantics.specs.State.{Value, assigned, unset_beneath}
use Rattle.semantics.proofs.laws.Test.{passes-true}
use Rattle.rows.specs.Rows.{rows_of, Sized}
use Rattle.rows.specs.laws.Decode.{variable-six, six-atom}
use Rattle.cells.specs.laws.Cells.{row-there, row-decodes}
use Rattle.variables.specs.Variables.{Beneath, unset_from, TellsUnset, NotNamed, NextUnset, is_next, no_next}

module _ {A B : Type 0} (f : B → Option A) (b : B → Bool) (p : A → Bool) (n : B) (ns : List B) where
  -- what is kept of the values of some chosen elements
  abbrev kept : List B → List A
  kept ns = keep p (present_ones (map f (keep b ns)))

  -- an element that is not chosen
  kept-outside : b n ≡ false → kept (n ∷ ns) ≡ kept ns
  kept-outside e = rw (e, keep)

  -- one whose value does not pass, or that has none
  kept-other : ((a : A) → f n ≡ some a → p a ≡ false) → kept (n ∷ ns) ≡ kept ns
  kept-other h = go (b n) refl (f n) refl
    where
      go : (c : Bool) → b n ≡ c → (o : Option A) → f n ≡ o → kept (n ∷ ns) ≡ kept ns
      go false e o g = kept-outside e
      go true e none g = rw (e, keep) (rw (g, present_ones))
      go true e (some a) g = let q = h a g in rw (e, keep) (rw (g, present_ones) (rw (q, keep)))

  -- one that is chosen and whose value passes
  kept_here : b n ≡ true → {a : A} → f n ≡ some a → p a ≡ true → kept (n ∷ ns) ≡ a ∷ kept ns
  kept_here e g q = rw (e, keep) (rw (g, present_ones) (rw (q, keep)))

module _ (rows : List Row) (sets : List (Atom × Value)) (pattern : ℕ) where
  -- whether a variable is unset
  abbrev unset : Atom → Bool
  unset a = variable_atom a && not (present (assigned a sets))

  -- from the first row on they are all
  pub unset-all : unset_beneath rows sets pattern ≡ unset_from rows sets pattern 0
  unfolding unset_beneath unset_from
  unset-all = let z : length rows - 0 ≡ length rows = omega arith in rw z

  -- behind the last row there is none
  unset-end : {y : ℕ} → length rows ≤ y → unset_from rows sets pattern y ≡ []
  unfolding unset_from
  unset-end {y} l = let z : length rows - y ≡ 0 = omega arith in rw z

  module _ {y : ℕ} (low : y < length rows) where
    next : length rows - y ≡ suc (length rows - suc y)
    next = omega arith

    -- a row that does not lie beneath
    unset-outside : beneath rows y pattern ≡ false → unset_from rows sets pattern y ≡ unset_from rows sets pattern (suc y)
    unfolding unset_from
    unset-outside e = rw next (kept-outside (atom_at rows) (λ x. beneath rows x pattern) unset y (numbers_from (suc y) (length rows - suc y)) e)

    -- a row that is no unset variable
    unset-other : ((a : Atom) → atom_at rows y ≡ some a → unset a ≡ false) → unset_from rows sets pattern y ≡ unset_from rows sets pattern (suc y)
    unfolding unset_from
    unset-other h = rw next (kept-other (atom_at rows) (λ x. beneath rows x pattern) unset y (numbers_from (suc y) (length rows - suc y)) h)

    -- an unset variable beneath
    unset-here : beneath rows y pattern ≡ true → {a : Atom} → atom_at rows y ≡ some a → unset a ≡ true → unset_from rows sets pattern y ≡ a ∷ unset_from rows sets pattern (suc y)
    unfolding unset_from
    unset-here e g q = rw next (kept_here (atom_at rows) (λ x. beneath rows x pattern) unset y (numbers_from (suc y) (length rows - suc y)) e g q)

-- an unset variable is a variable without a value
unset-true : (sets : List (Atom × Value)) (a : Atom) → T (variable_atom a) → assigned a sets ≡ none → (variable_atom a && not (present (assigned a sets))) ≡ true
unset-true sets a t e = rw (passes-true (variable_atom a) t, e)

unset-false : (sets : List (Atom × Value)) (a : Atom) → (T (variable_atom a) → assigned a sets ≡ none → ⊥) → (variable_atom a && not (present (assigned a sets))) ≡ false
unset-false sets a h = go (variable_atom a) (assigned a sets) h
  where
    go : (b : Bool) (o : Option Value) → (T b → o ≡ none → ⊥) → (b && not (present o)) ≡ false
    go false o h = refl
    go true none h = absurd (h tt refl)
    go true (some v) h = refl

-- no unset variable beneath a pattern has a row from one number up to another
abbrev NoneUnset : List Row → List ℕ → ℕ → List Bool → ℕ → ℕ → Type 0
NoneUnset rows names u below from y =
    (pattern : ℕ) → Beneath rows pattern below → (sets : List (Atom × Value)) → TellsUnset rows names u sets → unset_from rows sets pattern from ≡ unset_from rows sets pattern y

module _ (bytes : List ℕ) (n : ℕ) (sized : Sized bytes n) (names : List ℕ) (u : ℕ) (below : List Bool) where
  -- a row that lies not beneath, is no variable's or is set
  passed_one : (y : ℕ) → y < n → (NotNamed bytes names u below y → ⊥) → NoneUnset (rows_of bytes) names u below y (suc y)
  passed_one y low other pattern b sets tells = go (get_or below y false) refl
    where
      within : y < length (rows_of bytes)
      within = omega (arith, sized.count)

      go : (m : Bool) → get_or below y false ≡ m → unset_from (rows_of bytes) sets pattern y ≡ unset_from (rows_of bytes) sets pattern (suc y)
      go false e = unset-outside (rows_of bytes) sets pattern within (sym (b.each y within) ∙ e)
      go true e = unset-other (rows_of bytes) sets pattern within λ a f.
          let w = row-there bytes n 0 sized y low in
          unset-false sets a (λ t g. other (record { inside = e; kind = variable-six (row-decodes bytes n 0 sized y low) a (rw w.1 at f) t; name = (tells y a f t).1 g }))

  -- and so are all rows from one up to another
  none-between : (k : ℕ) {from y : ℕ} → y ≡ from + k → y ≤ n → ((z : ℕ) → from ≤ z → z < y → NotNamed bytes names u below z → ⊥) → NoneUnset (rows_of bytes) names u below from y
  none-between zero {from} {y} e l clear pattern b sets tells = let q : from ≡ y = omega arith in ap (unset_from (rows_of bytes) sets pattern) q
  none-between (suc k) {from} {y} e l clear pattern b sets tells =
      passed_one from (omega arith) (clear from (omega arith) (omega arith)) pattern b sets tells
      ∙ none-between k {from = suc from} (omega arith) l (λ z h j. clear z (omega arith) j) pattern b sets tells

  -- the first row that is not named is the next unset variable, if there is one
  pub next-unset : {from : ℕ} → from ≤ n → (first : std.Option ℕ)
      → MatchOption first ((z : ℕ) → from ≤ z → z < n → NotNamed bytes names u below z → ⊥) (λ y. (from ≤ y) × (y < n) × NotNamed bytes names u below y × ((z : ℕ) → from ≤ z → z < y → NotNamed bytes names u below z → ⊥))
      → (pattern : ℕ) → Beneath (rows_of bytes) pattern below → MatchOption first (NextUnset (rows_of bytes) names u pattern from n) (λ y. (y < n) × NextUnset (rows_of bytes) names u pattern from y)
  next-unset {from = from} l None clear pattern b =
      no_next sized.count (λ sets tells. none-between (n - from) (omega arith) (omega arith) clear pattern b sets tells ∙ unset-end (rows_of bytes) sets pattern (omega (arith, sized.count)))
  next-unset {from = from} l (Some y) h pattern b =
      let own = h.2 in
      let within : y < length (rows_of bytes) = omega (arith, h.1, sized.count) in
      let w = row-there bytes n 0 sized y h.1 in
      let v = six-atom (row-decodes bytes n 0 sized y h.1) own.kind in
      let atom : atom_at (rows_of bytes) y ≡ some v.0 = rw w.1 v.1 in (
        h.1,
        is_next v.0 within h.0 atom v.2 own.name λ sets tells.
            none-between (y - from) (omega (arith, h.0)) (omega (arith, h.1)) h.3 pattern b sets tells
            ∙ unset-here (rows_of bytes) sets pattern within (sym (b.each y within) ∙ own.inside) atom (unset-true sets v.0 v.2 ((tells y v.0 atom v.2).0 own.name)),
      )
