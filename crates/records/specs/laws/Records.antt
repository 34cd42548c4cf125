-- The records of a block one after the other, and the first bad one of them. Assumes nothing.
use Prim.Native.Nat.{ℕ, zero, suc, ◌+◌, ◌-◌, ◌≤◌, ◌<◌}
use Rattle.std.proofs.Common.{add-zero, arith, ◌∙◌, length-take, drop_of_length-le, drop-drop, take_all, leb-true, leb-false, le-leb}
use Rattle.std.proofs.Math.Numerals.{add-one}
use Rattle.std.specs.Prelude.{◌≡◌, Bool, true, false, leb, length, take, drop}
use Rattle.std.proofs.Math.Path.{refl, sym, ap}
use Rattle.std.proofs.Math.Option.{none, some}
use mathlib.Core.List.{List, [], ◌∷◌}
use Rattle.std.proofs.Math.ListN.{length-drop}
use Rattle.std.proofs.lemmas.Bool.{lt-leb}
use Rattle.semantics.specs.Frame.{Part, records_from, records, first_bad}
use Rattle.records.specs.Records.{part_at, record_at}

-- as many elements as there are from a place on
pub rest-whole : (b : List ℕ) (at : ℕ) → take (length b - at) (drop at b) ≡ drop at b
rest-whole b at = take_all (length b - at) (drop at b) (omega (arith, length-drop at b))

-- there are as many elements exactly if as many can be taken
pub leb-taken : (n : ℕ) (s : List ℕ) → leb n (length (take n s)) ≡ leb n (length s)
leb-taken n s = go (leb n (length s)) refl
  where
    go : (b : Bool) → leb n (length s) ≡ b → leb n (length (take n s)) ≡ b
    go true e = le-leb n (length (take n s)) (omega (arith, length-take n s, leb-true n (length s) e))
    go false e = lt-leb n (length (take n s)) (omega (arith, length-take n s, leb-false n (length s) e))

-- no bytes have no records
records-nil : (size : List ℕ → ℕ) (n at : ℕ) → records_from size n at [] ≡ []
unfolding records_from
records-nil size zero at = refl
records-nil size (suc n) at = refl

-- the records from a place in a block on, which begins at another
abbrev pub records_left : (List ℕ → ℕ) → ℕ → List ℕ → ℕ → List Part
records_left size base b at = records size (part_at (base + at) (drop at b))

-- behind the end of the block there are none
pub left-none : (size : List ℕ → ℕ) (base : ℕ) (b : List ℕ) (at : ℕ) → length b ≤ at → records_left size base b at ≡ []
unfolding records
left-none size base b at h = rw (drop_of_length-le b h) (records-nil size 0 (base + at))

-- from the front on they are those of the block
pub left-all : (size : List ℕ → ℕ) (base : ℕ) (b : List ℕ) → records size (part_at base b) ≡ records_left size base b 0
left-all size base b = rw (add-zero base)

module _ (size : List ℕ → ℕ) (some_bytes : (s : List ℕ) → 0 < size s) where
  -- enough steps give all records
  records-enough : (n m at : ℕ) (bytes : List ℕ) → length bytes ≤ n → length bytes ≤ m → records_from size n at bytes ≡ records_from size m at bytes
  unfolding records_from
  records-enough zero m at [] h k = sym (records-nil size m at)
  records-enough zero m at (b ∷ bytes) h k = absurd (omega arith)
  records-enough (suc n) zero at [] h k = refl
  records-enough (suc n) zero at (b ∷ bytes) h k = absurd (omega arith)
  records-enough (suc n) (suc m) at [] h k = refl
  records-enough (suc n) (suc m) at (b ∷ bytes) h k =
      let z = size (b ∷ bytes) in
      let l = length-drop z (b ∷ bytes) in
      ap (λ (r : List Part). record_at size at (b ∷ bytes) ∷ r)
      (records-enough n m (at + z) (drop z (b ∷ bytes)) (omega (arith, some_bytes (b ∷ bytes))) (omega (arith, some_bytes (b ∷ bytes))))

  -- bytes have the record at the front and those behind it
  records-cons : (at : ℕ) (s : List ℕ) → 0 < length s → records size (part_at at s) ≡ record_at size at s ∷ records size (part_at (at + size s) (drop (size s) s))
  unfolding records records_from
  records-cons at [] h = absurd (omega arith)
  records-cons at (b ∷ bytes) h =
      let z = size (b ∷ bytes) in
      let l = length-drop z (b ∷ bytes) in
      ap (λ (r : List Part). record_at size at (b ∷ bytes) ∷ r)
      (records-enough (length bytes) (length (drop z (b ∷ bytes))) (at + z) (drop z (b ∷ bytes)) (omega (arith, some_bytes (b ∷ bytes))) (omega arith))

  module _ (base : ℕ) (b : List ℕ) (at : ℕ) (within : at < length b) where
    -- in a block there are the record at the place and those behind it
    pub left-cons : records_left size base b at ≡ record_at size (base + at) (drop at b) ∷ records_left size base b (at + size (drop at b))
    left-cons =
        let z = size (drop at b) in
        let e : base + at + z ≡ base + (at + z) = omega arith in
        records-cons (base + at) (drop at b) (rw length-drop (omega arith))
        ∙ ap (λ (l : List ℕ). record_at size (base + at) (drop at b) ∷ records size (part_at (base + at + z) l)) (drop-drop z at b)
        ∙ ap (λ (n : ℕ). record_at size (base + at) (drop at b) ∷ records size (part_at n (drop (at + z) b))) e

    module _ (good : ℕ → Part → Bool) (i : ℕ) where
      -- a bad record at the place is the first bad one
      pub bad-here : good i (record_at size (base + at) (drop at b)) ≡ false → first_bad good i (records_left size base b at) ≡ some (base + at)
      unfolding first_bad
      bad-here e = rw left-cons (rw (e, first_bad))

      -- behind a good record the first bad one is that of the others
      pub bad-later : good i (record_at size (base + at) (drop at b)) ≡ true
          → first_bad good i (records_left size base b at) ≡ first_bad good (i + 1) (records_left size base b (at + size (drop at b)))
      unfolding first_bad
      bad-later e = rw (left-cons, add-one i) (rw (e, first_bad))

-- behind the end of the block none is bad
pub bad-none : (size : List ℕ → ℕ) (base : ℕ) (b : List ℕ) (at : ℕ) → length b ≤ at → (good : ℕ → Part → Bool) (i : ℕ) → first_bad good i (records_left size base b at) ≡ none
unfolding first_bad
bad-none size base b at h good i = rw (left-none size base b at h)
