-- The laws of records: what they are where none is bad, and how long they are. Assumes nothing.
use Prim.Native.Nat.{ℕ, zero, suc, ◌+◌, ◌≤◌, ◌<◌}
use Rattle.std.proofs.Math.Decide.{dec_lt}
use Rattle.std.proofs.Common.{add-zero, length-take, length-drop}
use native.Mathlib.Omega.{arith}
use Rattle.std.specs.Prelude.{◌≡◌, refl, Bool, T, length, take, drop}
use Rattle.std.proofs.Math.Option.{none, some, none-ne-some, some-injective}
use mathlib.Core.List.Memᴰ
use mathlib.Core.List.{List, [], ◌∷◌, Memᴰ}
use Rattle.std.proofs.Math.ListN.{get_elem?}
use Rattle.semantics.specs.Frame.{Part, records_from, records, first_bad}
use Rattle.semantics.proofs.laws.Test.{passed_none, passed-gives}
use Rattle.semantics.proofs.laws.List.{mem-cases, get_elem-there}

module _ (good : ℕ → Part → Bool) where
  -- where no record is bad, each is good with its number
  pub first_bad-none : (i : ℕ) (parts : List Part) → first_bad good i parts ≡ none → (k : ℕ) (part : Part) → get_elem? parts k ≡ some part → T (good (i + k) part)
  unfolding first_bad
  first_bad-none i [] e k part h = absurd (none-ne-some part h)
  first_bad-none i (p ∷ parts) e zero part h = rw (add-zero, ← some-injective p part h) (passed_none (good i p) (first_bad good (suc i) parts) p.start e).0
  first_bad-none i (p ∷ parts) e (suc k) part h =
      let s : i + suc k ≡ suc i + k = omega arith in
      rw s (first_bad-none (suc i) parts (passed_none (good i p) (first_bad good (suc i) parts) p.start e).1 k part h)

  -- and if no number from a bound on is good, there are no more records than that
  pub first_bad-few : (most : ℕ) → ((i : ℕ) (part : Part) → T (good i part) → i < most) → (parts : List Part) → first_bad good 0 parts ≡ none → length parts ≤ most
  first_bad-few most bound parts e = go (dec_lt most (length parts))
    where
      go : Dec (most < length parts) → length parts ≤ most
      go (yes l) =
          let w = get_elem-there parts most l in
          let b = bound (0 + most) w.0 (first_bad-none 0 parts e most w.0 w.1) in
          omega arith
      go (no n) = omega arith

module _ (size : List ℕ → ℕ) where
  -- a record is cut from bytes that say its length
  records_from-taken : (n at : ℕ) (bytes : List ℕ) {part : Part} → Memᴰ part (records_from size n at bytes) → (s : List ℕ) × (part.bytes ≡ take (size s) s)
  unfolding records_from
  records_from-taken zero at bytes m = absurd (Memᴰ.not-nil m)
  records_from-taken (suc n) at [] m = absurd (Memᴰ.not-nil m)
  records_from-taken (suc n) at (b ∷ bytes) m =
      mem-cases m (λ e. (b ∷ bytes, rw e)) (records_from-taken n (at + size (b ∷ bytes)) (drop (size (b ∷ bytes)) (b ∷ bytes)))

  -- a record is as long as the bytes from its first on say, or shorter where they end
  pub records-taken : (whole : Part) {part : Part} → Memᴰ part (records size whole) → (s : List ℕ) × (part.bytes ≡ take (size s) s)
  unfolding records
  records-taken whole m = records_from-taken (length whole.bytes) whole.start whole.bytes m

-- no record is bad where each is good with its number
pub first_bad-all : (good : ℕ → Part → Bool) (i : ℕ) (parts : List Part) → ((k : ℕ) (part : Part) → get_elem? parts k ≡ some part → T (good (i + k) part)) → first_bad good i parts ≡ none
unfolding first_bad
first_bad-all good i [] h = refl
first_bad-all good i (p ∷ parts) h =
    passed-gives (good i p) (first_bad good (suc i) parts) p.start (rw add-zero at (h 0 p refl))
    (first_bad-all good (suc i) parts (λ k part e. let s : suc i + k ≡ i + suc k = omega arith in rw s (h (suc k) part e)))

-- a part that begins in so many bytes from a place on, and ends in them
abbrev pub StandsIn : ℕ → ℕ → Part → Type 0
StandsIn at many part = (at ≤ part.start) × (part.start < at + many) × (part.start + length part.bytes ≤ at + many)

module _ (size : List ℕ → ℕ) where
  -- a record stands in the bytes from which it is cut
  records_from-within : (n at : ℕ) (bytes : List ℕ) {part : Part} → Memᴰ part (records_from size n at bytes) → StandsIn at (length bytes) part
  unfolding records_from
  records_from-within zero at bytes m = absurd (Memᴰ.not-nil m)
  records_from-within (suc n) at [] m = absurd (Memᴰ.not-nil m)
  records_from-within (suc n) at (b ∷ bytes) {part} m = mem-cases m first (λ k. later (records_from-within n (at + s) (drop s (b ∷ bytes)) k))
    where
      s : ℕ
      s = size (b ∷ bytes)

      first : part ≡ record { start = at; bytes = take s (b ∷ bytes) } → StandsIn at (suc (length bytes)) part
      first e = let l = length-take s (b ∷ bytes) in rw e (omega arith)

      later : StandsIn (at + s) (length (drop s (b ∷ bytes))) part → StandsIn at (suc (length bytes)) part
      later w = let l = length-drop s (b ∷ bytes) in omega arith

  -- a record stands in its part
  pub records-within : (whole : Part) {part : Part} → Memᴰ part (records size whole) → StandsIn whole.start (length whole.bytes) part
  unfolding records
  records-within whole m = records_from-within (length whole.bytes) whole.start whole.bytes m
