-- Where the record with a number begins in a block. Assumes nothing.
use Rattle.std.specs.Prelude.{ℕ, zero, suc, ◌+◌, ◌*◌, ◌<◌, ◌≡◌, refl, List, length, drop}
use Rattle.std.proofs.Math.Decide.{dec_lt}
use Rattle.std.proofs.Common.{arith, add-zero, zero-add, zero-mul, suc-mul, add-one, sym, ap, ◌∙◌}
use Rattle.std.proofs.Math.Option.{some, none-ne-some}
use Rattle.std.proofs.Math.ListN.{get_elem?}
use Rattle.semantics.specs.Frame.{Part, records}
use Rattle.semantics.proofs.laws.List.{get_elem-there}
use Rattle.records.specs.Records.{part_at, record_at}
use Rattle.records.specs.laws.Records.{records_left, left-all, left-cons, left-none}

-- the records from one with a number on are those from a place on
abbrev pub Begins : (List ℕ → ℕ) → List ℕ → ℕ → ℕ → Type 0
Begins size b i at = (base j : ℕ) → get_elem? (records size (part_at base b)) (i + j) ≡ get_elem? (records_left size base b at) j

-- the first record begins at the front
begins-first : (size : List ℕ → ℕ) (b : List ℕ) → Begins size b 0 0
begins-first size b base j = rw (zero-add j, left-all size base b)

module _ (size : List ℕ → ℕ) (some_bytes : (s : List ℕ) → 0 < size s) (b : List ℕ) (i at : ℕ) (begins : Begins size b i at) where
  -- the place is in the block as long as there are records
  pub begins-within : (base j : ℕ) → i + j < length (records size (part_at base b)) → at < length b
  begins-within base j l = go (dec_lt at (length b))
    where
      go : Dec (at < length b) → at < length b
      go (yes h) = h
      go (no n) =
          let w = get_elem-there (records size (part_at base b)) (i + j) l in
          let none = ap (λ (ps : List Part). get_elem? ps j) (left-none size base b at (omega arith)) in
          absurd (none-ne-some w.0 (sym none ∙ sym (begins base j) ∙ w.1))

  module _ (within : at < length b) where
    -- the record at the place has the number
    pub begins-record : (base : ℕ) → get_elem? (records size (part_at base b)) i ≡ some (record_at size (base + at) (drop at b))
    begins-record base =
        ap (λ (n : ℕ). get_elem? (records size (part_at base b)) n) (sym (add-zero i)) ∙ begins base 0
        ∙ ap (λ (ps : List Part). get_elem? ps 0) (left-cons size some_bytes base b at within)

    -- the next one begins behind it
    begins-next : {n : ℕ} → n ≡ size (drop at b) → Begins size b (i + 1) (at + n)
    begins-next {n} e base j =
        let z : i + 1 + j ≡ i + suc j = omega arith in
        ap (λ (m : ℕ). get_elem? (records size (part_at base b)) m) z ∙ begins base (suc j)
        ∙ ap (λ (ps : List Part). get_elem? ps (suc j)) (left-cons size some_bytes base b at within)
        ∙ ap (λ (m : ℕ). get_elem? (records_left size base b (at + m)) j) (sym e)

-- records of one size begin at its multiples
pub begins-each : (n : ℕ) (b : List ℕ) (base k : ℕ) → k < length (records (λ s. suc n) (part_at base b)) → Begins (λ s. suc n) b k (k * suc n) × (k * suc n < length b)
begins-each n b base zero l =
    let first = begins-first (λ s. suc n) b in
    rw (zero-mul (suc n)) (first, begins-within (λ s. suc n) (λ s. omega arith) b 0 0 first base 0 (omega arith))
begins-each n b base (suc k) l =
    let w = begins-each n b base k (omega arith) in
    let next = begins-next (λ s. suc n) (λ s. omega arith) b k (k * suc n) w.0 w.1 {n = suc n} refl in
    rw (suc-mul k (suc n), ← add-one k) (next, begins-within (λ s. suc n) (λ s. omega arith) b (k + 1) (k * suc n + suc n) next base 0 (omega arith))
