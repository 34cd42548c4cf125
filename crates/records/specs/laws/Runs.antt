-- Run records: which are good. Assumes nothing.
use Rattle.std.specs.Prelude.{Option, Some, None, MatchOption, true, ℕ, zero, suc, ◌+◌, ◌-◌, ◌*◌, ◌≤◌, ◌<◌, ◌≡◌, refl, Bool, false, ◌&&◌, List, [], ◌∷◌, ltb, leb, length, get_or, take, drop}
use Rattle.std.proofs.Common.{arith, sym, ap, ◌∙◌, le-leb, lt-ltb, le-ltb}
use Rattle.std.proofs.Math.Seq.{get_or-take}
use Rattle.std.proofs.lemmas.Bool.{lt-leb}
use Rattle.std.specs.List.{list_all}
use Rattle.std.specs.Int.{div_ceil}
use Rattle.std.proofs.lemmas.Grind.{div_ceil_times}
use Rattle.std.proofs.Math.Nat.{mul-le-mul_left}
use Rattle.semantics.specs.Basic.{every}
use Rattle.semantics.specs.Limits.{most_runs}
use Rattle.semantics.specs.Table.{Row}
use Rattle.semantics.specs.Frame.{first_bad}
use Rattle.semantics.specs.Runs.{run_length, run_in, run_records, atom_at, is_agent, good_run, bad_run}
use Rattle.records.specs.Records.{part_at, record_at, agents_in}
use Rattle.rows.specs.Rows.{Place, place_as}
use Rattle.records.specs.laws.Records.{leb-taken, records_left, left-all, rest-whole, bad-here, bad-later, bad-none}

-- every run record has bytes
pub run-bytes : (roles : ℕ) (s : List ℕ) → 0 < run_length roles s
run-bytes roles s = omega arith

-- a part of no bytes
take-nil : (n : ℕ) → take n (drop {A = ℕ} 1 []) ≡ []
take-nil zero = refl
take-nil (suc n) = refl

-- the agent bytes, as a part of the bytes
pub agents-part : (roles : ℕ) (s : List ℕ) → take (1 + roles - 1) (drop 1 s) ≡ agents_in roles s
agents-part roles [] = let z : 1 + roles - 1 ≡ roles = omega arith in rw z (take-nil roles)
agents-part roles (x ∷ s) = let z : 1 + roles - 1 ≡ roles = omega arith in ap (λ (n : ℕ). take n s) z

-- the library's test of all elements is the definitions'
pub all-every : (p : ℕ → Bool) (xs : List ℕ) → list_all p xs ≡ every p xs
all-every p [] = refl
all-every p (x ∷ xs) = ap (λ b. p x && b) (all-every p xs)

module _ (rows : List Row) (roles i start : ℕ) (s : List ℕ) where
  -- what a good run record is, in the bytes from its first on
  run-good : good_run rows roles i (record_at (run_length roles) start s)
      ≡ (leb (suc roles) (length s) && ltb i most_runs && ltb (get_or s 0 0) roles && every (λ r. is_agent (atom_at rows r)) (agents_in roles s))
  unfolding good_run run_in
  run-good = rw (leb-taken (suc roles) s, get_or-take (suc roles) s 0 0 (omega arith))

  -- one that is incomplete is not, nor a fifth, nor one of an absent role
  pub run_short : length s < 1 + roles → false ≡ good_run rows roles i (record_at (run_length roles) start s)
  run_short h = sym (run-good ∙ rw (lt-leb (suc roles) (length s) (omega arith)))

  pub run-fifth : 1 + roles ≤ length s → most_runs ≤ i → false ≡ good_run rows roles i (record_at (run_length roles) start s)
  run-fifth h k = sym (run-good ∙ rw (le-leb (suc roles) (length s) (omega arith), le-ltb i most_runs k))

  pub run-absent : 1 + roles ≤ length s → i < most_runs → roles ≤ get_or s 0 0 → false ≡ good_run rows roles i (record_at (run_length roles) start s)
  run-absent h k m = sym (run-good ∙ rw (le-leb (suc roles) (length s) (omega arith), lt-ltb i most_runs k, le-ltb (get_or s 0 0) roles m))

  -- another is if its agents are
  pub run-agents : 1 + roles ≤ length s → i < most_runs → get_or s 0 0 < roles
      → every (λ r. is_agent (atom_at rows r)) (agents_in roles s) ≡ good_run rows roles i (record_at (run_length roles) start s)
  run-agents h k m = sym (run-good ∙ rw (le-leb (suc roles) (length s) (omega arith), lt-ltb i most_runs k, lt-ltb (get_or s 0 0) roles m))

-- a run record with a number begins within the bytes if the number is below the count, which is the length divided by a record's and rounded up
pub run-within : (l roles i : ℕ) → i < div_ceil l (1 + roles) → i * (1 + roles) < l
run-within l roles i h =
    omega (arith, (div_ceil_times l (1 + roles) (omega arith)).1, mul-le-mul_left (1 + roles) h)

-- none begins behind the last
ends-behind : (l roles : ℕ) → l ≤ div_ceil l (1 + roles) * (1 + roles)
ends-behind l roles = (div_ceil_times l (1 + roles) (omega arith)).0

-- what is told of the run record with a number, wherever the block begins
abbrev pub RunTells : List Row → ℕ → List ℕ → Bool → ℕ → Type 0
RunTells rows roles b r i = let at = i * (1 + roles) in (start : ℕ) → r ≡ good_run rows roles i (record_at (run_length roles) start (take (length b - at) (drop at b)))

module _ (rows : List Row) (roles base : ℕ) (b : List ℕ) where
  -- what is told of a run record is told of that at its place
  told-at : (r : Bool) (i : ℕ) → RunTells rows roles b r i → good_run rows roles i (record_at (run_length roles) (base + i * (1 + roles)) (drop (i * (1 + roles)) b)) ≡ r
  told-at r i h = sym (rw rest-whole at (h (base + i * (1 + roles))))

  -- the first bad run record is found among all, and among those behind good ones
  runs-left : (i : ℕ) → i ≤ div_ceil (length b) (1 + roles) → ((k : ℕ) → 0 ≤ k → k < i → RunTells rows roles b true k)
      → bad_run rows roles (run_records roles (part_at base b)) ≡ first_bad (good_run rows roles) i (records_left (run_length roles) base b (i * (1 + roles)))
  unfolding bad_run run_records
  runs-left zero l h = let z : 0 * (1 + roles) ≡ 0 = omega arith in rw z (ap (first_bad (good_run rows roles) 0) (left-all (run_length roles) base b))
  runs-left (suc i) l h =
      let at = i * (1 + roles) in
      let z : suc i * (1 + roles) ≡ at + run_length roles (drop at b) = omega arith in
      let s : suc i ≡ i + 1 = omega arith in
      rw (z, s)
      (runs-left i (omega arith) (λ k lo hi. h k lo (omega arith))
      ∙ bad-later (run_length roles) (run-bytes roles) base b at (run-within (length b) roles i (omega arith)) (good_run rows roles) i (told-at true i (h i (omega arith) (omega arith))))

  -- so the first of those that are bad is found
  pub runs-found : (o : Option ℕ) → MatchOption o ((k : ℕ) → 0 ≤ k → k < div_ceil (length b) (1 + roles) → RunTells rows roles b true k)
      (λ i. (0 ≤ i) × (i < div_ceil (length b) (1 + roles)) × RunTells rows roles b false i × ((k : ℕ) → 0 ≤ k → k < i → RunTells rows roles b true k))
      → {place : Place} → MatchOption o (place ≡ None) (λ i. place ≡ Some (base + i * (1 + roles))) → place ≡ place_as (bad_run rows roles (run_records roles (part_at base b)))
  runs-found None h e =
      let n = div_ceil (length b) (1 + roles) in
      e ∙ sym (ap place_as (runs-left n (omega arith) h ∙ bad-none (run_length roles) base b (n * (1 + roles)) (ends-behind (length b) roles) (good_run rows roles) n))
  runs-found (Some i) h e =
      e ∙ sym (ap place_as (runs-left i (omega arith) h.3
      ∙ bad-here (run_length roles) (run-bytes roles) base b (i * (1 + roles)) (run-within (length b) roles i h.1) (good_run rows roles) i (told-at false i h.2)))
