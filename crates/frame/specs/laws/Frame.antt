-- The laws of framing: lengths of blocks, blocks one after the other, and refusals 1 to 3. Assumes nothing.
use Rattle.std.specs.Prelude.{ℕ, zero, suc, ◌+◌, ◌*◌, ◌-◌, ◌<◌, ◌≤◌, ◌≡◌, Bool, true, false, ◌&&◌, not, List, [], ◌∷◌, T, ltb, leb, eqb, length, get_or, take, drop, Err, Ok, Some}
use Rattle.std.proofs.Common.{zero-add, arith, ap, ◌∙◌, true≢false, le-leb, leb-true, leb→le, nltb→le, length-drop, length-take-le, take_all}
use Rattle.std.specs.Bool.{then_some}
use Rattle.std.proofs.Math.Path.{refl, sym}
use Rattle.std.proofs.Math.Option.{Option, none, some}
use Rattle.std.proofs.lemmas.Bool.{lt-leb}
use Rattle.std.proofs.Math.Dec.{not_T}
use Rattle.semantics.specs.Basic.{provided}
use Rattle.semantics.specs.Answer.{checked, ◌>>◌}
use Rattle.semantics.proofs.laws.Test.{both_left, both_right, provided-none, not-not, passes-true}
use Rattle.semantics.specs.Frame.{block_length, budget_of, framed, unversioned, too_long, misframed, block_from, block}
use Rattle.rows.specs.Rows.{place_as}
use Rattle.answers.specs.Answers.{checked_as}
use Rattle.answers.specs.declared.Refusal.{Refusal}
use Rattle.frame.specs.Framing.{framing_of, IsFramed}

sub-suc : (n : ℕ) → suc n - 1 ≡ n
sub-suc n = omega arith

-- the budget is the number of its four bytes
pub budget-bytes : (file : List ℕ) → 5 ≤ length file → get_or file 1 0 * 16777216 + get_or file 2 0 * 65536 + get_or file 3 0 * 256 + get_or file 4 0 ≡ budget_of file
unfolding budget_of
budget-bytes [] l = absurd (omega arith)
budget-bytes (v ∷ []) l = absurd (omega arith)
budget-bytes (v ∷ a ∷ []) l = absurd (omega arith)
budget-bytes (v ∷ a ∷ b ∷ []) l = absurd (omega arith)
budget-bytes (v ∷ a ∷ b ∷ c ∷ []) l = absurd (omega arith)
budget-bytes (v ∷ a ∷ b ∷ c ∷ d ∷ s) l = omega arith

-- no blocks: nothing remains
pub framed-none : (s : List ℕ) → eqb (length s) 0 ≡ framed 0 s
unfolding framed
framed-none s = refl

-- a block that runs past the end
pub framed-short : (n : ℕ) (s : List ℕ) → 0 < n → length s < 2 + block_length s → false ≡ framed n s
unfolding framed
framed-short zero s p l = absurd (omega arith)
framed-short (suc n) s p l = rw (lt-leb (2 + block_length s) (length s) l) refl

-- a whole block: the rest decides
pub framed-rest : (n : ℕ) (s : List ℕ) → 0 < n → 2 + block_length s ≤ length s → framed (n - 1) (drop (2 + block_length s) s) ≡ framed n s
unfolding framed
framed-rest zero s p l = absurd (omega arith)
framed-rest (suc n) s p l = rw (le-leb (2 + block_length s) (length s) l, sub-suc n) refl

-- in framed bytes the first block is whole, and the rest is framed
pub framed-whole : (n : ℕ) (s : List ℕ) → framed n s ≡ true → 0 < n → (2 + block_length s ≤ length s) × (framed (n - 1) (drop (2 + block_length s) s) ≡ true)
unfolding framed
framed-whole zero s e p = absurd (omega arith)
framed-whole (suc n) s e p = go (leb (2 + block_length s) (length s)) refl e
  where
    go : (b : Bool) → leb (2 + block_length s) (length s) ≡ b → (b && framed n (drop (2 + block_length s) s)) ≡ true
        → (2 + block_length s ≤ length s) × (framed (suc n - 1) (drop (2 + block_length s) s) ≡ true)
    go true h q = (leb-true (2 + block_length s) (length s) h, rw (sub-suc n) q)
    go false h q = absurd (true≢false (sym q))

-- the first block, and a later one
pub block-first : (at : ℕ) (s : List ℕ) → take (block_length s) (drop 2 s) ≡ (block_from 0 at s).bytes
unfolding block_from
block-first at s = refl

-- where the bytes begin does not change them, and moves the block's start
block_from-bytes : (k at at' : ℕ) (s : List ℕ) → (block_from k at s).bytes ≡ (block_from k at' s).bytes
unfolding block_from
block_from-bytes zero at at' s = refl
block_from-bytes (suc k) at at' s = block_from-bytes k (at + (2 + block_length s)) (at' + (2 + block_length s)) (drop (2 + block_length s) s)

block_from-start : (k at : ℕ) (s : List ℕ) → (block_from k at s).start ≡ at + (block_from k 0 s).start
unfolding block_from
block_from-start zero at s = rw zero-add refl
block_from-start (suc k) at s =
    let p = block_from-start k (at + (2 + block_length s)) (drop (2 + block_length s) s) in
    let q = block_from-start k (0 + (2 + block_length s)) (drop (2 + block_length s) s) in
    omega (arith, p, q)

pub block-later : (k : ℕ) (s : List ℕ) → 0 < k → (block_from (k - 1) 0 (drop (2 + block_length s) s)).bytes ≡ (block_from k 0 s).bytes
unfolding block_from
block-later zero s p = absurd (omega arith)
block-later (suc k) s p = rw (sub-suc k) (block_from-bytes k 0 (0 + (2 + block_length s)) (drop (2 + block_length s) s))

-- where a later block begins, and that it is within the bytes
pub start-later : (k : ℕ) (s : List ℕ) → 0 < k → {l r : ℕ} → l ≡ block_length s → r ≡ (block_from (k - 1) 0 (drop (2 + block_length s) s)).start → 2 + l + r ≡ (block_from k 0 s).start
unfolding block_from
start-later zero s p e h = absurd (omega arith)
start-later (suc k) s p {l} {r} e h =
    let q = block_from-start k (0 + (2 + block_length s)) (drop (2 + block_length s) s) in
    let h' : r ≡ (block_from k 0 (drop (2 + block_length s) s)).start = rw (sub-suc k) at h in
    omega (arith, q)

pub start_first : (s : List ℕ) → 2 ≡ (block_from 0 0 s).start
unfolding block_from
start_first s = refl

-- blocks of a file begin after version and budget
pub block-in-file : (k : ℕ) (file : List ℕ) → (block_from k 0 (drop 5 file)).bytes ≡ (block k file).bytes
unfolding block
block-in-file k file = block_from-bytes k 0 5 (drop 5 file)

pub start-in-file : (k : ℕ) (file : List ℕ) {r : ℕ} → r ≡ (block_from k 0 (drop 5 file)).start → 5 + r ≡ (block k file).start
unfolding block
start-in-file k file e = rw e (sym (block_from-start k 5 (drop 5 file)))

-- a place that is given under a condition
place-provided : (b : Bool) (at : ℕ) → then_some b at ≡ place_as (provided b at)
place-provided true at = refl
place-provided false at = refl

-- refusal 1: no first byte, or by the first byte
pub version-absent : (file : List ℕ) → length file ≡ 0 → Some 0 ≡ place_as (unversioned file)
unfolding unversioned
version-absent [] e = refl
version-absent (v ∷ file) e = absurd (omega arith)

pub version-judged : (file : List ℕ) → 0 < length file → then_some (not (eqb (get_or file 0 0) 1)) 0 ≡ place_as (unversioned file)
unfolding unversioned
version-judged [] l = absurd (omega arith)
version-judged (v ∷ file) l = place-provided (not (eqb v 1)) 0

module _ (file : List ℕ) where
  -- refusal 2, by the length
  pub size-judged : then_some (ltb 4096 (length file)) 4096 ≡ place_as (too_long file)
  unfolding too_long
  size-judged = place-provided (ltb 4096 (length file)) 4096

  -- refusal 3: no room for the budget, or by the blocks
  pub budget-cut : length file < 5 → Some (length file) ≡ place_as (misframed file)
  unfolding misframed
  budget-cut l = rw (lt-leb 5 (length file) l) refl

  pub blocks-judged : 5 ≤ length file → {b : Bool} → b ≡ framed 4 (drop 5 file) → then_some (not b) (length file) ≡ place_as (misframed file)
  unfolding misframed
  blocks-judged size {b} blocks = rw (le-leb 5 (length file) size, sym blocks) (place-provided (not b) (length file))

-- none of three conditions holds
refused-framed : {P : Type 0} {x : Refusal} {u : Unit {0}} → Err x ≡ Ok u → P
refused-framed e = let z : ◌≡◌ {A = ℕ} 0 1 = cc in absurd (omega arith)

all-passed : (a b c : Option ℕ) → checked_as (◌>>◌ (checked 1 a) (◌>>◌ (checked 2 b) (checked 3 c))) ≡ Ok tt → (a ≡ none) × (b ≡ none) × (c ≡ none)
all-passed none none none e = (refl, refl, refl)
all-passed none none (some at) e = refused-framed e
all-passed none (some at) c e = refused-framed e
all-passed (some at) b c e = refused-framed e

-- a file whose frame is not refused is framed
pub framing-framed : (file : List ℕ) → checked_as (framing_of file) ≡ Ok tt → IsFramed file
unfolding too_long misframed
framing-framed file e =
    let w = all-passed (unversioned file) (too_long file) (misframed file) e in
    let long = provided-none (ltb 4096 (length file)) 4096 w.1 in
    let bad = provided-none (not (leb 5 (length file) && framed 4 (drop 5 file))) (length file) w.2 in
    let good = not-not (leb 5 (length file) && framed 4 (drop 5 file)) bad in
    record {
      few = not-long long;
      size = leb→le 5 (length file) (both_left (leb 5 (length file)) (framed 4 (drop 5 file)) good);
      blocks = passes-true (framed 4 (drop 5 file)) (both_right (leb 5 (length file)) (framed 4 (drop 5 file)) good);
    }
  where
    not-long : (T (ltb 4096 (length file)) → ⊥) → length file ≤ 4096
    not-long n = nltb→le 4096 (length file) (not_T (ltb 4096 (length file)) n)

-- the bytes of the block at the front are as many as its length says
pub front_length : (s : List ℕ) → 2 + block_length s ≤ length s → {bytes : List ℕ} → bytes ≡ take (block_length s) (drop 2 s) → length bytes ≡ block_length s
front_length s h e = omega (arith, ap length e, length-take-le (block_length s) (drop 2 s) (omega (arith, length-drop 2 s)))

-- a part of a slice, from a start on
pub part-rest : (s : List ℕ) (k : ℕ) → take (length s - k) (drop k s) ≡ drop k s
part-rest s k = take_all (length s - k) (drop k s) (rw length-drop (omega arith))

-- the bytes after the block at the front decide what is left
module _ (s : List ℕ) {rest : List ℕ} (after : rest ≡ drop (2 + block_length s) s) where
  -- whether the bytes are framed
  pub framed-next : (n : ℕ) → 0 < n → 2 + block_length s ≤ length s → {b : Bool} → b ≡ framed (n - 1) rest → b ≡ framed n s
  framed-next n p l h = h ∙ ap (framed (n - 1)) after ∙ framed-rest n s p l

  -- they are framed as one block less
  pub rest-framed : (n : ℕ) → framed n s ≡ true → 0 < n → framed (n - 1) rest ≡ true
  rest-framed n e p = ap (framed (n - 1)) after ∙ (framed-whole n s e p).1

  -- they are no more than all
  pub rest-few : length s ≤ 4096 → length rest ≤ 4096
  rest-few l = omega (arith, ap length after, length-drop (2 + block_length s) s)

  -- the bytes of a later block
  pub block-next : (k : ℕ) → 0 < k → {bytes : List ℕ} → bytes ≡ (block_from (k - 1) 0 rest).bytes → bytes ≡ (block_from k 0 s).bytes
  block-next k p h = h ∙ ap (λ (l : List ℕ). (block_from (k - 1) 0 l).bytes) after ∙ block-later k s p

  -- where a later block begins, within the bytes
  pub start-next : (k : ℕ) → 0 < k → 2 + block_length s ≤ length s → {l r : ℕ} → l ≡ block_length s → r ≡ (block_from (k - 1) 0 rest).start → r ≤ length rest
      → (2 + l + r ≡ (block_from k 0 s).start) × (2 + l + r ≤ length s)
  start-next k p w e h u =
      (start-later k s p e (h ∙ ap (λ (l : List ℕ). (block_from (k - 1) 0 l).start) after), omega (arith, ap length after, length-drop (2 + block_length s) s))

-- the bytes after version and budget, as a part of the slice
module _ (file : List ℕ) where
  -- whether they are framed
  pub part-decides : {b : Bool} → b ≡ framed 4 (take (length file - 5) (drop 5 file)) → b ≡ framed 4 (drop 5 file)
  part-decides h = h ∙ ap (framed 4) (part-rest file 5)

  -- the bytes of a block
  pub part-block : (k : ℕ) → {bytes : List ℕ} → bytes ≡ (block_from k 0 (take (length file - 5) (drop 5 file))).bytes → bytes ≡ (block k file).bytes
  part-block k h = h ∙ ap (λ (l : List ℕ). (block_from k 0 l).bytes) (part-rest file 5) ∙ block-in-file k file

  module _ (f : IsFramed file) where
    -- where a block begins, within the limit
    pub part-start : (k : ℕ) {r : ℕ} → r ≡ (block_from k 0 (take (length file - 5) (drop 5 file))).start → r ≤ length (take (length file - 5) (drop 5 file))
        → (5 + r ≡ (block k file).start) × (5 + r ≤ 4096)
    part-start k h u =
        (start-in-file k file (h ∙ ap (λ (l : List ℕ). (block_from k 0 l).start) (part-rest file 5)), omega (arith, ap length (part-rest file 5), length-drop 5 file))
