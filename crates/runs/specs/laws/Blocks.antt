-- The blocks of a framed file, as bytes of the file. Assumes nothing.
use Prim.Native.Nat.{ℕ, zero, suc, ◌+◌, ◌-◌, ◌<◌, ◌≤◌}
use native.Mathlib.Omega.{arith}
use Rattle.std.specs.Prelude.{◌≡◌, true, take}
use Rattle.std.proofs.Math.Path.{refl, ap}
use Rattle.std.proofs.Common.{◌∙◌, length-take}
use mathlib.Core.List.{List}
use Rattle.std.proofs.Math.ListN.{length, get_or, drop, length-drop}
use Rattle.std.proofs.Math.Seq.{get_or-take, get_or-drop, drop-drop}
use Rattle.semantics.specs.Answer.{accepted}
use Rattle.semantics.specs.Frame.{Part, block_length, framed, block_from, block}
use Rattle.semantics.specs.Scenario.{Scenario, opened}
use Rattle.semantics.proofs.laws.Open.{opened-inverts}
use Rattle.frame.specs.Framing.{IsFramed}
use Rattle.frame.specs.laws.Frame.{framed-whole, framing-framed}

-- a part whose bytes are those of the file from its start on
pub record PartStands (file : List ℕ) (part : Part) : Type 0 where
  pub inside : part.start + length part.bytes ≤ length file
  pub same : (i : ℕ) → i < length part.bytes → get_or part.bytes i 0 ≡ get_or file (part.start + i) 0

module _ (file : List ℕ) where
  -- so are those of each block from a place on
  from-stands : (k n at : ℕ) (s : List ℕ) → s ≡ drop at file → at ≤ length file → framed n s ≡ true → k < n → PartStands file (block_from k at s)
  unfolding block_from
  from-stands zero n at s e l f h =
      let w = (framed-whole n s f h).0 in
      let d : length s ≡ length file - at = ap length e ∙ length-drop at file in
      let t : length (take (block_length s) (drop 2 s)) ≡ block_length s = rw (length-take, length-drop) (omega arith) in
      record {
        inside = omega arith;
        same = λ i m. let z : at + (2 + i) ≡ at + 2 + i = omega arith in
            get_or-take (block_length s) (drop 2 s) i 0 (omega arith) ∙ get_or-drop 2 s i 0 ∙ ap (λ (x : List ℕ). get_or x (2 + i) 0) e ∙ get_or-drop at file (2 + i) 0 ∙ ap (λ (j : ℕ). get_or file j 0) z;
      }
  from-stands (suc k) n at s e l f h =
      let w = framed-whole n s f (omega arith) in
      let d : length s ≡ length file - at = ap length e ∙ length-drop at file in
      let m = 2 + block_length s in
      from-stands k (n - 1) (at + m) (drop m s) (ap (λ (x : List ℕ). drop m x) e ∙ drop-drop m at file) (omega (arith, w.0)) w.1 (omega arith)

  -- of a framed file
  pub block-stands : IsFramed file → (k : ℕ) → k < 4 → PartStands file (block k file)
  unfolding block
  block-stands f k h = from-stands k 4 5 (drop 5 file) refl f.size f.blocks h

  -- an accepted file is framed
  pub opened-framed : (sc : Scenario) → opened file ≡ accepted sc → IsFramed file
  opened-framed sc e = let o = opened-inverts file sc e in framing-framed file (rw (o.versioned, o.short, o.framed) refl)
