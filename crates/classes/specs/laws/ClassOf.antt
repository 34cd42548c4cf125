-- The class of a cell, from what is read of its row and of its parts' classes. Assumes nothing.
use Rattle.std.specs.Prelude.{ℕ, ◌+◌, ◌*◌, ◌<◌, ◌≤◌, ◌≡◌, List, length, get_or, Option, Some, None, MatchOption}
use Rattle.std.specs.Option.{unwrap_or}
use Rattle.std.proofs.Common.{ap, ◌∙◌, arith}
use Rattle.rows.specs.Rows.{second_of}
use Rattle.cells.specs.Cells.{cell_of, cell_count, absent, Found}
use Rattle.cells.specs.laws.Cells.{class-read}
use Rattle.classes.specs.Filled.{first_class, second_class, ClassOf, of_other, of_itself}

module _ (bytes classes : List ℕ) (u x : ℕ) (sized : length classes ≡ cell_count) where
  -- what is read of the parts
  pub first_read : {l d : ℕ} → l ≡ get_or bytes (3 * x + 1) 0 → d ≡ cell_of l u → d < cell_count → get_or classes d 0 ≡ first_class bytes classes u x
  first_read q e b = class-read classes sized (e ∙ ap (λ r. cell_of r u) q) b

  pub second-read : {s d : ℕ} → s ≡ second_of bytes x → d ≡ cell_of s u → d < cell_count → get_or classes d 0 ≡ second_class bytes classes u x
  second-read q e b = class-read classes sized (e ∙ ap (λ r. cell_of r u) q) b

module _ (bytes : List ℕ) (n runs : ℕ) (names classes : List ℕ) (u x : ℕ) {kind : ℕ} (kinds : kind ≡ get_or bytes (3 * x) 0) where
  module _ (high : 8 ≤ kind) {a : ℕ} (first : a ≡ first_class bytes classes u x) where
    module _ {b : ℕ} (second : b ≡ second_class bytes classes u x) where
      -- a cell with such parts is found, or none is
      pub class-looked : (a ≡ absent → ⊥) → (b ≡ absent → ⊥) → (o : Option ℕ) → MatchOption o (Found bytes n runs classes kind a b absent) (λ f. (f < absent) × Found bytes n runs classes kind a b f)
          → {c class : ℕ} → c ≡ cell_of x u → class ≡ unwrap_or o c → ClassOf bytes n runs names classes u x class
      class-looked h₁ h₂ None found c e =
          rw e (of_itself (rw kinds at high) (rw first at h₁) (rw second at h₂) (rw (kinds, first, second) at found) c)
      class-looked h₁ h₂ (Some f) found c e = rw e (of_other (rw kinds at high) (rw (kinds, first, second) at found.1) (λ q. omega (arith, found.0)))
