-- Which bytes repeat a row of a table: the same three. Assumes nothing.
use Rattle.std.specs.Prelude.{ℕ, ◌+◌, ◌*◌, ◌<◌, ◌≡◌, ◌↔◌, true, ◌&&◌, Bool, List, T, eqb, get_or}
use Rattle.std.proofs.Common.{arith, eqb→eq}
use Rattle.std.proofs.Math.Path.{refl, sym}
use Rattle.std.proofs.Math.Bool.{false}
use Rattle.std.proofs.Math.Option.{Option, none, some}
use Rattle.std.proofs.Math.Dec.{eqb_refl}
use Rattle.semantics.specs.Table.{Row, repeated}
use Rattle.semantics.proofs.laws.Table.{repeated-at}
use Rattle.semantics.proofs.laws.Test.{all_three, passes-true, fails-false}
use Rattle.semantics.proofs.laws.List.{get_elem-below}
use Rattle.semantics.proofs.laws.Encoding.{decode-exactly}
use Rattle.rows.specs.Rows.{Shape, decoded_at, rows_of}
use Rattle.table.specs.Check.{repeats_decoded, same_bytes}
use Rattle.rows.specs.laws.Decode.{decodes-same}
use Rattle.table.specs.laws.Below.{below_row}

-- three bytes are the same as three others exactly if each is
same-three : (a b c a' b' c' : ℕ) → T (eqb a a' && eqb b b' && eqb c c') ↔ ((a ≡ a') × (b ≡ b') × (c ≡ c'))
same-three a b c a' b' c' = (
  λ u. let w = (all_three (eqb a a') (eqb b b') (eqb c c')).0 u in (eqb→eq a a' w.0, eqb→eq b b' w.1, eqb→eq c c' w.2),
  λ w. (all_three (eqb a a') (eqb b b') (eqb c c')).1 (rw w.0 (eqb_refl a'), rw w.1 (eqb_refl b'), rw w.2 (eqb_refl c')),
)

-- a row has the three bytes exactly if each of the three is the same
pub same-bytes-iff : (bytes : List ℕ) (j : ℕ) (row : List ℕ)
    → T (same_bytes bytes j row) ↔ ((get_or bytes (3 * j) 0 ≡ get_or row 0 0) × (get_or bytes (3 * j + 1) 0 ≡ get_or row 1 0) × (get_or bytes (3 * j + 2) 0 ≡ get_or row 2 0))
same-bytes-iff bytes j row = same-three (get_or bytes (3 * j) 0) (get_or bytes (3 * j + 1) 0) (get_or bytes (3 * j + 2) 0) (get_or row 0 0) (get_or row 1 0) (get_or row 2 0)

module _ (bytes : List ℕ) (n runs : ℕ) (shape : Shape bytes n runs) (front : List ℕ) where
  -- bytes that are those of a row below repeat it
  repeats-yes : (j : ℕ) → j < n → same_bytes bytes j front ≡ true → repeats_decoded (rows_of bytes) (decoded_at front 0) ≡ true
  unfolding decoded_at
  repeats-yes j l e =
      let w = below_row bytes n runs shape j l in
      let s = (same-bytes-iff bytes j front).0 (rw e tt) in
      rw (← s.0, ← s.1, ← s.2, (decode-exactly (get_or bytes (3 * j) 0) (get_or bytes (3 * j + 1) 0) (get_or bytes (3 * j + 2) 0) w.0).1 w.2)
      (passes-true (repeated (rows_of bytes) w.0) ((repeated-at (rows_of bytes) w.0).1 (j, w.1)))

  -- bytes that are those of no row below repeat none
  repeats-no : ((j : ℕ) → j < n → same_bytes bytes j front ≡ true → ⊥) → repeats_decoded (rows_of bytes) (decoded_at front 0) ≡ false
  unfolding decoded_at
  repeats-no h = go (decoded_at front 0) refl
    where
      go : (o : Option Row) → decoded_at front 0 ≡ o → repeats_decoded (rows_of bytes) o ≡ false
      go none e = refl
      go (some row) e = fails-false (repeated (rows_of bytes) row) (λ u.
          let p = (repeated-at (rows_of bytes) row).0 u in
          let l : p.0 < n = omega (arith, get_elem-below (rows_of bytes) p.0 p.1, shape.count) in
          let w = below_row bytes n runs shape p.0 l in
          let q : w.0 ≡ row = cc in
          let same = decodes-same (rw q at w.2) ((decode-exactly (get_or front 0 0) (get_or front 1 0) (get_or front 2 0) row).0 e) in
          h p.0 l (passes-true (same_bytes bytes p.0 front) ((same-bytes-iff bytes p.0 front).1 same)))

  -- bytes repeat a row exactly if they are those of a row below
  pub repeats-if : {r : Bool} → (r ≡ true → (j : ℕ) × (j < n) × (same_bytes bytes j front ≡ true)) → (r ≡ false → (j : ℕ) → j < n → same_bytes bytes j front ≡ true → ⊥)
      → r ≡ repeats_decoded (rows_of bytes) (decoded_at front 0)
  repeats-if {r = true} some_row no_row = let w = some_row refl in sym (repeats-yes w.0 w.1 w.2)
  repeats-if {r = false} some_row no_row = sym (repeats-no (no_row refl))
