-- The laws of cells: parts are lower rows, and cells are told apart. Assumes nothing.
use Rattle.std.specs.Prelude.{ℕ, zero, suc, ◌+◌, ◌*◌, ◌<◌, ◌≤◌, ◌≡◌, refl, Bool, true, false, cond, ltb, length, get_or}
use Rattle.std.proofs.Common.{le_of_suc-le-suc, not-suc-le-zero, arith, lt-ltb, le-ltb, ltb-false}
use mathlib.Core.List.{List, [], ◌∷◌, Memᴰ}
use Rattle.std.proofs.Math.Option.{some}
use Rattle.std.proofs.Math.ListN.{get_elem?}
use Rattle.semantics.specs.Table.{Row}
use Rattle.semantics.specs.Guarantee.{refers_to}
use Rattle.semantics.specs.Encoding.{RowBytes}
use Rattle.semantics.proofs.laws.List.{get_elem-there}
use Rattle.rows.specs.Rows.{rows_of, Shape, second_of}
use Rattle.rows.specs.laws.Table.{table-good, table-row, left-lower as lower-left}
use Rattle.rows.specs.laws.Decode.{decodes-refers}
use Rattle.cells.specs.Cells.{cell_count, absent, Matches, FoundInRow, has_run, has_no_run, Found, is_found, not_found}

-- within a list the default does not matter
pub get_d_any : {A : Type 0} (xs : List A) (i : ℕ) (d e : A) → i < length xs → get_or xs i d ≡ get_or xs i e
get_d_any [] i d e l = absurd (not-suc-le-zero l)
get_d_any (x ∷ xs) zero d e l = refl
get_d_any (x ∷ xs) (suc i) d e l = get_d_any xs i d e (le_of_suc-le-suc l)

-- the parts of a row of kind 8 to 12 are rows to which it refers
pub parts-referred : {k l r : ℕ} {row : Row} → RowBytes k l r row → 8 ≤ k → Memᴰ l (refers_to row) × Memᴰ (cond (ltb k 10) l r) (refers_to row)
parts-referred {k} {l} {r} {row} d h = ((decodes-refers d).0 h, go (ltb k 10) refl)
  where
    go : (b : Bool) → ltb k 10 ≡ b → Memᴰ (cond b l r) (refers_to row)
    go true e = (decodes-refers d).0 h
    go false e = (decodes-refers d).1 (ltb-false k 10 e)

module _ (bytes : List ℕ) (n runs : ℕ) (shape : Shape bytes n runs) (x : ℕ) (low : x < n) where
  -- a row that is there
  pub row-there : (row : Row) × (get_elem? (rows_of bytes) x ≡ some row)
  row-there = get_elem-there (rows_of bytes) x (omega (arith, shape.count))

  -- what its bytes say
  pub row-decodes : RowBytes (get_or bytes (3 * x) 0) (get_or bytes (3 * x + 1) 0) (get_or bytes (3 * x + 2) 0) row-there.0
  row-decodes = table-row bytes shape.table x row-there.0 row-there.1 (omega (arith, shape.count))

  -- the parts of a row of kind 8 to 12 are lower rows
  pub left-lower : 8 ≤ get_or bytes (3 * x) 0 → get_or bytes (3 * x + 1) 0 < x
  left-lower = lower-left bytes shape.table x (omega (arith, shape.count))

  pub second-lower : 8 ≤ get_or bytes (3 * x) 0 → second_of bytes x < x
  second-lower h = (table-good bytes shape.table).lower x row-there.0 row-there.1 (second_of bytes x) (parts-referred row-decodes h).1

  -- so they have cells
  pub left-small : 8 ≤ get_or bytes (3 * x) 0 → {l : ℕ} → l ≡ get_or bytes (3 * x + 1) 0 → l < 96
  left-small h e = omega (arith, left-lower h, shape.few)

  pub second-small : 8 ≤ get_or bytes (3 * x) 0 → {s : ℕ} → s ≡ second_of bytes x → s < 96
  second-small h e = omega (arith, second-lower h, shape.few)

-- the second part, by the kind
pub second-left : (bytes : List ℕ) (r : ℕ) {k s : ℕ} → k ≡ get_or bytes (3 * r) 0 → k < 10 → s ≡ get_or bytes (3 * r + 1) 0 → s ≡ second_of bytes r
second-left bytes r {k} e l q = rw (lt-ltb (get_or bytes (3 * r) 0) 10 (rw e at l)) q

pub second-right : (bytes : List ℕ) (r : ℕ) {k s : ℕ} → k ≡ get_or bytes (3 * r) 0 → 10 ≤ k → s ≡ get_or bytes (3 * r + 2) 0 → s ≡ second_of bytes r
second-right bytes r {k} e l q = rw (le-ltb (get_or bytes (3 * r) 0) 10 (rw e at l)) q

-- what is read of a cell is its class
pub class-read : (classes : List ℕ) → length classes ≡ cell_count → {c d : ℕ} → c ≡ d → c < cell_count → get_or classes c 0 ≡ get_or classes d absent
class-read classes sized {d = d} e l = rw e (get_d_any classes d 0 absent (omega arith))

module _ {bytes : List ℕ} {n runs : ℕ} {classes : List ℕ} {kind a b : ℕ} where
  -- a class that is found in a row is found
  pub row-found : {x class : ℕ} → x < n → FoundInRow bytes runs classes kind a b x class → class < absent → Found bytes n runs classes kind a b class
  row-found {x} l (has_run w k e m c) h = is_found x w l k e m c
  row-found l (has_no_run none c) h = absurd (omega arith)

  -- if no row has it, it is not found
  pub none_found : ((x : ℕ) → x < n → FoundInRow bytes runs classes kind a b x absent) → Found bytes n runs classes kind a b absent
  none_found none = not_found (λ x w l k e m. row (none x l) w k e m) refl
    where
      row : {x : ℕ} → FoundInRow bytes runs classes kind a b x absent → (w : ℕ) → w ≤ runs → get_or bytes (3 * x) 0 ≡ kind → Matches bytes classes a b x w → ⊥
      row (has_run w k e m c) = absurd (omega (arith, m.there))
      row (has_no_run none c) = none
