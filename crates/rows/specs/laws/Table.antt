-- What holds of the rows of a table, and of the bytes of each. Assumes nothing.
use Rattle.std.specs.Prelude.{ℕ, ◌+◌, ◌*◌, ◌<◌, ◌≤◌, ◌≡◌, refl, Bool, false, List, length, get_or}
use Rattle.std.proofs.Common.{arith, sym, ◌∙◌}
use Rattle.std.proofs.Math.Option.{Option, none, some}
use Rattle.std.proofs.Math.ListN.{get_elem?}
use Rattle.semantics.specs.Term.{Atom}
use Rattle.semantics.specs.Table.{Row}
use Rattle.semantics.specs.Runs.{atom_of, atom_at}
use Rattle.semantics.specs.Guarantee.{GoodTable}
use Rattle.semantics.specs.Encoding.{RowBytes}
use Rattle.semantics.proofs.laws.List.{get_elem-below, get_elem-there}
use Rattle.semantics.proofs.laws.Encoding.{decode-exactly}
use Rattle.semantics.proofs.laws.Table.{rows-good, rows-decoded}
use Rattle.rows.specs.Rows.{rows_of, IsTable, Sized, decoded_at}
use Rattle.rows.specs.laws.Decode.{decodes-refers}

module _ (bytes : List ℕ) (table : IsTable bytes) where
  -- the rows of a table are good
  pub table-good : GoodTable (rows_of bytes)
  table-good = rows-good 0 bytes (rows_of bytes) table

  -- three bytes a row
  pub table-length : length bytes ≡ 3 * length (rows_of bytes)
  table-length = (rows-decoded 0 bytes (rows_of bytes) table).size

  -- each row is the one that its bytes say
  pub table-decoded : (i : ℕ) → i < length (rows_of bytes) → get_elem? (rows_of bytes) i ≡ decoded_at bytes i
  unfolding decoded_at
  table-decoded i l = (rows-decoded 0 bytes (rows_of bytes) table).each i l

  -- a row of the table, and what its bytes say
  pub table-row : (i : ℕ) (row : Row) → get_elem? (rows_of bytes) i ≡ some row → i < length (rows_of bytes)
      → RowBytes (get_or bytes (3 * i) 0) (get_or bytes (3 * i + 1) 0) (get_or bytes (3 * i + 2) 0) row
  unfolding decoded_at
  table-row i row e l = (decode-exactly (get_or bytes (3 * i) 0) (get_or bytes (3 * i + 1) 0) (get_or bytes (3 * i + 2) 0) row).0 (sym (table-decoded i l) ∙ e)

  -- a row that is there, and what its bytes say
  pub row_here : (i : ℕ) → i < length (rows_of bytes)
      → (row : Row) × (get_elem? (rows_of bytes) i ≡ some row) × RowBytes (get_or bytes (3 * i) 0) (get_or bytes (3 * i + 1) 0) (get_or bytes (3 * i + 2) 0) row
  row_here i l = let w = get_elem-there (rows_of bytes) i l in (w.0, w.1, table-row i w.0 w.1 l)

  module _ (i : ℕ) (within : i < length (rows_of bytes)) where
    -- the row with this number
    own : (row : Row) × (get_elem? (rows_of bytes) i ≡ some row) × RowBytes (get_or bytes (3 * i) 0) (get_or bytes (3 * i + 1) 0) (get_or bytes (3 * i + 2) 0) row
    own = row_here i within

    -- the rows that it refers to are below it
    pub left-lower : 8 ≤ get_or bytes (3 * i) 0 → get_or bytes (3 * i + 1) 0 < i
    left-lower h = table-good.lower i own.0 own.1 (get_or bytes (3 * i + 1) 0) ((decodes-refers own.2).0 h)

    pub right-lower : 10 ≤ get_or bytes (3 * i) 0 → get_or bytes (3 * i + 2) 0 < i
    right-lower h = table-good.lower i own.0 own.1 (get_or bytes (3 * i + 2) 0) ((decodes-refers own.2).1 h)

module _ (bytes : List ℕ) (n : ℕ) (sized : Sized bytes n) (test : Option Atom → Bool) (r : ℕ) where
  -- a test of atoms fails at an absent row if it fails where there is no atom
  pub atom-absent : test none ≡ false → n ≤ r → false ≡ test (atom_at (rows_of bytes) r)
  atom-absent nothing l = go (get_elem? (rows_of bytes) r) refl
    where
      go : (o : Option Row) → get_elem? (rows_of bytes) r ≡ o → false ≡ test (atom_of o)
      go none e = sym nothing
      go (some row) e = absurd (omega (arith, get_elem-below (rows_of bytes) r e, sized.count))

  -- a row that is there passes it by its kind, if that is so of the bytes of every row
  pub atom-kind : (by_kind : ℕ → Bool) → ((k a b : ℕ) (row : Row) → RowBytes k a b row → test (atom_of (some row)) ≡ by_kind k) → r < n → by_kind (get_or bytes (3 * r) 0) ≡ test (atom_at (rows_of bytes) r)
  atom-kind by_kind says l =
      let w = row_here bytes sized.table r (omega (arith, sized.count)) in
      sym (rw w.1 (says _ _ _ w.0 w.2))
