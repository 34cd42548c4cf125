-- The rows of a table, below a row that is judged: how many there are, and what their bytes say of them. Assumes nothing.
use Rattle.std.specs.Prelude.{ℕ, suc, ◌+◌, ◌*◌, ◌≤◌, ◌<◌, ◌≡◌, refl, Bool, true, false, not, List, [], ◌∷◌, ltb, eqb, length, get_or}
use Rattle.std.proofs.Common.{not-suc-le-zero, le_of_suc-le-suc, arith, sym, ltb-true, ltb-false}
use Rattle.std.proofs.Math.Option.{none, some}
use Rattle.std.proofs.Math.ListN.{get_elem?}
use Rattle.semantics.specs.Basic.{present}
use Rattle.semantics.specs.Table.{Row, agent_like, no_pair}
use Rattle.semantics.specs.Encoding.{RowBytes}
use Rattle.semantics.proofs.laws.List.{get_elem-there}
use Rattle.rows.specs.Rows.{Shape, rows_of}
use Rattle.rows.specs.laws.Table.{row_here}
use Rattle.rows.specs.laws.Decode.{agent_kind, decodes-agent, decodes-pair}

-- a place past the end has no element
pub get_elem-past : {A : Type 0} (xs : List A) (i : ℕ) → length xs ≤ i → get_elem? xs i ≡ none
get_elem-past [] i l = refl
get_elem-past (x ∷ xs) ℕ.zero l = absurd (not-suc-le-zero l)
get_elem-past (x ∷ xs) (suc i) l = get_elem-past xs i (le_of_suc-le-suc l)

-- a place has an element exactly if it is below the length
pub present-below : {A : Type 0} (xs : List A) (i n : ℕ) → length xs ≡ n → ltb i n ≡ present (get_elem? xs i)
present-below xs i n e = go (ltb i n) refl
  where
    go : (b : Bool) → ltb i n ≡ b → b ≡ present (get_elem? xs i)
    go true f = let w = get_elem-there xs i (omega (arith, ltb-true i n f)) in rw w.1
    go false f = rw (get_elem-past xs i (omega (arith, ltb-false i n f)))

module _ (bytes : List ℕ) (n runs : ℕ) (shape : Shape bytes n runs) (a : ℕ) where
  -- there is no row from the end on
  pub below_none : n ≤ a → get_elem? (rows_of bytes) a ≡ none
  below_none l = get_elem-past (rows_of bytes) a (omega (arith, shape.count))

  -- a number is that of a row exactly if it is below how many there are
  pub below-present : ltb a n ≡ present (get_elem? (rows_of bytes) a)
  below-present = present-below (rows_of bytes) a n (sym shape.count)

  -- a row and its three bytes
  pub below_row : a < n → (row : Row) × (get_elem? (rows_of bytes) a ≡ some row) × RowBytes (get_or bytes (3 * a) 0) (get_or bytes (3 * a + 1) 0) (get_or bytes (3 * a + 2) 0) row
  below_row l = row_here bytes shape.table a (omega (arith, shape.count))

  -- whether it is agent-like
  pub below-agent : a < n → {k : ℕ} → k ≡ get_or bytes (3 * a) 0 → agent_like (get_elem? (rows_of bytes) a) ≡ agent_kind k (get_or bytes (3 * a + 2) 0)
  below-agent l e = let w = below_row l in rw (w.1, e) (decodes-agent w.2)

  -- whether it is no pair
  pub below-pair : a < n → {k : ℕ} → k ≡ get_or bytes (3 * a) 0 → no_pair (get_elem? (rows_of bytes) a) ≡ not (eqb k 11)
  below-pair l e = let w = below_row l in rw (w.1, e) (decodes-pair w.2)
