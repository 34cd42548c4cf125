-- What the check of a table knows once it has passed i rows, and what it answers from there. Assumes nothing.
use Rattle.std.specs.Prelude.{ℕ, ◌+◌, ◌*◌, ◌≤◌, ◌<◌, ◌≡◌, T, Some, None, length, get_or, take, drop, Err, Ok}
use Rattle.std.proofs.Common.{arith, sym, ◌∙◌, take-append-drop, length-drop, length-take-le, take-add}
use Rattle.std.proofs.Math.Path.{refl, ap}
use Rattle.std.proofs.Math.Option.{some}
use mathlib.Core.List.{List, [], ◌∷◌, ◌++◌}
use Rattle.std.proofs.Math.ListN.{drop_of_length-le}
use Rattle.semantics.specs.Basic.{keep}
use Rattle.semantics.specs.Guarantee.{GoodTable}
use Rattle.semantics.specs.Table.{Row, variable_row, admissible, repeated, row_refusal, rows_from}
use Rattle.semantics.proofs.laws.Table.{row_refusal-none, rows_from-then, rows_from-short}
use Rattle.answers.specs.Answers.{numbered}
use Rattle.answers.specs.declared.Reason.{Reason}
use Rattle.rows.specs.Rows.{IsTable, Shape, decoded_at, rows_of}
use Rattle.table.specs.Check.{reason_as, judged_as}
use Rattle.rows.specs.laws.Table.{table-good, table-length}
use Rattle.table.specs.laws.Table.{table-append, table_empty, table_more}
use Rattle.table.specs.laws.Bytes.{drop-three}
use Rattle.table.specs.laws.Refusal.{refusal_none, refusal_some, variables-with}

-- the rows below row i
abbrev pub rows_below : List ℕ → ℕ → List Row
rows_below t i = rows_of (take (3 * i) t)

-- i rows are passed: they are a table with so many variables
pub record PassedRows (t : List ℕ) (i variables : ℕ) : Type 0 where
  pub few : i ≤ 96
  pub within : 3 * i ≤ length t
  pub table : IsTable (take (3 * i) t)
  pub counted : variables ≡ length (keep variable_row (rows_below t i))
  pub few_variables : variables ≤ 8

-- no row is passed at first
pub passed_none : (t : List ℕ) → PassedRows t 0 0
passed_none t = record { few = omega arith; within = omega arith; table = table_empty.0; counted = rw table_empty.1; few_variables = omega arith }

module _ (t : List ℕ) (i v : ℕ) (p : PassedRows t i v) where
  -- there are i rows below row i
  passed_length : length (rows_below t i) ≡ i
  passed_length = omega (arith, table-length (take (3 * i) t) p.table, length-take-le (3 * i) t p.within)

  -- the rest is read on from row i
  passed-rest : (at : ℕ) → rows_from at [] t ≡ rows_from (at + 3 * i) (rows_below t i) (drop (3 * i) t)
  passed-rest at =
      ap (rows_from at []) (sym (take-append-drop (3 * i) t)) ∙ table-append (take (3 * i) t) p.table at (drop (3 * i) t)
      ∙ ap (λ (n : ℕ). rows_from (at + n) (rows_below t i) (drop (3 * i) t)) (length-take-le (3 * i) t p.within)

  -- all rows are passed where the bytes end
  pub passed-all : (at : ℕ) → length t ≡ 3 * i → Ok i ≡ judged_as (rows_from at [] t)
  unfolding rows_from
  passed-all at e = rw (passed-rest at, drop_of_length-le t {i = 3 * i} (omega arith)) (ap Ok (sym passed_length))

  -- a row that is not complete is refused
  pub passed-short : (at : ℕ) → 3 * i < length t → length t < 3 * i + 3 → Err (numbered 4 (at + 3 * i)) ≡ judged_as (rows_from at [] t)
  passed-short at m l =
      let size = length-drop (3 * i) t in
      rw (passed-rest at, rows_from-short (at + 3 * i) (rows_below t i) (drop (3 * i) t) (omega arith) (omega arith))

  -- the bytes below row i are a table
  pub passed-shape : {below : List ℕ} → below ≡ take (3 * i) t → Shape below i 0
  passed-shape e = rw e (record { table = p.table; count = sym passed_length; size = length-take-le (3 * i) t p.within; few = p.few; few_runs = omega arith })

  -- their variables are counted
  pub passed-counted : {below : List ℕ} → below ≡ take (3 * i) t → v ≡ length (keep variable_row (rows_of below))
  passed-counted e = rw e p.counted

  module _ (whole : 3 * i + 3 ≤ length t) {below front : List ℕ} (before : below ≡ take (3 * i) t) (from : front ≡ drop (3 * i) t) where
    -- the three bytes of row i stand at the front of the bytes from it on
    front-three : front ≡ get_or front 0 0 ∷ get_or front 1 0 ∷ get_or front 2 0 ∷ drop 3 front
    front-three = drop-three front 0 (omega (arith, ap length from, length-drop (3 * i) t))

    -- they are read after the rows below
    passed-front : (at : ℕ) → rows_from at [] t ≡ rows_from (at + 3 * i) (rows_of below) (get_or front 0 0 ∷ get_or front 1 0 ∷ get_or front 2 0 ∷ drop 3 front)
    passed-front at = passed-rest at ∙ ap (λ (x : List ℕ). rows_from (at + 3 * i) (rows_of x) (drop (3 * i) t)) (sym before) ∙ ap (rows_from (at + 3 * i) (rows_of below)) (sym from ∙ front-three)

    -- a row is refused by its reason
    pub passed-refused : (at : ℕ) (r : Reason) → Some r ≡ reason_as (row_refusal (rows_of below) (decoded_at front 0)) → Err (record { reason = r; place = at + 3 * i }) ≡ judged_as (rows_from at [] t)
    unfolding decoded_at
    passed-refused at r e =
        let w = refusal_some (row_refusal (rows_of below) (decoded_at front 0)) r e in
        rw (w.2, passed-front at, rows_from-then (at + 3 * i) (rows_of below) (get_or front 0 0) (get_or front 1 0) (get_or front 2 0) (drop 3 front) refl w.1)

    -- a row that is not refused is passed
    pub passed-more : (n : ℕ) → None ≡ reason_as (row_refusal (rows_of below) (decoded_at front 0)) → (get_or front 0 0 ≡ 6 → n ≡ v + 1) × ((get_or front 0 0 ≡ 6 → ⊥) → n ≡ v)
        → PassedRows t (i + 1) n
    unfolding decoded_at
    passed-more n e w = record {
      few = omega (arith, good.few, table-length (take (3 * (i + 1)) t) table.0, length-take-le (3 * (i + 1)) t (omega arith));
      within = omega arith;
      table = table.0;
      counted = table.1;
      few_variables = omega (arith, good.few_variables, table.1);
    }
      where
        row : (row : Row) × (decoded_at front 0 ≡ some row) × T (admissible (rows_of below) row) × ¬ T (repeated (rows_of below) row)
        row = row_refusal-none (rows_of below) (decoded_at front 0) (refusal_none (row_refusal (rows_of below) (decoded_at front 0)) e)

        bytes : take (3 * (i + 1)) t ≡ below ++ get_or front 0 0 ∷ get_or front 1 0 ∷ get_or front 2 0 ∷ []
        bytes =
            let z : 3 * (i + 1) ≡ 3 * i + 3 = omega arith in
            ap (λ (m : ℕ). take m t) z ∙ take-add (3 * i) 3 t ∙ ap (λ (x : List ℕ). x ++ take 3 (drop (3 * i) t)) (sym before) ∙ ap (λ (x : List ℕ). below ++ take 3 x) (sym from ∙ front-three)

        table : IsTable (take (3 * (i + 1)) t) × (n ≡ length (keep variable_row (rows_below t (i + 1))))
        table =
            let m = table_more below (passed-shape before).table (get_or front 0 0) (get_or front 1 0) (get_or front 2 0) row.0 row.1 row.2 row.3 in
            rw bytes (m.0, rw m.1 (variables-with (rows_of below) front v n (passed-counted before) w row.0 row.1))

        good : GoodTable (rows_below t (i + 1))
        good = table-good (take (3 * (i + 1)) t) table.0
