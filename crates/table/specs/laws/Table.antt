-- The laws of tables of bytes: what their rows are, whatever the place at which they are read. Assumes nothing.
use Rattle.std.specs.Prelude.{ℕ, suc, ◌+◌, ◌≡◌, refl, ◌↔◌, List, [], ◌∷◌, ◌++◌, T, length, Err, Ok}
use Rattle.std.proofs.Common.{arith, sym, ap, ◌∙◌}
use Rattle.std.proofs.Math.Option.{some}
use Rattle.semantics.specs.Answer as definitions
use Rattle.semantics.specs.Answer.{Answer, refused, accepted}
use Rattle.semantics.specs.Table.{Row, decode, admissible, repeated, rows_from}
use Rattle.semantics.proofs.laws.Table.{rows_from-step, Reads, ends, reads, rows_from-reads}
use Rattle.semantics.proofs.laws.Encoding.{table-exactly}
use Rattle.rows.specs.Rows.{IsTable, Sized, rows_of, rows_or}
use Rattle.answers.specs.Answers.{refusal_as}
use Rattle.answers.specs.declared.Refusal.{Refusal}
use Rattle.table.specs.Check.{judged_as}
use Rattle.rows.specs.laws.Table.{table-good, table-length}

-- after bytes that are read, the rest is read on from where they end
reads-append : {below rows : List Row} {bytes : List ℕ} → Reads below bytes rows → (at : ℕ) (rest : List ℕ) → rows_from at below (bytes ++ rest) ≡ rows_from (at + length bytes) rows rest
reads-append (ends {below}) at rest = let z : at ≡ at + 0 = omega arith in ap (λ (n : ℕ). rows_from n below rest) z
reads-append {rows = rows} (reads {below = below} {kind = k} {left = l} {right = r} {bytes = bytes} {row = row} d a n more) at rest =
    let z : at + 3 + length bytes ≡ at + suc (suc (suc (length bytes))) = omega arith in
    rows_from-step at below k l r (bytes ++ rest) row d a n
    ∙ reads-append more (at + 3) rest ∙ ap (λ (m : ℕ). rows_from m rows rest) z

-- acceptance and rows do not depend on the place
pub rows_from-place : (at at' : ℕ) (bytes : List ℕ) (rows : List Row) → (rows_from at [] bytes ≡ accepted rows) ↔ (rows_from at' [] bytes ≡ accepted rows)
rows_from-place at at' bytes rows = (λ e. (table-exactly at' bytes rows).1 ((table-exactly at bytes rows).0 e), λ e. (table-exactly at bytes rows).1 ((table-exactly at' bytes rows).0 e))

-- accepted bytes are a table of the accepted rows
pub accepted-table : (at : ℕ) (bytes : List ℕ) (rows : List Row) → rows_from at [] bytes ≡ accepted rows → IsTable bytes × (rows_of bytes ≡ rows)
unfolding rows_of
accepted-table at bytes rows e = let z = (rows_from-place at 0 bytes rows).0 e in (z ∙ ap accepted (sym (ap rows_or z)), ap rows_or z)

-- what an answer is by what the check says of it: so many rows
pub judged-accepted : (a : Answer (List Row)) (n : ℕ) → judged_as a ≡ Ok n → (rows : List Row) × (a ≡ accepted rows) × (n ≡ length rows)
judged-accepted (refused r) n e = let z : ◌≡◌ {A = ℕ} 0 1 = cc in absurd (omega arith)
judged-accepted (accepted rows) n e = (rows, refl, let z : length rows ≡ n = cc in sym z)

-- or a refusal with its place
pub judged-refused : (a : Answer (List Row)) (x : Refusal) → judged_as a ≡ Err x → (r : definitions.Refusal) × (a ≡ refused r) × (x ≡ refusal_as r)
judged-refused (refused r) x e = (r, refl, cc)
judged-refused (accepted rows) x e = let z : ◌≡◌ {A = ℕ} 0 1 = cc in absurd (omega arith)

-- what a caller of the check knows of the bytes where it answers with a number of rows
pub judged-table : (at : ℕ) (bytes : List ℕ) (n : ℕ) → judged_as (rows_from at [] bytes) ≡ Ok n → IsTable bytes × (n ≡ length (rows_of bytes))
judged-table at bytes n j =
    let w = judged-accepted (rows_from at [] bytes) n j in
    let t = accepted-table at bytes w.0 w.1 in
    (t.0, rw t.1 w.2)

-- the bytes of an accepted table
pub judged-sized : (at : ℕ) (bytes : List ℕ) (n : ℕ) → judged_as (rows_from at [] bytes) ≡ Ok n → Sized bytes n
judged-sized at bytes n j =
    let w = judged-table at bytes n j in
    record {
      table = w.0;
      count = w.1;
      size = omega (arith, table-length bytes w.0, w.1);
      few = omega (arith, (table-good bytes w.0).few, w.1);
      few_runs = omega arith;
    }

-- a table is accepted at every place
pub table-accepted : (bytes : List ℕ) → IsTable bytes → (at : ℕ) → rows_from at [] bytes ≡ accepted (rows_of bytes)
table-accepted bytes t at = (rows_from-place 0 at bytes (rows_of bytes)).0 t

-- bytes after a table are read on from where it ends
pub table-append : (bytes : List ℕ) → IsTable bytes → (at : ℕ) (rest : List ℕ) → rows_from at [] (bytes ++ rest) ≡ rows_from (at + length bytes) (rows_of bytes) rest
table-append bytes t at rest = reads-append (rows_from-reads 0 [] bytes (rows_of bytes) t) at rest

-- no bytes are a table of no rows
pub table_empty : IsTable [] × (rows_of [] ≡ [])
unfolding rows_from
table_empty = accepted-table 0 [] [] refl

-- a table with one row more that is not refused
pub table_more : (bytes : List ℕ) → IsTable bytes → (k l r : ℕ) (row : Row) → decode k l r ≡ some row → T (admissible (rows_of bytes) row) → ¬ T (repeated (rows_of bytes) row)
    → IsTable (bytes ++ k ∷ l ∷ r ∷ []) × (rows_of (bytes ++ k ∷ l ∷ r ∷ []) ≡ rows_of bytes ++ row ∷ [])
unfolding rows_from
table_more bytes t k l r row d a n =
    accepted-table 0 (bytes ++ k ∷ l ∷ r ∷ []) (rows_of bytes ++ row ∷ []) (table-append bytes t 0 (k ∷ l ∷ r ∷ []) ∙ rows_from-step (0 + length bytes) (rows_of bytes) k l r [] row d a n)
