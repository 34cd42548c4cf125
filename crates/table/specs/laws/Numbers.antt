-- The refusals of a table have the numbers 4 and 5, so the code's reason says them. Assumes nothing.
use Rattle.std.specs.Prelude.{ℕ, ◌≡◌, refl, List, [], Err}
use Rattle.std.proofs.Common.{arith, sym, ap}
use Rattle.semantics.specs.Answer.{Answer, refused, accepted, refuse}
use Rattle.semantics.specs.Table.{Row, rows_from}
use Rattle.semantics.specs.Refusals.{RowRefused, incomplete, no_row, unfit, repeats, later_row}
use Rattle.semantics.proofs.Theorems.{row-refused-exactly}
use Rattle.answers.specs.Answers.{number_of, reason_of, refusal_as, Numbered}
use Rattle.answers.specs.declared.Refusal.{Refusal}
use Rattle.table.specs.Check.{judged_as}

-- where the number of a refusal is a reason's, it is that of the code's reason
pub judged-numbered : (a : Answer (List Row)) (x : Refusal) → Numbered a → judged_as a ≡ Err x → a ≡ refuse (number_of x.reason) x.place
judged-numbered (refused r) x known e = let same : refusal_as r ≡ x = cc in rw (← same) (ap (λ n. refuse n r.place) (sym known))
judged-numbered (accepted rows) x known e = let z : ◌≡◌ {A = ℕ} 0 1 = cc in absurd (omega arith)

-- a row is refused with 4 or 5
row_number : {below : List Row} {at n p : ℕ} {bytes : List ℕ} → RowRefused below at bytes n p → number_of (reason_of n) ≡ n
row_number (incomplete some_bytes few e f) = rw e refl
row_number (no_row none e f) = rw e refl
row_number (unfit d a e f) = rw e refl
row_number (repeats d a m e f) = rw e refl
row_number (later_row d a m later) = row_number later

pub rows-known : (at : ℕ) (bytes : List ℕ) → Numbered (rows_from at [] bytes)
rows-known at bytes = go (rows_from at [] bytes) refl
  where
    go : (a : Answer (List Row)) → rows_from at [] bytes ≡ a → Numbered a
    go (refused r) e = row_number ((row-refused-exactly at [] bytes r.number r.place).0 e)
    go (accepted rows) e = tt

-- so a table that is refused is refused with the number of the code's reason
pub rows-refuse : (at : ℕ) (bytes : List ℕ) (x : Refusal) → judged_as (rows_from at [] bytes) ≡ Err x → rows_from at [] bytes ≡ refuse (number_of x.reason) x.place
rows-refuse at bytes x = judged-numbered (rows_from at [] bytes) x (rows-known at bytes)
