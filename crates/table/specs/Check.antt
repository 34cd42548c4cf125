-- What the functions that check a table answer, in terms of the definitions. Assumes nothing.
use Rattle.std.specs.Prelude.{Result, ℕ, ◌+◌, ◌*◌, Bool, false, ◌&&◌, List, Some, None, eqb, length, get_or, Err, Ok}
use Rattle.std.proofs.Math.Option.{Option, none, some}
use Rattle.std.specs.declared.option.Option as code
use Rattle.semantics.specs.Answer.{Answer, refused, accepted}
use Rattle.semantics.specs.Table.{Row, fits, repeated}
use Rattle.answers.specs.Answers.{reason_of, refusal_as}
use Rattle.answers.specs.declared.Reason.{Reason}
use Rattle.answers.specs.declared.Refusal.{Refusal}

-- the answer of a table's check: 4 or 5 with its place, or how many rows there are
abbrev pub Judged : Type 0
Judged = Result ℕ Refusal

abbrev pub judged_as : Answer (List Row) → Judged
judged_as (refused r) = Err (refusal_as r)
judged_as (accepted rows) = Ok (length rows)

-- whether a decoded row fits the rows below it; bytes that are no row do not
abbrev pub fits_decoded : List Row → Option Row → Bool
fits_decoded below none = false
fits_decoded below (some row) = fits below row

-- whether a decoded row repeats one of the rows below it
abbrev pub repeats_decoded : List Row → Option Row → Bool
repeats_decoded below none = false
repeats_decoded below (some row) = repeated below row

-- the reason of a refusal, if there is one
abbrev pub reason_as : Option ℕ → code.Option Reason
reason_as none = None
reason_as (some n) = Some (reason_of n)

-- whether row j of a table has the three bytes at the front of others
abbrev pub same_bytes : List ℕ → ℕ → List ℕ → Bool
same_bytes bytes j row =
    eqb (get_or bytes (3 * j) 0) (get_or row 0 0)
    && eqb (get_or bytes (3 * j + 1) 0) (get_or row 1 0)
    && eqb (get_or bytes (3 * j + 2) 0) (get_or row 2 0)
