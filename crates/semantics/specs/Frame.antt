-- The version, the budget and the blocks of a scenario file, and refusals 1 to 3 (document 01, 'The scenario file'). Assumes nothing.
use Rattle.std.specs.Prelude.{ℕ, zero, suc, ◌+◌, ◌*◌, Bool, true, false, ◌&&◌, not, List, [], ◌∷◌, ltb, leb, eqb, length, take, drop}
use Rattle.std.proofs.Math.Option.{Option, none, some}
use Rattle.semantics.specs.Basic.{provided}
use Rattle.semantics.specs.Limits.{most_file_bytes}

-- "everything is big-endian": the number of some bytes, after the number of those before them
abbrev pub number_after : ℕ → List ℕ → ℕ
number_after n [] = n
number_after n (b ∷ bytes) = number_after (n * 256 + b) bytes

abbrev pub number_of : List ℕ → ℕ
number_of bytes = number_after 0 bytes

-- A part of the file: where it starts, and its bytes.
pub record Part : Type 0 where
  pub start : ℕ
  pub bytes : List ℕ

-- "1: file empty or first byte not 1, place 0"
unfoldable pub unversioned : List ℕ → Option ℕ
unversioned [] = some 0
unversioned (version ∷ bytes) = provided (not (eqb version 1)) 0

-- "2: longer than 4,096 bytes, place 4,096"
unfoldable pub too_long : List ℕ → Option ℕ
too_long file = provided (ltb most_file_bytes (length file)) most_file_bytes

-- "then the budget in 4 bytes"
unfoldable pub budget_of : List ℕ → ℕ
budget_of file = number_of (take 4 (drop 1 file))

-- "four blocks, each with its length first in 2 bytes"
abbrev pub block_length : List ℕ → ℕ
block_length bytes = number_of (take 2 bytes)

-- Whether so many whole blocks stand one after the other, and nothing remains.
unfoldable pub framed : ℕ → List ℕ → Bool
framed zero bytes = eqb (length bytes) 0
framed (suc n) bytes = leb (2 + block_length bytes) (length bytes) && framed n (drop (2 + block_length bytes) bytes)

-- "3: budget or a block runs past the end, or bytes remain after the fourth block; place is the file's length"
unfoldable pub misframed : List ℕ → Option ℕ
misframed file = provided (not (leb 5 (length file) && framed 4 (drop 5 file))) (length file)

-- The block with a number, counted from 0, in bytes that begin at a place with the length of the first.
unfoldable pub block_from : ℕ → ℕ → List ℕ → Part
block_from zero at bytes = record { start = at + 2; bytes = take (block_length bytes) (drop 2 bytes) }
block_from (suc n) at bytes = block_from n (at + (2 + block_length bytes)) (drop (2 + block_length bytes) bytes)

-- "Each block reaches the reader as a part of the caller's own bytes."
unfoldable pub block : ℕ → List ℕ → Part
block n file = block_from n 5 (drop 5 file)

-- The records of a part, each as long as its own bytes say: one begins where the one before it ends. The last may be cut short.
unfoldable pub records_from : (List ℕ → ℕ) → ℕ → ℕ → List ℕ → List Part
records_from size zero at bytes = []
records_from size (suc n) at [] = []
records_from size (suc n) at (b ∷ bytes) =
    record { start = at; bytes = take (size (b ∷ bytes)) (b ∷ bytes) }
    ∷ records_from size n (at + size (b ∷ bytes)) (drop (size (b ∷ bytes)) (b ∷ bytes))

unfoldable pub records : (List ℕ → ℕ) → Part → List Part
records size part = records_from size (length part.bytes) part.start part.bytes

-- Whether a record has all the bytes that it says.
abbrev pub complete : (List ℕ → ℕ) → Part → Bool
complete size part = leb (size part.bytes) (length part.bytes)

-- The place of the first record that is not good, each being judged with its number, from the number given on.
unfoldable pub first_bad : (ℕ → Part → Bool) → ℕ → List Part → Option ℕ
first_bad good i [] = none
first_bad good i (part ∷ parts) =
    elim (good i part) [
      | true ↦ first_bad good (suc i) parts
      | false ↦ some part.start
    ]
