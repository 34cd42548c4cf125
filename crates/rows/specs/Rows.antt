-- The rows of a table of bytes, and a place that may be missing. Assumes nothing.
use Rattle.std.specs.Prelude.{Option as CodeOption, ℕ, ◌+◌, ◌*◌, ◌≤◌, ◌≡◌, List, [], cond, ltb, length, get_or, None, Some}
use Rattle.std.proofs.Math.Option.{Option, none, some}
use Rattle.semantics.specs.Answer.{Answer, refused, accepted}
use Rattle.semantics.specs.Table.{Row, decode, rows_from}

-- the rows of an answer, none of a refusal
abbrev pub rows_or : Answer (List Row) → List Row
rows_or (refused r) = []
rows_or (accepted rows) = rows

-- the rows of some bytes that are a table
unfoldable pub rows_of : List ℕ → List Row
rows_of bytes = rows_or (rows_from 0 [] bytes)

-- the bytes are a table: no row is refused
abbrev pub IsTable : List ℕ → Type 0
IsTable bytes = rows_from 0 [] bytes ≡ accepted (rows_of bytes)

-- the three bytes of a row, decoded
unfoldable pub decoded_at : List ℕ → ℕ → Option Row
decoded_at bytes i = decode (get_or bytes (3 * i) 0) (get_or bytes (3 * i + 1) 0) (get_or bytes (3 * i + 2) 0)

-- the bytes of a table with n rows, in a scenario with so many runs
pub record Shape (bytes : List ℕ) (n runs : ℕ) : Type 0 where
  pub table : IsTable bytes
  pub count : n ≡ length (rows_of bytes)
  pub size : length bytes ≡ 3 * n
  pub few : n ≤ 96
  pub few_runs : runs ≤ 4

-- the bytes of a table with n rows
abbrev pub Sized : List ℕ → ℕ → Type 0
Sized bytes n = Shape bytes n 0

-- the second part of a row of kind 8 to 12; a key of one agent has that agent twice
abbrev pub second_of : List ℕ → ℕ → ℕ
second_of bytes r = cond (ltb (get_or bytes (3 * r) 0) 10) (get_or bytes (3 * r + 1) 0) (get_or bytes (3 * r + 2) 0)

-- a place, if there is one
abbrev pub Place : Type 0
Place = CodeOption ℕ

abbrev pub place_as : Option ℕ → Place
place_as none = None
place_as (some at) = Some at
