-- Which rows have a value, and the first of a rising list that has none, as the code answers them. Assumes nothing.
use Rattle.std.specs.Prelude.{ℕ, ◌+◌, ◌*◌, ◌<◌, ◌≡◌, Bool, true, false, ◌&&◌, not, List, ltb, leb, length, get_or}
use Rattle.semantics.specs.Basic.{present}
use Rattle.semantics.specs.Term.{Atom}
use Rattle.semantics.specs.Table.{Row}
use Rattle.semantics.specs.Value.{Reading, value_of}
use Rattle.rows.specs.laws.Decode.{bytes_of_atom}

-- the kind byte of an atom's row
abbrev pub atom_kind : Atom → ℕ
atom_kind a = (bytes_of_atom a).0

-- a reading in which just the atoms with kinds from low to high stand for nothing
abbrev pub Bars : ℕ → ℕ → Reading → Type 0
Bars low high reading = (a : Atom) → present (reading a) ≡ not (leb low (atom_kind a) && leb (atom_kind a) high)

-- which rows have a value under a reading
pub record Valued (rows : List Row) (reading : Reading) (clear : List Bool) : Type 0 where
  pub size : length clear ≡ 96
  pub each : (r : ℕ) → r < length rows → get_or clear r false ≡ present (value_of reading rows r)

-- one of two tests, by a third
abbrev pub either : Bool → Bool → Bool → Bool
either true a b = a
either false a b = b

-- whether a row of a kind has a value if atoms of the kinds from low to high have none, from whether its two parts have one
unfoldable pub clear_by : ℕ → ℕ → ℕ → Bool → Bool → Bool
clear_by low high kind left right = either (ltb kind 8) (not (leb low kind && leb kind high)) (either (ltb kind 10) left (left && right))

-- the same of a row of a table, from which of the rows below it have a value
abbrev pub clear_at : ℕ → ℕ → List ℕ → List Bool → ℕ → Bool
clear_at low high t clear r = clear_by low high (get_or t (3 * r) 0) (get_or clear (get_or t (3 * r + 1) 0) false) (get_or clear (get_or t (3 * r + 2) 0) false)

-- whether a row is one of n and has a value
abbrev pub has_value : ℕ → List Bool → ℕ → Bool
has_value n clear r = ltb r n && get_or clear r false
