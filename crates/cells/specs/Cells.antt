-- Cells, each a row in a run; their values; and the look-up of a class. Assumes nothing.
use Rattle.std.specs.Prelude.{ℕ, ◌+◌, ◌*◌, ◌<◌, ◌≤◌, ◌≡◌, ◌⊎◌, ◌↔◌, Bool, true, false, ◌&&◌, List, T, eqb, length, get_or}
use mathlib.Core.List.{Memᴰ}
use Rattle.std.proofs.Math.Option.{Option}
use Rattle.semantics.specs.Term.{Atom, trusted, untrusted, global, intruder, role, variable, local, Term}
use Rattle.semantics.specs.Table.{Row}
use Rattle.semantics.specs.Value.{Reading, value_of}
use Rattle.rows.specs.Rows.{second_of}

-- "A marks array of 96 rows by run 0 to 4": the cell of a row in a run
abbrev pub cell_of : ℕ → ℕ → ℕ
cell_of r u = u * 96 + r

-- how many cells there are; as a name or a class: no value
abbrev pub cell_count : ℕ
cell_count = 480

abbrev pub absent : ℕ
absent = 480

-- a row of the table, in one of the runs
pub record Within (rows : List Row) (runs r u : ℕ) : Type 0 where
  pub row : r < length rows
  pub run : u ≤ runs

-- what role names, variables and local constants stand for, in each run
abbrev pub Readings : Type 0
Readings = ℕ → Reading

-- the value of a row in a run
abbrev pub cell_value : Readings → List Row → ℕ → ℕ → Option Term
cell_value readings rows r u = value_of (readings u) rows r

-- The run with which an atom of the table names itself: any for a local constant, 0 for every other atom.
abbrev pub Canonical : Atom → ℕ → Type 0
Canonical (trusted n) w = w ≡ 0
Canonical (untrusted n) w = w ≡ 0
Canonical (global n) w = w ≡ 0
Canonical (intruder n) w = w ≡ 0
Canonical (role i) w = w ≡ 0
Canonical (variable n t) w = w ≡ 0
Canonical (local n v) w = Unit {0}

-- every listed row is one that a table may have
abbrev pub RowsLow : List ℕ → Type 0
RowsLow list = (r : ℕ) → Memᴰ r list → r < 96

-- marks that stand where they stood before, and at the listed rows in run 0
pub record WithListed (list : List ℕ) (before marks : List Bool) : Type 0 where
  pub size : length marks ≡ cell_count
  pub each : (c : ℕ) → (get_or marks c false ≡ true) ↔ ((get_or before c false ≡ true) ⊎ Memᴰ c list)

-- whether rows of one kind have equal values, by the classes of their parts
abbrev pub same_parts : ℕ → ℕ → ℕ → ℕ → Bool
same_parts a b x y = eqb a x && eqb b y

-- a test tells whether something holds
abbrev pub Tells : Type 0 → Bool → Type 0
Tells P true = P
Tells P false = P → ⊥

-- a row has a class in a run, and its parts have classes that make the value that is looked for
pub record Matches (bytes : List ℕ) (classes : List ℕ) (a b x w : ℕ) : Type 0 where
  pub there : get_or classes (cell_of x w) absent < absent
  pub parts : T (same_parts a b (get_or classes (cell_of (get_or bytes (3 * x + 1) 0) w) absent) (get_or classes (cell_of (second_of bytes x) w) absent))

-- the class of a row of a kind in some run, or none
pub data FoundInRow (bytes : List ℕ) (runs : ℕ) (classes : List ℕ) (kind a b x class : ℕ) : Type 0 where
  has_run :
      (w : ℕ) → w ≤ runs → get_or bytes (3 * x) 0 ≡ kind → Matches bytes classes a b x w → class ≡ get_or classes (cell_of x w) absent
      → FoundInRow bytes runs classes kind a b x class
  has_no_run : ((w : ℕ) → w ≤ runs → get_or bytes (3 * x) 0 ≡ kind → Matches bytes classes a b x w → ⊥) → class ≡ absent → FoundInRow bytes runs classes kind a b x class

-- the class of some row of a kind in some run, or none
pub data Found (bytes : List ℕ) (n runs : ℕ) (classes : List ℕ) (kind a b class : ℕ) : Type 0 where
  is_found :
      (x w : ℕ) → x < n → w ≤ runs → get_or bytes (3 * x) 0 ≡ kind → Matches bytes classes a b x w → class ≡ get_or classes (cell_of x w) absent
      → Found bytes n runs classes kind a b class
  not_found :
      ((x w : ℕ) → x < n → w ≤ runs → get_or bytes (3 * x) 0 ≡ kind → Matches bytes classes a b x w → ⊥) → class ≡ absent
      → Found bytes n runs classes kind a b class
