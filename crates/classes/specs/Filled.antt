-- How classes are filled row by row: the class of one cell, and values that are new below a row. Assumes nothing.
use Rattle.std.specs.Prelude.{ℕ, ◌+◌, ◌*◌, ◌<◌, ◌≤◌, ◌≡◌, cond, List, ltb, get_or}
use Rattle.std.proofs.Math.Option.{Option}
use Rattle.semantics.specs.Term.{Term}
use Rattle.semantics.specs.Table.{Row}
use Rattle.rows.specs.Rows.{second_of}
use Rattle.cells.specs.Cells.{cell_of, absent, Readings, cell_value, Found}
use Rattle.classes.specs.Classes.{NamesRight, Classes, Grows}

-- the classes of the two parts of a row of kind 8 to 12
abbrev pub first_class : List ℕ → List ℕ → ℕ → ℕ → ℕ
first_class bytes classes u x = get_or classes (cell_of (get_or bytes (3 * x + 1) 0) u) absent

abbrev pub second_class : List ℕ → List ℕ → ℕ → ℕ → ℕ
second_class bytes classes u x = get_or classes (cell_of (second_of bytes x) u) absent

-- The class of a row in a run: an atom's name; none where a part has none; one that a cell with such parts has; or the cell itself.
pub data ClassOf (bytes : List ℕ) (n runs : ℕ) (names classes : List ℕ) (u x class : ℕ) : Type 0 where
  of_atom : get_or bytes (3 * x) 0 < 8 → class ≡ get_or names (cell_of x u) absent → ClassOf bytes n runs names classes u x class
  no_first : 8 ≤ get_or bytes (3 * x) 0 → first_class bytes classes u x ≡ absent → class ≡ absent → ClassOf bytes n runs names classes u x class
  no_second : 8 ≤ get_or bytes (3 * x) 0 → second_class bytes classes u x ≡ absent → class ≡ absent → ClassOf bytes n runs names classes u x class
  of_other :
      8 ≤ get_or bytes (3 * x) 0 → Found bytes n runs classes (get_or bytes (3 * x) 0) (first_class bytes classes u x) (second_class bytes classes u x) class
      → (class ≡ absent → ⊥) → ClassOf bytes n runs names classes u x class
  of_itself :
      8 ≤ get_or bytes (3 * x) 0 → (first_class bytes classes u x ≡ absent → ⊥) → (second_class bytes classes u x ≡ absent → ⊥)
      → Found bytes n runs classes (get_or bytes (3 * x) 0) (first_class bytes classes u x) (second_class bytes classes u x) absent → class ≡ cell_of x u
      → ClassOf bytes n runs names classes u x class

-- the new values of the rows below r, the old ones of the others
abbrev pub mixed : ℕ → (ℕ → ℕ → Option Term) → (ℕ → ℕ → Option Term) → ℕ → ℕ → Option Term
mixed r old new x w = cond (ltb x r) (new x w) (old x w)

-- classes that were right with the rows below i new are right with the rows below j new
abbrev pub Filled : List Row → ℕ → ℕ → List ℕ → ℕ → ℕ → List ℕ → List ℕ → Type 0
Filled rows runs u names i j before after =
    (old new : Readings) → Grows u old new → NamesRight rows runs new names → Classes rows runs (mixed i (cell_value old rows) (cell_value new rows)) before
    → Classes rows runs (mixed j (cell_value old rows) (cell_value new rows)) after
