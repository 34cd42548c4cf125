-- Names of atoms, and the classes of cells with equal values. Assumes nothing.
use Rattle.std.specs.Prelude.{ℕ, ◌≤◌, ◌≡◌, List, length, get_or}
use Rattle.std.proofs.Math.Option.{Option, none, some}
use Rattle.semantics.specs.Term.{Atom, Term, atom}
use Rattle.semantics.specs.Table.{Row}
use Rattle.semantics.specs.Runs.{atom_at}
use Rattle.semantics.specs.State.{in_run}
use Rattle.cells.specs.Cells.{cell_of, cell_count, absent, Within, Readings, cell_value, Canonical}

-- What a name says: `absent` of no value, and a cell with an atom's row of that atom in the cell's run.
pub data Named (rows : List Row) (runs name : ℕ) (value : Option Term) : Type 0 where
  unnamed : name ≡ absent → value ≡ none → Named rows runs name value
  named :
      (x w : ℕ) (a : Atom) → name ≡ cell_of x w → Within rows runs x w → atom_at rows x ≡ some a → Canonical a w → value ≡ some (atom (in_run w a))
      → Named rows runs name value

-- the names are those of the readings: for each row that is an atom, in each run
abbrev pub NamesRight : List Row → ℕ → Readings → List ℕ → Type 0
NamesRight rows runs readings names =
    (r u : ℕ) (a : Atom) → u ≤ runs → atom_at rows r ≡ some a → Named rows runs (get_or names (cell_of r u) absent) (readings u a)

-- What stands for a value in its class: an atom's name, or a cell with that value whose row is no atom.
pub data Stands (rows : List Row) (value : ℕ → ℕ → Option Term) (x w : ℕ) (t : Term) : Type 0 where
  by_name : {a : Atom} → atom_at rows x ≡ some a → Canonical a w → t ≡ atom (in_run w a) → Stands rows value x w t
  by_cell : atom_at rows x ≡ none → value x w ≡ some t → Stands rows value x w t

-- The classes are right for the values of cells: a cell without a value has none, every other has a cell that stands for its value, and equal values have one class.
pub record Classes (rows : List Row) (runs : ℕ) (value : ℕ → ℕ → Option Term) (classes : List ℕ) : Type 0 where
  pub size : length classes ≡ cell_count
  pub none : (r u : ℕ) → Within rows runs r u → value r u ≡ none → get_or classes (cell_of r u) absent ≡ absent
  pub stands :
      (r u : ℕ) (t : Term) → Within rows runs r u → value r u ≡ some t
      → (x : ℕ) × (w : ℕ) × (get_or classes (cell_of r u) absent ≡ cell_of x w) × Within rows runs x w × Stands rows value x w t
  pub same :
      (r u r' u' : ℕ) (t : Term) → Within rows runs r u → Within rows runs r' u' → value r u ≡ some t → value r' u' ≡ some t
      → get_or classes (cell_of r u) absent ≡ get_or classes (cell_of r' u') absent

-- new readings that differ from old ones in one run only, where more atoms may stand for something
pub record Grows (u : ℕ) (old new : Readings) : Type 0 where
  pub elsewhere : (w : ℕ) → (w ≡ u → ⊥) → (a : Atom) → new w a ≡ old w a
  pub more : (a : Atom) (t : Term) → old u a ≡ some t → new u a ≡ some t

-- classes that were right for old readings are right for the new ones
abbrev pub Refilled : List Row → ℕ → ℕ → List ℕ → List ℕ → List ℕ → Type 0
Refilled rows runs u names before after =
    (old new : Readings) → Grows u old new → NamesRight rows runs new names → Classes rows runs (cell_value old rows) before
    → Classes rows runs (cell_value new rows) after
