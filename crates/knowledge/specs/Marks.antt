-- Marks of cells: sound and covering what is known, and exact (document 01, 'Operations and what stops them'). Assumes nothing.
use Rattle.std.specs.Prelude.{ℕ, ◌≡◌, ◌↔◌, Bool, true, false, get_or, set}
use mathlib.Core.List.{List, ◌∷◌, Memᴰ}
use Rattle.std.proofs.Math.Option.{some}
use Rattle.semantics.specs.Term.{Term}
use Rattle.semantics.specs.Inference.{Derives}
use Rattle.semantics.specs.Table.{Row}
use Rattle.rows.specs.Rows.{rows_of}
use Rattle.cells.specs.Cells.{cell_of, Within, Readings, cell_value}
use Rattle.classes.specs.Classes.{Classes}

-- a row has a value in a run
abbrev pub Has : List ℕ → Readings → ℕ → ℕ → Term → Type 0
Has bytes readings r u t = cell_value readings (rows_of bytes) r u ≡ some t

-- a mark stands at a cell
abbrev pub Marked : List Bool → ℕ → ℕ → Type 0
Marked marks r u = get_or marks (cell_of r u) false ≡ true

-- the row has a value in that run and the value is derivable
abbrev pub Derivable : List Row → Readings → List Term → ℕ → ℕ → Type 0
Derivable rows readings known r u = (t : Term) × (cell_value readings rows r u ≡ some t) × Derives known t

-- Marks to start from: each is right, and each known term has one.
pub record Covers (rows : List Row) (runs : ℕ) (readings : Readings) (known : List Term) (marks : List Bool) : Type 0 where
  pub sound : (r u : ℕ) → Within rows runs r u → Marked marks r u → Derivable rows readings known r u
  pub covers : (t : Term) → Memᴰ t known → (r : ℕ) × (u : ℕ) × Within rows runs r u × (cell_value readings rows r u ≡ some t) × Marked marks r u

-- "At the end a mark stands exactly where the row has a value in that run and the value is derivable."
abbrev pub Exact : List Row → ℕ → Readings → List Term → List Bool → Type 0
Exact rows runs readings known marks = (r u : ℕ) → Within rows runs r u → Marked marks r u ↔ Derivable rows readings known r u

-- every known term is the value of a cell
abbrev pub Celled : List Row → ℕ → Readings → List Term → Type 0
Celled rows runs readings known = (t : Term) → Memᴰ t known → (r : ℕ) × (u : ℕ) × Within rows runs r u × (cell_value readings rows r u ≡ some t)

-- what the analysis promises, whatever the readings and whatever is known
abbrev pub Settled : List Row → ℕ → List ℕ → List Bool → List Bool → Type 0
Settled rows runs classes start marks =
    (readings : Readings) (known : List Term) → Classes rows runs (cell_value readings rows) classes → Covers rows runs readings known start
    → Exact rows runs readings known marks

-- marks with the value of a row in a run known too, whatever the readings and whatever is known
abbrev pub LearnsCell : List Row → ℕ → List ℕ → ℕ → ℕ → List Bool → List Bool → Type 0
LearnsCell rows runs classes r u marks more =
    (readings : Readings) (known : List Term) (t : Term) → Classes rows runs (cell_value readings rows) classes → Celled rows runs readings known
    → Exact rows runs readings known marks → cell_value readings rows r u ≡ some t → Celled rows runs readings (t ∷ known) × Exact rows runs readings (t ∷ known) more

-- how they are found: they are the same if the row is marked in that run, and else worked on with that mark
pub data Learnt (rows : List Row) (runs : ℕ) (classes : List ℕ) (r u : ℕ) (marks : List Bool) : List Bool → Type 0 where
  was_marked : Marked marks r u → Learnt rows runs classes r u marks marks
  is_worked : {more : List Bool} → Settled rows runs classes (set marks (cell_of r u) true) more → Learnt rows runs classes r u marks more
