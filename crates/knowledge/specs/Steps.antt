-- Marks of classes: what the marked classes of a row and its parts give, and marks to which nothing can be added. Assumes nothing.
use Rattle.std.specs.Prelude.{ℕ, suc, ◌+◌, ◌*◌, ◌<◌, ◌≤◌, ◌≡◌, ◌⊎◌, Bool, true, false, List, [], ◌∷◌, length, get_or, set}
use Rattle.cells.specs.Cells.{cell_of, cell_count, absent, Found}

-- the class of a row in a run
abbrev pub class_at : List ℕ → ℕ → ℕ → ℕ
class_at classes r u = get_or classes (cell_of r u) absent

-- a class is marked; `absent` never is, since there are as many marks as cells
abbrev pub On : List Bool → ℕ → Type 0
On marks class = get_or marks class false ≡ true

-- the kind, the left and the right byte of a row
abbrev pub kind_at : List ℕ → ℕ → ℕ
kind_at bytes r = get_or bytes (3 * r) 0

abbrev pub left_at : List ℕ → ℕ → ℕ
left_at bytes r = get_or bytes (3 * r + 1) 0

abbrev pub right_at : List ℕ → ℕ → ℕ
right_at bytes r = get_or bytes (3 * r + 2) 0

-- a row below n in one of the runs
abbrev pub Inside : ℕ → ℕ → ℕ → ℕ → Type 0
Inside n runs r u = (r < n) × (u ≤ runs)

-- Marks that stand at the places of chosen cells only, and at those of all chosen cells that were passed.
pub record FilledCells (n runs : ℕ) (place : ℕ → ℕ → ℕ) (chosen passed : ℕ → ℕ → Type 0) (marks : List Bool) : Type 0 where
  pub size : length marks ≡ cell_count
  pub from : (k : ℕ) → On marks k → (r : ℕ) × (u : ℕ) × Inside n runs r u × chosen r u × (k ≡ place r u)
  pub onto : (r u : ℕ) → passed r u → chosen r u → place r u < absent → On marks (place r u)

-- marks of classes from marks of cells
abbrev pub Gathered : ℕ → ℕ → List ℕ → List Bool → List Bool → Type 0
Gathered n runs classes start marks = FilledCells n runs (class_at classes) (λ r u. On start (cell_of r u)) (Inside n runs) marks

-- marks of cells from marks of classes
abbrev pub Spread : ℕ → ℕ → List ℕ → List Bool → List Bool → Type 0
Spread n runs classes marks out = FilledCells n runs cell_of (λ r u. On marks (class_at classes r u)) (Inside n runs) out

-- the kinds of public and secret keys, which are inverse to each other
pub data InverseKinds : ℕ → ℕ → Type 0 where
  pk_sk : InverseKinds 8 9
  sk_pk : InverseKinds 9 8

-- Whether the inverse of a key is marked, by the cell that gives the key its class: the other key of that agent, or the key itself.
pub data Opening (bytes : List ℕ) (n runs : ℕ) (classes : List ℕ) (marks : List Bool) (key : ℕ) (r : Bool) : Type 0 where
  by_other :
      (x w : ℕ) {kind other : ℕ} (found : ℕ) → key ≡ cell_of x w → Inside n runs x w → InverseKinds kind other → kind_at bytes x ≡ kind
      → Found bytes n runs classes other (class_at classes (left_at bytes x) w) (class_at classes (left_at bytes x) w) found → r ≡ get_or marks found false
      → Opening bytes n runs classes marks key r
  by_itself :
      (x w : ℕ) → key ≡ cell_of x w → Inside n runs x w → (kind_at bytes x ≡ 8 → ⊥) → (kind_at bytes x ≡ 9 → ⊥) → r ≡ get_or marks key false
      → Opening bytes n runs classes marks key r
  by_none : ((x w : ℕ) → Inside n runs x w → key ≡ cell_of x w → ⊥) → r ≡ false → Opening bytes n runs classes marks key r

-- What a row of a kind gives, by its class and those of its parts: itself if both parts are marked; if it is marked, the parts of a pair, and the content of an encryption that opens.
pub data Gives (bytes : List ℕ) (n runs : ℕ) (classes : List ℕ) (marks : List Bool) (kind whole left right class : ℕ) : Type 0 where
  gives_whole : 11 ≤ kind → On marks left → On marks right → class ≡ whole → Gives bytes n runs classes marks kind whole left right class
  gives_first : kind ≡ 11 → On marks whole → class ≡ left → Gives bytes n runs classes marks kind whole left right class
  gives_second : kind ≡ 11 → On marks whole → class ≡ right → Gives bytes n runs classes marks kind whole left right class
  gives_content : 11 < kind → On marks whole → Opening bytes n runs classes marks right true → class ≡ left → Gives bytes n runs classes marks kind whole left right class

-- all that a row gives is marked
pub record Idle (bytes : List ℕ) (n runs : ℕ) (classes : List ℕ) (marks : List Bool) (kind whole left right : ℕ) : Type 0 where
  pub has_whole : 11 ≤ kind → On marks left → On marks right → whole < absent → On marks whole
  pub has_first : kind ≡ 11 → On marks whole → left < absent → On marks left
  pub has_second : kind ≡ 11 → On marks whole → On marks left → right < absent → On marks right
  pub has_content : 11 < kind → On marks whole → left < absent → On marks left ⊎ Opening bytes n runs classes marks right false

-- A class that a row gives and that is not marked yet, or none.
pub data Gained (bytes : List ℕ) (n runs : ℕ) (classes : List ℕ) (marks : List Bool) (kind whole left right class : ℕ) : Type 0 where
  gains : Gives bytes n runs classes marks kind whole left right class → class < absent → (On marks class → ⊥) → Gained bytes n runs classes marks kind whole left right class
  idles : absent ≤ class → Idle bytes n runs classes marks kind whole left right → Gained bytes n runs classes marks kind whole left right class

-- the same of a row of the table in a run
abbrev pub GivesAt : List ℕ → ℕ → ℕ → List ℕ → List Bool → ℕ → ℕ → ℕ → Type 0
GivesAt bytes n runs classes marks x u class =
    Gives bytes n runs classes marks (kind_at bytes x) (class_at classes x u) (class_at classes (left_at bytes x) u) (class_at classes (right_at bytes x) u) class

abbrev pub IdleAt : List ℕ → ℕ → ℕ → List ℕ → List Bool → ℕ → ℕ → Type 0
IdleAt bytes n runs classes marks x u =
    Idle bytes n runs classes marks (kind_at bytes x) (class_at classes x u) (class_at classes (left_at bytes x) u) (class_at classes (right_at bytes x) u)

abbrev pub GainedAt : List ℕ → ℕ → ℕ → List ℕ → List Bool → ℕ → ℕ → ℕ → Type 0
GainedAt bytes n runs classes marks x u class =
    Gained bytes n runs classes marks (kind_at bytes x) (class_at classes x u) (class_at classes (left_at bytes x) u) (class_at classes (right_at bytes x) u) class

-- and of a row in all runs
pub data RowGained (bytes : List ℕ) (n runs : ℕ) (classes : List ℕ) (marks : List Bool) (x class : ℕ) : Type 0 where
  row_gains : (u : ℕ) → u ≤ runs → GivesAt bytes n runs classes marks x u class → class < absent → (On marks class → ⊥) → RowGained bytes n runs classes marks x class
  row_idles : absent ≤ class → ((u : ℕ) → u ≤ runs → IdleAt bytes n runs classes marks x u) → RowGained bytes n runs classes marks x class

-- and of all rows in all runs
abbrev pub AllIdle : List ℕ → ℕ → ℕ → List ℕ → List Bool → Type 0
AllIdle bytes n runs classes marks = (x : ℕ) → x < n → (u : ℕ) → u ≤ runs → IdleAt bytes n runs classes marks x u

abbrev pub SomeGained : List ℕ → ℕ → ℕ → List ℕ → List Bool → ℕ → Type 0
SomeGained bytes n runs classes marks class = (x : ℕ) × (x < n) × RowGained bytes n runs classes marks x class

-- Marks to which others grow, each new mark given by the marks before it.
pub data Reaches (bytes : List ℕ) (n runs : ℕ) (classes : List ℕ) (start : List Bool) : List Bool → Type 0 where
  stays : Reaches bytes n runs classes start start
  grows :
      {marks : List Bool} {x u class : ℕ} → Reaches bytes n runs classes start marks → Inside n runs x u → GivesAt bytes n runs classes marks x u class → class < absent
      → Reaches bytes n runs classes start (set marks class true)

-- marks to which nothing can be added
pub record Finished (bytes : List ℕ) (n runs : ℕ) (classes : List ℕ) (start marks : List Bool) : Type 0 where
  pub reached : Reaches bytes n runs classes start marks
  pub idle : AllIdle bytes n runs classes marks

-- how many marks are missing
unfoldable pub missing : List Bool → ℕ
missing [] = 0
missing (true ∷ marks) = missing marks
missing (false ∷ marks) = suc (missing marks)
