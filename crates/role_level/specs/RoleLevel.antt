-- Role level: every row has a value in run 0, its atoms being themselves. Assumes nothing.
use Rattle.std.specs.Prelude.{ℕ, zero, suc, ◌<◌, ◌≡◌, ◌↔◌, Bool, true, false, length, get_or}
use mathlib.Core.List.{List, map, Memᴰ}
use Rattle.std.proofs.Math.Option.{none}
use Rattle.semantics.specs.Basic.{present_ones}
use Rattle.semantics.specs.Term.{Term}
use Rattle.semantics.specs.Table.{Row}
use Rattle.semantics.specs.Value.{as_atoms, value_of}
use Rattle.cells.specs.Cells.{cell_count, absent, Readings, cell_value}
use Rattle.classes.specs.Classes.{Classes}
use Rattle.knowledge.specs.Marks.{Exact, Celled}

-- "Run 0 serves the rows that have a value without a run (in Derive, every row)."
abbrev pub role_readings : Readings
role_readings zero = as_atoms
role_readings (suc u) = λ a. none

-- before, nothing stands for anything
abbrev pub no_readings : Readings
no_readings u a = none

-- the terms of listed rows
abbrev pub listed_terms : List Row → List ℕ → List Term
listed_terms rows list = present_ones (map (value_of as_atoms rows) list)

-- classes that are right at role level
abbrev pub RoleClasses : List Row → List ℕ → Type 0
RoleClasses rows classes = Classes rows 0 (cell_value role_readings rows) classes

-- marks that are exact at role level, for what is known
abbrev pub RoleExact : List Row → List Term → List Bool → Type 0
RoleExact rows known marks = Exact rows 0 role_readings known marks

-- every known term is the term of a row
abbrev pub RoleCelled : List Row → List Term → Type 0
RoleCelled rows known = Celled rows 0 role_readings known

-- at role level every row that is an atom names itself
pub record OwnNames (n : ℕ) (names : List ℕ) : Type 0 where
  pub size : length names ≡ cell_count
  pub own : (r : ℕ) → r < n → get_or names r absent ≡ r

-- a mark stands exactly at the listed rows
pub record ListedMarks (n : ℕ) (list : List ℕ) (marks : List Bool) : Type 0 where
  pub listed : (r : ℕ) → r < n → (get_or marks r false ≡ true) ↔ Memᴰ r list

-- every listed row is a row of the table
abbrev pub ListedBelow : ℕ → List ℕ → Type 0
ListedBelow n list = (r : ℕ) → Memᴰ r list → r < n
