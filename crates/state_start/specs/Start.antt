-- What a scenario starts with: the names of a run, and marks of what is known. Assumes nothing.
use Rattle.std.specs.Prelude.{ℕ, zero, suc, ◌<◌, ◌≤◌, ◌≡◌, ◌⊎◌, Bool, T, length, get_or}
use mathlib.Core.List.{List, [], Memᴰ}
use Rattle.std.proofs.Math.Option.{some}
use Rattle.semantics.specs.Term.{Atom}
use Rattle.semantics.specs.Table.{Row}
use Rattle.semantics.specs.Value.{Reading, without_run}
use Rattle.semantics.specs.Runs.{atom_at, is_agent}
use Rattle.semantics.specs.State.{reading_in}
use Rattle.cells.specs.Cells.{cell_of, cell_count, absent}
use Rattle.classes.specs.Classes.{Named}
use Rattle.knowledge.specs.Steps.{On, kind_at}

-- the reading of a run with these agents before any variable is set
abbrev pub first_reading : List Row → ℕ → List ℕ → Reading
first_reading rows zero agents = without_run
first_reading rows (suc k) agents = reading_in rows (suc k) (record { role = 0; agents = agents }) []

-- every listed row is an agent's
abbrev pub AreAgents : List Row → List ℕ → Type 0
AreAgents rows agents = (r : ℕ) → Memᴰ r agents → T (is_agent (atom_at rows r))

-- the name of an atom's row in a run
abbrev pub FirstName : List Row → ℕ → List ℕ → ℕ → ℕ → Type 0
FirstName rows u agents r name = (runs : ℕ) (a : Atom) → u ≤ runs → atom_at rows r ≡ some a → Named rows runs name (first_reading rows u agents a)

-- names with those of one run filled in
pub record Entered (rows : List Row) (u : ℕ) (agents : List ℕ) (before names : List ℕ) : Type 0 where
  pub size : length names ≡ cell_count
  pub here : (r : ℕ) → r < length rows → FirstName rows u agents r (get_or names (cell_of r u) absent)
  pub elsewhere : (r w : ℕ) → r < 96 → (w ≡ u → ⊥) → get_or names (cell_of r w) absent ≡ get_or before (cell_of r w) absent

-- marks that stand just at listed rows and at intruder constants, in run 0
pub record StartMarks (bytes : List ℕ) (n : ℕ) (list : List ℕ) (marks : List Bool) : Type 0 where
  pub size : length marks ≡ cell_count
  pub from : (c : ℕ) → On marks c → (c < n) × ((kind_at bytes c ≡ 4) ⊎ Memᴰ c list)
  pub intruders : (r : ℕ) → r < n → kind_at bytes r ≡ 4 → On marks r
  pub listed : (r : ℕ) → Memᴰ r list → On marks r
