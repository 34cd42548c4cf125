-- Sets of classes, and domains: a set of classes for each of 8 variables. Assumes nothing.
use Rattle.std.specs.Prelude.{ℕ, ◌<◌, ◌≡◌, Bool, true, List, [], get_or}
use Rattle.std.proofs.Math.Option.{some}
use Rattle.semantics.specs.Term.{Atom}
use Rattle.semantics.specs.Runs.{atom_at}
use Rattle.semantics.specs.Moves.{candidates}
use Rattle.semantics.specs.Replay.{is_value_of}
use Rattle.rows.specs.Rows.{rows_of}
use Rattle.cells.specs.Cells.{cell_of, cell_count, absent}
use Rattle.knowledge.specs.Marks as knowledge
use Rattle.knowledge.specs.Steps.{class_at, Inside}
use Rattle.read_domains.specs.declared.Counted.{Counted}
use Rattle.read_domains.specs.declared.Counted.TheVariants.{All, Marked}
use Rattle.variables.specs.declared.found.VariableRows.{VariableRows}
use Rattle.variables.specs.Variables.{In}

-- a class is in the domain of a variable, or in the set of a row
abbrev pub InRow : List (List Bool) → ℕ → ℕ → Type 0
InRow dom i c = In (get_or dom i []) c

-- a cell counts: any does, or one that is marked
abbrev pub Counts : Counted → List Bool → ℕ → ℕ → Type 0
Counts All marks y w = Unit {0}
Counts Marked marks y w = knowledge.Marked marks y w

-- row y with run w is among the values that the variable of row q may take
abbrev pub Candidate : List ℕ → ℕ → ℕ → ℕ → ℕ → Type 0
Candidate bytes runs q y w = (a : Atom) × (atom_at (rows_of bytes) q ≡ some a) × (is_value_of (record { row = y; run = w }) (candidates (rows_of bytes) runs a) ≡ true)

-- something holds of the class of each value that the variable of row q may take, of those that count
abbrev pub Listed : List ℕ → ℕ → ℕ → List ℕ → (ℕ → ℕ → Type 0) → ℕ → (ℕ → Type 0) → Type 0
Listed bytes n runs classes counts q P =
    (y w : ℕ) → Inside n runs y w → Candidate bytes runs q y w → counts y w → class_at classes y w < absent → P (class_at classes y w)

-- a set with the class of one cell more, if its row and run are such a value
pub record ListedAt (bytes : List ℕ) (n runs : ℕ) (classes : List ℕ) (counts : ℕ → ℕ → Type 0) (q cell : ℕ) (set more : List Bool) : Type 0 where
  pub keeps : (c : ℕ) → In set c → In more c
  pub adds : (y w : ℕ) → cell_of y w ≡ cell → Inside n runs y w → Candidate bytes runs q y w → counts y w → class_at classes y w < absent → In more (class_at classes y w)

-- what is in a domain, and in the set if it is variable i's, stays in it
abbrev pub Narrows : List (List Bool) → ℕ → List Bool → List (List Bool) → Type 0
Narrows dom i set less = (j c : ℕ) → j < 8 → c < cell_count → InRow dom j c → (j ≡ i → In set c) → InRow less j c

-- what is in a domain, and is a given class if it is in variable i's, stays in it
abbrev pub NarrowsTo : List (List Bool) → ℕ → ℕ → List (List Bool) → Type 0
NarrowsTo dom i class less = (j c : ℕ) → j < 8 → c < cell_count → InRow dom j c → (j ≡ i → c ≡ class) → InRow less j c

-- what is in a set, or in both of two others, is in the new set
pub record Joins (set left right more : List Bool) : Type 0 where
  pub keeps : (c : ℕ) → c < cell_count → In set c → In more c
  pub adds : (c : ℕ) → c < cell_count → In left c → In right c → In more c

-- what each variable needs is in its domain; `absent` is no need
abbrev pub Fit : VariableRows → List (List Bool) → List ℕ → Type 0
Fit vars dom need =
    (j : ℕ) → j < vars.count → get_or need (get_or vars.rows j 0) 0 < absent → InRow dom j (get_or need (get_or vars.rows j 0) 0)

-- the place of a row among the variables
pub record AtSlot (vars : VariableRows) (q slot : ℕ) : Type 0 where
  pub low : slot < vars.count
  pub row : get_or vars.rows slot 0 ≡ q
