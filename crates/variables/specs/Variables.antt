-- The variables that a read sets, from a row on, and the values that a variable may take, from a row and a run on. Assumes nothing.
use Rattle.std.specs.Prelude.{Option as CodeOption, None, Some, ℕ, suc, ◌*◌, ◌-◌, ◌<◌, ◌≤◌, ◌≡◌, ◌↔◌, ◌⊎◌, Bool, true, false, cond, ◌&&◌, not, T, leb, eqb, length, get_or}
use mathlib.Core.List.{List, [], ◌∷◌, ◌++◌, map, Memᴰ}
use Rattle.std.proofs.Math.Option.{none, some}
use Rattle.std.proofs.Math.ListN.{get_elem?}
use Rattle.semantics.specs.Basic.{present, keep, present_ones, joined, numbers_from}
use Rattle.semantics.specs.Term.{VariableType, agent_type, fresh_type, Atom}
use Rattle.semantics.specs.Table.{Row, variable_atom}
use Rattle.semantics.specs.Value.{beneath}
use Rattle.semantics.specs.Runs.{atom_at}
use Rattle.semantics.specs.State.{Value, assigned}
use Rattle.semantics.specs.Moves.{values_at, candidates}
use Rattle.semantics.specs.Replay.{is_value_of}
use Rattle.semantics.specs.Guarantee.{refers_to}
use Rattle.cells.specs.Cells.{cell_of, absent, Canonical}
use Rattle.variables.specs.declared.Value.{Value as CodeValue}
use Rattle.variables.specs.declared.found.VariableRows.{VariableRows}

-- which rows lie beneath a row
pub record Beneath (rows : List Row) (x : ℕ) (below : List Bool) : Type 0 where
  pub size : length below ≡ 96
  pub each : (y : ℕ) → y < length rows → get_or below y false ≡ beneath rows y x

-- a number is in a set
abbrev pub In : List Bool → ℕ → Type 0
In set c = get_or set c false ≡ true

-- marks of rows beneath a row, that row among them, closed under parts from a row on
pub record ClosedFrom (rows : List Row) (x from : ℕ) (below : List Bool) : Type 0 where
  pub size : length below ≡ 96
  pub within : x < length rows
  pub top : In below x
  pub sound : (y : ℕ) → y < length rows → In below y → T (beneath rows y x)
  pub closed : (z : ℕ) (row : Row) → get_elem? rows z ≡ some row → from ≤ z → In below z → (r : ℕ) → Memᴰ r (refers_to row) → In below r

-- the unset variables beneath a pattern whose rows are not below a number
unfoldable pub unset_from : List Row → List (Atom × Value) → ℕ → ℕ → List Atom
unset_from rows sets pattern from =
    keep (λ a. variable_atom a && not (present (assigned a sets)))
    (present_ones (map (atom_at rows) (keep (λ x. beneath rows x pattern) (numbers_from from (length rows - from)))))

-- the names of a run say which of its variables are unset
abbrev pub TellsUnset : List Row → List ℕ → ℕ → List (Atom × Value) → Type 0
TellsUnset rows names u sets =
    (y : ℕ) (a : Atom) → atom_at rows y ≡ some a → T (variable_atom a) → (get_or names (cell_of y u) absent ≡ absent) ↔ (assigned a sets ≡ none)

-- a row of a set is a variable's and has no name
pub record NotNamed (bytes names : List ℕ) (u : ℕ) (below : List Bool) (y : ℕ) : Type 0 where
  pub inside : In below y
  pub kind : get_or bytes (3 * y) 0 ≡ 6
  pub name : get_or names (cell_of y u) absent ≡ absent

-- the first unset variable beneath a pattern whose row is not below a number, or none
pub data NextUnset (rows : List Row) (names : List ℕ) (u pattern from x : ℕ) : Type 0 where
  is_next :
      (a : Atom) → x < length rows → from ≤ x → atom_at rows x ≡ some a → T (variable_atom a) → get_or names (cell_of x u) absent ≡ absent
      → ((sets : List (Atom × Value)) → TellsUnset rows names u sets → unset_from rows sets pattern from ≡ a ∷ unset_from rows sets pattern (suc x))
      → NextUnset rows names u pattern from x
  no_next :
      x ≡ length rows → ((sets : List (Atom × Value)) → TellsUnset rows names u sets → unset_from rows sets pattern from ≡ [])
      → NextUnset rows names u pattern from x

-- whether a type is that of fresh variables
abbrev pub is_fresh : VariableType → Bool
is_fresh agent_type = false
is_fresh fresh_type = true

-- the first run with which a row of a kind is a value, and how many runs there are: agents for agent variables, intruder and local constants for fresh ones
abbrev pub first_run : ℕ → ℕ
first_run kind = cond (eqb kind 7) 1 0

unfoldable pub run_count : ℕ → Bool → ℕ → ℕ
run_count runs true kind = cond (eqb kind 4) 1 (cond (eqb kind 7) runs 0)
run_count runs false kind = cond (leb kind 2) 1 0

-- the values of a type whose row is a given one and whose run is not below a number, or whose row is higher
unfoldable pub values_from : List Row → ℕ → VariableType → ℕ → ℕ → List Value
values_from rows runs type r w =
    keep (λ v. leb w v.run) (values_at runs type r (atom_at rows r))
    ++ joined (λ x. values_at runs type x (atom_at rows x)) (numbers_from (suc r) (length rows - suc r))

-- a row and a run that name an atom of the table
pub record NamesAtom (rows : List Row) (runs row run : ℕ) (b : Atom) : Type 0 where
  pub below : row < length rows
  pub within : run ≤ runs
  pub is_atom : atom_at rows row ≡ some b
  pub canonical : Canonical b run

-- row y with run v is not before row r with run w, in order of row and run
abbrev pub NotBefore : ℕ → ℕ → ℕ → ℕ → Type 0
NotBefore r w y v = (r < y) ⊎ ((r ≡ y) × (w ≤ v))

-- the next value, if there is one
abbrev pub NextValue : Type 0
NextValue = CodeOption CodeValue

abbrev pub is_value : ℕ → ℕ → NextValue
is_value y v = Some (record { row = y; run = v })

-- the next value of a type, from a row and a run on
pub data NextOf (rows : List Row) (runs : ℕ) (type : VariableType) (r w : ℕ) (next : NextValue) : Type 0 where
  has_next :
      (y v : ℕ) (b : Atom) → next ≡ is_value y v → NamesAtom rows runs y v b → NotBefore r w y v
      → values_from rows runs type r w ≡ record { row = y; run = v } ∷ values_from rows runs type y (suc v) → NextOf rows runs type r w next
  has_none : next ≡ None → values_from rows runs type r w ≡ [] → NextOf rows runs type r w next

-- whether a row and a run are a value that a variable may take
pub data TellsValue (rows : List Row) (runs : ℕ) (a : Atom) (row run : ℕ) (answer : Bool) : Type 0 where
  takes : (b : Atom) → answer ≡ true → is_value_of (record { row = row; run = run }) (candidates rows runs a) ≡ true → NamesAtom rows runs row run b → TellsValue rows runs a row run answer
  takes_not : answer ≡ false → is_value_of (record { row = row; run = run }) (candidates rows runs a) ≡ false → TellsValue rows runs a row run answer

-- rows of variables of a table, at most 8
pub record AreVariables (bytes : List ℕ) (n : ℕ) (vars : VariableRows) : Type 0 where
  pub few : vars.count ≤ 8
  pub row : (i : ℕ) → i < vars.count → get_or vars.rows i 0 < n
  pub kind : (i : ℕ) → i < vars.count → get_or bytes (3 * get_or vars.rows i 0) 0 ≡ 6

-- all variables of a table among the rows of a set; unused places hold a row too
pub record Among (bytes : List ℕ) (n : ℕ) (set : List Bool) (vars : VariableRows) : Type 0 where
  pub low : AreVariables bytes n vars
  pub size : length vars.rows ≡ 8
  pub small : (i : ℕ) → i < 8 → get_or vars.rows i 0 < 96
  pub each : (i : ℕ) → i < vars.count → In set (get_or vars.rows i 0)
  pub all : (x : ℕ) → x < n → get_or bytes (3 * x) 0 ≡ 6 → In set x → (i : ℕ) × (i < vars.count) × (get_or vars.rows i 0 ≡ x)

-- all that have no value in a run, by names or classes
pub record Unset (bytes : List ℕ) (n : ℕ) (values : List ℕ) (u : ℕ) (set : List Bool) (vars : VariableRows) : Type 0 where
  pub low : AreVariables bytes n vars
  pub under : (i : ℕ) → i < vars.count → In set (get_or vars.rows i 0)
  pub unset : (i : ℕ) → i < vars.count → get_or values (cell_of (get_or vars.rows i 0) u) absent ≡ absent
  pub all : (x : ℕ) → x < n → get_or bytes (3 * x) 0 ≡ 6 → In set x → get_or values (cell_of x u) absent ≡ absent → (i : ℕ) × (i < vars.count) × (get_or vars.rows i 0 ≡ x)
