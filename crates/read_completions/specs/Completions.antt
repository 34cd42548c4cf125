-- Completions of a partial choice of values, and sets of classes that miss none of those that a variable gets. Assumes nothing.
use Rattle.std.specs.Prelude.{ℕ, ◌<◌, ◌≡◌, Bool, true, List, Option, IsSomeAnd, T, length, get_or}
use Rattle.semantics.specs.Term.{Term}
use Rattle.semantics.specs.Inference.{Derives}
use Rattle.semantics.specs.Value.{beneath}
use Rattle.rows.specs.Rows.{rows_of}
use Rattle.cells.specs.Cells.{cell_of, cell_count, absent}
use Rattle.knowledge.specs.Marks.{Has, Marked, Exact, Celled}
use Rattle.knowledge.specs.Steps.{class_at, kind_at, Inside}
use Rattle.read_fits.specs.Fits.{Extension, Gets, Needed}
use Rattle.variables.specs.declared.found.VariableRows.{VariableRows}
use Rattle.variables.specs.Variables.{In}
use Rattle.read_domains.specs.Domains.{InRow, Candidate}
use Rattle.read_completions.specs.declared.pattern.Pattern.{Pattern}

-- the new value of a row is that of a cell which its variable may take
pub record TakesCell {bytes : List ℕ} {n runs : ℕ} {classes : List ℕ} {u : ℕ} (s : Extension bytes n runs classes u) (q : ℕ) : Type 0 where
  pub row : ℕ
  pub run : ℕ
  pub inside : Inside n runs row run
  pub may : Candidate bytes runs q row run
  pub term : Term
  pub gets : Has bytes s.new q u term
  pub has : Has bytes s.old row run term

-- A completion: readings that grow from those for which classes and marks are right, and give each variable a value that it may take.
pub record Completion (pattern : Pattern) : Type 0 where
  pub extension : Extension pattern.scope.table.bytes.now pattern.scope.table.rows pattern.scope.table.runs pattern.classes.now pattern.scope.run
  pub known : List Term
  pub exact : Exact (rows_of pattern.scope.table.bytes.now) pattern.scope.table.runs extension.old known pattern.marks.now
  pub celled : Celled (rows_of pattern.scope.table.bytes.now) pattern.scope.table.runs extension.old known
  pub filled : (i : ℕ) → i < pattern.vars.count → TakesCell extension (get_or pattern.vars.rows i 0)

module _ {pattern : Pattern} (k : Completion pattern) where
  -- a variable gets a class
  abbrev pub GetsClass : ℕ → ℕ → Type 0
  GetsClass i c = Gets k.extension (get_or pattern.vars.rows i 0) c

  -- each variable gets a class of its domain
  abbrev pub InDomains : List (List Bool) → Type 0
  InDomains dom = (i : ℕ) → i < pattern.vars.count → (c : ℕ) → GetsClass i c → InRow dom i c

  -- the new value of a row is derivable
  abbrev pub GetsDerivable : ℕ → Type 0
  GetsDerivable r = (t : Term) × Has pattern.scope.table.bytes.now k.extension.new r pattern.scope.run t × Derives k.known t

  -- a row gets the value of a marked cell of its kind that stands for its own value
  pub record FromMark (r y w : ℕ) : Type 0 where
    pub inside : Inside pattern.scope.table.rows pattern.scope.table.runs y w
    pub kind : kind_at pattern.scope.table.bytes.now y ≡ kind_at pattern.scope.table.bytes.now r
    pub marked : Marked pattern.marks.now y w
    pub own : class_at pattern.classes.now y w ≡ cell_of y w
    pub gets : Gets k.extension r (cell_of y w)

module _ (pattern : Pattern) where
  -- the classes of variables that are derivable themselves
  abbrev pub MarkedDomains : List (List Bool) → Type 0
  MarkedDomains marked =
      (k : Completion pattern) (i : ℕ) → i < pattern.vars.count → GetsDerivable k (get_or pattern.vars.rows i 0) → (c : ℕ) → GetsClass k i c → InRow marked i c

  module _ (dom : List (List Bool)) where
    -- what rows need where row r gets the value of a marked cell: no need is refused, and each is met
    abbrev pub NeedsAt : ℕ → ℕ → Option (List ℕ) → Type 0
    NeedsAt r cell needs =
        (k : Completion pattern) → InDomains k dom → (y w : ℕ) → cell_of y w ≡ cell → FromMark k r y w → IsSomeAnd needs (Needed k.extension)

    -- the classes that variable i gets where row r gets the value of a marked cell
    abbrev pub Matched : ℕ → ℕ → List Bool → Type 0
    Matched i r set =
        (k : Completion pattern) → InDomains k dom → (y w : ℕ) → FromMark k r y w → (c : ℕ) → GetsClass k i c → In set c

    -- something holds of each class that it gets where row r is derivable
    abbrev pub MissesNone : ℕ → ℕ → (ℕ → Type 0) → Type 0
    MissesNone i r P = (k : Completion pattern) → InDomains k dom → GetsDerivable k r → (c : ℕ) → GetsClass k i c → P c

    -- a set for each row
    pub record RowsMissNone (i : ℕ) (sets : List (List Bool)) : Type 0 where
      pub size : length sets ≡ 96
      pub each : (y : ℕ) → y < 96 → MissesNone i y (InRow sets y)

    -- what the set of row r is made of: those of its parts
    abbrev pub SetsBelow : ℕ → ℕ → List (List Bool) → Type 0
    SetsBelow i r sets = RowsMissNone i sets × ((i < pattern.vars.count) × (r < pattern.scope.table.rows))

    -- domains that miss no completion with which the pattern is derivable, where those before miss none
    abbrev pub CompletionsKept : List (List Bool) → Type 0
    CompletionsKept less = (k : Completion pattern) → InDomains k dom → GetsDerivable k pattern.row → InDomains k less

    -- a test that is true where there is such a completion
    abbrev pub Completable : Bool → Type 0
    Completable answer = (k : Completion pattern) → InDomains k dom → GetsDerivable k pattern.row → answer ≡ true

-- each domain has a class
abbrev pub NoneEmpty : VariableRows → List (List Bool) → Type 0
NoneEmpty vars dom = (i : ℕ) → i < vars.count → (c : ℕ) × ((c < cell_count) × InRow dom i c)

-- a set with the class that variable i needs, or with every class if it needs none
pub record NeededAdded (vars : VariableRows) (i : ℕ) (need : List ℕ) (set more : List Bool) : Type 0 where
  pub keeps : (c : ℕ) → c < cell_count → In set c → In more c
  pub adds : (c : ℕ) → c < cell_count → (get_or need (get_or vars.rows i 0) 0 < absent → c ≡ get_or need (get_or vars.rows i 0) 0) → In more c

-- each variable beneath row x that had no value has one that it may take
abbrev pub AllTake : {bytes : List ℕ} {n runs : ℕ} {classes : List ℕ} {u : ℕ} → Extension bytes n runs classes u → ℕ → Type 0
AllTake {bytes} {n} {runs} {classes} {u} s x =
    (q : ℕ) → q < n → kind_at bytes q ≡ 6 → T (beneath (rows_of bytes) q x) → class_at classes q u ≡ absent → TakesCell s q

-- What the test of completions promises: where each unset variable gets a value that it may take and the row is derivable, it passes.
abbrev pub Completes : List ℕ → ℕ → ℕ → List ℕ → List Bool → ℕ → ℕ → Bool → Type 0
Completes bytes n runs classes marks u x answer =
    (s : Extension bytes n runs classes u) (known : List Term) → Exact (rows_of bytes) runs s.old known marks → Celled (rows_of bytes) runs s.old known → AllTake s x
    → (t : Term) → Has bytes s.new x u t → Derives known t → answer ≡ true
