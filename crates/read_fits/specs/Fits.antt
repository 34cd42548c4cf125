-- What rows of a run need so that one of them gets the value of a class. Assumes nothing.
use Rattle.std.specs.Prelude.{ℕ, ◌<◌, ◌≤◌, ◌≡◌, Bool, true, List, Option, IsSomeAnd, length, get_or}
use Rattle.semantics.specs.Term.{Term}
use Rattle.rows.specs.Rows.{rows_of, Shape, second_of}
use Rattle.cells.specs.Cells.{cell_of, absent, Readings, cell_value}
use Rattle.classes.specs.Classes.{Classes, Grows}
use Rattle.knowledge.specs.Marks.{Has, Marked}
use Rattle.knowledge.specs.Steps.{class_at, left_at, Inside}

-- Old readings for which the classes are right, and new ones that grow from them in a run.
pub record Extension (bytes : List ℕ) (n runs : ℕ) (classes : List ℕ) (u : ℕ) : Type 0 where
  pub shape : Shape bytes n runs
  pub run : u ≤ runs
  pub old : Readings
  pub new : Readings
  pub right : Classes (rows_of bytes) runs (cell_value old (rows_of bytes)) classes
  pub grows : Grows u old new

module _ {bytes : List ℕ} {n runs : ℕ} {classes : List ℕ} {u : ℕ} (s : Extension bytes n runs classes u) where
  -- the class of the cells with a value
  abbrev pub ValueClass : Term → ℕ → Type 0
  ValueClass t class = (r : ℕ) × (w : ℕ) × Inside n runs r w × Has bytes s.old r w t × (class ≡ class_at classes r w)

  -- a row gets the value of a class
  abbrev pub Gets : ℕ → ℕ → Type 0
  Gets q class = (t : Term) × Has bytes s.new q u t × ValueClass t class

  -- each row that needs a class gets its value; `absent` is no need
  pub record Needed (need : List ℕ) : Type 0 where
    pub size : length need ≡ 96
    pub each : (q : ℕ) → q < 96 → get_or need q 0 < absent → Gets q (get_or need q 0)

-- What it is to note that a row needs a class: if the row gets its value, no need is refused.
abbrev pub Asked : List ℕ → ℕ → List ℕ → List ℕ → ℕ → ℕ → Bool → Type 0
Asked classes u before after q class answer =
    (bytes : List ℕ) (n runs : ℕ) (s : Extension bytes n runs classes u) → Needed s before → Gets s q class → (answer ≡ true) × Needed s after

module _ (bytes : List ℕ) (n runs : ℕ) (classes : List ℕ) (u : ℕ) where
  -- the parts of row q need the classes of the parts of row y in run w
  abbrev pub PartsAsked : List ℕ → List ℕ → ℕ → ℕ → ℕ → Bool → Type 0
  PartsAsked before after q y w answer =
      (s : Extension bytes n runs classes u) → Needed s before → Gets s (left_at bytes q) (class_at classes (left_at bytes y) w)
      → Gets s (second_of bytes q) (class_at classes (second_of bytes y) w) → (answer ≡ true) × Needed s after

  -- what a row needs, passed on to its parts
  abbrev pub PassedDown : List ℕ → List ℕ → Bool → Type 0
  PassedDown before after answer = (s : Extension bytes n runs classes u) → Needed s before → (answer ≡ true) × Needed s after

  -- where a row gets the value of a class, no need is refused, and each is met
  abbrev pub NeedsMet : ℕ → ℕ → Option (List ℕ) → Type 0
  NeedsMet r class needs = (s : Extension bytes n runs classes u) → Gets s r class → IsSomeAnd needs (Needed s)

  -- a row can get the value of a class
  abbrev pub CanGet : ℕ → ℕ → Type 0
  CanGet r class = (s : Extension bytes n runs classes u) × Gets s r class

  -- a row can get the value of a marked cell that stands for its own value
  abbrev pub CanTake : List Bool → ℕ → ℕ → ℕ → Type 0
  CanTake marks r y w = Marked marks y w × (class_at classes y w ≡ cell_of y w) × CanGet r (cell_of y w)
