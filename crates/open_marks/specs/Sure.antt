-- Readable with whatever is known, if every marked row's term derives from it: what it is to be sure of a row, and what the functions that find such rows answer. Assumes nothing.
use Rattle.std.specs.Prelude.{Option, None, Some, ℕ, ◌<◌, ◌≡◌, ◌⊎◌, Bool, true, false, List, [], length, get_or}
use Rattle.std.proofs.Math.Option.{some}
use Rattle.semantics.specs.Term.{Term, inverse}
use Rattle.semantics.specs.Inference.{Derives}
use Rattle.semantics.specs.Table.{Row}
use Rattle.semantics.specs.Value.{value_of, as_atoms}
use Rattle.semantics.specs.Allowed.{Readable}
use Rattle.knowledge.specs.Steps.{On}
use Rattle.open_marks.specs.Marks.{ReadableRow}
use Rattle.open_marks.specs.declared.Kept.{Kept}
use Rattle.open_marks.specs.declared.Notes.{Notes}

-- every marked row's term derives
abbrev pub MarksHold : List Row → List Bool → List Term → Type 0
MarksHold rows marks known = (x : ℕ) (t : Term) → On marks x → value_of as_atoms rows x ≡ some t → Derives known t

-- a row's term is readable wherever the marks hold: with these marks or more
abbrev pub Sure : List Row → List Bool → ℕ → Type 0
Sure rows marks x = (known : List Term) (t : Term) → MarksHold rows marks known → value_of as_atoms rows x ≡ some t → Readable known t

abbrev pub SureRows : List Row → List Bool → List Bool → Type 0
SureRows rows marks sure = (x : ℕ) → On sure x → Sure rows marks x

-- marks that hold wherever others do and a row's term derives too, and which keep those
pub record Gains (rows : List Row) (x : ℕ) (marks more : List Bool) : Type 0 where
  pub holds : (known : List Term) (t : Term) → MarksHold rows marks known → value_of as_atoms rows x ≡ some t → Derives known t → MarksHold rows more known
  pub keeps : (y : ℕ) (u : Term) → On marks y → value_of as_atoms rows y ≡ some u → On more y

-- the inverse of a row's term derives wherever the marks hold, if the answer is yes
abbrev pub Opens : List Row → List Bool → ℕ → Bool → Type 0
Opens rows marks k r = r ≡ true → (known : List Term) (t : Term) → MarksHold rows marks known → value_of as_atoms rows k ≡ some t → Derives known (inverse t)

-- whether a row is marked in two
pub record InBoth (one other : List Bool) (x : ℕ) (r : Bool) : Type 0 where
  pub from : r ≡ true → On one x × On other x
  pub onto : On one x → On other x → r ≡ true

-- the marks that two have in common
pub record Shared (n : ℕ) (one other both : List Bool) : Type 0 where
  pub from : (x : ℕ) → On both x → On one x × On other x
  pub onto : (x : ℕ) → x < n → On one x → On other x → On both x

-- marks of which at most one is new, and that only if it was found
abbrev pub Added : Option ℕ → List Bool → List Bool → Type 0
Added found marks more = (y : ℕ) → On more y → On marks y ⊎ (found ≡ Some y)

-- what is kept in a slot
abbrev pub kept_in : Notes → ℕ → Option Kept
kept_in notes slot = get_or notes.kept slot None

-- marks that are kept stand
abbrev pub Stand : ℕ → List Bool → List Bool → Type 0
Stand n marks kept = (x : ℕ) → x < n → On kept x → On marks x

-- what is kept is of a row, with marks that stand
abbrev pub KeptOf : ℕ → List Bool → ℕ → Option Kept → Type 0
KeptOf n marks x kept = (k : Kept) × (kept ≡ Some k) × (k.row ≡ x) × Stand n marks k.marks

-- such is kept in some slot
abbrev pub KeptFor : ℕ → List Bool → Notes → ℕ → Type 0
KeptFor n marks notes x = (slot : ℕ) × (slot < 128) × KeptOf n marks x (kept_in notes slot)

-- marks are kept in a slot
abbrev pub SlotFilled : ℕ → List Bool → List Bool → Type 0
SlotFilled n marks kept = (x : ℕ) → x < n → On marks x → On kept x

-- nothing is kept
abbrev pub NoNotes : Notes → Type 0
NoNotes notes = (slot : ℕ) → slot < 128 → kept_in notes slot ≡ None

-- marks are kept for a row in a slot, and the other slots are as before
pub record KeptIn (n : ℕ) (marks : List Bool) (x : ℕ) (notes after : Notes) : Type 0 where
  pub slot : ℕ
  pub kept : List Bool
  pub here : kept_in after slot ≡ Some (record { row = x; marks = kept })
  pub filled : SlotFilled n marks kept
  pub others : (other : ℕ) → (other ≡ slot → ⊥) → kept_in after other ≡ kept_in notes other

-- What is noted while a term is read: each slot keeps marks with which its row is readable. The ways are hints, which promise nothing.
abbrev pub Noted : List Row → Notes → Type 0
Noted rows notes = (slot : ℕ) → slot < 128 → (k : Kept) → kept_in notes slot ≡ Some k → (marks : List Bool) → Stand (length rows) marks k.marks → Sure rows marks k.row

-- What `is_readable` answers: yes only if it is sure of the row, and no, unless the answer is quick, only of a term that is not readable.
pub record Answers (rows : List Row) (marks : List Bool) (x : ℕ) (quick r : Bool) : Type 0 where
  pub yes : r ≡ true → Sure rows marks x
  pub no : quick ≡ false → r ≡ false → ReadableRow rows marks x false
