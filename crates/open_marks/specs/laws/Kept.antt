-- The laws of the notes: marks kept in slots, with which a row was found readable. Assumes nothing.
use Rattle.std.specs.Prelude.{None, Some, ℕ, ◌<◌, ◌≡◌, refl, Bool, List, length, get_or, set}
use Rattle.std.proofs.Math.Decide.{ℕ_discrete}
use Rattle.std.proofs.Common.{arith, sym, ap, ◌∙◌, get_or-set_same, get_or-set_other}
use Rattle.semantics.specs.Table.{Row}
use Rattle.rows.specs.Rows.{rows_of, Shape}
use Rattle.open_marks.specs.declared.Kept.{Kept}
use Rattle.open_marks.specs.declared.Notes.{Notes}
use Rattle.open_marks.specs.Sure.{Sure, kept_in, Stand, KeptFor, SlotFilled, NoNotes, KeptIn, Noted}
use Rattle.open_marks.specs.laws.Rows.{term-below}
use Rattle.open_marks.specs.laws.Sure.{sure-more}

none_some : {k : Kept} → None ≡ Some k → ⊥
none_some e = cc

some-same : {k l : Kept} → Some k ≡ Some l → k ≡ l
some-same e = cc

-- at first nothing is kept
pub notes-none : (rows : List Row) (notes : Notes) → NoNotes notes → Noted rows notes
notes-none rows notes none slot l k e = absurd (none_some (sym (none slot l) ∙ e))

module _ (bytes : List ℕ) (n : ℕ) (shape : Shape bytes n 0) (notes : Notes) (are : Noted (rows_of bytes) notes) where
  -- a row that is kept is sure
  pub kept-sure : (marks : List Bool) (x : ℕ) → KeptFor n marks notes x → Sure (rows_of bytes) marks x
  kept-sure marks x k =
      let e : n ≡ length (rows_of bytes) = shape.count in
      rw (← k.2.2) (are k.0 k.1 k.2.0 k.2.1 marks (rw e at k.2.3))

  -- marks with which a row is sure may be kept
  pub notes-kept : (marks : List Bool) (x : ℕ) (after : Notes) → Sure (rows_of bytes) marks x → KeptIn n marks x notes after → Noted (rows_of bytes) after
  notes-kept marks x after sure stored slot l k e wider stands = go (ℕ_discrete slot stored.slot)
    where
      go : Dec (slot ≡ stored.slot) → Sure (rows_of bytes) wider k.row
      go (yes q) =
          let same = some-same (sym stored.here ∙ ap (kept_in after) (sym q) ∙ e) in
          let stands' : Stand (length (rows_of bytes)) wider stored.kept = rw (← same) at stands in
          rw (← same) (sure-more (rows_of bytes) marks wider (λ known h y t o v. let b = term-below bytes n shape y v in h y t (stands' y (omega (arith, shape.count)) (stored.filled y b o)) v) x sure)
      go (no d) = are slot l k (sym (stored.others slot d) ∙ e) wider stands

-- marks kept for a row in a slot
pub stored : (n : ℕ) (marks : List Bool) (x slot next : ℕ) (notes : Notes) (kept : List Bool) → slot < length notes.kept → SlotFilled n marks kept
    → KeptIn n marks x notes (record notes { kept = set notes.kept slot (Some (record { row = x; marks = kept })); next = next })
stored n marks x slot next notes kept l filled = record {
  slot = slot;
  kept = kept;
  here = get_or-set_same notes.kept slot (Some (record { row = x; marks = kept })) None l;
  filled = filled;
  others = λ other d. get_or-set_other notes.kept slot other (Some (record { row = x; marks = kept })) None d;
}
