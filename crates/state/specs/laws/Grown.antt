-- The arrays of a state once more variables of a run are set: classes that were filled anew, and marks that were settled anew. Assumes nothing.
use Rattle.std.specs.Prelude.{ℕ, ◌≡◌, Bool, List}
use Rattle.std.proofs.Math.Option.{some}
use Rattle.semantics.specs.Term.{Term}
use Rattle.semantics.specs.Inference.{member}
use Rattle.semantics.specs.Table.{Row}
use Rattle.rows.specs.Rows.{rows_of, Shape}
use Rattle.cells.specs.Cells.{Readings, cell_value}
use Rattle.classes.specs.Classes.{NamesRight, Grows, Refilled}
use Rattle.classes.specs.laws.Values.{cell-kept}
use Rattle.knowledge.specs.Marks.{Covers, Settled}
use Rattle.state.specs.State.{Arrays}

-- for the rows of a table
table-arrays : {t : List ℕ} {n runs u : ℕ} → Shape t n runs → {old new : Readings} → Grows u old new → {known : List Term} {classes classes' : List ℕ} {marks marks' : List Bool}
    → Arrays (rows_of t) runs old known classes marks → (names' : List ℕ) → NamesRight (rows_of t) runs new names' → Refilled (rows_of t) runs u names' classes classes'
    → Settled (rows_of t) runs classes' marks marks' → Arrays (rows_of t) runs new known classes' marks'
table-arrays {t} {n} {runs} {u} shape {old} {new} grows {known} {marks = marks} arrays names' right refilled settled =
    let classed = refilled old new grows right arrays.classed in
    record { classed = classed; exact = settled new known classed covers; celled = λ v m. let c = arrays.celled v m in (c.0, c.1, c.2, kept c.0 c.1 c.3) }
  where
    kept : (r w : ℕ) {v : Term} → cell_value old (rows_of t) r w ≡ some v → cell_value new (rows_of t) r w ≡ some v
    kept r w {v} h = cell-kept shape grows r w v h

    -- what was known is known, and its marks are right for the new readings
    covers : Covers (rows_of t) runs new known marks
    covers = record {
      sound = λ r w h m. let v = (arrays.exact r w h).0 m in (v.0, kept r w v.1, v.2);
      covers = λ v m. let c = arrays.celled v m in (c.0, c.1, c.2, kept c.0 c.1 c.3, (arrays.exact c.0 c.1 c.2).1 (v, c.3, member m));
    }

-- for the rows and the runs of a scenario
pub grown-arrays : {t : List ℕ} {n runs u : ℕ} → Shape t n runs → {rows : List Row} {count : ℕ} → rows ≡ rows_of t → runs ≡ count → {old new : Readings} → Grows u old new
    → {known : List Term} {classes classes' : List ℕ} {marks marks' : List Bool} → Arrays rows count old known classes marks → (names' : List ℕ) → NamesRight rows count new names'
    → Refilled (rows_of t) runs u names' classes classes' → Settled (rows_of t) runs classes' marks marks' → Arrays rows count new known classes' marks'
grown-arrays shape e f grows arrays names' right refilled settled = rw (e, ← f) (table-arrays shape grows (rw (e, ← f) at arrays) names' (rw (e, ← f) at right) refilled settled)
