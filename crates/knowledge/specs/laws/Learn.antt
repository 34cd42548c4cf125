-- Exact marks in all runs: what they answer of a cell, and marks with one more value known. Assumes nothing.
use Rattle.std.specs.Prelude.{ℕ, ◌<◌, ◌≤◌, ◌≡◌, refl, ◌↔◌, Bool, true, false, length, set}
use Rattle.std.proofs.Common.{arith, sym, ◌∙◌, ⊎_elim, get_or-set_same}
use mathlib.Core.List.Memᴰ
use mathlib.Core.List.Memᴰ.{head as here}
use mathlib.Core.List.Memᴰ.{tail as later}
use mathlib.Core.List.{List, ◌∷◌, Memᴰ}
use Rattle.std.proofs.Math.Option.{some, some-injective}
use Rattle.semantics.specs.Term.{Term}
use Rattle.semantics.specs.Inference.{Derives, member}
use Rattle.semantics.specs.Table.{Row}
use Rattle.semantics.proofs.laws.Inference.{derives-cut, derives-monotone}
use Rattle.cells.specs.Cells.{cell_of, cell_count, Within, Readings, cell_value}
use Rattle.knowledge.specs.Marks.{Marked, Derivable, Exact, Celled, Settled, LearnsCell, Learnt, was_marked, is_worked}
use Rattle.knowledge.specs.laws.Filled.{set_on, set_keeps}
use Rattle.knowledge.specs.laws.Values.{cells-apart}

module _ (rows : List Row) (few : length rows ≤ 96) (runs : ℕ) (r u : ℕ) (within : Within rows runs r u) where
  -- a cell with a value is marked exactly if the value derives
  pub marked-derives : (readings : Readings) (known : List Term) (marks : List Bool) → Exact rows runs readings known marks → {t : Term} → cell_value readings rows r u ≡ some t
      → Marked marks r u ↔ Derives known t
  marked-derives readings known marks exact {t} e = (
    λ m. let d = (exact r u within).0 m in rw (some-injective d.0 t (sym d.1 ∙ e)) at d.2,
    λ d. (exact r u within).1 (t, e, d),
  )

  module _ (classes : List ℕ) (marks : List Bool) where
    -- with one more value known, each known term is still a cell's
    celled-more : (readings : Readings) (known : List Term) (t : Term) → cell_value readings rows r u ≡ some t → Celled rows runs readings known → Celled rows runs readings (t ∷ known)
    celled-more readings known t e celled s m = ⊎_elim (λ f. (r, u, within, rw f e)) (celled s) (Memᴰ.cases_cons m)

    derivable-more : (readings : Readings) (known : List Term) (t : Term) (x w : ℕ) → Derivable rows readings known x w → Derivable rows readings (t ∷ known) x w
    derivable-more readings known t x w d = (d.0, d.1, derives-monotone (λ y m. later m) d.2)

    -- a value that is marked adds nothing
    learns-marked : Marked marks r u → LearnsCell rows runs classes r u marks marks
    learns-marked o readings known t right celled exact e = (
      celled-more readings known t e celled,
      λ x w h. (λ m. derivable-more readings known t x w ((exact x w h).0 m), λ d. (exact x w h).1 (d.0, d.1, derives-cut known-before d.2)),
    )
      where
        known-before : (y : Term) → Memᴰ y (t ∷ known) → Derives known y
        known-before y m = ⊎_elim (λ f. rw f ((marked-derives readings known marks exact e).0 o)) member (Memᴰ.cases_cons m)

    -- marks worked on after one more was set
    learns-settled : (more : List Bool) → cell_of r u < length marks → Settled rows runs classes (set marks (cell_of r u) true) more → LearnsCell rows runs classes r u marks more
    learns-settled more l settled readings known t right celled exact e =
        (celled-more readings known t e celled, settled readings (t ∷ known) right (record { sound = sound; covers = covers }))
      where
        sound : (x w : ℕ) → Within rows runs x w → Marked (set marks (cell_of r u) true) x w → Derivable rows readings (t ∷ known) x w
        sound x w h m = ⊎_elim
            (λ f. let same = cells-apart x w r u (omega (arith, h.row)) (omega (arith, within.row)) f in (t, rw (same.0, same.1) e, member (here refl)))
            (λ o. derivable-more readings known t x w ((exact x w h).0 o))
            (set_on marks (cell_of r u) (cell_of x w) m)

        covers : (s : Term) → Memᴰ s (t ∷ known) → (x : ℕ) × (w : ℕ) × Within rows runs x w × (cell_value readings rows x w ≡ some s) × Marked (set marks (cell_of r u) true) x w
        covers s m = ⊎_elim
            (λ f. (r, u, within, rw f e, get_or-set_same marks (cell_of r u) true false l))
            (λ k. let c = celled s k in (c.0, c.1, c.2, c.3, set_keeps marks (cell_of r u) (cell_of c.0 c.1) ((exact c.0 c.1 c.2).1 (s, c.3, member k))))
            (Memᴰ.cases_cons m)

    -- so what is found is exact with one more value known
    pub learnt-exact : length marks ≡ cell_count → cell_of r u < cell_count → {more : List Bool} → Learnt rows runs classes r u marks more → LearnsCell rows runs classes r u marks more
    learnt-exact size l (was_marked o) = learns-marked o
    learnt-exact size l (is_worked {more} settled) = learns-settled more (omega (arith, size)) settled
