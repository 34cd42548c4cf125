-- The classes of the values that a variable may take, one cell after the other, and the domains, one variable after the other. Assumes nothing.
use Rattle.std.specs.Prelude.{ℕ, ◌+◌, ◌/◌, ◌%◌, ◌<◌, ◌≡◌, Bool, true, false, List, length, get_or}
use Rattle.std.proofs.Common.{eq-or-lt_of_le, arith, sym, ◌∙◌, ⊎_elim}
use Rattle.std.proofs.lemmas.Bool.{false≢true}
use Rattle.std.proofs.Math.Option.{some}
use Rattle.semantics.specs.Term.{Atom}
use Rattle.semantics.specs.Runs.{atom_at}
use Rattle.semantics.specs.Moves.{candidates}
use Rattle.semantics.specs.Replay.{is_value_of}
use Rattle.rows.specs.Rows.{rows_of, Shape}
use Rattle.cells.specs.Cells.{cell_of, absent}
use Rattle.knowledge.specs.Steps.{class_at, Inside}
use Rattle.variables.specs.Variables.{In, TellsValue, takes, takes_not}
use Rattle.read_domains.specs.Domains.{InRow, Candidate, Listed, ListedAt}

module _ (bytes : List ℕ) (n runs : ℕ) (classes : List ℕ) (counts : ℕ → ℕ → Type 0) where
  module _ (q : ℕ) where
    -- the classes of the values whose cell is below a number
    abbrev pub ListedTo : ℕ → List Bool → Type 0
    ListedTo c own =
        (y w : ℕ) → cell_of y w < c → Inside n runs y w → Candidate bytes runs q y w → counts y w → class_at classes y w < absent → In own (class_at classes y w)

    pub listed_more : {c : ℕ} {own more : List Bool} → ListedTo c own → ListedAt bytes n runs classes counts q c own more → ListedTo (c + 1) more
    listed_more {c} before at y w l i m k a =
        ⊎_elim (λ (e : cell_of y w ≡ c). at.adds y w e i m k a) (λ (h : cell_of y w < c). at.keeps (class_at classes y w) (before y w h i m k a)) (eq-or-lt_of_le (omega arith))

    module _ (c : ℕ) (own : List Bool) where
      -- a cell that adds nothing
      listed_same :
          ((y w : ℕ) → cell_of y w ≡ c → Inside n runs y w → Candidate bytes runs q y w → counts y w → class_at classes y w < absent → ⊥)
          → ListedAt bytes n runs classes counts q c own own
      listed_same none = record { keeps = λ e h. h; adds = λ y w e i m k a. absurd (none y w e i m k a) }

      pub listed-other :
          Shape bytes n runs → {b : Bool} → ((a : Atom) → atom_at (rows_of bytes) q ≡ some a → TellsValue (rows_of bytes) runs a (c % 96) (c / 96) b) → b ≡ false
          → ListedAt bytes n runs classes counts q c own own
      listed-other shape {b} tells off = listed_same (λ y w e i m k a. go m.0 y w (omega (arith, shape.few, i.0)) (omega (arith, shape.few, i.0)) m.2 (tells m.0 m.1))
        where
          go : (a : Atom) (y w : ℕ) → y ≡ c % 96 → w ≡ c / 96 → is_value_of (record { row = y; run = w }) (candidates (rows_of bytes) runs a) ≡ true
              → TellsValue (rows_of bytes) runs a (c % 96) (c / 96) b → ⊥
          go a y w ey ew v (takes d e f g) = false≢true (sym off ∙ e)
          go a y w ey ew v (takes_not e f) = false≢true (sym f ∙ rw (ey, ew) at v)

  -- the domains of the variables so far hold their values
  pub record DomainsTo (rows : List ℕ) (i : ℕ) (dom : List (List Bool)) : Type 0 where
    pub size : length dom ≡ 8
    pub done : (j : ℕ) → j < i → Listed bytes n runs classes counts (get_or rows j 0) (InRow dom j)
