-- The next event of a run: its kind, its cells, and arrays that are ready for it. Assumes nothing.
use Rattle.std.specs.Prelude.{ℕ, suc, ◌+◌, ◌≡◌, Bool, length, get_or, set}
use Rattle.std.proofs.Common.{add-one, arith, ◌∙◌, subst}
use Rattle.std.proofs.Math.Path.{sym, ap}
use mathlib.Core.List.{List, [], ◌++◌, append-nil}
use Rattle.std.proofs.Math.Option.{some, some-injective}
use Rattle.std.proofs.Math.ListN.{get_elem?}
use Rattle.semantics.specs.Term.{Atom}
use Rattle.semantics.specs.Roles.{secrecy, EventKind, send, read, claim, event_kinds}
use Rattle.semantics.specs.Scenario.{Scenario}
use Rattle.semantics.specs.State.{Value, State, Active, paired}
use Rattle.semantics.specs.Moves.{to_set, set_after}
use Rattle.semantics.proofs.laws.Reached.{Standing}
use Rattle.semantics.proofs.laws.Moves.{ActiveIn, active-in}
use Rattle.rows.specs.Rows.{rows_of, Shape}
use Rattle.cells.specs.Cells.{Within, Readings, cell_value}
use Rattle.classes.specs.Classes.{Grows, Refilled}
use Rattle.knowledge.specs.Marks.{Settled}
use Rattle.runs.specs.declared.RunEvent.{RunEvent}
use Rattle.state.specs.declared.State.{State as CodeState}
use Rattle.state.specs.Readings.{sets_in, sets_of, with_sets, readings}
use Rattle.state.specs.State.{Due, NextMove, Sets, Ready}
use Rattle.state.specs.laws.Readings.{with_itself, readings-grow-from}
use Rattle.state.specs.laws.Grown.{grown-arrays}
use Rattle.state.specs.laws.Moves.{new_readings, paired_none}

-- the kinds of events by their bytes
pub kind-send : (kind : EventKind) → get_elem? event_kinds 0 ≡ some kind → kind ≡ send
kind-send kind e = sym (some-injective send kind e)

pub kind-read : (kind : EventKind) → get_elem? event_kinds 1 ≡ some kind → kind ≡ read
kind-read kind e = sym (some-injective read kind e)

pub kind-claim : (kind : EventKind) → get_elem? event_kinds 2 ≡ some kind → kind ≡ claim secrecy
kind-claim kind e = sym (some-injective (claim secrecy) kind e)

module _ {t : List ℕ} {runs k : ℕ} {e : RunEvent} {sc : Scenario} {d : State} {s : CodeState} {a : Active} (next : NextMove t runs k e sc d s a) where
  is : ActiveIn sc d (suc k) a
  is = active-in sc d (suc k) next.is_active

  pub index : a.index ≡ k
  index = omega (arith, is.numbered)

  abbrev old : Readings
  old = readings sc (sets_of d.progress)

  -- with more set in the run, the readings grow
  pub grows : (more : List (Atom × Value)) → Grows (k + 1) old (readings sc (with_sets a.index (a.progress.values ++ more) (sets_of d.progress)))
  grows more =
      subst (λ (w : ℕ). Grows w old (readings sc (with_sets a.index (a.progress.values ++ more) (sets_of d.progress)))) (ap suc index ∙ sym (add-one k))
      (readings-grow-from sc (sets_of d.progress) a.index a.progress.values more (sym (ap sets_in is.of_progress)))

  -- with no new values the readings stay
  same-sets : set_after sc a [] ≡ sets_of d.progress a.index
  unfolding set_after
  same-sets = ap (λ (l : List (Atom × Value)). a.progress.values ++ l) (paired_none (to_set sc a)) ∙ append-nil a.progress.values ∙ sym (ap sets_in is.of_progress)

  same-readings : new_readings sc next.good d (suc k) a next.is_active [] ≡ readings sc (sets_of d.progress)
  same-readings = ap (readings sc) (with_itself a.index (set_after sc a []) (sets_of d.progress) same-sets)

  same-value : (r w : ℕ) → cell_value (new_readings sc next.good d (suc k) a next.is_active []) sc.rows r w ≡ cell_value (readings sc (sets_of d.progress)) sc.rows r w
  same-value r w = ap (λ (ρ : Readings). cell_value ρ sc.rows r w) same-readings

  same-standing : Standing sc.rows (set_after sc a [])
  same-standing = rw same-sets (next.is_state.placed.valued a.index)

  -- how far the runs have come after it
  pub advanced-done : set s.done k (get_or s.done k 0 + 1) ≡ set s.done a.index (get_or s.done a.index 0 + 1)
  advanced-done = ap (λ (j : ℕ). set s.done j (get_or s.done j 0 + 1)) (sym index)

  -- the state's own names, classes and marks are right with no new values
  pub none-set : Sets sc d a [] s.names
  none-set = record { size = next.is_state.placed.sized; named = rw same-readings next.is_state.placed.named; valued = same-standing }

  -- its classes and marks are so with any names that are
  pub kept-ready : {names : List ℕ} → Sets sc d a [] names → Ready sc d a [] names s.classes s.marks
  kept-ready sets = record { sets = sets; arrays = rw same-readings next.is_state.arrays }

  pub none-ready : Ready sc d a [] s.names s.classes s.marks
  none-ready = kept-ready none-set

  module _ {n : ℕ} (shape : Shape t n runs) (due : Due n runs k e.own e.peer e.row) where
    rows-n : length sc.rows ≡ n
    rows-n = ap length next.rows ∙ sym shape.count

    pub row-within : Within sc.rows (length sc.runs) e.row (suc k)
    row-within = record { row = omega (arith, rows-n, due.term); run = omega (arith, next.count, due.is_run) }

    pub own-within : Within sc.rows (length sc.runs) e.own 0
    own-within = record { row = omega (arith, rows-n, due.agent); run = omega arith }

    pub peer-within : Within sc.rows (length sc.runs) e.peer 0
    peer-within = record { row = omega (arith, rows-n, due.other); run = omega arith }

    -- names that have grown, with classes and marks worked on from the state's own, are ready
    pub grown-ready : (vs : List Value) (names : List ℕ) → Sets sc d a vs names → {classes : List ℕ} {marks : List Bool} → Refilled (rows_of t) runs (k + 1) names s.classes classes → Settled (rows_of t) runs classes s.marks marks
        → Ready sc d a vs names classes marks
    unfolding set_after
    grown-ready vs names sets refilled settled = record { sets = sets; arrays = grown-arrays shape next.rows next.count (grows (paired (to_set sc a) vs)) next.is_state.arrays names sets.named refilled settled }
