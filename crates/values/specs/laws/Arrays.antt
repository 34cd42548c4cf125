-- The arrays with values of the first variables that a read sets: none yet, one more, and all. Assumes nothing.
use Rattle.std.specs.Prelude.{ℕ, suc, ◌+◌, ◌≡◌, Bool, List, [], ◌∷◌, ◌++◌, length}
use Rattle.std.proofs.Common.{add-one, sym, ap, ◌∙◌, subst, append-nil, append_assoc}
use Rattle.semantics.specs.Term.{Atom}
use Rattle.semantics.specs.Scenario.{Scenario}
use Rattle.semantics.specs.State.{Value, State, Active, paired}
use Rattle.semantics.proofs.laws.Moves.{ActiveIn, active-in}
use Rattle.rows.specs.Rows.{rows_of, Shape}
use Rattle.classes.specs.Classes.{Grows, Refilled}
use Rattle.knowledge.specs.Marks.{Settled}
use Rattle.runs.specs.declared.RunEvent.{RunEvent}
use Rattle.state.specs.declared.State.{State as CodeState}
use Rattle.state.specs.Readings.{SetsOf, sets_in, sets_of, with_sets, readings}
use Rattle.state.specs.State.{Arrays, NextMove, Ready}
use Rattle.state.specs.laws.Readings.{with_itself, readings-grow}
use Rattle.state.specs.laws.Grown.{grown-arrays}
use Rattle.state.specs.laws.Ready.{index}
use Rattle.variables.specs.Variables.{unset_from}
use Rattle.values.specs.Values.{part_sets, Setting, PartArrays}
use Rattle.values.specs.laws.Values.{paired-append, all_set, setting-all}

module _ {t : List ℕ} {runs k : ℕ} {e : RunEvent} {sc : Scenario} {d : State} {s : CodeState} {a : Active} (next : NextMove t runs k e sc d s a) where
  is : ActiveIn sc d (suc k) a
  is = active-in sc d (suc k) next.is_active

  -- with no value the state's own arrays are right
  pub part_none : PartArrays sc d a [] [] s.classes s.marks
  part_none =
      let same : part_sets a [] [] ≡ sets_of d.progress a.index = append-nil a.progress.values ∙ sym (ap sets_in is.of_progress) in
      subst (λ (sets : SetsOf). Arrays sc.rows (length sc.runs) (readings sc sets) d.known s.classes s.marks) (sym (with_itself a.index (part_sets a [] []) (sets_of d.progress) same)) next.is_state.arrays

  module _ {from : ℕ} {xs : List Atom} {vs : List Value} {names classes : List ℕ} {marks : List Bool} (setting : Setting sc d a s.names from xs vs names) (arrays : PartArrays sc d a xs vs classes marks) where
    -- more values only let the readings grow
    pub part-grows : (ys : List Atom) (ws : List Value) → Grows (k + 1) (readings sc (with_sets a.index (part_sets a xs vs) (sets_of d.progress))) (readings sc (with_sets a.index (part_sets a (xs ++ ys) (vs ++ ws)) (sets_of d.progress)))
    part-grows ys ws =
        let grown : part_sets a (xs ++ ys) (vs ++ ws) ≡ part_sets a xs vs ++ paired ys ws =
        ap (λ (l : List (Atom × Value)). a.progress.values ++ l) (paired-append xs ys vs ws setting.many) ∙ sym (append_assoc a.progress.values (paired xs vs) (paired ys ws)) in
        subst (λ (w : ℕ). Grows w (readings sc (with_sets a.index (part_sets a xs vs) (sets_of d.progress))) (readings sc (with_sets a.index (part_sets a (xs ++ ys) (vs ++ ws)) (sets_of d.progress)))) (ap suc (index next) ∙ sym (add-one k))
        (subst (λ (l : List (Atom × Value)). Grows (suc a.index) (readings sc (with_sets a.index (part_sets a xs vs) (sets_of d.progress))) (readings sc (with_sets a.index l (sets_of d.progress)))) (sym grown)
        (readings-grow sc (sets_of d.progress) a.index (part_sets a xs vs) (paired ys ws)))

    -- with one more value they are worked on
    pub part-more : {n : ℕ} → Shape t n runs → {from' : ℕ} (y : Atom) (v : Value) {names' classes' : List ℕ} {marks' : List Bool} → Setting sc d a s.names from' (xs ++ (y ∷ [])) (vs ++ (v ∷ [])) names'
        → Refilled (rows_of t) runs (k + 1) names' classes classes' → Settled (rows_of t) runs classes' marks marks' → PartArrays sc d a (xs ++ (y ∷ [])) (vs ++ (v ∷ [])) classes' marks'
    part-more shape y v {names' = names'} setting' refilled settled = grown-arrays shape next.rows next.count (part-grows (y ∷ []) (v ∷ [])) arrays names' setting'.named refilled settled

    -- with all they are ready
    pub part-ready : unset_from sc.rows a.progress.values a.event.row from ≡ [] → Ready sc d a vs names classes marks
    part-ready none_left =
        let same = all_set sc next.good d k a next.is_active s.names from xs vs names setting none_left in
        record {
          sets = setting-all sc next.good d k a next.is_active s.names from xs vs names setting none_left;
          arrays = subst (λ (l : List (Atom × Value)). Arrays sc.rows (length sc.runs) (readings sc (with_sets a.index l (sets_of d.progress))) d.known classes marks) same arrays;
        }
