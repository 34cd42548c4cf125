-- A partial choice of a read's values: the arrays with them, what every completion adds, and when none is allowed. Assumes nothing.
use Rattle.std.specs.Prelude.{ℕ, suc, ◌+◌, ◌≡◌, Bool, false, length, get_or}
use Rattle.std.proofs.Common.{zero-add, add-one, sym, ◌∙◌, subst, true≢false}
use Rattle.std.proofs.Math.Path.{ap}
use mathlib.Core.List.{List, ◌++◌}
use Rattle.std.proofs.Math.Option.{none}
use Rattle.semantics.specs.Term.{Atom}
use Rattle.semantics.specs.Scenario.{Scenario}
use Rattle.semantics.specs.State.{Value, State, Active, paired}
use Rattle.semantics.specs.Moves.{set_after, performed}
use Rattle.semantics.specs.Allowed.{Takes}
use Rattle.rows.specs.Rows.{rows_of, Shape}
use Rattle.cells.specs.Cells.{Readings}
use Rattle.classes.specs.Classes.{Grows}
use Rattle.knowledge.specs.Marks.{Exact, Celled, Derivable}
use Rattle.records.specs.Kinds.{byte_of}
use Rattle.runs.specs.declared.RunEvent.{RunEvent}
use Rattle.state.specs.declared.State.{State as CodeState}
use Rattle.state.specs.Readings.{sets_of, with_sets, readings}
use Rattle.state.specs.State.{Due, NextMove}
use Rattle.state.specs.laws.Moves.{new_readings, read-underived}
use Rattle.state.specs.laws.Ready.{kind-read, own-within, peer-within}
use Rattle.variables.specs.Variables.{unset_from}
use Rattle.values.specs.Values.{part_sets, Setting, PartArrays}
use Rattle.values.specs.laws.Arrays.{part-grows}
use Rattle.read_possible.specs.Possible.{Possible}
use Rattle.read_completions.specs.Completions.{Completes}
use Rattle.read_partial.specs.laws.Filled.{completion-extension, completion-filled}

module _ {t : List ℕ} {n runs k : ℕ} {e : RunEvent} {sc : Scenario} {d : State} {s : CodeState} {a : Active} (shape : Shape t n runs) (due : Due n runs k e.own e.peer e.row) (from : ℕ) (xs : List Atom) (vs ws : List Value)
    {names classes : List ℕ} {marks : List Bool} (next : NextMove t runs k e sc d s a) (kind : byte_of e.kind ≡ 1) (setting : Setting sc d a s.names from xs vs names) (arrays : PartArrays sc d a xs vs classes marks) where
  -- the readings with the values that are chosen, and with all of a completion
  abbrev part : Readings
  part = readings sc (with_sets a.index (part_sets a xs vs) (sets_of d.progress))

  abbrev full : Readings
  full = new_readings sc next.good d (suc k) a next.is_active (vs ++ ws)

  -- a completion only sets more
  completed : set_after sc a (vs ++ ws) ≡ part_sets a (xs ++ unset_from sc.rows a.progress.values a.event.row from) (vs ++ ws)
  unfolding set_after
  completed = ap (λ (l : List Atom). a.progress.values ++ paired l (vs ++ ws)) setting.split

  completion-grows : Grows (k + 1) part full
  completion-grows =
      subst (λ (l : List (Atom × Value)). Grows (k + 1) part (readings sc (with_sets a.index l (sets_of d.progress)))) (sym completed)
      (part-grows next setting arrays (unset_from sc.rows a.progress.values a.event.row from) ws)

  -- no completion is allowed if the values of three cells cannot all derive
  underived : (Derivable sc.rows part d.known e.own 0 → Derivable sc.rows part d.known e.peer 0 → Derivable sc.rows full d.known e.row (suc k) → ⊥) → performed sc d a (vs ++ ws) ≡ none
  underived never = read-underived sc next.good d (suc k) a next.is_active (vs ++ ws) next.is_event (kind-read _ (rw kind at next.is_event.kind)) never

  -- none is if the sender is not marked
  pub own-refused : get_or marks e.own false ≡ false → performed sc d a (vs ++ ws) ≡ none
  own-refused h = underived (λ o p r. true≢false (sym (rw zero-add at ((arrays.exact e.own 0 (own-within next shape due)).1 o)) ∙ h))

  -- nor if the receiver is not
  pub peer-refused : get_or marks e.peer false ≡ false → performed sc d a (vs ++ ws) ≡ none
  peer-refused h = underived (λ o p r. true≢false (sym (rw zero-add at ((arrays.exact e.peer 0 (peer-within next shape due)).1 p)) ∙ h))

  -- nor if the pattern fails the test
  pub row-refused : (answer : Bool) → Possible (rows_of t) runs classes marks (k + 1) e.row answer → answer ≡ false → performed sc d a (vs ++ ws) ≡ none
  row-refused answer tests h =
      let p : Possible sc.rows (length sc.runs) classes marks (k + 1) e.row answer = rw (next.rows, ← next.count) tests in
      underived (λ o q r. true≢false (sym (p part full d.known arrays.classed arrays.exact arrays.celled completion-grows r.0 (rw add-one r.1) r.2) ∙ h))

  -- nor if the unset variables can get no values with which it derives
  pub values-refused : Takes sc.rows (length sc.runs) (unset_from sc.rows a.progress.values a.event.row from) ws → (answer : Bool) → Completes t n runs classes marks (k + 1) e.row answer → answer ≡ false
      → performed sc d a (vs ++ ws) ≡ none
  values-refused takes answer tests h =
      let is_read = kind-read _ (rw kind at next.is_event.kind) in
      let filled = completion-filled shape from xs vs ws next is_read setting arrays takes due.is_run completion-grows in
      let exact : Exact (rows_of t) runs part d.known marks = rw (← next.rows, next.count) arrays.exact in
      let celled : Celled (rows_of t) runs part d.known = rw (← next.rows, next.count) arrays.celled in
      underived (λ o q r. true≢false (sym (tests (completion-extension shape from xs vs ws next is_read setting arrays takes due.is_run completion-grows) d.known exact celled filled r.0 (rw (← next.rows, add-one) r.1) r.2) ∙ h))
