-- `chosen` says whether values suit a read, and gives the names with them. Assumes nothing.
use Prim.Native.Nat.{ℕ, ◌-◌, ◌≤◌}
use mathlib.Core.Path.{◌≡◌}
use mathlib.Core.List.{List}
use lib.ListN.{length}
use Rattle.std.specs.Slice.Iter.{chunks_exact_rest, chunks_exact_size}
use Rattle.semantics.specs.Scenario.{Scenario}
use Rattle.semantics.specs.State as definitions
use Rattle.semantics.specs.State.{Active}
use Rattle.cells.specs.Cells.{cell_count}
use Rattle.records.specs.Kinds.{byte_of}
use Rattle.runs.specs.declared.RunEvent.{RunEvent}
use Rattle.state.specs.declared.State.{State}
use Rattle.state.specs.State.{NextMove}
use Rattle.replay_choices.specs.laws.Values.{ValuesPart}
use Rattle.replay_choices.proofs.chosen.Given as goal

abbrev pub Parted : List ℕ → ℕ → ℕ → ℕ → List ℕ → List ℕ → List ℕ → ℕ → List ℕ → Type 0
Parted t runs k row values names more from rest =
    (e : RunEvent) (sc : Scenario) (d : definitions.State) (s : State) (a : Active) → NextMove t runs k e sc d s a → names ≡ s.names → row ≡ e.row → byte_of e.kind ≡ 1 → ValuesPart sc d a s.names values from rest more

abbrev pub invariant-loop-x : goal.invariant-loop-x
invariant-loop-x l = (l.from ≤ l.t.rows) × (chunks_exact_size l.pairs ≡ 2) × Parted l.t.bytes.now l.t.runs l.k l.row l.values l.names l.more l.from (chunks_exact_rest l.pairs) × (length l.more ≡ cell_count)

abbrev pub decreases-loop-x : goal.decreases-loop-x
decreases-loop-x l = l.t.rows - l.from
