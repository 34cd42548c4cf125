-- Positions and names of the state after a move, before any mark is worked on. Assumes nothing.
use Rattle.std.specs.Prelude.{ℕ, ◌+◌, ◌≡◌, Bool, List, length, get_or, set}
use Rattle.std.proofs.Common.{sym, ap, ◌∙◌}
use Rattle.semantics.proofs.laws.Moves.{performed-exact}
use Rattle.state.specs.State.{Placed}
use Rattle.state.specs.laws.Moves.{advanced-placed}
use Rattle.state.specs.laws.Ready.{advanced-done}
use Rattle.search_breaks.specs.declared.Course.{Course}
use Rattle.search_breaks.specs.declared.Plan.{Plan}
use Rattle.search_breaks.specs.declared.Turn.{Turn}
use Rattle.search_breaks.specs.Walk.{SomeStep}

-- the state after a move that is allowed
pub placed-next : {plan : Plan} {course : Course} {names classes : List ℕ} {marks : List Bool} {at : ℕ} {turn : Turn} (m : SomeStep plan course names classes marks at turn)
    → length course.done ≡ 4 → {next : List ℕ} → next ≡ set course.done turn.run (get_or course.done turn.run 0 + 1) → Placed m.of.sc m.d' next names
placed-next m size {next} moved =
    let o = m.of in
    let w = (performed-exact o.sc o.d o.a o.vs m.d').0 m.allowed in
    let after : next ≡ set o.s.done o.a.index (get_or o.s.done o.a.index 0 + 1) = moved ∙ ap (λ (l : List ℕ). set l _ (get_or l _ 0 + 1)) o.is_done ∙ advanced-done o.move.next in
    rw w.2 (advanced-placed o.sc o.move.next.good o.d _ o.a o.move.next.is_active o.vs o.move.next.is_state.placed w.0 after (sym (ap length o.is_done) ∙ size) o.chosen.ready.sets)
