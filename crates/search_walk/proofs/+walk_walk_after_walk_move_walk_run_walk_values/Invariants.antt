-- The walk finds what the definitions list, in their order: `walk` from a state, `walk_run` for a run, `walk_values` for the values of a read, `walk_move` and `walk_after` for one move.
-- The measure is the depth, and within it the functions in their order and the rows left. Assumes nothing.
use Prim.Native.Nat.{◌+◌, ◌*◌, ◌-◌, ◌<◌, ◌≤◌}
use mathlib.Core.Path.{◌≡◌}
use mathlib.Core.Option.{none}
use Rattle.semantics.specs.Verdict.{broken}
use Rattle.search_breaks.specs.Walk.{state_of, entries_from, SomeState, SomeChoice}
use Rattle.search_breaks.specs.laws.Finds.{Passed}
use Rattle.search_breaks.specs.laws.Entries.{runs_from}
use Rattle.search_breaks.specs.laws.Choose as of_values
use Rattle.search_same.specs.Memory.{Remembers}
use Rattle.search_walk.proofs.+walk_walk_after_walk_move_walk_run_walk_values.Given as goal

abbrev pub decreases-walk : goal.decreases-walk
decreases-walk l = l.reach.depth * 400

abbrev pub decreases-walk_after : goal.decreases-walk_after
decreases-walk_after l = l.reach.depth * 400 + 1

abbrev pub decreases-walk_move : goal.decreases-walk_move
decreases-walk_move l = l.reach.depth * 400 + 2

abbrev pub decreases-walk_run : goal.decreases-walk_run
decreases-walk_run l = l.reach.depth * 400 + 300

abbrev pub decreases-walk_values : goal.decreases-walk_values
decreases-walk_values l = l.reach.depth * 400 + 3 + 2 * (l.plan.now.opened.table.rows - l.choice.from)

abbrev pub invariant-walk-loop-k : goal.invariant-walk-loop-k
invariant-walk-loop-k l =
    (l.trace ≡ l.initial.trace) × (l.count ≤ l.reach.left) × (l.k-iterator.end ≤ l.plan.opened.runs.count) × (0 < l.reach.depth)
    × ((m : SomeState l.plan (state_of l.state.course l.state.names.now l.state.classes.now l.state.marks) l.reach.at) → (broken m.sc m.d ≡ none) × Passed m.sc l.reach.left (entries_from l.plan l.reach.depth m.sc m.d) (runs_from l.plan m.sc (l.reach.depth - 1) m.d l.k-iterator.end l.k-iterator.start) l.count)
    × Remembers l.plan l.memory

abbrev pub invariant-walk_values-loop-value : goal.invariant-walk_values-loop-value
invariant-walk_values-loop-value l =
    (l.trace ≡ l.initial.trace) × (l.count ≤ l.reach.left) × (l.row ≤ l.plan.opened.table.rows)
    × ((m : SomeChoice l.plan l.state.course l.own l.state.names.now l.state.classes.now l.state.marks l.reach.at l.choice) (unset : of_values.NextFor l.plan.opened.table.bytes.now l.own l.choice l.x) (more : l.x ≡ l.plan.opened.table.rows → ⊥) → of_values.Tried unset l.reach m more l.row l.run l.count)
    × Remembers l.plan l.memory

abbrev pub decreases-walk_values-loop-value : goal.decreases-walk_values-loop-value
decreases-walk_values-loop-value l = (l.plan.opened.table.rows - l.row) * 6 + (6 - l.run)
