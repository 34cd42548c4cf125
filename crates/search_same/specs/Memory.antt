-- A memory of states that is right: what it says of a key is so of every reached state with that key. Assumes nothing.
use Rattle.std.specs.Prelude.{ℕ, ◌<◌, ◌≤◌, ◌≡◌, List, length}
use Rattle.semantics.specs.Scenario.{Scenario}
use Rattle.semantics.specs.State.{State}
use Rattle.semantics.specs.Moves.{Move}
use Rattle.search_memory.specs.Memory.{word_count, Variables, IsKey, Says}
use Rattle.search_breaks.specs.declared.Plan.{Plan}
use Rattle.search_breaks.specs.declared.Reach.{Reach}
use Rattle.search_breaks.specs.Walk.{ReachedBy, entries_from}
use Rattle.state.specs.State.{Placed}
use Rattle.search_same.specs.Clean.{Clean}

-- The depth is part of a key, so what is said of a key holds for one depth.
pub record Remembers (plan : Plan) (memory : List ℕ) : Type 0 where
  pub size : length memory ≡ word_count
  pub rows : Variables plan.opened.table.bytes.now plan.opened.table.rows plan.variables
  pub right : (key : List ℕ) (count : ℕ) → Says memory key count → (sc : Scenario) (d : State) (ms : List Move) (done names : List ℕ) (depth : ℕ)
      → ReachedBy plan sc d ms → Placed sc d done names → IsKey plan.variables done names depth key → Clean sc (entries_from plan depth sc d) count

-- What a walk needs besides a state: a buffer for any trace, a budget and a depth that fit a count and a word, and a memory that is right.
pub record Room (plan : Plan) (trace memory : List ℕ) (reach : Reach) : Type 0 where
  pub buffer : 128 ≤ length trace
  pub budget : reach.left < 4294967296
  pub moves : reach.depth < 65536
  pub remembers : Remembers plan memory
