-- A memory that is right: at the start, for a key that is looked up, and once an entry is stored. Assumes nothing.
use Rattle.std.specs.Prelude.{ℕ, suc, ◌+◌, ◌<◌, ◌≤◌, ◌≡◌, List, length, get_or, replicate}
use Rattle.std.proofs.Common.{add-one, arith, sym, ap, ◌∙◌, ⊎_elim}
use Rattle.std.proofs.Math.Option.{some}
use Rattle.std.proofs.lemmas.List.{length-replicate}
use Rattle.semantics.specs.Term.{variable}
use Rattle.semantics.specs.Table.{Row}
use Rattle.semantics.specs.Runs.{atom_of, atom_at}
use Rattle.semantics.specs.Scenario.{Scenario}
use Rattle.semantics.specs.State.{State}
use Rattle.semantics.specs.Moves.{Move}
use Rattle.semantics.proofs.laws.List.{get_elem-there}
use Rattle.rows.specs.Rows.{rows_of}
use Rattle.rows.specs.laws.Decode.{variable-six}
use Rattle.rows.specs.laws.Table.{table-row}
use Rattle.cells.specs.Cells.{cell_of, cell_count, absent}
use Rattle.cells.specs.laws.Cells.{get_d_any}
use Rattle.search_memory.specs.Memory.{word_count, Variables, IsKey, Agree, SameWords, LookedUp, Stored}
use Rattle.search_memory.specs.laws.Keys.{keys-agree}
use Rattle.search_memory.specs.laws.Slots.{zeros-say-nothing}
use Rattle.search_breaks.specs.declared.Plan.{Plan}
use Rattle.search_breaks.specs.declared.Reach.{Reach}
use Rattle.search_breaks.specs.Walk.{ReachedBy, entries_from}
use Rattle.state.specs.State.{Placed}
use Rattle.search_same.specs.Clean.{Clean, SamePositions, SameNames}
use Rattle.search_same.specs.Memory.{Remembers, Room}
use Rattle.search_same.specs.laws.Clean.{clean-same}

-- an array of zeros is right, as it says nothing
pub remembers-start : (plan : Plan) {memory : List ℕ} → Variables plan.opened.table.bytes.now plan.opened.table.rows plan.variables → memory ≡ replicate {A = ℕ} word_count 0 → Remembers plan memory
remembers-start plan rows zeros = record {
  size = ap length zeros ∙ length-replicate {A = ℕ} word_count 0;
  rows = rows;
  right = λ key count says. absurd (zeros-say-nothing word_count (rw zeros at says));
}

module _ {plan : Plan} {memory : List ℕ} (remembers : Remembers plan memory) {sc : Scenario} {d : State} {ms : List Move} (reached : ReachedBy plan sc d ms)
    {done names : List ℕ} (placed : Placed sc d done names) {depth : ℕ} {key : List ℕ} (is-key : IsKey plan.variables done names depth key) where
  -- what is found of a state's key is so below the state
  pub remembered : {count : ℕ} → LookedUp memory key count → 0 < count → Clean sc (entries_from plan depth sc d) count
  remembered {count} found l = remembers.right key count (found.says l) sc d ms done names depth reached placed is-key

  -- states of which the keys agree have equal positions and names of variables
  module _ {done' names' : List ℕ} {depth' : ℕ} (size' : length names' ≡ cell_count) (agree : Agree plan.variables done done' names names' depth depth') where
    agree-positions : SamePositions sc done done'
    agree-positions k l = agree.positions k (omega (arith, reached.given.good.few_runs))

    agree-names : SameNames sc names names'
    agree-names x k num type l h e =
        let below : x < plan.opened.table.rows = omega (arith, ap length reached.given.rows, reached.given.shape.count) in
        let inside : x < length (rows_of plan.opened.table.bytes.now) = omega (arith, reached.given.shape.count) in
        let row = get_elem-there (rows_of plan.opened.table.bytes.now) x inside in
        let its : atom_at (rows_of plan.opened.table.bytes.now) x ≡ some (variable num type) = ap (λ (rows : List Row). atom_at rows x) (sym reached.given.rows) ∙ e in
        let place = remembers.rows.all x below (variable-six (table-row plan.opened.table.bytes.now reached.given.shape.table x row.0 row.1 inside) (variable num type) (ap atom_of (sym row.1) ∙ its) tt) in
        let runs : k < 4 = omega (arith, reached.given.good.few_runs) in
        let cell : cell_of (get_or plan.variables place.0 0) (k + 1) ≡ cell_of x (suc k) = ap (λ (y : ℕ). cell_of y (k + 1)) place.2 ∙ ap (cell_of x) (add-one k) in
        let low : cell_of x (suc k) < 480 = omega (arith, reached.given.shape.few) in
        get_d_any names (cell_of x (suc k)) absent 0 (omega (arith, placed.sized)) ∙ ap (λ (c : ℕ). get_or names c 0) (sym cell) ∙ agree.values k place.0 runs place.1
        ∙ ap (λ (c : ℕ). get_or names' c 0) cell ∙ get_d_any names' (cell_of x (suc k)) 0 absent (omega (arith, size'))

  -- a memory stays right once the count below a state is stored with its key
  pub remembers-stored : {after : List ℕ} {count : ℕ} → Stored memory after key count → Clean sc (entries_from plan depth sc d) count → Remembers plan after
  remembers-stored {after} {count} stored clean = record {
    size = stored.size ∙ remembers.size;
    rows = remembers.rows;
    right = λ key' count' says sc' d' ms' done' names' depth' reached' placed' isKey'. ⊎_elim
        (λ before. remembers.right key' count' before sc' d' ms' done' names' depth' reached' placed' isKey')
        (λ new. own key' new.0 new.1 reached' placed' isKey')
        (stored.says key' count' says);
  }
    where
      own : (key' : List ℕ) → SameWords key' key → {count' : ℕ} → count' ≡ count → {sc' : Scenario} {d' : State} {ms' : List Move} {done' names' : List ℕ} {depth' : ℕ}
          → ReachedBy plan sc' d' ms' → Placed sc' d' done' names' → IsKey plan.variables done' names' depth' key' → Clean sc' (entries_from plan depth' sc' d') count'
      own key' words {count'} e {sc'} {d'} {ms'} {done'} {names'} {depth'} reached' placed' isKey' =
          let same : sc' ≡ sc = cc (reached.is_opened, reached'.is_opened) in
          let agree : Agree plan.variables done done' names names' depth depth' = keys-agree is-key isKey' (λ j l. sym (words j l)) in
          let it : ReachedBy plan sc d' ms' = rw same at reached' in
          let its : Placed sc d' done' names' = rw same at placed' in
          let moved = clean-same reached.given.good reached.allowed it.allowed placed its (agree-positions its.sized agree) (agree-names its.sized agree) plan depth clean in
          rw (same, e, ← agree.moves) moved

-- a walk of less reach, with the buffer as it was and a memory that is still right, has room too
pub room-on : {plan : Plan} {trace memory : List ℕ} {reach : Reach} → Room plan trace memory reach → {trace' memory' : List ℕ} → trace' ≡ trace → Remembers plan memory'
    → (reach' : Reach) → reach'.left ≤ reach.left → reach'.depth ≤ reach.depth → Room plan trace' memory' reach'
room-on room e remembers reach' l d = record { buffer = omega (arith, room.buffer, ap length e); budget = omega (arith, room.budget); moves = omega (arith, room.moves); remembers = remembers }
