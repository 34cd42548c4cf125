-- Whether a run has an event to come, by how far it has come, and what its next move then is. Assumes nothing.
use Rattle.std.specs.Prelude.{ℕ, zero, suc, ◌<◌, ◌≤◌, ◌≡◌, refl, List, [], ◌∷◌, T, length, get_or}
use Rattle.std.proofs.Common.{arith, sym, ap, ◌∙◌}
use Rattle.std.proofs.Math.Option.{Option, none, some}
use Rattle.std.proofs.Math.ListN.{get_elem?}
use Rattle.semantics.specs.Table.{Row}
use Rattle.semantics.specs.Roles.{Event}
use Rattle.semantics.specs.Runs.{Run, atom_of, atom_at, is_agent}
use Rattle.semantics.specs.Scenario.{Scenario}
use Rattle.semantics.specs.State.{Progress, State, Active, active, events_of}
use Rattle.semantics.proofs.laws.List.{get_elem-below, get_elem-there}
use Rattle.records.specs.Kinds.{byte_of}
use Rattle.runs.specs.declared.RunEvent.{RunEvent}
use Rattle.runs.specs.declared.Runs.{Runs}
use Rattle.runs.specs.Runs.{EventRead, run_at}
use Rattle.state.specs.declared.State.{State as CodeState}
use Rattle.runs.specs.Given.{Given}
use Rattle.state.specs.State.{Due, IsState, NextMove}

-- past the end of a list there is nothing
get_elem-past : {A : Type 0} (xs : List A) (i : ℕ) → length xs ≤ i → get_elem? xs i ≡ none
get_elem-past [] i l = refl
get_elem-past (x ∷ xs) zero l = absurd (omega arith)
get_elem-past (x ∷ xs) (suc i) l = get_elem-past xs i (omega arith)

-- an active run, from its parts
active-from : (sc : Scenario) (d : State) (k : ℕ) {run : Run} {p : Progress} {e : Event} → get_elem? sc.runs k ≡ some run → get_elem? d.progress k ≡ some p → get_elem? (events_of sc run) p.done ≡ some e
    → active sc d (suc k) ≡ some (record { index = k; run = run; progress = p; event = e })
unfolding active
active-from sc d k f g h = rw (f, g, h) refl

inactive-from : (sc : Scenario) (d : State) (k : ℕ) {run : Run} {p : Progress} → get_elem? sc.runs k ≡ some run → get_elem? d.progress k ≡ some p → get_elem? (events_of sc run) p.done ≡ none → active sc d (suc k) ≡ none
unfolding active
inactive-from sc d k f g h = rw (f, g, h) refl

-- no run has number 0, or one that is too high
pub active-zero : (sc : Scenario) (d : State) → active sc d 0 ≡ none
unfolding active
active-zero sc d = refl

pub active-high : (sc : Scenario) (d : State) (u : ℕ) → length sc.runs < u → active sc d u ≡ none
unfolding active
active-high sc d zero l = absurd (omega arith)
active-high sc d (suc k) l = rw (get_elem-past sc.runs k (omega arith)) refl

agent-below : (rows : List Row) (r : ℕ) → T (is_agent (atom_at rows r)) → r < length rows
agent-below rows r h = go (get_elem? rows r) refl h
  where
    go : (o : Option Row) → get_elem? rows r ≡ o → T (is_agent (atom_of o)) → r < length rows
    go none e h = absurd h
    go (some row) e h = get_elem-below rows r e

module _ {file t : List ℕ} {n : ℕ} {r : Runs} {sc : Scenario} (given : Given file t n r sc) {d : State} {s : CodeState} (state : IsState sc d s) (k : ℕ) (low : k < r.count) where
  here : (run : Run) × (p : Progress) × (get_elem? sc.runs k ≡ some run) × (get_elem? d.progress k ≡ some p)
  here =
      let f = get_elem-there sc.runs k (omega (arith, given.runs.count)) in
      let g = get_elem-there d.progress k (omega (arith, given.runs.count, state.placed.progress)) in
      (f.0, g.0, f.1, g.1)

  events-of : (run_at r k).events ≡ length (events_of sc here.0)
  events-of = (given.runs.each k here.0 here.2).count

  -- a run that has made all its events has none to come
  pub run-ended : (run_at r k).events ≤ get_or s.done k 0 → active sc d (suc k) ≡ none
  run-ended l = inactive-from sc d k here.2 here.3 (get_elem-past (events_of sc here.0) here.1.done (omega (arith, events-of, state.placed.positions k here.1 here.3)))

  -- every other has its next
  pub record Coming (a : Active) : Type 0 where
    pub is_active : active sc d (suc k) ≡ some a
    pub of_run : get_elem? sc.runs k ≡ some a.run
    pub of_event : get_elem? (events_of sc a.run) (get_or s.done k 0) ≡ some a.event

  pub run-coming : get_or s.done k 0 < (run_at r k).events → (a : Active) × Coming a
  run-coming l =
      let done = state.placed.positions k here.1 here.3 in
      let e = get_elem-there (events_of sc here.0) here.1.done (omega (arith, events-of, done)) in
      (record { index = k; run = here.0; progress = here.1; event = e.0 }, record { is_active = active-from sc d k here.2 here.3 e.1; of_run = here.2; of_event = ap (get_elem? (events_of sc here.0)) done ∙ e.1 })

  -- so its next move is as it was read
  pub coming-move : (a : Active) → Coming a → {e : RunEvent} → EventRead sc a.run a.event (byte_of e.kind) e.own e.peer e.row → NextMove t r.count k e sc d s a
  coming-move a coming read = record { rows = given.rows; count = given.runs.count; good = given.good; is_state = state; is_active = coming.is_active; is_event = read }

  pub coming-due : (a : Active) → Coming a → {kind own peer row : ℕ} → EventRead sc a.run a.event kind own peer row → Due n r.count k own peer row
  coming-due a coming {own = own} {peer = peer} read =
      let rows-n : length sc.rows ≡ n = ap length given.rows ∙ sym given.shape.count in
      record {
        is_run = low;
        agent = omega (arith, rows-n, agent-below sc.rows own read.own_agent);
        other = omega (arith, rows-n, agent-below sc.rows peer read.peer_agent);
        term = omega (arith, rows-n, read.row_below);
      }
