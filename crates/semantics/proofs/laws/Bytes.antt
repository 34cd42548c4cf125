-- How many variables an event sets, and the length of a trace: it fits its buffer. Assumes nothing.
use Prim.Native.Nat.{ℕ, zero, suc, ◌+◌, ◌-◌, ◌*◌, ◌≤◌, zero-le}
use Rattle.std.proofs.Math.Nat.{mul-suc}
use native.Mathlib.Omega.{arith}
use Rattle.std.specs.Prelude.{◌≡◌, refl, Bool, true, false, not, T, length, set}
use Rattle.std.proofs.Common.{sym, ap, ◌∙◌, length-append}
use Rattle.std.proofs.Math.Option.{Option, none, some, some-injective}
use mathlib.Core.List.{List, [], ◌∷◌, ◌++◌, map, Memᴰ}
use Rattle.std.proofs.Math.ListN.{get_elem?}
use Rattle.semantics.specs.Basic.{present, keep, present_ones, joined, numbers_from}
use Rattle.semantics.specs.Limits.{most_variables, most_events, most_trace_bytes}
use Rattle.semantics.specs.Term.{Atom}
use Rattle.semantics.specs.Table.{Row, atomic, pk_of, sk_of, shared_of, pair_of, encrypted_of, variable_atom, variable_row}
use Rattle.semantics.specs.Value.{beneath}
use Rattle.semantics.specs.Roles.{EventKind, send, read, claim, Role}
use Rattle.semantics.specs.Runs.{Run, atom_of, atom_at}
use Rattle.semantics.specs.Scenario.{Scenario}
use Rattle.semantics.specs.State.{Value, Progress, State, Active, assigned, atoms_of, initial, events_of, unset_beneath, new_variables, paired}
use Rattle.semantics.specs.Moves.{Move, to_set, set_after, advanced}
use Rattle.semantics.specs.Tree.{Follows, stays, moves}
use Rattle.semantics.specs.Verdict.{value_bytes, move_bytes, trace_bytes}
use Rattle.semantics.specs.Allowed.{Takes, Step, step, AllowedTrace}
use Rattle.semantics.specs.Guarantee.{GoodTable, Guarantee}
use Rattle.semantics.proofs.laws.Test.{both_left, none-there}
use Rattle.semantics.proofs.laws.List.{mem-get_elem, get_elem-below, keep_apart, keep-fewer, map-places}
use Rattle.semantics.proofs.laws.Reached.{assigned-stays, assigned-new, is_unset, unset-iff, unset-mem, takes-length, takes-set, unmoved}
use Rattle.semantics.proofs.laws.Moves.{active-in}

-- how many variables of the table are not set
abbrev unset : List Row → List (Atom × Value) → ℕ
unset rows sets = length (keep (is_unset sets) (atoms_of rows))

-- what is not set later was not set before
unset-before : (sets more : List (Atom × Value)) (a : Atom) → T (is_unset (sets ++ more) a) → T (is_unset sets a)
unset-before sets more a t = let w = (unset-iff (sets ++ more) a).0 t in (unset-iff sets a).1 (w.0, go (assigned a sets) refl w.1)
  where
    go : (o : Option Value) → assigned a sets ≡ o → assigned a (sets ++ more) ≡ none → assigned a sets ≡ none
    go none e n = e
    go (some v) e n = none-there (v, sym n ∙ assigned-stays a sets more e)

module _ (rows : List Row) {runs : ℕ} (sets : List (Atom × Value)) where
  -- a read's new values are values of variables that were not set
  read-sets : (pattern : ℕ) {vs : List Value} → Takes rows runs (unset_beneath rows sets pattern) vs
      → length vs + unset rows (sets ++ paired (unset_beneath rows sets pattern) vs) ≤ unset rows sets
  unfolding unset_beneath atoms_of
  read-sets pattern {vs} h =
      rw (takes-length h)
      (keep_apart (atom_at rows) (λ x. beneath rows x pattern) (is_unset sets) (is_unset (sets ++ more)) (unset-before sets more) (numbers_from 0 (length rows)) is_set)
    where
      more : List (Atom × Value)
      more = paired (unset_beneath rows sets pattern) vs

      is_set : (x : ℕ) (a : Atom) → Memᴰ x (numbers_from 0 (length rows)) → T (beneath rows x pattern) → atom_at rows x ≡ some a → T (is_unset sets a) → ¬ T (is_unset (sets ++ more) a)
      is_set x a m b f t n =
          let now = takes-set h (unset-mem rows sets pattern x f b t) in
          none-there (now.0, sym ((unset-iff (sets ++ more) a).0 n).1 ∙ assigned-new a sets more ((unset-iff sets a).0 t).1 ∙ now.1)

  -- an event without new values sets nothing
  none-sets : {vs : List Value} → Takes rows runs [] vs → length vs + unset rows (sets ++ []) ≤ unset rows sets
  none-sets h = rw (takes-length h) (omega (arith, keep-fewer (is_unset sets) (is_unset (sets ++ [])) (unset-before sets []) (atoms_of rows)))

  -- so an event's new values are values of variables that were not set
  event-sets : (kind : EventKind) (row : ℕ) {vs : List Value} → Takes rows runs (new_variables rows sets kind row) vs
      → length vs + unset rows (sets ++ paired (new_variables rows sets kind row) vs) ≤ unset rows sets
  unfolding new_variables
  event-sets send row h = none-sets h
  event-sets read row h = read-sets row h
  event-sets (claim kind) row h = none-sets h

-- the variables among the atoms are those among the rows
variable-rows : (rows : List Row) → length (keep variable_atom (present_ones (map (λ row. atom_of (some row)) rows))) ≡ length (keep variable_row rows)
variable-rows [] = refl
variable-rows (atomic a ∷ rows) = go (variable_atom a) refl (variable-rows rows)
  where
    atoms : List Atom
    atoms = present_ones (map (λ row. atom_of (some row)) rows)

    go : (b : Bool) → variable_atom a ≡ b → length (keep variable_atom atoms) ≡ length (keep variable_row rows)
        → length (keep variable_atom (a ∷ atoms)) ≡ length (keep variable_row (atomic a ∷ rows))
    go true e rest = rw (e, keep) (ap suc rest)
    go false e rest = rw (e, keep) rest
variable-rows (pk_of a ∷ rows) = variable-rows rows
variable-rows (sk_of a ∷ rows) = variable-rows rows
variable-rows (shared_of a b ∷ rows) = variable-rows rows
variable-rows (pair_of l r ∷ rows) = variable-rows rows
variable-rows (encrypted_of l r ∷ rows) = variable-rows rows

-- no more variables are to set than a table may have
unset-few : {rows : List Row} → GoodTable rows → (sets : List (Atom × Value)) → unset rows sets ≤ most_variables
unfolding atoms_of
unset-few {rows} good sets =
    let fewer = keep-fewer variable_atom (is_unset sets) (λ a. both_left (variable_atom a) (not (present (assigned a sets)))) (atoms_of rows) in
    let same : length (keep variable_atom (atoms_of rows)) ≡ length (keep variable_row rows) = rw (map-places atom_of rows) (variable-rows rows) in
    omega (arith, good.few_variables)

-- an event sets no more variables than are not set
new-unset : (rows : List Row) (sets : List (Atom × Value)) (kind : EventKind) (row : ℕ) → length (new_variables rows sets kind row) ≤ unset rows sets
unfolding new_variables unset_beneath atoms_of
new-unset rows sets send row = zero-le
new-unset rows sets read row = omega (arith, keep_apart (atom_at rows) (λ x. beneath rows x row) (is_unset sets) (λ a. false) (λ a t. absurd t) (numbers_from 0 (length rows)) (λ x a m b f t n. n))
new-unset rows sets (claim kind) row = zero-le

-- A run's next event sets no more variables than a table may have.
pub set-few : (sc : Scenario) → Guarantee sc → (a : Active) → length (to_set sc a) ≤ most_variables
set-few sc g a = omega (arith, new-unset sc.rows a.progress.values a.event.kind a.event.row, unset-few g.table a.progress.values)

-- a run has no more events than a role may have
pub events-few : (sc : Scenario) → Guarantee sc → (run : Run) → length (events_of sc run) ≤ most_events
unfolding events_of
events-few sc g run = go (get_elem? sc.roles run.role) refl
  where
    go : (o : Option Role) → get_elem? sc.roles run.role ≡ o → length (events_of sc run) ≤ most_events
    go none e = rw (e, events_of) (omega arith)
    go (some r) e = rw (e, events_of) (g.good_roles r ((mem-get_elem sc.roles).1 (run.role, e))).few_events

-- the sum over all runs
together : (Run → Progress → ℕ) → List Run → List Progress → ℕ
together w [] ps = 0
together w (run ∷ runs) [] = 0
together w (run ∷ runs) (p ∷ ps) = w run p + together w runs ps

module _ (w : Run → Progress → ℕ) where
  -- it falls as far as one of its parts does
  together-falls : (runs : List Run) (ps : List Progress) (k n : ℕ) {run : Run} {p : Progress} (q : Progress) → get_elem? runs k ≡ some run → get_elem? ps k ≡ some p
      → n + w run q ≤ w run p → n + together w runs (set ps k q) ≤ together w runs ps
  unfolding together
  together-falls [] ps k n {run} q e f l = none-there (run, e)
  together-falls (r ∷ runs) [] k n {p = p} q e f l = none-there (p, f)
  together-falls (r ∷ runs) (o ∷ ps) zero n {run} {p} q e f l =
      let h : n + w r q ≤ w r o = rw (some-injective r run e, some-injective o p f) l in omega arith
  together-falls (r ∷ runs) (o ∷ ps) (suc k) n q e f l = let h = together-falls runs ps k n q e f l in omega arith

  -- it is at most so much for each run
  together-most : (runs : List Run) (p : Progress) (n : ℕ) → ((run : Run) → w run p ≤ n) → together w runs (map (λ run. p) runs) ≤ n * length runs
  unfolding together
  together-most [] p n h = zero-le
  together-most (run ∷ runs) p n h = let l = together-most runs p n h in rw mul-suc (omega (arith, h run))

-- the bytes that a run may still write
abbrev bytes_left : Scenario → Run → Progress → ℕ
bytes_left sc run p = 2 * (length (events_of sc run) - p.done) + 2 * unset sc.rows p.values

-- two bytes for each value
pub value-bytes : (vs : List Value) → length (value_bytes vs) ≡ 2 * length vs
value-bytes [] = refl
value-bytes (v ∷ vs) = let h = value-bytes vs in omega arith

-- a move writes no more bytes than are then no longer left
step-bytes : {sc : Scenario} {s : State} {m : Move} {s' : State} → Step sc s m s'
    → length (move_bytes m) + together (bytes_left sc) sc.runs s'.progress ≤ together (bytes_left sc) sc.runs s.progress
unfolding advanced set_after
step-bytes {sc} {s} {m} (step {a = a} act takes performs e) =
    let i = active-in sc s m.run act in
    let sets = event-sets sc.rows a.progress.values a.event.kind a.event.row takes in
    let left = get_elem-below (events_of sc a.run) a.progress.done i.of_event in
    let bytes = value-bytes m.values in
    rw e (together-falls (bytes_left sc) sc.runs s.progress a.index _ _ i.of_run i.of_progress (omega arith))

-- a trace writes no more bytes than are left at its start
follows-bytes : {sc : Scenario} {ms : List Move} {s e : State} → Follows (Step sc) s ms e → length (trace_bytes ms) ≤ together (bytes_left sc) sc.runs s.progress
unfolding trace_bytes
follows-bytes stays = zero-le
follows-bytes (moves {m = m} {ms = ms} p h) = let l = step-bytes p in let r = follows-bytes h in rw (length-append (move_bytes m) (joined move_bytes ms)) (omega arith)

-- An allowed trace fits the bytes that a trace may have.
pub trace-bytes : (sc : Scenario) → Guarantee sc → (ms : List Move) (s : State) → AllowedTrace sc ms s → length (trace_bytes ms) ≤ most_trace_bytes
unfolding initial
trace-bytes sc g ms s t =
    let l = follows-bytes t in
    let most = together-most (bytes_left sc) sc.runs unmoved (2 * most_events + 2 * most_variables) (λ run. let e = events-few sc g run in let v = unset-few g.table [] in omega arith) in
    omega (arith, g.few_runs)
