-- The laws of the moves of a state, with their proofs: they are the allowed moves, each in its place. Assumes nothing.
use Rattle.std.specs.Prelude.{ℕ, ◌<◌, ◌≡◌, ◌↔◌, Bool, ◌&&◌, T, eqb, length}
use Rattle.std.proofs.Common.{arith, ◌∙◌, ⊎_elim, eqb→eq}
use Rattle.std.proofs.Math.Path.{refl, sym, ap}
use Rattle.std.proofs.Math.Option.{Option, none, some, some-injective, none-ne-some}
use mathlib.Core.List.Memᴰ
use mathlib.Core.List.{List, [], ◌∷◌, map, Memᴰ}
use Rattle.std.proofs.Math.Dec.{eqb_refl}
use Rattle.std.proofs.Math.ListN.{get_elem?}
use Rattle.semantics.specs.Basic.{joined, mapped, numbers_from, Ordered, ordered-none}
use Rattle.semantics.specs.Term.{VariableType, agent_type, fresh_type, Atom, trusted, untrusted, global, intruder, role, variable, local, Term}
use Rattle.semantics.specs.Inference.{Derives, derivable}
use Rattle.semantics.specs.Table.{Row}
use Rattle.semantics.specs.Roles.{EventKind, send, read, claim}
use Rattle.semantics.specs.Runs.{atom_at, is_agent}
use Rattle.semantics.specs.Scenario.{Scenario}
use Rattle.semantics.specs.State.{Value, State, Active, active, Message}
use Rattle.semantics.specs.Moves.{Move, runs_for, values_at, values_of_type, candidates, choices, known_after, to_set, message_after, advanced, performed, branch, moves_of_run, Listing, full, short, run_numbers, runs_in, moves_in}
use Rattle.semantics.specs.Tree.{Earlier, differs, agrees}
use Rattle.semantics.specs.Replay.{same_value, is_value_of, suits, after}
use Rattle.semantics.specs.Allowed.{StepIn, MayTake, an_agent, an_intruder, a_local, Takes, takes_none, takes_more, Performs, sends, reads, claims, Step, step, ValueBefore, by_row, by_run, MoveBefore, earlier_run, earlier_values}
pub use Rattle.semantics.specs.Meaning.{ActiveIn}
pub use Rattle.semantics.proofs.laws.Active.{active-in}
use Rattle.semantics.proofs.laws.Active.{active-mem, runs-short, runs-ordered}
use Rattle.semantics.proofs.laws.Test.{both_left, both_right, both, all_three, guarded-some, either_left, either-right, either-cases, provided-some, and_then-some, mapped-some}
use Rattle.semantics.proofs.laws.List.{mem-cases, mem-joined, mem-map, mem-present, mem-numbers_from, get_elem-below, ordered-one, ordered-imply, ordered-map, ordered-joined, ordered-present, ordered-numbers_from}
use Rattle.semantics.proofs.laws.Inference.{derivable-exact}
use Rattle.semantics.proofs.laws.Tree.{earlier-asymmetric}

-- a row with an atom is a row of the table
pub atom_at-bound : (rows : List Row) (r : ℕ) {a : Atom} → atom_at rows r ≡ some a → r < length rows
atom_at-bound rows r {a} e = go (get_elem? rows r) refl
  where
    go : (o : Option Row) → get_elem? rows r ≡ o → r < length rows
    go none q = absurd (none-ne-some a (rw q at e))
    go (some row) q = get_elem-below rows r q

-- the values at a row are that row with the runs of its atom
mem-values_at : (runs : ℕ) (type : VariableType) (r : ℕ) (o : Option Atom) {v : Value} → Memᴰ v (values_at runs type r o) ↔ ((a : Atom) × (o ≡ some a) × (v.row ≡ r) × Memᴰ v.run (runs_for runs type a))
mem-values_at runs type r none = (λ h. absurd (Memᴰ.not-nil h), λ w. absurd (none-ne-some w.0 w.1))
mem-values_at runs type r (some a) {v} = (
  λ h. let w = (mem-map {B = Value} (λ u. record { row = r; run = u }) (runs_for runs type a)).0 h in (a, refl, ap (λ x. x.row) w.2, rw w.2 w.1),
  λ w. (mem-map {B = Value} (λ u. record { row = r; run = u }) (runs_for runs type a)).1 (v.run, rw (some-injective a w.0 w.1) w.3, λ i. record { row = w.2 i; run = v.run }),
)

-- the values of a type are those of each row
mem-values_of_type : (rows : List Row) (runs : ℕ) (type : VariableType) {v : Value} → Memᴰ v (values_of_type rows runs type) ↔ ((a : Atom) × (atom_at rows v.row ≡ some a) × Memᴰ v.run (runs_for runs type a))
unfolding values_of_type
mem-values_of_type rows runs type {v} =
    let all = mem-joined (λ r. values_at runs type r (atom_at rows r)) (numbers_from 0 (length rows)) in (
      λ h. let w = all.0 h in let x = (mem-values_at runs type w.0 (atom_at rows w.0)).0 w.2 in (x.0, ap (atom_at rows) x.2 ∙ x.1, x.3),
      λ w. all.1 (v.row, (mem-numbers_from 0 (length rows)).1 (omega (arith, atom_at-bound rows v.row w.1)), (mem-values_at runs type v.row (atom_at rows v.row)).1 (w.0, w.1, refl, w.2)),
    )

module _ (rows : List Row) (runs : ℕ) where
  -- a value of a type may be taken by a variable of that type
  value_taken : (n : ℕ) (type : VariableType) (a : Atom) {v : Value} → atom_at rows v.row ≡ some a → Memᴰ v.run (runs_for runs type a) → MayTake rows runs (variable n type) v
  value_taken n agent_type (trusted c) {v} e h = an_agent {v = v} (rw e tt) (Memᴰ.eq_of_singleton h)
  value_taken n agent_type (untrusted c) {v} e h = an_agent {v = v} (rw e tt) (Memᴰ.eq_of_singleton h)
  value_taken n agent_type (global c) e h = absurd (Memᴰ.not-nil h)
  value_taken n agent_type (intruder c) e h = absurd (Memᴰ.not-nil h)
  value_taken n agent_type (role i) e h = absurd (Memᴰ.not-nil h)
  value_taken n agent_type (variable c t) e h = absurd (Memᴰ.not-nil h)
  value_taken n agent_type (local c w) e h = absurd (Memᴰ.not-nil h)
  value_taken n fresh_type (trusted c) e h = absurd (Memᴰ.not-nil h)
  value_taken n fresh_type (untrusted c) e h = absurd (Memᴰ.not-nil h)
  value_taken n fresh_type (global c) e h = absurd (Memᴰ.not-nil h)
  value_taken n fresh_type (intruder c) e h = an_intruder e (Memᴰ.eq_of_singleton h)
  value_taken n fresh_type (role i) e h = absurd (Memᴰ.not-nil h)
  value_taken n fresh_type (variable c t) e h = absurd (Memᴰ.not-nil h)
  value_taken n fresh_type (local c w) {v} e h = let l = (mem-numbers_from 1 runs).0 h in a_local e l.0 (omega arith)

  -- an agent is a value with run 0
  agent-run : (o : Option Atom) → T (is_agent o) → (a : Atom) × (o ≡ some a) × Memᴰ 0 (runs_for runs agent_type a)
  agent-run none t = absurd t
  agent-run (some (trusted c)) t = (trusted c, refl, Memᴰ.head refl)
  agent-run (some (untrusted c)) t = (untrusted c, refl, Memᴰ.head refl)
  agent-run (some (global c)) t = absurd t
  agent-run (some (intruder c)) t = absurd t
  agent-run (some (role i)) t = absurd t
  agent-run (some (variable c u)) t = absurd t
  agent-run (some (local c w)) t = absurd t

  -- what a variable may take is a candidate
  taken-candidate : {x : Atom} {v : Value} → MayTake rows runs x v → Memᴰ v (candidates rows runs x)
  unfolding candidates
  taken-candidate (an_agent {v = v} t e) = (mem-values_of_type rows runs agent_type).1 (rw e (agent-run (atom_at rows v.row) t))
  taken-candidate (an_intruder {c = c} e f) = (mem-values_of_type rows runs fresh_type).1 (intruder c, e, Memᴰ.head f)
  taken-candidate (a_local {c = c} {w = w} e l m) = (mem-values_of_type rows runs fresh_type).1 (local c w, e, (mem-numbers_from 1 runs).1 (omega arith))

  -- a candidate may be taken
  candidate-taken : (x : Atom) {v : Value} → Memᴰ v (candidates rows runs x) → MayTake rows runs x v
  unfolding candidates
  candidate-taken (trusted n) h = absurd (Memᴰ.not-nil h)
  candidate-taken (untrusted n) h = absurd (Memᴰ.not-nil h)
  candidate-taken (global n) h = absurd (Memᴰ.not-nil h)
  candidate-taken (intruder n) h = absurd (Memᴰ.not-nil h)
  candidate-taken (role i) h = absurd (Memᴰ.not-nil h)
  candidate-taken (variable n type) h = let w = (mem-values_of_type rows runs type).0 h in value_taken n type w.0 w.1 w.2
  candidate-taken (local n u) h = absurd (Memᴰ.not-nil h)

  -- the candidates are what a variable may take
  pub mem-candidates : (x : Atom) {v : Value} → Memᴰ v (candidates rows runs x) ↔ MayTake rows runs x v
  mem-candidates x = (candidate-taken x, taken-candidate)

  -- the values that a first variable and others may take
  abbrev chosen : List Atom → Value → List (List Value)
  chosen xs v = map (λ vs. v ∷ vs) (choices rows runs xs)

  -- the choices give each variable a value that it may take
  choice-takes : (xs : List Atom) {vs : List Value} → Memᴰ vs (choices rows runs xs) → Takes rows runs xs vs
  unfolding choices
  choice-takes [] h = rw (Memᴰ.eq_of_singleton h) takes_none
  choice-takes (x ∷ xs) h =
      let w = (mem-joined (chosen xs) (candidates rows runs x)).0 h in
      let u = (mem-map (λ vs. w.0 ∷ vs) (choices rows runs xs)).0 w.2 in
      rw u.2 (takes_more (candidate-taken x w.1) (choice-takes xs u.1))

  -- all such values are a choice
  takes-choice : {xs : List Atom} {vs : List Value} → Takes rows runs xs vs → Memᴰ vs (choices rows runs xs)
  unfolding choices
  takes-choice takes_none = Memᴰ.head refl
  takes-choice (takes_more {x} {v} {xs} {vs} m t) =
      (mem-joined (chosen xs) (candidates rows runs x)).1 (v, taken-candidate m, (mem-map (λ vs. v ∷ vs) (choices rows runs xs)).1 (vs, takes-choice t, refl))

  -- the choices are the values that the variables may take
  pub mem-choices : (xs : List Atom) {vs : List Value} → Memᴰ vs (choices rows runs xs) ↔ Takes rows runs xs vs
  mem-choices xs = (choice-takes xs, takes-choice)

-- two values are the same if row and run are
same-value : (v w : Value) → T (same_value v w) ↔ (v ≡ w)
same-value v w =
    let a = eqb v.row w.row in
    let b = eqb v.run w.run in (
      λ t. let r = eqb→eq v.row w.row (both_left a b t) in let u = eqb→eq v.run w.run (both_right a b t) in λ i. record { row = r i; run = u i },
      λ e. rw e (both (eqb w.row w.row) (eqb w.run w.run) (eqb_refl w.row) (eqb_refl w.run)),
    )

-- the test of values passes for those of the list
is_value_of-iff : (v : Value) (ws : List Value) → T (is_value_of v ws) ↔ Memᴰ v ws
unfolding is_value_of
is_value_of-iff v [] = (λ t. absurd t, λ h. absurd (Memᴰ.not-nil h))
is_value_of-iff v (w ∷ ws) = (
  λ t. ⊎_elim (λ s. Memᴰ.head ((same-value v w).0 s)) (λ s. Memᴰ.tail ((is_value_of-iff v ws).0 s)) (either-cases (same_value v w) (is_value_of v ws) t),
  λ h. mem-cases h (λ e. either_left (same_value v w) (is_value_of v ws) ((same-value v w).1 e)) (λ m. either-right (same_value v w) (is_value_of v ws) ((is_value_of-iff v ws).1 m)),
)

module _ (rows : List Row) (runs : ℕ) where
  -- values that suit are values that may be taken
  suits-takes : (xs : List Atom) (vs : List Value) → T (suits rows runs xs vs) → Takes rows runs xs vs
  unfolding suits
  suits-takes [] [] t = takes_none
  suits-takes [] (v ∷ vs) t = absurd t
  suits-takes (x ∷ xs) [] t = absurd t
  suits-takes (x ∷ xs) (v ∷ vs) t =
      let a = is_value_of v (candidates rows runs x) in
      let b = suits rows runs xs vs in
      takes_more (candidate-taken rows runs x ((is_value_of-iff v (candidates rows runs x)).0 (both_left a b t))) (suits-takes xs vs (both_right a b t))

  -- values that may be taken suit
  takes-suits : {xs : List Atom} {vs : List Value} → Takes rows runs xs vs → T (suits rows runs xs vs)
  unfolding suits
  takes-suits takes_none = tt
  takes-suits (takes_more {x} {v} {xs} {vs} m t) =
      both (is_value_of v (candidates rows runs x)) (suits rows runs xs vs) ((is_value_of-iff v (candidates rows runs x)).1 (taken-candidate rows runs m)) (takes-suits t)

  -- the test of values passes for those that may be taken
  pub suits-exact : (xs : List Atom) (vs : List Value) → T (suits rows runs xs vs) ↔ Takes rows runs xs vs
  suits-exact xs vs = (suits-takes xs vs, takes-suits)

-- the tests of a read
abbrev readable : List Term → Message → Bool
readable known m = derivable known m.sender && derivable known m.receiver && derivable known m.term

-- they pass exactly if sender, receiver and term derive
readable-exact : (known : List Term) (m : Message) → T (readable known m) ↔ (Derives known m.sender × Derives known m.receiver × Derives known m.term)
readable-exact known m =
    let three = all_three (derivable known m.sender) (derivable known m.receiver) (derivable known m.term) in
    let a = derivable-exact known m.sender in
    let b = derivable-exact known m.receiver in
    let c = derivable-exact known m.term in
    (λ t. let w = three.0 t in (a.0 w.0, b.0 w.1, c.0 w.2), λ w. three.1 (a.1 w.0, b.1 w.1, c.1 w.2))

-- what the rules allow is known after the event
performs-known : {known after : List Term} {kind : EventKind} {m : Option Message} → Performs known kind m after → known_after kind known m ≡ some after
unfolding known_after
performs-known (sends e) = ap some (sym e)
performs-known {known} (reads {m} d e f q) = (provided-some (readable known m)).1 ((readable-exact known m).1 (d, e, f), q)
performs-known (claims e) = ap some (sym e)

-- and nothing else
known-performs : (kind : EventKind) (known : List Term) (m : Option Message) {after : List Term} → known_after kind known m ≡ some after → Performs known kind m after
unfolding known_after
known-performs send known none {after} e = absurd (none-ne-some after e)
known-performs send known (some m) {after} e = sends (sym (some-injective _ after e))
known-performs read known none {after} e = absurd (none-ne-some after e)
known-performs read known (some m) {after} e = let w = (provided-some (readable known m)).0 e in let d = (readable-exact known m).0 w.0 in reads d.0 d.1 d.2 w.1
known-performs (claim kind) known m {after} e = claims (sym (some-injective known after e))

-- an event is performed as the rules say
pub known_after-exact : (kind : EventKind) (known : List Term) (m : Option Message) (after : List Term) → (known_after kind known m ≡ some after) ↔ Performs known kind m after
known_after-exact kind known m after = (known-performs kind known m, performs-known)

-- a branch is its move and its state
mapped-branch : (u : ℕ) (vs : List Value) (o : Option State) {b : Move × State} → (mapped (branch u vs) o ≡ some b) ↔ ((o ≡ some b.1) × (b.0 ≡ record { run = u; values = vs }))
mapped-branch u vs o {b} = (
  λ e. let w = (mapped-some (branch u vs) o).0 e in (w.1 ∙ ap some (sym (ap (λ c. c.1) w.2)), ap (λ c. c.0) w.2),
  λ w. (mapped-some (branch u vs) o).1 (b.1, w.0, λ i. (w.1 i, b.1)),
)

module _ (sc : Scenario) (s : State) where
  -- the state after an event
  pub performed-exact : (a : Active) (vs : List Value) (s' : State)
      → (performed sc s a vs ≡ some s') ↔ ((known : List Term) × Performs s.known a.event.kind (message_after sc a vs) known × (s' ≡ advanced sc s a vs known))
  unfolding performed
  performed-exact a vs s' =
      let split = mapped-some (advanced sc s a vs) (known_after a.event.kind s.known (message_after sc a vs)) in (
        λ e. let w = split.0 e in (w.0, known-performs a.event.kind s.known (message_after sc a vs) w.1, w.2),
        λ w. split.1 (w.0, performs-known w.1, w.2),
      )

  -- a move whose values may be taken and whose event is performed
  abbrev Made : Move → State → Type 0
  Made m s' = (a : Active) × (active sc s m.run ≡ some a) × Takes sc.rows (length sc.runs) (to_set sc a) m.values × (performed sc s a m.values ≡ some s')

  -- such a move is allowed
  made-step : {m : Move} {s' : State} → Made m s' → Step sc s m s'
  made-step {m} {s'} w = let p = (performed-exact w.0 m.values s').0 w.3 in step w.1 w.2 p.1 p.2

  -- and every allowed move is such a one
  step-made : {m : Move} {s' : State} → Step sc s m s' → Made m s'
  step-made {m} {s'} (step {a} {known} e t p q) = (a, e, t, (performed-exact a m.values s').1 (known, p, q))

  -- the values that the next event of a run may set
  abbrev setting : Active → List (List Value)
  setting a = choices sc.rows (length sc.runs) (to_set sc a)

  -- a branch of a run, with the values of one choice
  abbrev branch_by : ℕ → Active → List Value → Option (Move × State)
  branch_by u a vs = mapped (branch u vs) (performed sc s a vs)

  -- the moves of a run with an event to come
  mem-moves_of_run : (u : ℕ) (a : Active) {b : Move × State} → Memᴰ b (moves_of_run sc s u (some a)) ↔ ((vs : List Value) × Memᴰ vs (setting a) × (performed sc s a vs ≡ some b.1) × (b.0 ≡ record { run = u; values = vs }))
  unfolding moves_of_run
  mem-moves_of_run u a =
      let all = mem-map (branch_by u a) (setting a) in
      let there = mem-present (map (branch_by u a) (setting a)) in (
        λ h. let w = all.0 (there.0 h) in let p = (mapped-branch u w.0 (performed sc s a w.0)).0 (sym w.2) in (w.0, w.1, p.0, p.1),
        λ w. there.1 (all.1 (w.0, w.1, sym ((mapped-branch u w.0 (performed sc s a w.0)).1 (w.2, w.3)))),
      )

  -- the moves of some runs are the allowed moves of these runs
  moves-of-runs : (us : List ℕ) (m : Move) (s' : State) → Memᴰ (m, s') (joined (λ u. moves_of_run sc s u (active sc s u)) us) ↔ (Memᴰ m.run us × Step sc s m s')
  unfolding moves_of_run
  moves-of-runs us m s' =
      let all = mem-joined (λ u. moves_of_run sc s u (active sc s u)) us in (
        λ h. let w = all.0 h in let v = found w.0 (active sc s w.0) refl w.2 in (rw v.0 w.1, v.1),
        λ p. let w = step-made p.1 in all.1 (m.run, p.0, rw w.1 ((mem-moves_of_run m.run w.0).1 (m.values, takes-choice _ _ w.2, w.3, refl))),
      )
    where
      found : (u : ℕ) (o : Option Active) → active sc s u ≡ o → Memᴰ (m, s') (moves_of_run sc s u o) → (m.run ≡ u) × Step sc s m s'
      found u none e h = absurd (Memᴰ.not-nil h)
      found u (some a) e h = let w = (mem-moves_of_run u a).0 h in (ap (λ (x : Move). x.run) w.3, rw w.3 (made-step (a, e, choice-takes _ _ _ w.1, w.2)))

  -- the moves of a list are the allowed moves that it goes on with
  pub moves-exact : (which : Listing) (m : Move) (s' : State) → Memᴰ (m, s') (moves_in which sc s) ↔ StepIn which sc s m s'
  unfolding moves_in runs_in
  moves-exact full m s' =
      let all = moves-of-runs (run_numbers sc) m s' in
      (λ h. (all.0 h).1, λ p. all.1 (active-mem sc s m.run (step-made p).1, p))
  moves-exact short m s' =
      let all = moves-of-runs (runs_in short sc s) m s' in
      let some_runs = runs-short sc s m.run in (
        λ h. let w = all.0 h in ((some_runs.0 w.0).1, w.1),
        λ p. all.1 (some_runs.1 (active-mem sc s m.run (step-made p.1).1, p.0), p.1),
      )

  -- whether the values of a move suit the next event of a run
  abbrev fits : Move → Active → Bool
  fits m a = suits sc.rows (length sc.runs) (to_set sc a) m.values

  -- the state after a move, if it is allowed
  pub after-exact : (m : Move) (s' : State) → (after sc s m ≡ some s') ↔ Step sc s m s'
  unfolding after
  after-exact m s' = (
    λ e. let w = (and_then-some (active sc s m.run) _).0 e in let g = (guarded-some (fits m w.0)).0 w.2 in made-step (w.0, w.1, suits-takes _ _ _ _ g.0, g.1),
    λ p. let w = step-made p in (and_then-some (active sc s m.run) _).1 (w.0, w.1, (guarded-some (fits m w.0)).1 (takes-suits _ _ w.2, w.3)),
  )

-- a value does not come before one that comes before it
pub value_before-asymmetric : (v w : Value) → ValueBefore v w → ¬ ValueBefore w v
value_before-asymmetric v w (by_row l) (by_row m) = omega arith
value_before-asymmetric v w (by_row l) (by_run e m) = omega arith
value_before-asymmetric v w (by_run e l) (by_row m) = omega arith
value_before-asymmetric v w (by_run e l) (by_run f m) = omega arith

-- nor does a move
pub move_before-asymmetric : (m m' : Move) → MoveBefore m m' → ¬ MoveBefore m' m
move_before-asymmetric m m' (earlier_run l) (earlier_run k) = omega arith
move_before-asymmetric m m' (earlier_run l) (earlier_values e k) = omega arith
move_before-asymmetric m m' (earlier_values e h) (earlier_run k) = omega arith
move_before-asymmetric m m' (earlier_values e h) (earlier_values f k) = earlier-asymmetric value_before-asymmetric h k

-- the runs with which an atom is a value are in order
runs_for-ordered : (runs : ℕ) (type : VariableType) (a : Atom) → Ordered ◌<◌ (runs_for runs type a)
runs_for-ordered runs agent_type (trusted n) = ordered-one
runs_for-ordered runs agent_type (untrusted n) = ordered-one
runs_for-ordered runs agent_type (global n) = ordered-none
runs_for-ordered runs agent_type (intruder n) = ordered-none
runs_for-ordered runs agent_type (role i) = ordered-none
runs_for-ordered runs agent_type (variable n t) = ordered-none
runs_for-ordered runs agent_type (local n u) = ordered-none
runs_for-ordered runs fresh_type (trusted n) = ordered-none
runs_for-ordered runs fresh_type (untrusted n) = ordered-none
runs_for-ordered runs fresh_type (global n) = ordered-none
runs_for-ordered runs fresh_type (intruder n) = ordered-one
runs_for-ordered runs fresh_type (role i) = ordered-none
runs_for-ordered runs fresh_type (variable n t) = ordered-none
runs_for-ordered runs fresh_type (local n u) = ordered-numbers_from 1 runs

-- and so are the values at a row
values_at-ordered : (runs : ℕ) (type : VariableType) (r : ℕ) (o : Option Atom) → Ordered ValueBefore (values_at runs type r o)
values_at-ordered runs type r none = ordered-none
values_at-ordered runs type r (some a) = ordered-map (λ u. record { row = r; run = u }) (ordered-imply (λ u u' l. by_run refl l) (runs_for-ordered runs type a))

module _ (rows : List Row) (runs : ℕ) where
  -- the values of a type are in order
  values_of_type-ordered : (type : VariableType) → Ordered ValueBefore (values_of_type rows runs type)
  unfolding values_of_type
  values_of_type-ordered type = ordered-joined (λ r. values_at runs type r (atom_at rows r)) (ordered-numbers_from 0 (length rows)) (λ r h. values_at-ordered runs type r (atom_at rows r)) across
    where
      across : (r r' : ℕ) (v v' : Value) → r < r' → Memᴰ v (values_at runs type r (atom_at rows r)) → Memᴰ v' (values_at runs type r' (atom_at rows r')) → ValueBefore v v'
      across r r' v v' l h h' = by_row (omega (arith, ((mem-values_at runs type r (atom_at rows r)).0 h).2, ((mem-values_at runs type r' (atom_at rows r')).0 h').2))

  -- the candidates are in order
  pub candidates-ordered : (x : Atom) → Ordered ValueBefore (candidates rows runs x)
  unfolding candidates
  candidates-ordered (trusted n) = ordered-none
  candidates-ordered (untrusted n) = ordered-none
  candidates-ordered (global n) = ordered-none
  candidates-ordered (intruder n) = ordered-none
  candidates-ordered (role i) = ordered-none
  candidates-ordered (variable n type) = values_of_type-ordered type
  candidates-ordered (local n u) = ordered-none

  -- the choices are in order
  pub choices-ordered : (xs : List Atom) → Ordered (Earlier ValueBefore) (choices rows runs xs)
  unfolding choices
  choices-ordered [] = ordered-one
  choices-ordered (x ∷ xs) = ordered-joined (chosen rows runs xs) (candidates-ordered x) (λ v h. ordered-map (λ vs. v ∷ vs) (ordered-imply (λ vs ws k. agrees k) (choices-ordered xs))) across
    where
      across : (v w : Value) (vs ws : List Value) → ValueBefore v w → Memᴰ vs (chosen rows runs xs v) → Memᴰ ws (chosen rows runs xs w) → Earlier ValueBefore vs ws
      across v w vs ws b h k = rw (((mem-map (λ us. v ∷ us) (choices rows runs xs)).0 h).2, ((mem-map (λ us. w ∷ us) (choices rows runs xs)).0 k).2) (differs b)

module _ (sc : Scenario) (s : State) where
  -- a move of a run is that run's
  moves_of_run-run : (u : ℕ) (o : Option Active) {b : Move × State} → Memᴰ b (moves_of_run sc s u o) → b.0.run ≡ u
  unfolding moves_of_run
  moves_of_run-run u none h = absurd (Memᴰ.not-nil h)
  moves_of_run-run u (some a) h = ap (λ m. m.run) ((mem-moves_of_run sc s u a).0 h).3

  -- the moves of a run are in order
  moves_of_run-ordered : (u : ℕ) (o : Option Active) → Ordered (λ b c. MoveBefore b.0 c.0) (moves_of_run sc s u o)
  unfolding moves_of_run
  moves_of_run-ordered u none = ordered-none
  moves_of_run-ordered u (some a) = ordered-present (branch_by sc s u a) (choices-ordered sc.rows (length sc.runs) (to_set sc a)) across
    where
      across : (vs ws : List Value) (b c : Move × State) → Earlier ValueBefore vs ws → branch_by sc s u a vs ≡ some b → branch_by sc s u a ws ≡ some c → MoveBefore b.0 c.0
      across vs ws b c h e f = rw (((mapped-branch u vs (performed sc s a vs)).0 e).1, ((mapped-branch u ws (performed sc s a ws)).0 f).1) (earlier_values refl h)

  -- the moves are in order
  pub moves-ordered : (which : Listing) → Ordered (λ b c. MoveBefore b.0 c.0) (moves_in which sc s)
  unfolding moves_in
  moves-ordered which = ordered-joined (λ u. moves_of_run sc s u (active sc s u)) (runs-ordered sc s which) (λ u h. moves_of_run-ordered u (active sc s u)) across
    where
      across : (u u' : ℕ) (b c : Move × State) → u < u' → Memᴰ b (moves_of_run sc s u (active sc s u)) → Memᴰ c (moves_of_run sc s u' (active sc s u')) → MoveBefore b.0 c.0
      across u u' b c l h k = earlier_run (omega (arith, moves_of_run-run u (active sc s u) h, moves_of_run-run u' (active sc s u') k))
