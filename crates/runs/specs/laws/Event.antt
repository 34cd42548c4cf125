-- What is read of a run that stands in a file: its agents and its events. Assumes nothing.
use Rattle.std.specs.Prelude.{ℕ, ◌+◌, ◌*◌, ◌<◌, ◌≤◌, ◌≡◌, T, length, get_or}
use Rattle.std.proofs.Common.{arith, sym, ap, ◌∙◌, ltb→lt, eqb→eq}
use mathlib.Core.List.{List, Memᴰ}
use Rattle.std.proofs.Math.Option.{Option, none, some, none-ne-some}
use Rattle.std.proofs.Math.ListN.{get_elem?}
use Rattle.semantics.specs.Roles.{secrecy, EventKind, send, read, claim, Event, Role, event_kinds, event_from, peer_fits}
use Rattle.semantics.specs.Runs.{Run, atom_at, is_agent}
use Rattle.semantics.specs.Scenario.{Scenario}
use Rattle.semantics.specs.State.{events_of}
use Rattle.semantics.specs.Guarantee.{GoodRole, GoodRun, Guarantee}
use Rattle.semantics.proofs.laws.List.{mem-get_elem, get_elem-below, get_elem-there}
use Rattle.runs.specs.Runs.{RunAt, RunsAt, EventRead, run_at}
use Rattle.runs.specs.declared.Runs.{Runs}

-- the bytes of an event
bytes-event : (o : Option EventKind) (peer row at : ℕ) {e : Event} → event_from o peer row at ≡ some e → (o ≡ some e.kind) × (peer ≡ e.peer) × (row ≡ e.row)
bytes-event none peer row at {e} h = absurd (none-ne-some e h)
bytes-event (some k) peer row at {e} h =
    let w : record { kind = k; peer = peer; row = row; place = at } ≡ e = cc in
    (ap (λ (x : Event). some x.kind) w, ap (λ (x : Event). x.peer) w, ap (λ (x : Event). x.row) w)

-- the peer of an event is a role, where there is one
peer-role : (roles : ℕ) (kind : EventKind) (peer : ℕ) → T (peer_fits roles kind peer) → 0 < roles → peer < roles
peer-role roles send peer t l = ltb→lt peer roles t
peer-role roles read peer t l = ltb→lt peer roles t
peer-role roles (claim secrecy) peer t l = let e = eqb→eq peer 0 t in omega arith

-- the events of a run are those of its role
events-role : (sc : Scenario) (run : Run) {r : Role} → get_elem? sc.roles run.role ≡ some r → events_of sc run ≡ r.events
unfolding events_of
events-role sc run e = rw (e, events_of)

module _ (file : List ℕ) (sc : Scenario) (run : Run) (start first events : ℕ) (stands : RunAt file sc run start first events) (g : Guarantee sc) (k : ℕ) (found : get_elem? sc.runs k ≡ some run) where
  good : GoodRun sc.rows (length sc.roles) run
  good = g.good_runs run ((mem-get_elem sc.runs).1 (k, found))

  -- the agent of a role
  module _ (i : ℕ) (l : i < length sc.roles) where
    pub agent-inside : start + 1 + i < length file
    agent-inside = omega (arith, stands.agents_inside)

    agent-read : {a : ℕ} → a ≡ get_or file (start + 1 + i) 0 → get_elem? run.agents i ≡ some a
    agent-read e = stands.agents i l ∙ ap some (sym e)

    agent-is : {a : ℕ} → a ≡ get_or file (start + 1 + i) 0 → T (is_agent (atom_at sc.rows a))
    agent-is {a} e = good.are_agents a ((mem-get_elem run.agents).1 (i, agent-read e))

  -- the run's own role
  pub own_below : {role : ℕ} → role ≡ get_or file start 0 → role < length sc.roles
  own_below e = omega (arith, stands.role, good.role_present)

  module _ (j : ℕ) (ev : Event) (listed : get_elem? (events_of sc run) j ≡ some ev) where
    below : j < events
    below = omega (arith, get_elem-below (events_of sc run) j listed, stands.count)

    -- the event's bytes are inside the file
    pub event-inside : first + 4 * j + 3 < length file
    event-inside = omega (arith, below, stands.events_inside)

    -- they are its kind, its peer and its row
    event-bytes : (get_elem? event_kinds (get_or file (first + 4 * j) 0) ≡ some ev.kind) × (get_or file (first + 4 * j + 2) 0 ≡ ev.peer) × (get_or file (first + 4 * j + 3) 0 ≡ ev.row)
    event-bytes =
        bytes-event (get_elem? event_kinds (get_or file (first + 4 * j) 0)) (get_or file (first + 4 * j + 2) 0) (get_or file (first + 4 * j + 3) 0) (first + 4 * j)
        (sym (stands.each j below) ∙ listed)

    -- the first is the byte of a kind
    kind-low : get_or file (first + 4 * j) 0 ≤ 2
    kind-low = let l : get_or file (first + 4 * j) 0 < 3 = get_elem-below event_kinds _ event-bytes.0 in omega (arith, l)

    -- the role that has it
    role-of : (r : Role) × (GoodRole sc.rows (length sc.roles) r × Memᴰ ev r.events)
    role-of =
        let w = get_elem-there sc.roles run.role good.role_present in
        (w.0, (g.good_roles w.0 ((mem-get_elem sc.roles).1 (run.role, w.1)), (mem-get_elem w.0.events).1 (j, rw (events-role sc run w.1) at listed)))

    pub peer-below : {peer : ℕ} → peer ≡ get_or file (first + 4 * j + 2) 0 → peer < length sc.roles
    peer-below e =
        let w = role-of in
        let p = peer-role (length sc.roles) ev.kind ev.peer (w.1.0.peers ev w.1.1) (omega (arith, good.role_present)) in
        omega (arith, event-bytes.1)

    -- what is read is the event
    pub event-read : {kind role own b peer row : ℕ} → kind ≡ get_or file (first + 4 * j) 0 → role ≡ get_or file start 0 → own ≡ get_or file (start + 1 + role) 0
        → b ≡ get_or file (first + 4 * j + 2) 0 → peer ≡ get_or file (start + 1 + b) 0 → row ≡ get_or file (first + 4 * j + 3) 0 → EventRead sc run ev kind own peer row
    event-read {kind} {role} {own} {b} {peer} {row} a e f p q h =
        let w = role-of in
        record {
          kind = rw a event-bytes.0;
          own = rw (stands.role ∙ sym e) (agent-read role (own_below e) f);
          peer = rw (sym event-bytes.1 ∙ sym p) (agent-read b (peer-below p) q);
          row = h ∙ event-bytes.2;
          row_below = omega (arith, w.1.0.present ev w.1.1, event-bytes.2);
          own_agent = agent-is role (own_below e) f;
          peer_agent = agent-is b (peer-below p) q;
        }

-- some scenario whose runs stand in a file has event j of run k
abbrev pub SomeEvent : List ℕ → Runs → ℕ → ℕ → Type 0
SomeEvent file r k j = (sc : Scenario) × RunsAt file sc r × Guarantee sc × (k < r.count) × (j < (run_at r k).events)

module _ (file : List ℕ) (r : Runs) (k : ℕ) where
  run_of : (sc : Scenario) → RunsAt file sc r → k < r.count → (run : Run) × (get_elem? sc.runs k ≡ some run)
  run_of sc at l = get_elem-there sc.runs k (omega (arith, at.count))

  module _ (j : ℕ) (w : SomeEvent file r k j) where
    abbrev run : Run
    run = (run_of w.0 w.1 w.3).0

    found : get_elem? w.0.runs k ≡ some run
    found = (run_of w.0 w.1 w.3).1

    stands : RunAt file w.0 run (run_at r k).start (run_at r k).first (run_at r k).events
    stands = w.1.each k run found

    event : (ev : Event) × (get_elem? (events_of w.0 run) j ≡ some ev)
    event = get_elem-there (events_of w.0 run) j (omega (arith, stands.count, w.4))

    -- what is read of them is inside the file: the run's role, its agent and that of the event's peer, and the event
    pub record-inside : (run_at r k).start < length file
    record-inside = omega (arith, stands.agents_inside)

    pub own-inside : {role : ℕ} → role ≡ get_or file (run_at r k).start 0 → (run_at r k).start + 1 + role < length file
    own-inside {role} e = agent-inside file w.0 run _ _ _ stands w.2 k found role (own_below file w.0 run _ _ _ stands w.2 k found e)

    pub bytes_inside : (run_at r k).first + 4 * j + 3 < length file
    bytes_inside = event-inside file w.0 run _ _ _ stands w.2 k found j event.0 event.1

    pub peer-inside : {b : ℕ} → b ≡ get_or file ((run_at r k).first + 4 * j + 2) 0 → (run_at r k).start + 1 + b < length file
    peer-inside {b} e = agent-inside file w.0 run _ _ _ stands w.2 k found b (peer-below file w.0 run _ _ _ stands w.2 k found j event.0 event.1 e)

    -- the event's first byte is that of a kind
    pub kind-there : get_or file ((run_at r k).first + 4 * j) 0 ≤ 2
    kind-there = kind-low file w.0 run _ _ _ stands w.2 k found j event.0 event.1
