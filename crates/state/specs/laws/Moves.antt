-- The next event of a run with new values: its message by cells, whether it is allowed, and the state after it. Assumes nothing.
use Rattle.std.specs.Prelude.{ℕ, suc, ◌+◌, ◌<◌, ◌≡◌, ◌↔◌, Bool, true, false, ◌&&◌, List, [], ◌∷◌, T, length, get_or, set}
use Rattle.std.proofs.Math.Decide.{ℕ_discrete}
use Rattle.std.proofs.Common.{add-one, arith, sym, ap, ◌∙◌, get_or-set_same, get_or-set_other}
use Rattle.std.proofs.Math.Path.{refl, subst}
use Rattle.std.proofs.Math.Option.{Option, none, some, some-injective}
use Rattle.std.proofs.Math.ListN.{get_elem?, length-set}
use Rattle.semantics.specs.Basic.{and_then, mapped, provided}
use Rattle.semantics.specs.Term.{Atom, role, Term, atom}
use Rattle.semantics.specs.Inference.{Derives, derivable}
use Rattle.semantics.specs.Table.{Row}
use Rattle.semantics.specs.Value.{Reading, value_of, without_run}
use Rattle.semantics.specs.Roles.{ClaimKind, EventKind, send, read, claim, Event}
use Rattle.semantics.specs.Runs.{Run, atom_at, is_agent}
use Rattle.semantics.specs.Scenario.{Scenario}
use Rattle.semantics.specs.Guarantee.{Guarantee, GoodTable}
use Rattle.semantics.specs.State.{Value, Progress, State, Active, active, term_of, reading_in, paired, Message}
use Rattle.semantics.specs.Moves.{message, known_after, set_after, message_after, advanced, performed}
use Rattle.semantics.proofs.laws.Test.{all_three}
use Rattle.semantics.proofs.laws.List.{get_elem-below}
use Rattle.semantics.proofs.laws.Reached.{Standing}
use Rattle.semantics.proofs.laws.Value.{value-unfolds}
use Rattle.semantics.proofs.laws.Inference.{derivable-exact}
use Rattle.semantics.proofs.laws.Moves.{ActiveIn, active-in}
use Rattle.cells.specs.Cells.{Within, Readings, cell_value}
use Rattle.classes.specs.Classes.{NamesRight}
use Rattle.knowledge.specs.Marks.{Marked, Derivable, Exact}
use Rattle.runs.specs.Runs.{EventRead}
use Rattle.state_start.specs.laws.Names.{agent-atom, agent-term}
use Rattle.state.specs.declared.State.{State as CodeState}
use Rattle.state.specs.Readings.{SetsOf, sets_of, with_sets, readings}
use Rattle.state.specs.State.{Placed, Arrays, IsState, Sets}
use Rattle.semantics.proofs.laws.List.{set_same, set_other}
use Rattle.state.specs.laws.Readings.{with-same, with-other, sets-advanced, reading-run}
use Rattle.knowledge.specs.laws.Learn.{marked-derives}

-- an agent's row has its agent without a run, and so has a role name for which it stands
pub agent-value : (rows : List Row) → GoodTable rows → (u : ℕ) (run : Run) (sets : List (Atom × Value)) (i r : ℕ) → get_elem? run.agents i ≡ some r → T (is_agent (atom_at rows r))
    → (b : Term) × (reading_in rows u run sets (role i) ≡ some b) × (value_of without_run rows r ≡ some b)
unfolding reading_in
agent-value rows good u run sets i r e h =
    let w = agent-atom (get_elem? rows r) h in
    let f = agent-term rows r w.0 w.1 w.2 in
    (atom w.0, ap (λ (o : Option ℕ). and_then o (λ x. term_of rows (record { row = x; run = 0 }))) e ∙ f, value-unfolds good without_run r w.1 ∙ w.3)

-- the message of an event, from the values of its parts
pub message-there : (rows : List Row) (reading : Reading) (run : Run) (e : Event) {a b t : Term} → reading (role run.role) ≡ some a → reading (role e.peer) ≡ some b
    → value_of reading rows e.row ≡ some t → message rows reading run e ≡ some (record { sender = a; receiver = b; term = t })
unfolding message
message-there rows reading run e p q h = rw (p, q, h) refl

pub message-none : (rows : List Row) (reading : Reading) (run : Run) (e : Event) → value_of reading rows e.row ≡ none → message rows reading run e ≡ none
unfolding message
message-none rows reading run e h = go (reading (role run.role)) (reading (role e.peer))
  where
    go : (o p : Option Term) → and_then {B = Message} o (λ a. and_then {B = Message} p (λ b. mapped (λ t. record { sender = a; receiver = b; term = t }) (value_of reading rows e.row))) ≡ none
    go none p = refl
    go (some a) none = refl
    go (some a) (some b) = rw h refl

-- what is known after an event of a kind, with a message
known-after : {kind kind' : EventKind} (known : List Term) {m m' : Option Message} → kind ≡ kind' → m ≡ m' → known_after kind known m ≡ known_after kind' known m'
known-after known k e = λ i. known_after (k i) known (e i)

performed-some : (sc : Scenario) (d : State) (a : Active) (vs : List Value) {known : List Term} → known_after a.event.kind d.known (message_after sc a vs) ≡ some known
    → performed sc d a vs ≡ some (advanced sc d a vs known)
unfolding performed
performed-some sc d a vs e = ap (mapped (advanced sc d a vs)) e

performed-none : (sc : Scenario) (d : State) (a : Active) (vs : List Value) → known_after a.event.kind d.known (message_after sc a vs) ≡ none → performed sc d a vs ≡ none
unfolding performed
performed-none sc d a vs e = ap (mapped (advanced sc d a vs)) e

-- a read, by whether its message derives
read-after : (known : List Term) (m : Message) → (T (derivable known m.sender) × T (derivable known m.receiver) × T (derivable known m.term)) → known_after read known (some m) ≡ some known
unfolding known_after
read-after known m h = go (derivable known m.sender && derivable known m.receiver && derivable known m.term) ((all_three (derivable known m.sender) (derivable known m.receiver) (derivable known m.term)).1 h)
  where
    go : (b : Bool) → T b → provided b known ≡ some known
    go true h = refl
    go false h = absurd h

unread-after : (known : List Term) (m : Message) → ((T (derivable known m.sender) × T (derivable known m.receiver) × T (derivable known m.term)) → ⊥) → known_after read known (some m) ≡ none
unfolding known_after
unread-after known m h = go (derivable known m.sender && derivable known m.receiver && derivable known m.term) (λ t. h ((all_three (derivable known m.sender) (derivable known m.receiver) (derivable known m.term)).0 t))
  where
    go : (b : Bool) → (T b → ⊥) → provided b known ≡ none
    go true h = absurd (h tt)
    go false h = refl

-- no values for some variables, and nothing more set
pub paired_none : (xs : List Atom) → paired xs [] ≡ []
paired_none [] = refl
paired_none (x ∷ xs) = refl

module _ (sc : Scenario) (good : Guarantee sc) (d : State) (u : ℕ) (a : Active) (is_active : active sc d u ≡ some a) (vs : List Value) where
  -- the sets and the readings with the new values
  abbrev pub mine : List (Atom × Value)
  mine = set_after sc a vs

  abbrev pub new_readings : Readings
  new_readings = readings sc (with_sets a.index mine (sets_of d.progress))

  is : ActiveIn sc d u a
  is = active-in sc d u is_active

  -- the run's own reading
  own-reading : new_readings u ≡ reading_in sc.rows (suc a.index) a.run mine
  own-reading =
      ap new_readings is.numbered ∙ reading-run sc (with_sets a.index mine (sets_of d.progress)) a.index is.of_run
      ∙ ap (reading_in sc.rows (suc a.index) a.run) (with-same a.index mine (sets_of d.progress))

  module _ {kind own peer row : ℕ} (ev : EventRead sc a.run a.event kind own peer row) where
    sender-value : (b : Term) × (reading_in sc.rows (suc a.index) a.run mine (role a.run.role) ≡ some b) × (value_of without_run sc.rows own ≡ some b)
    sender-value = agent-value sc.rows good.table (suc a.index) a.run mine a.run.role own ev.own ev.own_agent

    receiver-value : (b : Term) × (reading_in sc.rows (suc a.index) a.run mine (role a.event.peer) ≡ some b) × (value_of without_run sc.rows peer ≡ some b)
    receiver-value = agent-value sc.rows good.table (suc a.index) a.run mine a.event.peer peer ev.peer ev.peer_agent

    term-value : cell_value new_readings sc.rows row u ≡ value_of (reading_in sc.rows (suc a.index) a.run mine) sc.rows a.event.row
    term-value = ap (λ (ρ : Reading). value_of ρ sc.rows row) own-reading ∙ ap (value_of (reading_in sc.rows (suc a.index) a.run mine) sc.rows) ev.row

    -- the message has the values of three cells
    pub message-cells : {t : Term} → cell_value new_readings sc.rows row u ≡ some t
        → (b : Term) × (c : Term) × (message_after sc a vs ≡ some (record { sender = b; receiver = c; term = t })) × (cell_value new_readings sc.rows own 0 ≡ some b) × (cell_value new_readings sc.rows peer 0 ≡ some c)
    unfolding message_after
    message-cells e =
        (sender-value.0, receiver-value.0, message-there sc.rows _ a.run a.event sender-value.1 receiver-value.1 (sym term-value ∙ e), sender-value.2, receiver-value.2)

    -- without a value of the term there is none
    pub message-absent : cell_value new_readings sc.rows row u ≡ none → message_after sc a vs ≡ none
    unfolding message_after
    message-absent e = message-none sc.rows _ a.run a.event (sym term-value ∙ e)

    -- a send is allowed if its term has a value, and adds the values of three cells to what is known
    pub sent-known : a.event.kind ≡ send → {t : Term} → cell_value new_readings sc.rows row u ≡ some t
        → (b : Term) × (c : Term) × (performed sc d a vs ≡ some (advanced sc d a vs (b ∷ c ∷ t ∷ d.known))) × (cell_value new_readings sc.rows own 0 ≡ some b) × (cell_value new_readings sc.rows peer 0 ≡ some c)
    unfolding known_after
    sent-known k e = let w = message-cells e in (w.0, w.1, performed-some sc d a vs (known-after d.known k w.2), w.3, w.4)

    pub unsent : a.event.kind ≡ send → cell_value new_readings sc.rows row u ≡ none → performed sc d a vs ≡ none
    unfolding known_after
    unsent k e = performed-none sc d a vs (known-after d.known k (message-absent e))

    -- a read is not allowed unless the values of three cells derive
    pub read-underived : a.event.kind ≡ read
        → (Derivable sc.rows new_readings d.known own 0 → Derivable sc.rows new_readings d.known peer 0 → Derivable sc.rows new_readings d.known row u → ⊥) → performed sc d a vs ≡ none
    unfolding known_after
    read-underived k n = go (cell_value new_readings sc.rows row u) refl
      where
        go : (o : Option Term) → cell_value new_readings sc.rows row u ≡ o → performed sc d a vs ≡ none
        go none e = performed-none sc d a vs (known-after d.known k (message-absent e))
        go (some t) e =
            let w = message-cells e in
            performed-none sc d a vs (known-after d.known k w.2 ∙ unread-after d.known _ (λ p.
            n (w.0, w.3, (derivable-exact d.known w.0).0 p.0) (w.1, w.4, (derivable-exact d.known w.1).0 p.1) (t, e, (derivable-exact d.known t).0 p.2)))

    module _ (marks : List Bool) (exact : Exact sc.rows (length sc.runs) new_readings d.known marks) (k : a.event.kind ≡ read)
        (own_within : Within sc.rows (length sc.runs) own 0) (peer_within : Within sc.rows (length sc.runs) peer 0) (row_within : Within sc.rows (length sc.runs) row u) where
      derives : {r w : ℕ} → Within sc.rows (length sc.runs) r w → {t : Term} → cell_value new_readings sc.rows r w ≡ some t → Marked marks r w ↔ Derives d.known t
      derives {r} {w} within e = marked-derives sc.rows good.table.few (length sc.runs) r w within new_readings d.known marks exact e

      -- a read is allowed if three cells are marked
      pub read-allowed : Marked marks own 0 → Marked marks peer 0 → Marked marks row u → performed sc d a vs ≡ some (advanced sc d a vs d.known)
      read-allowed mo mp mr =
          let v = (exact row u row_within).0 mr in
          let w = message-cells v.1 in
          performed-some sc d a vs (known-after d.known k w.2 ∙ read-after d.known _ (
            (derivable-exact d.known w.0).1 ((derives own_within w.3).0 mo),
            (derivable-exact d.known w.1).1 ((derives peer_within w.4).0 mp),
            (derivable-exact d.known v.0).1 v.2,
          ))

      -- and otherwise not
      pub read-refused : (Marked marks own 0 → Marked marks peer 0 → Marked marks row u → ⊥) → performed sc d a vs ≡ none
      read-refused n = read-underived k (λ o p r. n ((exact own 0 own_within).1 o) ((exact peer 0 peer_within).1 p) ((exact row u row_within).1 r))

  -- a claim is always allowed
  pub claimed : {kind : ClaimKind} → a.event.kind ≡ claim kind → performed sc d a vs ≡ some (advanced sc d a vs d.known)
  unfolding known_after
  claimed k = performed-some sc d a vs (known-after d.known k refl)

  -- the sets of the runs after it
  abbrev after : Progress
  after = record { done = suc a.progress.done; values = mine }

  below : a.index < length d.progress
  below = get_elem-below d.progress a.index is.of_progress

  sets-after : sets_of (set d.progress a.index after) ≡ with_sets a.index mine (sets_of d.progress)
  sets-after = sets-advanced d.progress a.index after below

  -- positions and names after an event, whatever is known then
  pub advanced-placed : {done names done' names' : List ℕ} → Placed sc d done names → (known : List Term) → done' ≡ set done a.index (get_or done a.index 0 + 1) → length done ≡ 4 → Sets sc d a vs names'
      → Placed sc (advanced sc d a vs known) done' names'
  unfolding advanced
  advanced-placed {done} {names} {done'} {names'} before known moved size sets = record {
    progress = length-set d.progress a.index _ ∙ before.progress;
    positions = positions;
    named = subst (λ (s : SetsOf). NamesRight sc.rows (length sc.runs) (readings sc s) names') (sym sets-after) sets.named;
    sized = sets.size;
    valued = λ k. subst (λ (s : SetsOf). Standing sc.rows (s k)) (sym sets-after) (stands k);
  }
    where
      stands : (k : ℕ) → Standing sc.rows (with_sets a.index mine (sets_of d.progress) k)
      stands k = go (ℕ_discrete k a.index)
        where
          go : Dec (k ≡ a.index) → Standing sc.rows (with_sets a.index mine (sets_of d.progress) k)
          go (yes e) = rw (e, with-same a.index mine (sets_of d.progress)) sets.valued
          go (no n) = rw (with-other a.index mine (sets_of d.progress) k n) (before.valued k)

      positions : (k : ℕ) (p : Progress) → get_elem? (set d.progress a.index after) k ≡ some p → get_or done' k 0 ≡ p.done
      positions k p e = ap (λ (l : List ℕ). get_or l k 0) moved ∙ go (ℕ_discrete k a.index)
        where
          few : a.index < 4
          few = omega (arith, get_elem-below sc.runs a.index is.of_run, good.few_runs)

          go : Dec (k ≡ a.index) → get_or (set done a.index (get_or done a.index 0 + 1)) k 0 ≡ p.done
          go (yes f) =
              let q : after ≡ p = some-injective after p (sym (set_same d.progress a.index after below) ∙ rw f at e) in
              rw f (get_or-set_same done a.index (get_or done a.index 0 + 1) 0 (omega (arith, few, size)) ∙ add-one _ ∙ ap suc (before.positions a.index a.progress is.of_progress) ∙ ap (λ (x : Progress). x.done) q)
          go (no n) = get_or-set_other done a.index k (get_or done a.index 0 + 1) 0 n ∙ before.positions k p (sym (set_other d.progress a.index after k n) ∙ e)

  -- the state after it, with arrays that are right for the new readings and for what is known then
  pub advanced-state : {s : CodeState} → IsState sc d s → (known : List Term) (s' : CodeState) → s'.done ≡ set s.done a.index (get_or s.done a.index 0 + 1)
      → length s.done ≡ 4 → Sets sc d a vs s'.names → Arrays sc.rows (length sc.runs) new_readings known s'.classes s'.marks → IsState sc (advanced sc d a vs known) s'
  unfolding advanced
  advanced-state before known s' done size sets arrays = record {
    placed = advanced-placed before.placed known done size sets;
    arrays = subst (λ (l : SetsOf). Arrays sc.rows (length sc.runs) (readings sc l) known s'.classes s'.marks) (sym sets-after) arrays;
  }
