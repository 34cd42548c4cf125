-- The marks after a move that is allowed, by its kind. Assumes nothing.
use Rattle.std.specs.Prelude.{ℕ, zero, suc, ◌+◌, ◌≡◌, refl, Bool, List, ◌∷◌, length}
use Rattle.std.proofs.Common.{add-one, sym, ◌∙◌, subst}
use Rattle.std.proofs.Math.Option.{Option, none, some, some-injective, none-ne-some}
use Rattle.std.proofs.Math.ListN.{get_elem?}
use Rattle.semantics.specs.Term.{Term}
use Rattle.semantics.specs.Roles.{ClaimKind, EventKind, send, read, claim, event_kinds}
use Rattle.semantics.specs.State.{State, Message}
use Rattle.semantics.specs.Moves.{advanced}
use Rattle.semantics.specs.Allowed.{Performs, reads, claims}
use Rattle.semantics.proofs.laws.Moves.{performed-exact}
use Rattle.rows.specs.Rows.{rows_of}
use Rattle.cells.specs.Cells.{Readings, cell_value}
use Rattle.knowledge.specs.Marks.{LearnsCell}
use Rattle.records.specs.Kinds.{byte_of}
use Rattle.runs.specs.declared.RunEvent.{RunEvent}
use Rattle.state.specs.State.{IsState, Arrays}
use Rattle.state.specs.laws.Moves.{new_readings, sent-known, unsent, advanced-state}
use Rattle.state.specs.laws.Ready.{kind-send, kind-read, kind-claim, advanced-done}
use Rattle.moves.specs.Moves.{AtEvent, state_after, code_after}

-- a read and a claim add nothing to what is known
read_keeps : {known after : List Term} {m : Option Message} → Performs known read m after → after ≡ known
read_keeps (reads d e f q) = q

claim-keeps : {known after : List Term} {kind : ClaimKind} {m : Option Message} → Performs known (claim kind) m after → after ≡ known
claim-keeps (claims q) = q

unsent-keeps : {known after : List Term} {m : Option Message} (b : ℕ) (kind : EventKind) → get_elem? event_kinds b ≡ some kind → (b ≡ 0 → ⊥) → Performs known kind m after → after ≡ known
unsent-keeps zero kind h z p = absurd (z refl)
unsent-keeps {known} {after} {m} (suc zero) kind h z p = read_keeps (subst (λ (x : EventKind). Performs known x m after) (kind-read kind h) p)
unsent-keeps {known} {after} {m} (suc (suc zero)) kind h z p = claim-keeps (subst (λ (x : EventKind). Performs known x m after) (kind-claim kind h) p)
unsent-keeps (suc (suc (suc b))) kind h z p = absurd (none-ne-some kind h)

module _ {t : List ℕ} {n runs k : ℕ} {e : RunEvent} {classes : List ℕ} {marks : List Bool} (m : AtEvent t n runs k e classes marks) where
  abbrev new : Readings
  new = new_readings m.sc m.next.good m.d (suc k) m.a m.next.is_active m.vs

  abbrev Known : List Term → List Bool → Type 0
  Known known more = Arrays m.sc.rows (length m.sc.runs) new known classes more

  -- the state after it, by what is known then
  known-state : (known : List Term) (more : List Bool) → Known known more → IsState m.sc (advanced m.sc m.d m.a m.vs known) (code_after m more)
  known-state known more arrays =
      advanced-state m.sc m.next.good m.d (suc k) m.a m.next.is_active m.vs m.next.is_state known (code_after m more) (advanced-done m.next) m.size m.ready.sets arrays

  module _ (d' : State) (allowed : state_after m ≡ some d') where
    -- the marks stay unless it is a send
    pub marks-kept : (byte_of e.kind ≡ 0 → ⊥) → IsState m.sc d' (code_after m marks)
    marks-kept z =
        let w = (performed-exact m.sc m.d m.a m.vs d').0 allowed in
        let known = unsent-keeps (byte_of e.kind) m.a.event.kind m.next.is_event.kind z w.1 in
        rw (w.2, known) (known-state m.d.known marks m.ready.arrays)

    -- after a send its term, its receiver and its sender are known too
    module _ (kind : byte_of e.kind ≡ 0) (term receiver sender : List Bool) (learns_term : LearnsCell (rows_of t) runs classes e.row (k + 1) marks term)
        (learns_receiver : LearnsCell (rows_of t) runs classes e.peer 0 term receiver) (learns_sender : LearnsCell (rows_of t) runs classes e.own 0 receiver sender) where
      is-send : m.a.event.kind ≡ send
      is-send = kind-send _ (rw kind at m.next.is_event.kind)

      learns : (r u : ℕ) (before after : List Bool) → LearnsCell (rows_of t) runs classes r u before after → LearnsCell m.sc.rows (length m.sc.runs) classes r u before after
      learns r u before after l = rw (m.next.rows, ← m.next.count) l

      pub marks-sent : IsState m.sc d' (code_after m sender)
      marks-sent = go (cell_value new m.sc.rows e.row (suc k)) refl
        where
          go : (o : Option Term) → cell_value new m.sc.rows e.row (suc k) ≡ o → IsState m.sc d' (code_after m sender)
          go none h = absurd (none-ne-some d' (sym (unsent m.sc m.next.good m.d (suc k) m.a m.next.is_active m.vs m.next.is_event is-send h) ∙ allowed))
          go (some v) h =
              let arrays = m.ready.arrays in
              let w = sent-known m.sc m.next.good m.d (suc k) m.a m.next.is_active m.vs m.next.is_event is-send h in
              let one = learns e.row (suc k) marks term (rw add-one at learns_term) new m.d.known v arrays.classed arrays.celled arrays.exact h in
              let two = learns e.peer 0 term receiver learns_receiver new (v ∷ m.d.known) w.1 arrays.classed one.0 one.1 w.4 in
              let three = learns e.own 0 receiver sender learns_sender new (w.1 ∷ v ∷ m.d.known) w.0 arrays.classed two.0 two.1 w.3 in
              let state = known-state (w.0 ∷ w.1 ∷ v ∷ m.d.known) sender (record { classed = arrays.classed; exact = three.1; celled = three.0 }) in
              subst (λ (x : State). IsState m.sc x (code_after m sender)) (some-injective _ d' (sym w.2 ∙ allowed)) state
