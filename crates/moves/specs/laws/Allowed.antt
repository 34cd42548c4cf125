-- Whether a move is allowed, by its kind, and by classes and marks. Assumes nothing.
use Rattle.std.specs.Prelude.{ℕ, suc, ◌+◌, ◌<◌, ◌≡◌, refl, Bool, true, false, not, List, T, eqb, get_or}
use Rattle.std.proofs.Common.{zero-add, arith, sym, ap, ◌∙◌, subst, true≢false, eqb-true}
use Rattle.std.proofs.Math.Option.{Option, none, some}
use Rattle.std.proofs.lemmas.Bool.{eqb-false}
use Rattle.semantics.specs.Basic.{present}
use Rattle.semantics.specs.Roles.{send, read}
use Rattle.semantics.specs.State.{State}
use Rattle.semantics.proofs.laws.Test.{present-some, absent_none}
use Rattle.cells.specs.Cells.{cell_of, cell_count, absent}
use Rattle.cells.specs.laws.Cells.{get_d_any}
use Rattle.classes.specs.laws.Classes.{classes-none, classes-there}
use Rattle.knowledge.specs.Marks.{Marked}
use Rattle.records.specs.Kinds.{byte_of}
use Rattle.runs.specs.declared.RunEvent.{RunEvent}
use Rattle.state.specs.laws.Moves.{sent-known, unsent, claimed, read-allowed, read-refused}
use Rattle.state.specs.laws.Ready.{kind-send, kind-read, kind-claim, own-within, peer-within, row-within}
use Rattle.moves.specs.Moves.{AtEvent, state_after}

-- what an answer says of the state after the move
pub told-some : {o : Option State} {b : Bool} → b ≡ present o → b ≡ true → (d' : State) × (o ≡ some d')
told-some {o} told it = present-some o (subst T (sym it ∙ told) tt)

pub told_none : {o : Option State} {b : Bool} → b ≡ present o → b ≡ false → o ≡ none
told_none {o} told it = absent_none o (subst (λ (c : Bool). T (not c)) (sym it ∙ told) tt)

module _ {t : List ℕ} {n runs k : ℕ} {e : RunEvent} {classes : List ℕ} {marks : List Bool} (m : AtEvent t n runs k e classes marks) where
  is-refused : state_after m ≡ none → false ≡ present (state_after m)
  is-refused h = sym (ap present h)

  is-allowed : {d' : State} → state_after m ≡ some d' → true ≡ present (state_after m)
  is-allowed h = sym (ap present h)

  -- a claim always is
  pub claim-told : byte_of e.kind ≡ 2 → true ≡ present (state_after m)
  claim-told kind = is-allowed (claimed m.sc m.next.good m.d (suc k) m.a m.next.is_active m.vs (kind-claim _ (rw kind at m.next.is_event.kind)))

  -- where the cell of its term stands
  module _ {c : ℕ} (place : c ≡ cell_of e.row (k + 1)) where
    at-cell : c ≡ cell_of e.row (suc k)
    at-cell = omega arith

    -- a send is allowed exactly if its term has a class
    module _ (inside : c < cell_count) (kind : byte_of e.kind ≡ 0) where
      is-send : m.a.event.kind ≡ send
      is-send = kind-send _ (rw kind at m.next.is_event.kind)

      class_of : get_or classes c 0 ≡ get_or classes (cell_of e.row (suc k)) absent
      class_of = get_d_any classes c 0 absent (omega (arith, inside, m.ready.arrays.classed.size)) ∙ ap (λ (x : ℕ). get_or classes x absent) at-cell

      pub send-told : not (eqb (get_or classes c 0) absent) ≡ present (state_after m)
      send-told = go (eqb (get_or classes c 0) absent) refl
        where
          go : (b : Bool) → eqb (get_or classes c 0) absent ≡ b → not b ≡ present (state_after m)
          go true h =
              let v = classes-none m.next.good.table m.next.good.few_runs m.ready.arrays.classed (row-within m.next m.shape m.due) (omega (arith, class_of, eqb-true (get_or classes c 0) absent h)) in
              is-refused (unsent m.sc m.next.good m.d (suc k) m.a m.next.is_active m.vs m.next.is_event is-send v)
          go false h =
              let v = classes-there m.next.good.table m.next.good.few_runs m.ready.arrays.classed (row-within m.next m.shape m.due) (λ z. eqb-false _ _ h (class_of ∙ z)) in
              is-allowed (sent-known m.sc m.next.good m.d (suc k) m.a m.next.is_active m.vs m.next.is_event is-send v.1).2

  -- a read is allowed exactly if three cells are marked: by the marks that are looked at
  module _ (kind : byte_of e.kind ≡ 1) where
    is-read : m.a.event.kind ≡ read
    is-read = kind-read _ (rw kind at m.next.is_event.kind)

    unmarked : (Marked marks e.own 0 → Marked marks e.peer 0 → Marked marks e.row (suc k) → ⊥) → false ≡ present (state_after m)
    unmarked no-marks =
        is-refused (read-refused m.sc m.next.good m.d (suc k) m.a m.next.is_active m.vs m.next.is_event marks m.ready.arrays.exact is-read (own-within m.next m.shape m.due) (peer-within m.next m.shape m.due) (row-within m.next m.shape m.due) no-marks)

    pub own-unmarked : get_or marks e.own false ≡ false → false ≡ present (state_after m)
    own-unmarked h = unmarked (λ o p r. true≢false (sym (rw zero-add at o) ∙ h))

    pub peer-unmarked : get_or marks e.peer false ≡ false → false ≡ present (state_after m)
    peer-unmarked h = unmarked (λ o p r. true≢false (sym (rw zero-add at p) ∙ h))

    pub read_told : get_or marks e.own false ≡ true → get_or marks e.peer false ≡ true → {c : ℕ} → c ≡ cell_of e.row (k + 1) → get_or marks c false ≡ present (state_after m)
    read_told own peer {c} place = go (get_or marks c false) refl
      where
        go : (b : Bool) → get_or marks c false ≡ b → b ≡ present (state_after m)
        go true h =
            is-allowed (read-allowed m.sc m.next.good m.d (suc k) m.a m.next.is_active m.vs m.next.is_event marks m.ready.arrays.exact is-read (own-within m.next m.shape m.due) (peer-within m.next m.shape m.due) (row-within m.next m.shape m.due)
            (rw zero-add own) (rw zero-add peer) (rw (← at-cell place) h))
        go false h = unmarked (λ o p r. true≢false (sym r ∙ ap (λ (x : ℕ). get_or marks x false) (sym (at-cell place)) ∙ h))
