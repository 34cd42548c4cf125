-- The next variable that a read sets, as it is found; and events that set nothing. Assumes nothing.
use Prim.Native.Nat.{ℕ, zero, suc, ◌+◌, ◌*◌, ◌<◌, ◌≤◌}
use Rattle.std.proofs.Common.{add-one, arith, sym, ap, ◌∙◌, subst, true≢false}
use Rattle.std.specs.Prelude.{◌≡◌, T, length, get_or}
use Rattle.std.proofs.Math.Path.{refl}
use Rattle.std.proofs.Math.Bool.{Bool, true, false}
use mathlib.Core.List.{List, [], ◌∷◌}
use Rattle.std.proofs.Math.Option.{some, some-injective, none-ne-some}
use Rattle.std.proofs.Math.ListN.{get_elem?}
use Rattle.semantics.specs.Term.{Atom}
use Rattle.semantics.specs.Table.{Row, variable_atom}
use Rattle.semantics.specs.Roles.{secrecy, EventKind, send, read, claim, event_kinds}
use Rattle.semantics.specs.Runs.{atom_of, atom_at}
use Rattle.semantics.specs.Scenario.{Scenario}
use Rattle.semantics.specs.State.{State, Active, new_variables}
use Rattle.semantics.specs.Moves.{to_set}
use Rattle.rows.specs.Rows.{rows_of, Shape}
use Rattle.rows.specs.laws.Decode.{variable-six}
use Rattle.cells.specs.Cells.{cell_of, absent}
use Rattle.cells.specs.laws.Cells.{row-there, row-decodes}
use Rattle.records.specs.Kinds.{byte_of}
use Rattle.runs.specs.declared.RunEvent.{RunEvent}
use Rattle.state.specs.declared.State.{State as CodeState}
use Rattle.state.specs.State.{NextMove}
use Rattle.variables.specs.Variables.{unset_from, NextUnset, is_next, no_next}
use Rattle.values.specs.laws.Values.{state-tells}

module _ {t : List ℕ} {runs k : ℕ} {e : RunEvent} {sc : Scenario} {d : State} {s : CodeState} {a : Active} (next : NextMove t runs k e sc d s a) where
  -- the next unset variable, as it was found
  found : (x from : ℕ) → NextUnset (rows_of t) s.names (k + 1) e.row from x → NextUnset sc.rows s.names (suc k) a.event.row from x
  found x from view =
      subst (λ (rs : List Row). NextUnset rs s.names (suc k) a.event.row from x) (sym next.rows)
      (subst (λ (u : ℕ). NextUnset (rows_of t) s.names u a.event.row from x) (add-one k)
      (subst (λ (p : ℕ). NextUnset (rows_of t) s.names (k + 1) p from x) next.is_event.row view))

  pub no_more : {n : ℕ} → n ≡ length (rows_of t) → (from x : ℕ) → NextUnset (rows_of t) s.names (k + 1) e.row from x → x ≡ n → unset_from sc.rows a.progress.values a.event.row from ≡ []
  no_more {n} count from x view end = go (found x from view)
    where
      go : NextUnset sc.rows s.names (suc k) a.event.row from x → unset_from sc.rows a.progress.values a.event.row from ≡ []
      go (is_next y l h i v u q) = absurd (omega (arith, ap length next.rows))
      go (no_next z q) = q a.progress.values (state-tells sc next.good d k a next.is_active next.is_state)

  -- what is known of it
  pub record Another (from x : ℕ) : Type 0 where
    pub y : Atom
    pub low : x < length sc.rows
    pub from_on : from ≤ x
    pub is_atom : atom_at sc.rows x ≡ some y
    pub is_variable : T (variable_atom y)
    pub unset : get_or s.names (cell_of x (suc k)) absent ≡ absent
    pub first : unset_from sc.rows a.progress.values a.event.row from ≡ y ∷ unset_from sc.rows a.progress.values a.event.row (suc x)

  pub another : {n : ℕ} → n ≡ length (rows_of t) → (from x : ℕ) → NextUnset (rows_of t) s.names (k + 1) e.row from x → (x ≡ n → ⊥) → Another from x
  another {n} count from x view more = go (found x from view)
    where
      go : NextUnset sc.rows s.names (suc k) a.event.row from x → Another from x
      go (is_next y l h i v u q) = record { y = y; low = l; from_on = h; is_atom = i; is_variable = v; unset = u; first = q a.progress.values (state-tells sc next.good d k a next.is_active next.is_state) }
      go (no_next z q) = absurd (more (omega (arith, ap length next.rows)))

  -- an event that is no read sets nothing
  pub nothing-set : (byte_of e.kind ≡ 1 → ⊥) → to_set sc a ≡ []
  unfolding new_variables
  nothing-set kind = go a.event.kind (byte_of e.kind) next.is_event.kind kind
    where
      go : (kind : EventKind) (b : ℕ) → get_elem? event_kinds b ≡ some kind → (b ≡ 1 → ⊥) → new_variables sc.rows a.progress.values kind a.event.row ≡ []
      go send b h n = refl
      go read zero h n = absurd (differ (some-injective send read h))
        where
          is-send : EventKind → Bool
          is-send send = true
          is-send read = false
          is-send (claim kind) = false

          differ : send ≡ read → ⊥
          differ q = true≢false (ap is-send q)
      go read (suc zero) h n = absurd (n refl)
      go read (suc (suc zero)) h n = absurd (differ (some-injective (claim secrecy) read h))
        where
          is-claim : EventKind → Bool
          is-claim send = false
          is-claim read = false
          is-claim (claim kind) = true

          differ : claim secrecy ≡ read → ⊥
          differ q = true≢false (ap is-claim q)
      go read (suc (suc (suc b))) h n = absurd (none-ne-some read h)
      go (claim kind) b h n = refl

-- a row that is found is a variable's
pub variable-found : (t : List ℕ) (n runs : ℕ) → Shape t n runs → (names : List ℕ) (u p from x : ℕ) → NextUnset (rows_of t) names u p from x → (x ≡ n → ⊥) → (x < n) × (from ≤ x) × (get_or t (3 * x) 0 ≡ 6) × ((y : Atom) × (atom_at (rows_of t) x ≡ some y))
variable-found t n runs shape names u p from x (is_next y l h i v w q) more =
    let low : x < n = omega (arith, shape.count) in
    (low, h, variable-six (row-decodes t n runs shape x low) y (sym (ap atom_of (row-there t n runs shape x low).1) ∙ i) v, (y, i))
variable-found t n runs shape names u p from x (no_next z q) more = absurd (more (z ∙ sym shape.count))
