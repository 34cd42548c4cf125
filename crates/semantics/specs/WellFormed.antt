-- Well-formed events: 000's Readable and WF, and refusal 7 (document 01, 'Roles and moves'). Assumes nothing.
use Rattle.std.specs.Prelude.{ℕ, suc, Bool, true, false, ◌&&◌, ◌||◌, List, [], ◌∷◌, map}
use Rattle.std.proofs.Math.Option.{Option, none, some}
use Rattle.semantics.specs.Basic.{present_ones, first_of}
use Rattle.semantics.specs.Term.{Atom, trusted, untrusted, global, intruder, role, variable, local, Term, atom, pk, sk, shared, pair, encrypted, inverse}
use Rattle.semantics.specs.Inference.{derivable}
use Rattle.semantics.specs.Table.{Row}
use Rattle.semantics.specs.Value.{value_of, as_atoms}
use Rattle.semantics.specs.Roles.{secrecy, EventKind, send, read, claim, Event, Role}

-- "A variable can always occur in a read pattern. Any other term can only occur .. if it can be inferred" (000)
unfoldable pub readable_atom : List Term → Atom → Bool
readable_atom known (trusted n) = derivable known (atom (trusted n))
readable_atom known (untrusted n) = derivable known (atom (untrusted n))
readable_atom known (global n) = derivable known (atom (global n))
readable_atom known (intruder n) = derivable known (atom (intruder n))
readable_atom known (role i) = derivable known (atom (role i))
readable_atom known (variable n t) = true
readable_atom known (local n u) = derivable known (atom (local n u))

-- 000's Readable: in a pair each part is read with the other part added to the knowledge; an encryption is known whole,
-- or the inverse of its key is and its content is readable.
unfoldable pub readable : List Term → Term → Bool
readable known (atom a) = readable_atom known a
readable known (pk t) = derivable known (pk t)
readable known (sk t) = derivable known (sk t)
readable known (shared t u) = derivable known (shared t u)
readable known (pair t u) = readable (u ∷ known) t && readable (t ∷ known) u
readable known (encrypted t k) = derivable known (encrypted t k) || (derivable known (inverse k) && readable known t)

-- 000's WF, for one event of the role with a number: "event sender and receiver names count as there".
unfoldable pub well_formed : ℕ → List Term → EventKind → ℕ → Term → Bool
well_formed own known send peer t = derivable known (atom (role own)) && derivable known (atom (role peer)) && derivable known t
well_formed own known read peer t = derivable known (atom (role own)) && derivable known (atom (role peer)) && readable known t
well_formed own known (claim secrecy) peer t = derivable known (atom (role own)) && derivable known t

-- "A read adds its whole pattern to the role's knowledge and nothing else."
abbrev pub learned : List Term → EventKind → Term → List Term
learned known send t = known
learned known read t = t ∷ known
learned known (claim kind) t = known

-- the term of an event, at role level
unfoldable pub event_term : List Row → Event → Option Term
event_term rows e = value_of as_atoms rows e.row

-- the initial knowledge of a role, as terms
unfoldable pub role_knowledge : List Row → Role → List Term
role_knowledge rows r = present_ones (map (value_of as_atoms rows) r.knowledge)

-- The place of the first event of a role that is not well formed.
unfoldable pub ill_formed_from : List Row → ℕ → List Term → List Event → Option ℕ
ill_formed_from rows own known [] = none
ill_formed_from rows own known (e ∷ es) =
    elim (event_term rows e) [
      | none ↦ some e.place
      | some t ↦ elim (well_formed own known e.kind e.peer t) [
        | true ↦ ill_formed_from rows own (learned known e.kind t) es
        | false ↦ some e.place
      ]
    ]

-- "7: the first event in role order that is not well formed"
unfoldable pub ill_formed : List Row → ℕ → List Role → Option ℕ
ill_formed rows own [] = none
ill_formed rows own (r ∷ rs) = first_of (ill_formed_from rows own (role_knowledge rows r) r.events ∷ ill_formed rows (suc own) rs ∷ [])
