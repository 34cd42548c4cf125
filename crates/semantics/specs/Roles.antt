-- Role records and refusal 6 (document 01, 'Roles and moves', 'The scenario file', 'Operations and what stops them'). Assumes nothing.
use Rattle.std.specs.Prelude.{ℕ, ◌+◌, ◌*◌, min, Bool, true, false, ◌&&◌, List, [], ◌∷◌, map, ltb, leb, eqb, length, take, drop, get_or}
use Rattle.std.proofs.Math.Option.{Option, none, some}
use Rattle.std.proofs.Math.ListN.{get_elem?}
use Rattle.semantics.specs.Basic.{present, every, present_ones, rising}
use Rattle.semantics.specs.Limits.{most_roles, most_events}
use Rattle.semantics.specs.Term.{trusted, untrusted, global, intruder, role, variable, local}
use Rattle.semantics.specs.Table.{Row, atomic, pk_of, sk_of, shared_of, pair_of, encrypted_of}
use Rattle.semantics.specs.Value.{value_of, without_variables}
use Rattle.semantics.specs.Frame.{Part, records, complete, first_bad}

-- "events: send, read, secrecy claim"
pub data ClaimKind : Type 0 where
  secrecy : ClaimKind

-- "kind 0 send, 1 read, 2 claim"
pub data EventKind : Type 0 where
  send read : EventKind
  claim : ClaimKind → EventKind

abbrev pub event_kinds : List EventKind
event_kinds = send ∷ read ∷ claim secrecy ∷ []

-- the kind of claim that an event is, if it is one
abbrev pub claim_kind : EventKind → Option ClaimKind
claim_kind send = none
claim_kind read = none
claim_kind (claim kind) = some kind

-- "events of 4 bytes (kind ..; label; peer role; term row)". The label names the event and decides nothing.
pub record Event : Type 0 where
  pub kind : EventKind
  pub peer : ℕ
  pub row : ℕ
  -- the offset of its first byte in the file
  pub place : ℕ

-- "A role has initial knowledge (rows) and 0 to 8 events"
pub record Role : Type 0 where
  pub knowledge : List ℕ
  pub events : List Event

abbrev pub event_from : Option EventKind → ℕ → ℕ → ℕ → Option Event
event_from none peer row at = none
event_from (some kind) peer row at = some (record { kind = kind; peer = peer; row = row; place = at })

-- The events in some bytes; none stands for an event of no kind.
unfoldable pub events_from : ℕ → List ℕ → List (Option Event)
events_from at [] = []
events_from at (kind ∷ []) = []
events_from at (kind ∷ label ∷ []) = []
events_from at (kind ∷ label ∷ peer ∷ []) = []
events_from at (kind ∷ label ∷ peer ∷ row ∷ bytes) =
    event_from (get_elem? event_kinds kind) peer row at ∷ events_from (at + 4) bytes

-- "count of knowledge rows, those rows .., count of events, events"
abbrev pub knowledge_count : List ℕ → ℕ
knowledge_count bytes = get_or bytes 0 0

abbrev pub event_count : List ℕ → ℕ
event_count bytes = get_or bytes (1 + knowledge_count bytes) 0

-- the length of a role record by its own counts
abbrev pub role_length : List ℕ → ℕ
role_length bytes = 2 + knowledge_count bytes + 4 * event_count bytes

unfoldable pub knowledge_in : List ℕ → List ℕ
knowledge_in bytes = take (knowledge_count bytes) (drop 1 bytes)

unfoldable pub events_in : Part → List (Option Event)
events_in part =
    events_from (part.start + (2 + knowledge_count part.bytes))
    (take (4 * event_count part.bytes) (drop (2 + knowledge_count part.bytes) part.bytes))

unfoldable pub role_in : Part → Role
role_in part = record { knowledge = knowledge_in part.bytes; events = present_ones (events_in part) }

-- The role records: "found by their counts".
unfoldable pub role_records : Part → List Part
role_records part = records role_length part

-- "A role is present if its record is one of the first four and begins in the block, complete or not."
unfoldable pub roles_present : List Part → ℕ
roles_present parts = min most_roles (length parts)

-- "with peer .. present"; "A claim's peer byte is 0."
abbrev pub peer_fits : ℕ → EventKind → ℕ → Bool
peer_fits roles send peer = ltb peer roles
peer_fits roles read peer = ltb peer roles
peer_fits roles (claim secrecy) peer = eqb peer 0

abbrev pub event_fits : List Row → ℕ → Option Event → Bool
event_fits rows roles none = false
event_fits rows roles (some e) = peer_fits roles e.kind e.peer && ltb e.row (length rows)

-- "those rows rising", "rows present and no variable beneath"
unfoldable pub knowledge_fits : List Row → List ℕ → Bool
knowledge_fits rows knowledge = rising knowledge && every (λ r. present (value_of without_variables rows r)) knowledge

-- "6, at the first record of which it holds: a role record incomplete, a fifth, with more than 8 events, or against the previous section": what a record with a number must be
unfoldable pub good_role : List Row → ℕ → ℕ → Part → Bool
good_role rows roles i part =
    complete role_length part
    && ltb i most_roles
    && leb (event_count part.bytes) most_events
    && knowledge_fits rows (knowledge_in part.bytes)
    && every (event_fits rows roles) (events_in part)

unfoldable pub bad_role : List Row → List Part → Option ℕ
bad_role rows parts = first_bad (good_role rows (roles_present parts)) 0 parts

-- "after all records, a row naming an absent role, place that row"
abbrev pub names_present : ℕ → Row → Bool
names_present roles (atomic (trusted n)) = true
names_present roles (atomic (untrusted n)) = true
names_present roles (atomic (global n)) = true
names_present roles (atomic (intruder n)) = true
names_present roles (atomic (role i)) = ltb i roles
names_present roles (atomic (variable n t)) = true
names_present roles (atomic (local n u)) = true
names_present roles (pk_of a) = true
names_present roles (sk_of a) = true
names_present roles (shared_of a b) = true
names_present roles (pair_of l r) = true
names_present roles (encrypted_of l r) = true

unfoldable pub absent_role_from : ℕ → ℕ → List Row → Option ℕ
absent_role_from roles at [] = none
absent_role_from roles at (row ∷ rows) =
    elim (names_present roles row) [
      | true ↦ absent_role_from roles (at + 3) rows
      | false ↦ some at
    ]

unfoldable pub roles_from : List Part → List Role
roles_from parts = map role_in parts
