-- WF as the code answers it: for whatever is known, if the marks are exact for it and each known term is that of a row; and refusal 7 in one role record. Assumes nothing.
use Rattle.std.specs.Prelude.{ℕ, ◌+◌, ◌*◌, ◌<◌, ◌≤◌, ◌≡◌, Bool, List, length, get_or, None, Some}
use Rattle.std.proofs.Math.Option.{Option, some}
use Rattle.std.proofs.Math.ListN.{get_elem?}
use Rattle.semantics.specs.Basic.{present_ones}
use Rattle.semantics.specs.Term.{Term}
use Rattle.semantics.specs.Table.{Row}
use Rattle.semantics.specs.Value.{value_of, as_atoms}
use Rattle.semantics.specs.Roles.{EventKind, event_kinds, knowledge_count, event_count, role_length, knowledge_in, events_in}
use Rattle.semantics.specs.WellFormed.{well_formed, learned, ill_formed_from}
use Rattle.rows.specs.Rows.{place_as}
use Rattle.rows.specs.Rows.{Place}
use Rattle.role_level.specs.RoleLevel.{RoleCelled, listed_terms, RoleExact, ListedBelow}
use Rattle.records.specs.Records.{part_at}

-- whether an event is well formed
abbrev pub WellFormedEvent : List Row → List Bool → ℕ → ℕ → ℕ → ℕ → Bool → Type 0
WellFormedEvent rows marks own kind peer x r =
    (known : List Term) (e : EventKind) (t : Term) → RoleCelled rows known → RoleExact rows known marks → get_elem? event_kinds kind ≡ some e
    → value_of as_atoms rows x ≡ some t → r ≡ well_formed own known e peer t

-- marks with what an event makes known
abbrev pub EventLearns : List Row → ℕ → ℕ → List Bool → List Bool → Type 0
EventLearns rows kind x marks more =
    (known : List Term) (e : EventKind) (t : Term) → RoleCelled rows known → RoleExact rows known marks → get_elem? event_kinds kind ≡ some e
    → value_of as_atoms rows x ≡ some t → RoleCelled rows (learned known e t) × RoleExact rows (learned known e t) more

-- four bytes are an event of a kind, with a row of the table
abbrev pub IsEvent : List Row → List ℕ → ℕ → Type 0
IsEvent rows s at = (e : EventKind) × (get_elem? event_kinds (get_or s at 0) ≡ some e) × (get_or s (at + 3) 0 < length rows)

-- bytes that begin with a role record that is not refused
pub record GoodRecord (rows : List Row) (s : List ℕ) : Type 0 where
  pub whole : role_length s ≤ length s
  pub knows : ListedBelow (length rows) (knowledge_in s)
  pub events : (j : ℕ) → j < event_count s → IsEvent rows s (2 + knowledge_count s + 4 * j)

-- the place that lies so far behind another
abbrev pub place_from : ℕ → Place → Place
place_from start (Some at) = Some (start + at)
place_from start None = None

-- how far that is, 0 where there is no place
abbrev pub offset_of : Place → ℕ
offset_of (Some at) = at
offset_of None = 0

-- the first event of a role record that is not well formed, wherever the record begins
abbrev pub ill_role : List Row → ℕ → List ℕ → ℕ → Option ℕ
ill_role rows own s start = ill_formed_from rows own (listed_terms rows (knowledge_in s)) (present_ones (events_in (part_at start s)))

-- its place, as an offset from the record's first byte
pub record IllRole (rows : List Row) (own : ℕ) (s : List ℕ) (p : Place) : Type 0 where
  pub place : (start : ℕ) → place_from start p ≡ place_as (ill_role rows own s start)
  pub near : offset_of p ≤ 1277
