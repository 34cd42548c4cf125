-- The conditions on role records and run records as the code answers them. Assumes nothing.
use Rattle.std.specs.Prelude.{ℕ, suc, ◌+◌, ◌≡◌, Bool, List, length, get_or, take, drop}
use Rattle.std.proofs.Math.Option.{Option, some}
use Rattle.std.proofs.Math.ListN.{get_elem?}
use Rattle.semantics.specs.Table.{Row}
use Rattle.semantics.specs.Value.{without_variables}
use Rattle.semantics.specs.Frame.{Part}
use Rattle.semantics.specs.Roles.{Event, event_kinds, event_from, role_length, role_records, good_role}
use Rattle.lists.specs.Lists.{Valued}

-- bytes as a part of the file that begins at a place
abbrev pub part_at : ℕ → List ℕ → Part
part_at at bytes = record { start = at; bytes = bytes }

-- the record at the front of some bytes, as long as they say
abbrev pub record_at : (List ℕ → ℕ) → ℕ → List ℕ → Part
record_at size at bytes = part_at at (take (size bytes) bytes)

-- the event whose four bytes begin at an index, as the event of a place
abbrev pub event_at : List ℕ → ℕ → ℕ → Option Event
event_at bytes i place = event_from (get_elem? event_kinds (get_or bytes i 0)) (get_or bytes (i + 2) 0) (get_or bytes (i + 3) 0) place

-- the agent bytes of a run record at the front
abbrev pub agents_in : ℕ → List ℕ → List ℕ
agents_in roles bytes = drop 1 (take (suc roles) bytes)

-- where the role record with a number begins in a block, wherever the block stands
abbrev pub RoleAt : List ℕ → ℕ → ℕ → Type 0
RoleAt b i at = (base : ℕ) → get_elem? (role_records (part_at base b)) i ≡ some (record_at role_length (base + at) (drop at b))

-- whether a role record at the front is within the rules, for rows of which it is known which have no variable beneath
abbrev pub TellsGood : ℕ → List Bool → ℕ → ℕ → List ℕ → Bool → Type 0
TellsGood n clear roles i bytes r =
    (rows : List Row) (start : ℕ) → n ≡ length rows → Valued rows without_variables clear → r ≡ good_role rows roles i (record_at role_length start bytes)
