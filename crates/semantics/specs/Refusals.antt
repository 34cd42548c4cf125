-- Demand 1 in plain statements: which condition refuses, in which order, with which number and place, for each operation (document 01, 'Operations and what stops them'). Assumes nothing.
use Rattle.std.specs.Prelude.{ℕ, suc, ◌+◌, ◌≤◌, ◌<◌, ◌≡◌, length}
use mathlib.Core.List.{List, [], ◌∷◌, ◌++◌, Memᴰ}
use Rattle.std.proofs.Math.Option.{Option, none, some}
use Rattle.std.proofs.Math.ListN.{get_elem?}
use Rattle.semantics.specs.Basic.{keep, Ordered}
use Rattle.semantics.specs.Answer.{Answer, accepted}
use Rattle.semantics.specs.Term.{agent_type, Atom, trusted, untrusted, role, variable, Term}
use Rattle.semantics.specs.Table.{Row, atomic, pk_of, sk_of, shared_of, pair_of, encrypted_of, variable_row, rows_from}
use Rattle.semantics.specs.Value.{without_variables, without_run}
use Rattle.semantics.specs.Frame.{Part, unversioned, too_long, misframed}
use Rattle.semantics.specs.Roles.{secrecy, EventKind, send, read, claim, Event, Role, event_count, knowledge_in, events_in, role_length, roles_from, bad_role, absent_role_from}
use Rattle.semantics.specs.WellFormed.{learned, event_term, role_knowledge, ill_formed}
use Rattle.semantics.specs.Runs.{run_in, bad_run, bad_knowledge_from}
use Rattle.semantics.specs.Scenario.{Scenario, term_part, knowledge_part, role_parts, role_count, run_parts, opened}
use Rattle.semantics.specs.State.{State}
use Rattle.semantics.specs.Moves.{Move}
use Rattle.semantics.specs.Verdict.{move_bytes, trace_bytes}
use Rattle.semantics.specs.Allowed.{WellFormed, Step, AllowedTrace}
use Rattle.semantics.specs.Guarantee.{HasValue}
use Rattle.semantics.specs.Encoding.{RowBytes}

-- "Agent-like rows have kind 1, 2 or 5, or are variables of type 0."
pub data AgentLike : Row → Type 0 where
  like_trusted : {n : ℕ} → AgentLike (atomic (trusted n))
  like_untrusted : {n : ℕ} → AgentLike (atomic (untrusted n))
  like_role : {i : ℕ} → AgentLike (atomic (role i))
  like_variable : {n : ℕ} → AgentLike (atomic (variable n agent_type))

-- a pair
pub data IsPair : Row → Type 0 where
  is_pair : {l r : ℕ} → IsPair (pair_of l r)

-- a row below, of some kind
abbrev pub Below : List Row → (Row → Type 0) → ℕ → Type 0
Below below P r = (row : Row) × (get_elem? below r ≡ some row) × P row

-- "Rows referred to are lower than the row itself", and of the kinds that the table of kinds asks for
pub data Fits (below : List Row) : Row → Type 0 where
  fits_atom : {a : Atom} → Fits below (atomic a)
  fits_pk : {a : ℕ} → Below below AgentLike a → Fits below (pk_of a)
  fits_sk : {a : ℕ} → Below below AgentLike a → Fits below (sk_of a)
  fits_shared : {a b : ℕ} → Below below AgentLike a → Below below AgentLike b → Fits below (shared_of a b)
  -- "a row that is no pair, any row"
  fits_pair : {l r : ℕ} → Below below (λ row. ¬ IsPair row) l → r < length below → Fits below (pair_of l r)
  fits_encrypted : {c k : ℕ} → c < length below → k < length below → Fits below (encrypted_of c k)

-- A row that may follow those below it: at most 96 rows, at most 8 variables, and the row fits.
pub record Admitted (below : List Row) (row : Row) : Type 0 where
  pub few : length below < 96
  pub few_variables : length (keep variable_row (below ++ row ∷ [])) ≤ 8
  pub fitting : Fits below row

-- "each row: 4, incomplete, a 97th row, a ninth variable, or against the table above; 5, equal to an earlier row": the first row of some bytes to which it applies, after the rows below, from a place on
pub data RowRefused : List Row → ℕ → List ℕ → ℕ → ℕ → Type 0 where
  incomplete : {below : List Row} {at n p : ℕ} {bytes : List ℕ} → 0 < length bytes → length bytes < 3 → n ≡ 4 → p ≡ at → RowRefused below at bytes n p
  no_row :
      {below : List Row} {at n p kind left right : ℕ} {bytes : List ℕ} → ((row : Row) → ¬ RowBytes kind left right row) → n ≡ 4 → p ≡ at
      → RowRefused below at (kind ∷ left ∷ right ∷ bytes) n p
  unfit :
      {below : List Row} {at n p kind left right : ℕ} {bytes : List ℕ} {row : Row} → RowBytes kind left right row → ¬ Admitted below row → n ≡ 4 → p ≡ at
      → RowRefused below at (kind ∷ left ∷ right ∷ bytes) n p
  repeats :
      {below : List Row} {at n p kind left right : ℕ} {bytes : List ℕ} {row : Row} → RowBytes kind left right row → Admitted below row → Memᴰ row below
      → n ≡ 5 → p ≡ at → RowRefused below at (kind ∷ left ∷ right ∷ bytes) n p
  later_row :
      {below : List Row} {at n p kind left right : ℕ} {bytes : List ℕ} {row : Row} → RowBytes kind left right row → Admitted below row → ¬ Memᴰ row below
      → RowRefused (below ++ row ∷ []) (at + 3) bytes n p → RowRefused below at (kind ∷ left ∷ right ∷ bytes) n p

-- The first record, counted from a number on, that is not good: its first byte is the place.
pub data FirstBad (Good : ℕ → Part → Type 0) : ℕ → List Part → ℕ → Type 0 where
  bad_here : {i at : ℕ} {part : Part} {parts : List Part} → ¬ Good i part → at ≡ part.start → FirstBad Good i (part ∷ parts) at
  bad_later : {i at : ℕ} {part : Part} {parts : List Part} → Good i part → FirstBad Good (suc i) parts at → FirstBad Good i (part ∷ parts) at

-- "peer .. present", "A claim's peer byte is 0."
pub data PeerFits (roles : ℕ) : EventKind → ℕ → Type 0 where
  sends_to : {peer : ℕ} → peer < roles → PeerFits roles send peer
  reads_from : {peer : ℕ} → peer < roles → PeerFits roles read peer
  claims : {peer : ℕ} → peer ≡ 0 → PeerFits roles (claim secrecy) peer

-- "6, at the first record of which it holds: a role record incomplete, a fifth, with more than 8 events, or against the previous section, with peer and rows present and no variable beneath its knowledge": a record of which it does not hold
pub record GoodRoleRecord (rows : List Row) (roles i : ℕ) (part : Part) : Type 0 where
  pub whole : role_length part.bytes ≤ length part.bytes
  pub among_four : i < 4
  pub few_events : event_count part.bytes ≤ 8
  pub rises : Ordered ◌<◌ (knowledge_in part.bytes)
  pub knows : (x : ℕ) → Memᴰ x (knowledge_in part.bytes) → HasValue without_variables rows x
  pub events : (o : Option Event) → Memᴰ o (events_in part) → (e : Event) × (o ≡ some e) × PeerFits roles e.kind e.peer × (e.row < length rows)

-- "after all records, a row naming an absent role, place that row": the first of some rows from a place on
pub data FirstAbsentRole (roles : ℕ) : ℕ → List Row → ℕ → Type 0 where
  absent_here : {at p i : ℕ} {rows : List Row} → roles ≤ i → p ≡ at → FirstAbsentRole roles at (atomic (role i) ∷ rows) p
  absent_later :
      {at p : ℕ} {row : Row} {rows : List Row} → ((i : ℕ) → row ≡ atomic (role i) → i < roles) → FirstAbsentRole roles (at + 3) rows p
      → FirstAbsentRole roles at (row ∷ rows) p

-- "7: the first event in role order that is not well formed": of the events of the role with a number, which knows these terms
pub data FirstIllFormed (rows : List Row) (own : ℕ) : List Term → List Event → ℕ → Type 0 where
  ill_here :
      {known : List Term} {e : Event} {es : List Event} {at : ℕ} → ((t : Term) → event_term rows e ≡ some t → ¬ WellFormed own known e.kind e.peer t)
      → at ≡ e.place → FirstIllFormed rows own known (e ∷ es) at
  ill_later :
      {known : List Term} {e : Event} {es : List Event} {at : ℕ} {t : Term} → event_term rows e ≡ some t → WellFormed own known e.kind e.peer t
      → FirstIllFormed rows own (learned known e.kind t) es at → FirstIllFormed rows own known (e ∷ es) at

-- the events of a role, all well formed
pub data AllWellFormed (rows : List Row) (own : ℕ) : List Term → List Event → Type 0 where
  well_none : {known : List Term} → AllWellFormed rows own known []
  well_more :
      {known : List Term} {e : Event} {es : List Event} {t : Term} → event_term rows e ≡ some t → WellFormed own known e.kind e.peer t
      → AllWellFormed rows own (learned known e.kind t) es → AllWellFormed rows own known (e ∷ es)

-- and of the roles from a number on
pub data FirstIllFormedRole (rows : List Row) : ℕ → List Role → ℕ → Type 0 where
  in_role : {own at : ℕ} {r : Role} {rs : List Role} → FirstIllFormed rows own (role_knowledge rows r) r.events at → FirstIllFormedRole rows own (r ∷ rs) at
  in_later_role :
      {own at : ℕ} {r : Role} {rs : List Role} → AllWellFormed rows own (role_knowledge rows r) r.events → FirstIllFormedRole rows (suc own) rs at
      → FirstIllFormedRole rows own (r ∷ rs) at

-- a row that is an agent
pub data AgentRow (rows : List Row) (r : ℕ) : Type 0 where
  is_trusted_row : {n : ℕ} → get_elem? rows r ≡ some (atomic (trusted n)) → AgentRow rows r
  is_untrusted_row : {n : ℕ} → get_elem? rows r ≡ some (atomic (untrusted n)) → AgentRow rows r

-- "8: a run record incomplete, a fifth, with an absent role or a row that is no agent": a record of which it does not hold
pub record GoodRunRecord (rows : List Row) (roles i : ℕ) (part : Part) : Type 0 where
  pub whole : suc roles ≤ length part.bytes
  pub among_four : i < 4
  pub role_present : (run_in part).role < roles
  pub are_agents : (r : ℕ) → Memᴰ r (run_in part).agents → AgentRow rows r

-- "9: a knowledge byte against its rule": "rows rising, with no role name, variable or local constant beneath"; the first from a place on, each at least a number
pub data FirstBadKnowledge (rows : List Row) : ℕ → ℕ → List ℕ → ℕ → Type 0 where
  bad_byte : {at least p r : ℕ} {bytes : List ℕ} → ¬ ((least ≤ r) × HasValue without_run rows r) → p ≡ at → FirstBadKnowledge rows at least (r ∷ bytes) p
  later_byte :
      {at least p r : ℕ} {bytes : List ℕ} → least ≤ r → HasValue without_run rows r → FirstBadKnowledge rows (suc at) (suc r) bytes p
      → FirstBadKnowledge rows at least (r ∷ bytes) p

-- The first condition of a sequence that holds: its number, and the place where it holds.
pub data FirstHolds : List (ℕ × Option ℕ) → ℕ → ℕ → Type 0 where
  holds : {m n at : ℕ} {o : Option ℕ} {cs : List (ℕ × Option ℕ)} → o ≡ some at → n ≡ m → FirstHolds ((m, o) ∷ cs) n at
  passes : {m n at : ℕ} {o : Option ℕ} {cs : List (ℕ × Option ℕ)} → o ≡ none → FirstHolds cs n at → FirstHolds ((m, o) ∷ cs) n at

-- no condition of a sequence holds
pub data NoneHolds : List (ℕ × Option ℕ) → Type 0 where
  no_conditions : NoneHolds []
  passes_all : {m : ℕ} {o : Option ℕ} {cs : List (ℕ × Option ℕ)} → o ≡ none → NoneHolds cs → NoneHolds ((m, o) ∷ cs)

-- "Open, in this order": the conditions before the rows are judged, each with its number
abbrev pub frame_conditions : List ℕ → List (ℕ × Option ℕ)
frame_conditions file = (1, unversioned file) ∷ (2, too_long file) ∷ (3, misframed file) ∷ []

-- the rows of a file, or the first that is refused
abbrev pub table_of : List ℕ → Answer (List Row)
table_of file = rows_from (term_part file).start [] (term_part file).bytes

-- and those after them
abbrev pub record_conditions : List ℕ → List Row → List (ℕ × Option ℕ)
record_conditions file rows =
    (6, bad_role rows (role_parts file))
    ∷ (6, absent_role_from (role_count file) (term_part file).start rows)
    ∷ (7, ill_formed rows 0 (roles_from (role_parts file)))
    ∷ (8, bad_run rows (role_count file) (run_parts file))
    ∷ (9, bad_knowledge_from rows (knowledge_part file).start 0 (knowledge_part file).bytes)
    ∷ []

-- Open refuses a file with a number and a place.
pub data OpenRefuses (file : List ℕ) (n at : ℕ) : Type 0 where
  by_framing : FirstHolds (frame_conditions file) n at → OpenRefuses file n at
  by_row : NoneHolds (frame_conditions file) → RowRefused [] (term_part file).start (term_part file).bytes n at → OpenRefuses file n at
  by_record : {rows : List Row} → NoneHolds (frame_conditions file) → table_of file ≡ accepted rows → FirstHolds (record_conditions file rows) n at → OpenRefuses file n at

-- "Search refuses as Open, then 10 if the trace buffer is shorter than 128 bytes, place its length."
pub data SearchRefuses (file buffer : List ℕ) (n at : ℕ) : Type 0 where
  open_refuses : OpenRefuses file n at → SearchRefuses file buffer n at
  too_short : {sc : Scenario} → opened file ≡ accepted sc → length buffer < 128 → n ≡ 10 → at ≡ length buffer → SearchRefuses file buffer n at

-- "11, a listed row absent, place in the list, or the target absent, place the list's length": with so many rows, from a place in the list on
pub data FirstAbsent (rows target : ℕ) : ℕ → List ℕ → ℕ → Type 0 where
  target_absent : {at p : ℕ} → rows ≤ target → p ≡ at → FirstAbsent rows target at [] p
  listed_absent : {at p r : ℕ} {list : List ℕ} → rows ≤ r → p ≡ at → FirstAbsent rows target at (r ∷ list) p
  later_absent : {at p r : ℕ} {list : List ℕ} → r < rows → FirstAbsent rows target (suc at) list p → FirstAbsent rows target at (r ∷ list) p

-- "4 and 5 as Open, with places in the table; then 11"
pub data DeriveRefuses (table list : List ℕ) (target n at : ℕ) : Type 0 where
  row_refused : RowRefused [] 0 table n at → DeriveRefuses table list target n at
  absent : {rows : List Row} → rows_from 0 [] table ≡ accepted rows → FirstAbsent (length rows) target 0 list at → n ≡ 11 → DeriveRefuses table list target n at

-- no allowed move is written at the front of some bytes
abbrev pub NoStep : Scenario → State → List ℕ → Type 0
NoStep sc s bytes = (m : Move) (s' : State) (rest : List ℕ) → Step sc s m s' → ¬ (bytes ≡ move_bytes m ++ rest)

-- "Replay refuses as Open, then 12 exactly if a step is cut short or isn't allowed after those before it, place that step in the trace."
pub data ReplayRefuses (file trace : List ℕ) (n at : ℕ) : Type 0 where
  file_refused : OpenRefuses file n at → ReplayRefuses file trace n at
  step_refused :
      {sc : Scenario} {ms : List Move} {s : State} {rest : List ℕ} → opened file ≡ accepted sc → AllowedTrace sc ms s → trace ≡ trace_bytes ms ++ rest
      → 0 < length rest → NoStep sc s rest → n ≡ 12 → at ≡ length (trace_bytes ms) → ReplayRefuses file trace n at
