-- The theorems about the definitions, demand by demand: each statement, and the name of its proof in laws/. Assumes nothing.
use Rattle.std.specs.Prelude.{ℕ, suc, ◌<◌, ◌≤◌, ◌≡◌, refl, ◌↔◌, ◌⊎◌, Bool, true, false, T, length, take, drop}
use mathlib.Core.List.{List, [], ◌∷◌, ◌++◌, Memᴰ}
use Rattle.std.proofs.Math.Option.{Option, none, some}
use Rattle.std.proofs.Math.ListN.{get_elem?}
use Rattle.semantics.specs.Basic.{Ordered}
use Rattle.semantics.specs.Limits.{most_rows, most_variables, most_roles, most_runs, most_events, most_file_bytes, most_trace_bytes}
use Rattle.semantics.specs.Answer.{Answer, accepted, refuse}
use Rattle.semantics.specs.Term.{Atom, role, trusted, Term, atom, inverse, pk, sk, encrypted}
use Rattle.semantics.specs.Inference.{Derives, derivable}
use Rattle.semantics.specs.Table.{Row, atomic, rows_from}
use Rattle.semantics.specs.Value.{Reading, value_of, beneath, without_variables, without_run}
use Rattle.semantics.specs.Frame.{Part, unversioned, too_long, misframed, budget_of}
use Rattle.semantics.specs.Roles.{EventKind, read, Event, Role, roles_present, bad_role, absent_role_from}
use Rattle.semantics.specs.WellFormed.{readable, well_formed, learned, role_knowledge, ill_formed}
use Rattle.semantics.specs.Runs.{Run, bad_run, bad_knowledge_from, all_trusted}
use Rattle.semantics.specs.Scenario.{Scenario, opened}
use Rattle.semantics.specs.State.{Value, Progress, State, Active, active, assigned, reading_in, initial, events_of, unset_beneath, new_variables, Message, Claim}
use Rattle.semantics.specs.Moves.{Move, message, to_set, set_after, message_after, advanced, Listing, full, short, moves_in}
use Rattle.semantics.specs.Tree.{Earlier}
use Rattle.semantics.specs.Verdict.{Entry, trace_list, broken, Verdict, broken_at, held, stopped, trace_bytes, searched_in, searched, buffer_in, buffer_after}
use Rattle.semantics.specs.Replay.{after, replayed}
use Rattle.semantics.specs.Derive.{absent_from, derived}
use Rattle.semantics.specs.Packing.{packed_derived, packed_opened, packed_replayed, packed_searched, read_word, DeriveRead, OpenRead, ReplayRead, SearchRead}
use Rattle.semantics.specs.Allowed.{Readable, WellFormed, Takes, Step, AllowedTrace, InShort, StepIn, TraceIn, MoveBefore, Breaks, Names}
use Rattle.semantics.specs.Demand.{DeriveAsks, SomeBreak, FirstBreak, NoBreak, ReadsOnly}
use Rattle.semantics.specs.Guarantee.{GoodTable, Guarantee}
use Rattle.semantics.specs.Meaning.{InverseIs, ValueIs, LiesBeneath, StandsFor, NoVariable, Constant, Passes, ActiveIn, TermsOf, KnownAtStart, UnsetAt}
use Rattle.semantics.specs.Encoding.{Framed, Parts, TermBytes, Encodes}
use Rattle.semantics.specs.Refusals.{RowRefused, FirstBad, GoodRoleRecord, FirstAbsentRole, FirstIllFormedRole, GoodRunRecord, FirstBadKnowledge, FirstAbsent, OpenRefuses, SearchRefuses, DeriveRefuses, ReplayRefuses}
use Rattle.semantics.specs.Worked.{AllHold, cases, edges, short_cases, p1_file, p1_bytes, a, c, d}
use Rattle.semantics.proofs.laws.Inference
use Rattle.semantics.proofs.laws.WellFormed as well
use Rattle.semantics.proofs.laws.Encoding as encoding
use Rattle.semantics.proofs.laws.Conditions as condition
use Rattle.semantics.proofs.laws.Refusals as refusal
use Rattle.semantics.proofs.laws.Meaning as meaning
use Rattle.semantics.proofs.laws.Reached as reach
use Rattle.semantics.proofs.laws.Bytes as bytes
use Rattle.semantics.proofs.laws.Moves as move
use Rattle.semantics.proofs.laws.Traces as trace
use Rattle.semantics.proofs.laws.Broken as break
use Rattle.semantics.proofs.laws.Operations as operation
use Rattle.semantics.proofs.laws.Derive as derive
use Rattle.semantics.proofs.laws.Places as place
use Rattle.semantics.proofs.laws.Packing as packing
use Rattle.semantics.proofs.laws.Caller as caller
use Rattle.semantics.proofs.laws.Short as shorter
use Rattle.semantics.proofs.laws.Worked as work

-- DEMAND 1. "Every byte string gives a verdict or a listed refusal with its place: a refusal exactly if its stated condition is the first to hold in the stated order. A refused call changes no byte of a lent buffer."

-- The limits.
pub limits :
    (most_rows ≡ 96) × (most_variables ≡ 8) × (most_roles ≡ 4) × (most_runs ≡ 4) × (most_events ≡ 8) × (most_file_bytes ≡ 4096) × (most_trace_bytes ≡ 128)
limits = (refl, refl, refl, refl, refl, refl, refl)

-- A framed file is a version, four budget bytes, four blocks each behind its two length bytes, and nothing else; refusal 3 comes exactly if a file is none, with its length for the place.
pub framed-exactly : (file : List ℕ) → (misframed file ≡ none) ↔ ((budget : ℕ) × (blocks : List (List ℕ)) × Framed file budget blocks)
framed-exactly = encoding.framed-exactly

pub misframed-exactly : (file : List ℕ) (at : ℕ) → (misframed file ≡ some at) ↔ ((at ≡ length file) × ((budget : ℕ) (blocks : List (List ℕ)) → ¬ Framed file budget blocks))
misframed-exactly = encoding.misframed-exactly

-- The budget and the parts that are read are those.
pub framed-parts : {file : List ℕ} {budget : ℕ} {t r u k : List ℕ} → Framed file budget (t ∷ r ∷ u ∷ k ∷ []) → Parts file budget t r u k
framed-parts = encoding.framed-parts

-- The conditions, each with the place where it first holds: 1 and 2;
pub unversioned-exactly : (file : List ℕ) (at : ℕ) → (unversioned file ≡ some at) ↔ ((at ≡ 0) × ((rest : List ℕ) → ¬ (file ≡ 1 ∷ rest)))
unversioned-exactly = condition.unversioned-exactly

pub too_long-exactly : (file : List ℕ) (at : ℕ) → (too_long file ≡ some at) ↔ ((4096 < length file) × (at ≡ 4096))
too_long-exactly = condition.too_long-exactly

-- 4 and 5;
pub row-refused-exactly : (at : ℕ) (below : List Row) (bytes : List ℕ) (n p : ℕ) → (rows_from at below bytes ≡ refuse n p) ↔ RowRefused below at bytes n p
row-refused-exactly = condition.rows-refused

pub table-exactly : (at : ℕ) (bytes : List ℕ) (rows : List Row) → (rows_from at [] bytes ≡ accepted rows) ↔ (TermBytes rows bytes × GoodTable rows)
table-exactly = encoding.table-exactly

-- 6, of a record and of a row that names an absent role;
pub bad-role-exactly : (rows : List Row) (parts : List Part) (at : ℕ) → (bad_role rows parts ≡ some at) ↔ FirstBad (GoodRoleRecord rows (roles_present parts)) 0 parts at
bad-role-exactly = condition.bad_role-exactly

pub absent-role-exactly : (roles at : ℕ) (rows : List Row) (p : ℕ) → (absent_role_from roles at rows ≡ some p) ↔ FirstAbsentRole roles at rows p
absent-role-exactly = condition.absent_role-exactly

-- 7;
pub ill-formed-exactly : (rows : List Row) (own : ℕ) (roles : List Role) (at : ℕ) → (ill_formed rows own roles ≡ some at) ↔ FirstIllFormedRole rows own roles at
ill-formed-exactly = condition.ill_formed-exactly

-- 8;
pub bad-run-exactly : (rows : List Row) (roles : ℕ) (parts : List Part) (at : ℕ) → (bad_run rows roles parts ≡ some at) ↔ FirstBad (GoodRunRecord rows roles) 0 parts at
bad-run-exactly = condition.bad_run-exactly

-- 9;
pub bad-knowledge-exactly : (rows : List Row) (at least : ℕ) (list : List ℕ) (p : ℕ) → (bad_knowledge_from rows at least list ≡ some p) ↔ FirstBadKnowledge rows at least list p
bad-knowledge-exactly = condition.bad_knowledge-exactly

-- and 11.
pub absent-exactly : (rows : List Row) (target at : ℕ) (list : List ℕ) (p : ℕ) → (absent_from rows at list target ≡ some p) ↔ FirstAbsent (length rows) target at list p
absent-exactly = condition.absent_from-exactly

-- Each operation refuses with a number and a place exactly if that condition is the first to hold.
pub open-refuses : (file : List ℕ) (n at : ℕ) → (opened file ≡ refuse n at) ↔ OpenRefuses file n at
open-refuses = refusal.open-refuses

pub search-refuses : (l : Listing) (file buffer : List ℕ) (n at : ℕ) → (searched_in l file buffer ≡ refuse n at) ↔ SearchRefuses file buffer n at
search-refuses = operation.search-refuses

pub derive-refuses : (table list : List ℕ) (target n at : ℕ) → (derived table list target ≡ refuse n at) ↔ DeriveRefuses table list target n at
derive-refuses = refusal.derive-refuses

pub replay-refuses : (file trace : List ℕ) (n at : ℕ) → (replayed file trace ≡ refuse n at) ↔ ReplayRefuses file trace n at
replay-refuses = operation.replay-refuses

-- A file is accepted as a scenario exactly if it has the version and no more bytes than it may have, its bytes are those of the scenario, and the scenario keeps the rules.
pub accepted-exactly : (file : List ℕ) (sc : Scenario) → (opened file ≡ accepted sc) ↔ ((unversioned file ≡ none) × (too_long file ≡ none) × Encodes file sc × Guarantee sc)
accepted-exactly = encoding.accepted-exactly

-- Whatever the bytes, there is an answer, or a refusal of the operation's own list with a place within the bytes or their length.
pub open-total : (file : List ℕ) → ((sc : Scenario) × (opened file ≡ accepted sc)) ⊎ ((n : ℕ) × (at : ℕ) × (opened file ≡ refuse n at) × (1 ≤ n) × (n ≤ 9) × (at ≤ length file))
open-total = place.open-total

pub search-total :
    (l : Listing) (file buffer : List ℕ)
    → ((v : Verdict) × (searched_in l file buffer ≡ accepted v))
    ⊎ ((n : ℕ) × (at : ℕ) × (searched_in l file buffer ≡ refuse n at) × (((1 ≤ n) × (n ≤ 9) × (at ≤ length file)) ⊎ ((n ≡ 10) × (at ≡ length buffer))))
search-total = place.search-total

pub derive-total :
    (table list : List ℕ) (target : ℕ)
    → ((b : Bool) × (derived table list target ≡ accepted b))
    ⊎ ((n : ℕ) × (at : ℕ) × (derived table list target ≡ refuse n at) × ((((n ≡ 4) ⊎ (n ≡ 5)) × (at < length table)) ⊎ ((n ≡ 11) × (at ≤ length list))))
derive-total = place.derive-total

pub replay-total :
    (file trace : List ℕ)
    → ((b : Option Claim) × (replayed file trace ≡ accepted b))
    ⊎ ((n : ℕ) × (at : ℕ) × (replayed file trace ≡ refuse n at) × (((1 ≤ n) × (n ≤ 9) × (at ≤ length file)) ⊎ ((n ≡ 12) × (at < length trace) × (at ≤ 128))))
replay-total = place.replay-total

-- A refused call, HELD and STOPPED leave the lent buffer as it was. BROKEN leaves the trace at its front, the rest kept, the length kept.
pub search-keeps :
    (l : Listing) (file buffer : List ℕ) (b : Answer Verdict) → searched_in l file buffer ≡ b → ((p : ℕ) (ms : List Move) (x : Claim) → ¬ (b ≡ accepted (broken_at p ms x)))
    → buffer_in l file buffer ≡ buffer
search-keeps = operation.search-keeps

pub search-writes :
    (l : Listing) (file buffer : List ℕ) (p : ℕ) (ms : List Move) (x : Claim) → searched_in l file buffer ≡ accepted (broken_at p ms x)
    → (take (length (trace_bytes ms)) (buffer_in l file buffer) ≡ trace_bytes ms)
    × (drop (length (trace_bytes ms)) (buffer_in l file buffer) ≡ drop (length (trace_bytes ms)) buffer)
    × (length (buffer_in l file buffer) ≡ length buffer)
search-writes = operation.search-writes

-- DEMAND 2. "A term is reported derivable from a finite set of terms exactly if the inference rules derive it, through terms inside or outside the table."
pub derive-yes : (table list : List ℕ) (target : ℕ) → (derived table list target ≡ accepted true) ↔ DeriveAsks table list target Derives
derive-yes = derive.derive-yes

pub derive-no : (table list : List ℕ) (target : ℕ) → (derived table list target ≡ accepted false) ↔ DeriveAsks table list target (λ known t. ¬ Derives known t)
derive-no = derive.derive-no

-- The decision is true exactly where the relation holds.
pub inference-decided : (known : List Term) (t : Term) → T (derivable known t) ↔ Derives known t
inference-decided = Inference.derivable-exact

-- more knowledge derives no less
pub inference-monotone : {known more : List Term} → ((x : Term) → Memᴰ x known → Memᴰ x more) → {t : Term} → Derives known t → Derives more t
inference-monotone = Inference.derives-monotone

-- only members count: neither order nor repetition
pub inference-members :
    (known other : List Term) → ((x : Term) → Memᴰ x known → Memᴰ x other) → ((x : Term) → Memᴰ x other → Memᴰ x known) → (t : Term)
    → derivable known t ≡ derivable other t
inference-members = Inference.derivable-members

-- cut: what derives from terms that derive derives too
pub inference-cut : {known more : List Term} → ((x : Term) → Memᴰ x known → Derives more x) → {t : Term} → Derives known t → Derives more t
inference-cut = Inference.derives-cut

pub inverse-exactly : (t u : Term) → (inverse t ≡ u) ↔ InverseIs t u
inverse-exactly = meaning.inverse-exactly

pub inverse-of-inverse : (t : Term) → inverse (inverse t) ≡ t
inverse-of-inverse = Inference.inverse-inverse

-- Well-formedness uses the same inference.
pub readable-decided : (known : List Term) (t : Term) → T (readable known t) ↔ Readable known t
readable-decided = well.readable-exact

pub well_formed-decided :
    (own : ℕ) (known : List Term) (kind : EventKind) (peer : ℕ) (t : Term) → T (well_formed own known kind peer t) ↔ WellFormed own known kind peer t
well_formed-decided = well.well_formed-exact

-- DEMAND 3. "For every scenario that Search accepts, whatever its budget: BROKEN exactly if some allowed trace, at a place in the list up to the budget, passes a secrecy claim of a run whose agents are all trusted and ends with the claimed value derivable; trace, place and claim are those of the first such trace in the list."
pub search-broken :
    (l : Listing) (file buffer : List ℕ) (p : ℕ) (ms : List Move) (x : Claim)
    → (searched_in l file buffer ≡ accepted (broken_at p ms x)) ↔ ((sc : Scenario) × (opened file ≡ accepted sc) × (128 ≤ length buffer) × FirstBreak l sc p ms x)
search-broken = operation.search-broken

pub search-breaks :
    (l : Listing) (file buffer : List ℕ)
    → ((p : ℕ) × (ms : List Move) × (x : Claim) × (searched_in l file buffer ≡ accepted (broken_at p ms x)))
    ↔ ((sc : Scenario) × (opened file ≡ accepted sc) × (128 ≤ length buffer) × SomeBreak l sc)
search-breaks = operation.search-breaks

-- "HELD exactly if no allowed trace at all does so and the list is no longer than the budget; its number is the list's length."
pub search-held :
    (l : Listing) (file buffer : List ℕ) (n : ℕ)
    → (searched_in l file buffer ≡ accepted (held n))
    ↔ ((sc : Scenario) × (opened file ≡ accepted sc) × (128 ≤ length buffer) × NoBreak l sc × (length (trace_list l sc) ≤ budget_of file) × (n ≡ length (trace_list l sc)))
search-held = operation.search-held

-- "STOPPED in all other cases; its number is the budget."
pub search-stopped :
    (l : Listing) (file buffer : List ℕ) (n : ℕ)
    → (searched_in l file buffer ≡ accepted (stopped n))
    ↔ ((sc : Scenario) × (opened file ≡ accepted sc) × (128 ≤ length buffer) × (n ≡ budget_of file) × (¬ SomeBreak l sc) × (¬ (NoBreak l sc × (length (trace_list l sc) ≤ budget_of file))))
search-stopped = operation.search-stopped

pub budget-of-file : (file : List ℕ) (sc : Scenario) → opened file ≡ accepted sc → sc.budget ≡ budget_of file
budget-of-file = operation.budget-of

-- The claim that is named is the lowest of those that the trace breaks.
pub claim-named : (sc : Scenario) (s : State) (x : Claim) → (broken sc s ≡ some x) ↔ Names sc s x
claim-named = break.broken-named

pub claim-none : (sc : Scenario) (s : State) → (broken sc s ≡ none) ↔ ((x : Claim) → Breaks sc s x → ⊥)
claim-none = break.broken-none

-- Search goes through the full list, which is the list of all allowed traces.
pub search-full : (file buffer : List ℕ) → (searched file buffer ≡ searched_in full file buffer) × (buffer_after file buffer ≡ buffer_in full file buffer)
search-full file buffer = (refl, refl)

pub full-list : (sc : Scenario) (ms : List Move) (s : State) → TraceIn full sc ms s ↔ AllowedTrace sc ms s
full-list = trace.full-exact

-- A list holds exactly its traces, each once, in order, a trace before its extensions.
pub list-allowed : (l : Listing) (sc : Scenario) (ms : List Move) (s : State) → Memᴰ (ms, s) (trace_list l sc) ↔ TraceIn l sc ms s
list-allowed = trace.traces-exact

pub list-in-order :
    (l : Listing) (sc : Scenario) (i j : ℕ) (e f : Entry) → get_elem? (trace_list l sc) i ≡ some e → get_elem? (trace_list l sc) j ≡ some f → (i < j) ↔ Earlier MoveBefore e.0 f.0
list-in-order = trace.traces-ordered

pub list-once : (l : Listing) (sc : Scenario) (i j : ℕ) (e f : Entry) → get_elem? (trace_list l sc) i ≡ some e → get_elem? (trace_list l sc) j ≡ some f → e.0 ≡ f.0 → i ≡ j
list-once = trace.traces-once

pub list-extensions :
    (l : Listing) (sc : Scenario) (i j : ℕ) (e f : Entry) → get_elem? (trace_list l sc) i ≡ some e → get_elem? (trace_list l sc) j ≡ some f → (m : Move) (ms : List Move)
    → f.0 ≡ e.0 ++ m ∷ ms → i < j
list-extensions = trace.traces-prefix

-- the state at a trace's end is fixed by the trace
pub trace-end : (sc : Scenario) (ms : List Move) (s s' : State) → AllowedTrace sc ms s → AllowedTrace sc ms s' → s ≡ s'
trace-end = trace.traces-end

-- "It needs at most 128 bytes."
pub trace-fits : (sc : Scenario) → Guarantee sc → (ms : List Move) (s : State) → AllowedTrace sc ms s → length (trace_bytes ms) ≤ most_trace_bytes
trace-fits = bytes.trace-bytes

-- The moves that a list goes on with are exactly those, in order, and of the full list every allowed move; so is the move that Replay takes.
pub moves-allowed : (sc : Scenario) (s : State) (l : Listing) (m : Move) (s' : State) → Memᴰ (m, s') (moves_in l sc s) ↔ StepIn l sc s m s'
moves-allowed = move.moves-exact

pub moves-in-order : (sc : Scenario) (s : State) (l : Listing) → Ordered (λ b e. MoveBefore b.0 e.0) (moves_in l sc s)
moves-in-order = move.moves-ordered

pub replayed-move-allowed : (sc : Scenario) (s : State) (m : Move) (s' : State) → (after sc s m ≡ some s') ↔ Step sc s m s'
replayed-move-allowed = move.after-exact

-- Replay accepts exactly the bytes of allowed traces, and says exactly what they break; a trace that Search writes replays to the same claim.
pub replay-answers :
    (file trace : List ℕ) (b : Option Claim)
    → (replayed file trace ≡ accepted b)
    ↔ ((sc : Scenario) × (ms : List Move) × (s : State) × (opened file ≡ accepted sc) × AllowedTrace sc ms s × (trace ≡ trace_bytes ms) × (broken sc s ≡ b))
replay-answers = operation.replay-answers

pub search-replays :
    (l : Listing) (file buffer : List ℕ) (p : ℕ) (ms : List Move) (x : Claim) → searched_in l file buffer ≡ accepted (broken_at p ms x) → replayed file (trace_bytes ms) ≡ accepted (some x)
search-replays = operation.search-replays

-- THE SHORT LIST of document 02: "wherever some run's next event is a send or claim, the only move listed is that of the lowest such run." Refusals, buffer, order of the list, demand 3 and replaying are said above for every list, and so for this one.
pub short-list : (sc : Scenario) (s : State) (m : Move) (s' : State) → Memᴰ (m, s') (moves_in short sc s) ↔ (InShort sc s m.run × Step sc s m s')
short-list sc s = move.moves-exact sc s short

-- No trace of the short list breaks a claim exactly if no allowed trace at all does,
pub short-breaks : (sc : Scenario) → Guarantee sc → NoBreak short sc ↔ NoBreak full sc
short-breaks = shorter.no-break-same

-- so HELD's word says as much as Search's, with another list to go through.
pub short-held-read :
    (file buffer : List ℕ)
    → (read_word (packed_searched (searched_in short file buffer)) ≡ 1)
    ↔ ((sc : Scenario) × (opened file ≡ accepted sc) × (128 ≤ length buffer) × NoBreak full sc × (length (trace_list short sc) ≤ budget_of file))
short-held-read = shorter.short-held-read

-- "With a budget reaching the end of both lists, the two searches give the same word, BROKEN or HELD"
pub same_word :
    (file buffer : List ℕ) (sc : Scenario) → opened file ≡ accepted sc → 128 ≤ length buffer → length (trace_list full sc) ≤ budget_of file → length (trace_list short sc) ≤ budget_of file
    → ((read_word (packed_searched (searched file buffer)) ≡ 3) × (read_word (packed_searched (searched_in short file buffer)) ≡ 3))
    ⊎ ((read_word (packed_searched (searched file buffer)) ≡ 1) × (read_word (packed_searched (searched_in short file buffer)) ≡ 1))
same_word = shorter.same_word

-- The short list is never longer. "For a scenario of reads only, both lists are equal."
pub short-shorter : (sc : Scenario) → length (trace_list short sc) ≤ length (trace_list full sc)
short-shorter = shorter.short-shorter

pub reads-equal : (sc : Scenario) → ReadsOnly sc → trace_list short sc ≡ trace_list full sc
reads-equal = shorter.reads-equal

-- IN PLAIN WORDS. What stands on both sides of the statements above. Known at the start are the file's list and the intruder constants of the table; no run has moved.
pub start-exactly : (sc : Scenario) → GoodTable sc.rows → (t : Term) → Memᴰ t (initial sc).known ↔ KnownAtStart sc t
start-exactly = meaning.start-exactly

pub start-unmoved : (sc : Scenario) (k : ℕ) (p : Progress) → (get_elem? (initial sc).progress k ≡ some p) ↔ ((k < length sc.runs) × (p ≡ record { done = 0; values = [] }))
start-unmoved = meaning.start-unmoved

-- A run's agents are all trusted exactly if each of them is a trusted agent.
pub trusted-exactly : (rows : List Row) (run : Run) → T (all_trusted rows run) ↔ ((r : ℕ) → Memᴰ r run.agents → (n : ℕ) × (get_elem? rows r ≡ some (atomic (trusted n))))
trusted-exactly = meaning.trusted-exactly

-- An event is passed exactly if it is among the run's moves in the trace.
pub passed-exactly : (sc : Scenario) (k : ℕ) {ms : List Move} {s : State} {p : Progress} → AllowedTrace sc ms s → get_elem? s.progress k ≡ some p → (j : ℕ) → (j < p.done) ↔ Passes (suc k) ms j
passed-exactly = meaning.passed-exactly

-- A run's next event is its only move; its events are its role's.
pub active-exactly : (sc : Scenario) (s : State) (u : ℕ) (x : Active) → (active sc s u ≡ some x) ↔ ActiveIn sc s u x
active-exactly = meaning.active-exactly

pub events-exactly : (sc : Scenario) (run : Run) (r : Role) → get_elem? sc.roles run.role ≡ some r → events_of sc run ≡ r.events
events-exactly = meaning.events-exactly

-- A row's value, what lies beneath it, and what an atom stands for in a run and without one.
pub value-exactly : {rows : List Row} → GoodTable rows → (reading : Reading) (r : ℕ) (t : Term) → (value_of reading rows r ≡ some t) ↔ ValueIs reading rows r t
value-exactly = meaning.value-exactly

pub beneath-exactly : {rows : List Row} → GoodTable rows → (x r : ℕ) → r < length rows → T (beneath rows x r) ↔ LiesBeneath rows x r
beneath-exactly = meaning.beneath-exactly

pub reading-exactly :
    (rows : List Row) (u : ℕ) (run : Run) (sets : List (Atom × Value)) (x : Atom) (t : Term)
    → (reading_in rows u run sets x ≡ some t) ↔ ((b : Atom) × (t ≡ atom b) × StandsFor rows u run sets x b)
reading-exactly = meaning.reading-exactly

pub without_variables-exactly : (x : Atom) (t : Term) → (without_variables x ≡ some t) ↔ ((t ≡ atom x) × NoVariable x)
without_variables-exactly = meaning.without_variables-exactly

pub without_run-exactly : (x : Atom) (t : Term) → (without_run x ≡ some t) ↔ ((t ≡ atom x) × Constant x)
without_run-exactly = meaning.without_run-exactly

-- A read sets the variables beneath its pattern that are not set, in order of their rows; a send or claim sets none.
pub new-exactly :
    (rows : List Row) (sets : List (Atom × Value)) (kind : EventKind) (pattern : ℕ) (x : Atom)
    → Memᴰ x (new_variables rows sets kind pattern) ↔ ((kind ≡ read) × Memᴰ x (unset_beneath rows sets pattern))
new-exactly = meaning.new-exactly

pub unset-exactly :
    {rows : List Row} → GoodTable rows → (sets : List (Atom × Value)) (pattern : ℕ) → pattern < length rows → (x : Atom)
    → Memᴰ x (unset_beneath rows sets pattern) ↔ ((r : ℕ) × UnsetAt rows sets pattern r x)
unset-exactly = meaning.unset-exactly

pub unset-in-order :
    {rows : List Row} → GoodTable rows → (sets : List (Atom × Value)) (pattern : ℕ) → pattern < length rows
    → Ordered (λ x y. (r q : ℕ) → get_elem? rows r ≡ some (atomic x) → get_elem? rows q ≡ some (atomic y) → r < q) (unset_beneath rows sets pattern)
unset-in-order = meaning.unset-in-order

-- A message has the values of its sender's and receiver's role names and of its term.
pub message-exactly :
    (rows : List Row) (reading : Reading) (run : Run) (e : Event) (m : Message)
    → (message rows reading run e ≡ some m)
    ↔ ((reading (role run.role) ≡ some m.sender) × (reading (role e.peer) ≡ some m.receiver) × (value_of reading rows e.row ≡ some m.term))
message-exactly = meaning.message-exactly

-- After a move its run has made one event more; its variables have the values that they had, and each new one the value given for it; every other run is as it was.
pub step-changes :
    (sc : Scenario) (s : State) (x : Active) (vs : List Value) (known : List Term) → get_elem? s.progress x.index ≡ some x.progress
    → ((advanced sc s x vs known).known ≡ known)
    × (get_elem? (advanced sc s x vs known).progress x.index ≡ some (record { done = suc x.progress.done; values = set_after sc x vs }))
    × ((k : ℕ) → ¬ (k ≡ x.index) → get_elem? (advanced sc s x vs known).progress k ≡ get_elem? s.progress k)
step-changes = meaning.step-changes

pub values-after :
    (sc : Scenario) (x : Active) (vs : List Value) (y : Atom) (v : Value) → assigned y (set_after sc x vs) ≡ some v
    → (assigned y x.progress.values ≡ some v) ⊎ ((i : ℕ) × (get_elem? (to_set sc x) i ≡ some y) × (get_elem? vs i ≡ some v))
values-after = meaning.values-after

pub values-stay :
    (sc : Scenario) (x : Active) (vs : List Value) (y : Atom) (v : Value) → assigned y x.progress.values ≡ some v → assigned y (set_after sc x vs) ≡ some v
values-stay = meaning.values-stay

-- A role starts with the terms of its knowledge rows; a read adds its pattern, a send or claim nothing.
pub role-knows : (rows : List Row) → GoodTable rows → (r : Role) → TermsOf rows r.knowledge (role_knowledge rows r)
role-knows = meaning.role-knows

pub learned-exactly : (known : List Term) (kind : EventKind) (t x : Term) → Memᴰ x (learned known kind t) ↔ (Memᴰ x known ⊎ ((kind ≡ read) × (x ≡ t)))
learned-exactly = meaning.learned-exactly

-- What an accepted file guarantees in every reached state: a run's next event has its values once a read's new variables have theirs,
pub next-event-has-values :
    (sc : Scenario) → Guarantee sc → (ms : List Move) (s : State) → AllowedTrace sc ms s → (u : ℕ) (x : Active) → active sc s u ≡ some x → (vs : List Value)
    → Takes sc.rows (length sc.runs) (to_set sc x) vs → (m : Message) × (message_after sc x vs ≡ some m)
next-event-has-values = reach.reached-message

-- and so has the term of every event that it has made, a passed claim's too.
pub passed-event-has-value :
    (sc : Scenario) → Guarantee sc → (ms : List Move) (s : State) → AllowedTrace sc ms s → (k : ℕ) (run : Run) (p : Progress) (j : ℕ) (e : Event)
    → get_elem? sc.runs k ≡ some run → get_elem? s.progress k ≡ some p → get_elem? (events_of sc run) j ≡ some e → j < p.done
    → (t : Term) × (value_of (reading_in sc.rows (suc k) run p.values) sc.rows e.row ≡ some t)
passed-event-has-value = reach.passed-value

-- TO THE CALLER. The word of Search's number is HELD's exactly if the file is accepted, the buffer is long enough, no allowed trace breaks a claim and the list is no longer than the budget.
pub held-read :
    (l : Listing) (file buffer : List ℕ)
    → (read_word (packed_searched (searched_in l file buffer)) ≡ 1)
    ↔ ((sc : Scenario) × (opened file ≡ accepted sc) × (128 ≤ length buffer) × NoBreak l sc × (length (trace_list l sc) ≤ budget_of file))
held-read = caller.held-read

pub held-word : (b : Answer Verdict) → (read_word (packed_searched b) ≡ 1) ↔ ((n : ℕ) × (b ≡ accepted (held n)))
held-word = packing.held-word

-- So is ACCEPTED's exactly on an accepted file, and DERIVABLE's exactly on that answer.
pub accepted-word : (b : Answer Scenario) → (read_word (packed_opened b) ≡ 4) ↔ ((sc : Scenario) × (b ≡ accepted sc))
accepted-word = packing.accepted-word

pub derivable-word : (b : Answer Bool) → (read_word (packed_derived b) ≡ 5) ↔ (b ≡ accepted true)
derivable-word = packing.derivable-word

-- The readers give back word, number, place, run, event, kind and length of what was packed, for every answer that can be given.
pub search-read-back : (l : Listing) (file buffer : List ℕ) → ((b : ℕ) → Memᴰ b file → b < 256) → SearchRead (packed_searched (searched_in l file buffer)) (searched_in l file buffer)
search-read-back = caller.search-read-back

pub open-read-back : (file : List ℕ) → OpenRead (packed_opened (opened file)) (opened file)
open-read-back = caller.open-read-back

pub replay-read-back : (file trace : List ℕ) → ReplayRead (packed_replayed (replayed file trace)) (replayed file trace)
replay-read-back = caller.replay-read-back

pub derive-read-back :
    (table list : List ℕ) (target : ℕ) → length table < 4503599627370496 → length list < 4503599627370496
    → DeriveRead (packed_derived (derived table list target)) (derived table list target)
derive-read-back = caller.derive-read-back

-- Every number has 64 bits.
pub packed-below :
    ((b : Answer Bool) → packed_derived b < 18446744073709551616) × ((b : Answer Scenario) → packed_opened b < 18446744073709551616)
    × ((b : Answer (Option Claim)) → packed_replayed b < 18446744073709551616) × ((b : Answer Verdict) → packed_searched b < 18446744073709551616)
packed-below = packing.packed-below

-- WORKED CASES. P1 to P12 hold, by computation; the file of P1 is the one that document 01 shows.
pub p1-to-p12 : AllHold cases
p1-to-p12 = work.worked

pub p1-shown : p1_file ≡ p1_bytes
p1-shown = work.p1-bytes

-- cases on each side of limits and rules
pub edges-hold : AllHold edges
edges-hold = work.edges-worked

-- cases of the short list
pub short-cases-hold : AllHold short_cases
short-cases-hold = work.short-worked

-- P7 to P11 of the inference relation itself, with a an agent, c and d constants
pub p7 : Derives (encrypted c (pk a) ∷ sk a ∷ []) c
p7 = work.p7

pub p8 : Derives (encrypted c (pk a) ∷ pk a ∷ []) c → ⊥
p8 = work.p8

pub p9 : Derives (encrypted c (sk a) ∷ pk a ∷ []) c
p9 = work.p9

pub p10 : Derives (encrypted c (encrypted d d) ∷ d ∷ []) c
p10 = work.p10

pub p11 : Derives (a ∷ []) (pk a) → ⊥
p11 = work.p11
