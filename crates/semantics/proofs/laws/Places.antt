-- Whatever the bytes: each operation gives an answer, or a listed refusal with a place within the bytes, and the numbers of an answer fit the bits that carry them. Assumes nothing.
use Rattle.std.specs.Prelude.{ℕ, ◌+◌, ◌*◌, ◌≤◌, ◌<◌, ◌≡◌, refl, ◌⊎◌, Bool, length, take, drop}
use Rattle.std.proofs.Math.Decide.{dec_lt}
use native.Mathlib.Omega.{arith}
use Rattle.std.proofs.Common.{sym, ap, ◌∙◌, inl, inr, ⊎_elim, length-append, length-take, length-drop}
use Rattle.std.proofs.Math.Option.{Option, none, some, none-ne-some, some-injective}
use mathlib.Core.List.Memᴰ
use mathlib.Core.List.{List, [], ◌∷◌, Memᴰ}
use Rattle.std.proofs.Math.ListN.{get_elem?}
use Rattle.semantics.specs.Moves.{Listing}
use Rattle.semantics.specs.Answer.{Answer, refused, accepted, refuse}
use Rattle.semantics.specs.Term.{Term}
use Rattle.semantics.specs.Table.{Row}
use Rattle.semantics.specs.Frame.{Part, too_long}
use Rattle.semantics.specs.Roles.{EventKind, Event, Role, event_kinds, event_from, events_from, knowledge_count, event_count, role_length, events_in, role_in, role_records, roles_from}
use Rattle.semantics.specs.Runs.{run_length, run_records}
use Rattle.semantics.specs.Scenario.{Scenario, term_part, role_part, run_part, knowledge_part, role_parts, role_count, run_parts, opened}
use Rattle.semantics.specs.State.{State, events_of, Claim}
use Rattle.semantics.specs.Verdict.{Verdict, broken_at, held, stopped, trace_bytes, searched_in}
use Rattle.semantics.specs.Replay.{replayed}
use Rattle.semantics.specs.Derive.{derived}
use Rattle.semantics.specs.Allowed.{Breaks, breaks}
use Rattle.semantics.specs.Guarantee.{Guarantee}
use Rattle.semantics.specs.Packing.{FitsRefusal, FitsClaim, FitsOpen, FitsDerive, FitsReplay, FitsSearch}
use Rattle.semantics.specs.Encoding.{Framed, framed_as, Parts}
use Rattle.semantics.specs.Refusals.{RowRefused, incomplete, no_row, unfit, repeats, later_row, FirstBad, bad_here, bad_later, FirstAbsentRole, absent_here, absent_later, FirstIllFormed, ill_here, ill_later, FirstIllFormedRole, in_role, in_later_role, FirstBadKnowledge, bad_byte, later_byte, FirstHolds, holds, passes, NoneHolds, passes_all, frame_conditions, table_of, record_conditions, OpenRefuses, by_framing, by_row, by_record, SearchRefuses, open_refuses, too_short, FirstAbsent, target_absent, listed_absent, later_absent, DeriveRefuses, row_refused, absent, ReplayRefuses, file_refused, step_refused}
use Rattle.semantics.proofs.laws.List.{mem-cases, mem-present, mem-map, get_elem-below}
use Rattle.semantics.proofs.laws.Table.{rows-decoded}
use Rattle.semantics.proofs.laws.Frame.{records-within}
use Rattle.semantics.proofs.laws.Encoding.{framed-exactly, misframed-exactly, framed-parts, framed-budget, accepted-exactly}
use Rattle.semantics.proofs.laws.Conditions.{unversioned-exactly, too_long-exactly, bad_role-exactly, absent_role-exactly, ill_formed-exactly, bad_run-exactly, bad_knowledge-exactly}
use Rattle.semantics.proofs.laws.Open.{opened-guarantee}
use Rattle.semantics.proofs.laws.Refusals.{open-refuses, derive-refuses}
use Rattle.semantics.proofs.laws.Bytes.{events-few, trace-bytes}
use Rattle.semantics.proofs.laws.Broken.{broken-named}
use Rattle.semantics.proofs.laws.Operations.{budget-of, search-refuses, search-held, search-broken, search-stopped, replay-refuses, replay-answers, search-replays}

-- a row is refused with 4 or 5, where one of its bytes stands
row-place : {below : List Row} {at : ℕ} {bytes : List ℕ} {n p : ℕ} → RowRefused below at bytes n p → ((n ≡ 4) ⊎ (n ≡ 5)) × (p < at + length bytes)
row-place (incomplete l h e f) = (inl e, omega arith)
row-place (no_row n e f) = (inl e, omega arith)
row-place (unfit b n e f) = (inl e, omega arith)
row-place (repeats b a m e f) = (inr e, omega arith)
row-place (later_row b a m later) = let w = row-place later in let l = w.1 in (w.0, omega arith)

-- a record that is not good is one of the records
bad-place : {Good : ℕ → Part → Type 0} {i at : ℕ} {parts : List Part} → FirstBad Good i parts at → (part : Part) × Memᴰ part parts × (at ≡ part.start)
bad-place (bad_here {part = part} n e) = (part, Memᴰ.head refl, e)
bad-place (bad_later g later) = let w = bad-place later in (w.0, Memᴰ.tail w.1, w.2)

-- a row that names an absent role is one of the rows
absent-role-place : {roles at p : ℕ} {rows : List Row} → FirstAbsentRole roles at rows p → p < at + 3 * length rows
absent-role-place (absent_here l e) = omega arith
absent-role-place (absent_later h later) = let l = absent-role-place later in omega arith

-- an event that is not well formed is one of the events
ill-place : {rows : List Row} {own : ℕ} {known : List Term} {es : List Event} {at : ℕ} → FirstIllFormed rows own known es at → (e : Event) × Memᴰ e es × (at ≡ e.place)
ill-place (ill_here {e = e} n q) = (e, Memᴰ.head refl, q)
ill-place (ill_later t h later) = let w = ill-place later in (w.0, Memᴰ.tail w.1, w.2)

-- and an event of one of the roles
ill-role-place : {rows : List Row} {own : ℕ} {roles : List Role} {at : ℕ} → FirstIllFormedRole rows own roles at
    → (r : Role) × Memᴰ r roles × ((e : Event) × Memᴰ e r.events × (at ≡ e.place))
ill-role-place (in_role {r = r} h) = (r, Memᴰ.head refl, ill-place h)
ill-role-place (in_later_role all later) = let w = ill-role-place later in (w.0, Memᴰ.tail w.1, w.2)

-- a knowledge byte against its rule is one of the bytes
knowledge-place : {rows : List Row} {at least p : ℕ} {bytes : List ℕ} → FirstBadKnowledge rows at least bytes p → p < at + length bytes
knowledge-place (bad_byte n e) = omega arith
knowledge-place (later_byte l h later) = let k = knowledge-place later in omega arith

-- the events in some bytes stand in them
event-place : (at : ℕ) (bytes : List ℕ) {e : Event} → Memᴰ (some e) (events_from at bytes) → (at ≤ e.place) × (e.place < at + length bytes)
unfolding events_from
event-place at [] m = absurd (Memᴰ.not-nil m)
event-place at (kind ∷ []) m = absurd (Memᴰ.not-nil m)
event-place at (kind ∷ label ∷ []) m = absurd (Memᴰ.not-nil m)
event-place at (kind ∷ label ∷ peer ∷ []) m = absurd (Memᴰ.not-nil m)
event-place at (kind ∷ label ∷ peer ∷ row ∷ bytes) {e} m = mem-cases m (λ q. let h = of (get_elem? event_kinds kind) q in omega arith) (λ k. let w = event-place (at + 4) bytes k in omega arith)
  where
    of : (o : Option EventKind) → some e ≡ event_from o peer row at → e.place ≡ at
    of none q = absurd (none-ne-some e (sym q))
    of (some k) q = ap (λ x. x.place) (some-injective e (record { kind = k; peer = peer; row = row; place = at }) q)

-- the events of a role record stand in it
role-event-place : (part : Part) {e : Event} → Memᴰ (some e) (events_in part) → e.place < part.start + length part.bytes
unfolding events_in
role-event-place part m =
    let n = event_count part.bytes in
    let k = 2 + knowledge_count part.bytes in
    let w = event-place (part.start + k) (take (4 * n) (drop k part.bytes)) m in
    let t = length-take (4 * n) (drop k part.bytes) in
    let d = length-drop k part.bytes in
    omega arith

-- an answer is an acceptance, or a refusal with what is known of its number and place
answer-total : {A : Type 0} {P : ℕ → ℕ → Type 0} (a : Answer A) → ((n at : ℕ) → a ≡ refuse n at → P n at) → ((x : A) × (a ≡ accepted x)) ⊎ ((n : ℕ) × (at : ℕ) × (a ≡ refuse n at) × P n at)
answer-total (accepted x) h = inl (x, refl)
answer-total (refused r) h = inr (r.number, r.place, refl, h r.number r.place refl)

-- a file that is not too long
file-short : (file : List ℕ) → too_long file ≡ none → length file ≤ 4096
file-short file e = go (dec_lt 4096 (length file))
  where
    go : Dec (4096 < length file) → length file ≤ 4096
    go (yes l) = absurd (none-ne-some 4096 (sym e ∙ (too_long-exactly file 4096).1 (l, refl)))
    go (no n) = omega arith

-- where a part ends
abbrev end_of : Part → ℕ
end_of part = part.start + length part.bytes

-- The parts of a file end within it.
record PartsWithin (file : List ℕ) : Type 0 where
  terms : end_of (term_part file) ≤ length file
  roles : end_of (role_part file) ≤ length file
  runs : end_of (run_part file) ≤ length file
  knowledge : end_of (knowledge_part file) ≤ length file

-- they do if they are its blocks
parts_within : {file : List ℕ} {budget : ℕ} {t r u k : List ℕ} → Parts file budget t r u k → PartsWithin file
parts_within p = let l = p.long in record { terms = rw p.of_terms (omega arith); roles = rw p.of_roles (omega arith); runs = rw p.of_runs (omega arith); knowledge = rw p.of_knowledge (omega arith) }

-- and so they do if it is framed
framed-within : {file : List ℕ} {budget : ℕ} {blocks : List (List ℕ)} → Framed file budget blocks → PartsWithin file
framed-within (framed_as b) = parts_within (framed-parts (framed_as b))

module _ (file : List ℕ) where
  -- 1 to 3: at 0, at 4,096, at the file's end
  frame-place : {n at : ℕ} → FirstHolds (frame_conditions file) n at → (1 ≤ n) × (n ≤ 9) × (at ≤ length file) × (at ≤ 4096)
  frame-place {n} {at} (holds e f) = let z = ((unversioned-exactly file at).0 e).0 in omega arith
  frame-place {n} {at} (passes e (holds f g)) = let w = (too_long-exactly file at).0 f in omega arith
  frame-place {n} {at} (passes e (passes f (holds g h))) = let z = ((misframed-exactly file at).0 g).0 in let l = file-short file f in omega arith
  frame-place {n = n} {at = at} (passes e (passes f (passes _ x24))) = elim x24 [ ]

  module _ (within : PartsWithin file) where
    -- a role record stands within the file
    role-within : {part : Part} → Memᴰ part (role_parts file) → (part.start < length file) × (end_of part ≤ length file)
    unfolding role_records
    role-within m = let w = records-within role_length (role_part file) m in omega (arith, within.roles)

    -- and so does a run record
    run-within : {part : Part} → Memᴰ part (run_parts file) → part.start < length file
    unfolding run_records
    run-within m = let w = records-within (run_length (role_count file)) (run_part file) m in omega (arith, within.runs)

    -- an event of a role stands within the file
    event-within : {r : Role} {e : Event} → Memᴰ r (roles_from (role_parts file)) → Memᴰ e r.events → e.place < length file
    unfolding roles_from role_in
    event-within {e = e} m k =
        let w = (mem-map role_in (role_parts file)).0 m in
        let part = w.0 in
        let stands = role-event-place part ((mem-present (events_in part)).0 (rw w.2 at k)) in
        let ends = (role-within w.1).1 in
        omega arith

    -- 6 to 9: where a byte of the record, the row, the event or the knowledge stands
    record-place : {rows : List Row} {n at : ℕ} → table_of file ≡ accepted rows → FirstHolds (record_conditions file rows) n at → (6 ≤ n) × (n ≤ 9) × (at < length file)
    record-place {rows} {n} {at} t (holds e f) =
        let w = bad-place ((bad_role-exactly rows (role_parts file) at).0 e) in
        let l = (role-within w.1).0 in
        let s = w.2 in
        omega arith
    record-place {rows} {n} {at} t (passes e (holds f g)) =
        let l = absent-role-place ((absent_role-exactly (role_count file) (term_part file).start rows at).0 f) in
        let d = (rows-decoded (term_part file).start (term_part file).bytes rows t).size in
        omega (arith, within.terms)
    record-place {rows} {n} {at} t (passes e (passes f (holds g h))) =
        let w = ill-role-place ((ill_formed-exactly rows 0 (roles_from (role_parts file)) at).0 g) in
        let l = event-within w.1 w.2.1 in
        let s = w.2.2 in
        omega arith
    record-place {rows} {n} {at} t (passes e (passes f (passes g (holds h i)))) =
        let w = bad-place ((bad_run-exactly rows (role_count file) (run_parts file) at).0 h) in
        let l = run-within w.1 in
        let s = w.2 in
        omega arith
    record-place {rows} {n} {at} t (passes e (passes f (passes g (passes h (holds i j))))) =
        let l = knowledge-place ((bad_knowledge-exactly rows (knowledge_part file).start 0 (knowledge_part file).bytes at).0 i) in
        omega (arith, within.knowledge)
    record-place {rows = rows} {n = n} {at = at} t (passes e (passes f (passes g (passes h (passes _ x36))))) = elim x36 [ ]

  -- what the passing of 1 to 3 says
  frame-passes : NoneHolds (frame_conditions file) → (length file ≤ 4096) × PartsWithin file
  frame-passes (passes_all e (passes_all f (passes_all g h))) = (file-short file f, framed-within ((framed-exactly file).0 g).2)

  -- where Open refuses
  open-place : {n at : ℕ} → OpenRefuses file n at → (1 ≤ n) × (n ≤ 9) × (at ≤ length file) × (at ≤ 4096)
  open-place (by_framing h) = frame-place h
  open-place {n} {at} (by_row p h) =
      let w = frame-passes p in
      let l = w.0 in
      let r = row-place h in
      let k = r.1 in
      ⊎_elim (λ e. omega (arith, w.1.terms)) (λ e. omega (arith, w.1.terms)) r.0
  open-place (by_record p t h) = let w = frame-passes p in let l = w.0 in let r = record-place w.1 t h in omega arith

  -- Open refuses with 1 to 9, at a place within the file and within 4,096 bytes.
  pub open-places : (n at : ℕ) → opened file ≡ refuse n at → (1 ≤ n) × (n ≤ 9) × (at ≤ length file) × (at ≤ 4096)
  open-places n at e = open-place ((open-refuses file n at).0 e)

  -- Open accepts, or refuses so.
  pub open-total : ((sc : Scenario) × (opened file ≡ accepted sc)) ⊎ ((n : ℕ) × (at : ℕ) × (opened file ≡ refuse n at) × (1 ≤ n) × (n ≤ 9) × (at ≤ length file))
  open-total = ⊎_elim inl (λ w. let p = w.3 in inr (w.0, w.1, w.2, p.0, p.1, p.2)) (answer-total (opened file) open-places)

-- where Search refuses
search-place : {file buffer : List ℕ} {n at : ℕ} → SearchRefuses file buffer n at → ((1 ≤ n) × (n ≤ 9) × (at ≤ length file)) ⊎ ((n ≡ 10) × (at ≡ length buffer))
search-place {file} (open_refuses h) = let w = open-place file h in inl (w.0, w.1, w.2)
search-place (too_short e l q p) = inr (q, p)

-- Search gives a verdict, or refuses as Open, or with 10 at the buffer's length.
pub search-total : (which : Listing) (file buffer : List ℕ) → ((v : Verdict) × (searched_in which file buffer ≡ accepted v))
    ⊎ ((n : ℕ) × (at : ℕ) × (searched_in which file buffer ≡ refuse n at) × (((1 ≤ n) × (n ≤ 9) × (at ≤ length file)) ⊎ ((n ≡ 10) × (at ≡ length buffer))))
search-total which file buffer = answer-total (searched_in which file buffer) (λ n at e. search-place ((search-refuses which file buffer n at).0 e))

-- a row that is absent is one of the list, or the target behind it
absent-place : {rows target at p : ℕ} {list : List ℕ} → FirstAbsent rows target at list p → p ≤ at + length list
absent-place (target_absent l e) = omega arith
absent-place (listed_absent l e) = omega arith
absent-place (later_absent l later) = let k = absent-place later in omega arith

-- where Derive refuses
derive-place : {table list : List ℕ} {target n at : ℕ} → DeriveRefuses table list target n at → (((n ≡ 4) ⊎ (n ≡ 5)) × (at < length table)) ⊎ ((n ≡ 11) × (at ≤ length list))
derive-place (row_refused h) = let w = row-place h in let l = w.1 in inl (w.0, omega arith)
derive-place (absent e h q) = let l = absent-place h in inr (q, omega arith)

-- Derive says yes or no, or refuses with 4 or 5 within the table, or with 11 within the list or at its end.
pub derive-total : (table list : List ℕ) (target : ℕ) → ((b : Bool) × (derived table list target ≡ accepted b))
    ⊎ ((n : ℕ) × (at : ℕ) × (derived table list target ≡ refuse n at) × ((((n ≡ 4) ⊎ (n ≡ 5)) × (at < length table)) ⊎ ((n ≡ 11) × (at ≤ length list))))
derive-total table list target = answer-total (derived table list target) (λ n at e. derive-place ((derive-refuses table list target n at).0 e))

-- where Replay refuses
replay-place : {file trace : List ℕ} {n at : ℕ} → ReplayRefuses file trace n at → ((1 ≤ n) × (n ≤ 9) × (at ≤ length file)) ⊎ ((n ≡ 12) × (at < length trace) × (at ≤ 128))
replay-place {file} (file_refused h) = let w = open-place file h in inl (w.0, w.1, w.2)
replay-place {file} (step_refused {sc} {ms} {s} {rest} e a q l k m p) =
    let fits = trace-bytes sc (opened-guarantee file sc e) ms s a in
    let whole = ap length q ∙ length-append (trace_bytes ms) rest in
    inr (m, omega arith, omega arith)

-- Replay gives the claim broken or none, or refuses as Open, or with 12 within the trace.
pub replay-total : (file trace : List ℕ) → ((c : Option Claim) × (replayed file trace ≡ accepted c))
    ⊎ ((n : ℕ) × (at : ℕ) × (replayed file trace ≡ refuse n at) × (((1 ≤ n) × (n ≤ 9) × (at ≤ length file)) ⊎ ((n ≡ 12) × (at < length trace) × (at ≤ 128))))
replay-total file trace = answer-total (replayed file trace) (λ n at e. replay-place ((replay-refuses file trace n at).0 e))

-- a refusal of Open fits
refusal-fits : {file : List ℕ} {n at : ℕ} → OpenRefuses file n at → FitsRefusal (record { number = n; place = at })
refusal-fits {file} h = let w = open-place file h in omega arith

-- Open's answer fits.
pub open-fits : (file : List ℕ) (a : Answer Scenario) → opened file ≡ a → FitsOpen a
open-fits file (refused r) e = refusal-fits ((open-refuses file r.number r.place).0 e)
open-fits file (accepted sc) e = tt

-- Derive's answer fits, if the table and the list are shorter than 2 to the 52.
pub derive-fits : (table list : List ℕ) (target : ℕ) → length table < 4503599627370496 → length list < 4503599627370496 → (a : Answer Bool) → derived table list target ≡ a → FitsDerive a
derive-fits table list target l k (refused r) e = go (derive-place ((derive-refuses table list target r.number r.place).0 e))
  where
    go : (((r.number ≡ 4) ⊎ (r.number ≡ 5)) × (r.place < length table)) ⊎ ((r.number ≡ 11) × (r.place ≤ length list)) → FitsDerive (refused r)
    go (inl (inl n, p)) = omega arith
    go (inl (inr n, p)) = omega arith
    go (inr w) = omega arith
derive-fits table list target l k (accepted b) e = tt

-- the numbers of a broken claim fit
claim-fits : {sc : Scenario} {s : State} {c : Claim} → Guarantee sc → Breaks sc s c → FitsClaim c
claim-fits {sc} {c = c} g (breaks {k} {run} hr hp he l i t v q) =
    let a = get_elem-below sc.runs k hr in
    let b = get_elem-below (events_of sc run) c.event he in
    omega (arith, g.few_runs, events-few sc g run)

-- Replay's answer fits.
pub replay-fits : (file trace : List ℕ) (a : Answer (Option Claim)) → replayed file trace ≡ a → FitsReplay a
replay-fits file trace (refused r) e = small ((replay-refuses file trace r.number r.place).0 e)
  where
    small : {n at : ℕ} → ReplayRefuses file trace n at → FitsRefusal (record { number = n; place = at })
    small (file_refused h) = refusal-fits h
    small (step_refused {sc} {ms} {s} o a q l k m p) = let fits = trace-bytes sc (opened-guarantee file sc o) ms s a in omega arith
replay-fits file trace (accepted none) e = tt
replay-fits file trace (accepted (some c)) e =
    let w = (replay-answers file trace (some c)).0 e in
    claim-fits (opened-guarantee file w.0 w.3) ((broken-named w.0 w.2 c).0 w.6).is_broken

-- A trace that Replay follows to its end has at most 128 bytes.
pub replay-short : (file trace : List ℕ) (c : Option Claim) → replayed file trace ≡ accepted c → length trace ≤ 128
replay-short file trace c e =
    let w = (replay-answers file trace c).0 e in
    let fits = trace-bytes w.0 (opened-guarantee file w.0 w.3) w.1 w.2 w.4 in
    rw w.5 fits

-- the budget of an accepted file of bytes fits four bytes
budget-fits : (file : List ℕ) → ((b : ℕ) → Memᴰ b file → b < 256) → (sc : Scenario) → opened file ≡ accepted sc → sc.budget < 4294967296
budget-fits file bytes sc e = framed-budget bytes ((accepted-exactly file sc).0 e).2.framed

-- Search's answer on a file of bytes fits.
pub search-fits : (which : Listing) (file buffer : List ℕ) → ((b : ℕ) → Memᴰ b file → b < 256) → (a : Answer Verdict) → searched_in which file buffer ≡ a → FitsSearch a
search-fits which file buffer bytes (refused r) e = small ((search-refuses which file buffer r.number r.place).0 e)
  where
    small : {n at : ℕ} → SearchRefuses file buffer n at → FitsRefusal (record { number = n; place = at })
    small (open_refuses h) = refusal-fits h
    small (too_short o l q p) = omega arith
search-fits which file buffer bytes (accepted (broken_at place ms c)) e =
    let w = (search-broken which file buffer place ms c).0 e in
    let budget = budget-fits file bytes w.0 w.1 in
    let within = w.3.in_budget in
    let again = search-replays which file buffer place ms c e in
    let small = replay-fits file (trace_bytes ms) (accepted (some c)) again in
    (omega arith, small, omega (arith, replay-short file (trace_bytes ms) (some c) again))
search-fits which file buffer bytes (accepted (held n)) e =
    let w = (search-held which file buffer n).0 e in
    let budget = budget-fits file bytes w.0 w.1 in
    let same = budget-of file w.0 w.1 in
    let l = w.4 in
    let k = w.5 in
    omega arith
search-fits which file buffer bytes (accepted (stopped n)) e =
    let w = (search-stopped which file buffer n).0 e in
    let budget = budget-fits file bytes w.0 w.1 in
    let same = budget-of file w.0 w.1 in
    let k = w.3 in
    omega arith
