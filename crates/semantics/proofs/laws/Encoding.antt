-- The laws of what an accepted file's bytes say: they are those of its scenario, and a file of such bytes is accepted. Assumes nothing.
use Rattle.std.specs.Prelude.{ℕ, zero, suc, ◌+◌, ◌*◌, min, ◌≤◌, ◌<◌, ◌≡◌, refl, ◌↔◌, Bool, true, ◌&&◌, not, T, leb, eqb, ltb, length, get_or, take, drop}
use Rattle.std.proofs.Common.{add-zero, zero-add, le_refl, arith, sym, ap, ap₂, subst, ◌∙◌, leb→le, le→leb, eqb→eq, ltb→lt, lt→ltb, length-take, length-drop, take-append-drop, length-append, length-take-le, get_or-take, take_at, drop_at}
use Rattle.std.proofs.Math.Option.{Option, none, some, some-injective, none-ne-some}
use mathlib.Core.List.{List, [], ◌∷◌, ◌++◌, map, append_assoc, append-nil, Memᴰ}
use Rattle.std.proofs.Math.ListN.{get_elem?}
use Rattle.std.proofs.lemmas.List.{length-map}
use Rattle.std.proofs.Math.Seq.{split_at, take-length, take-append_seam, drop-append_seam, drop-append-add, get_or-append_seam}
use Rattle.semantics.specs.Basic.{unfit_from, present, provided, keep, mapped, every, present_ones, rising}
use Rattle.semantics.specs.Limits.{most_rows, most_variables, most_roles, most_runs, most_events}
use Rattle.semantics.specs.Answer.{accepted}
use Rattle.semantics.specs.Term.{agent_type, fresh_type, trusted, untrusted, global, intruder, role, variable, local, Term}
use Rattle.semantics.specs.Table.{Row, atomic, pk_of, sk_of, shared_of, pair_of, encrypted_of, single, variable_types, decode, variable_row, fits, admissible, repeated, rows_from}
use Rattle.semantics.specs.Value.{value_of, without_variables, without_run}
use Rattle.semantics.specs.Frame.{Part, unversioned, too_long, block_length, framed, misframed, budget_of, block_from, block, records_from, records, complete}
use Rattle.semantics.specs.Roles.{secrecy, EventKind, send, read, claim, event_kinds, Event, Role, event_from, events_from, knowledge_count, event_count, role_length, knowledge_in, events_in, role_in, role_records, roles_present, peer_fits, event_fits, knowledge_fits, good_role, bad_role, names_present, absent_role_from, roles_from}
use Rattle.semantics.specs.WellFormed.{well_formed, learned, event_term, role_knowledge, ill_formed_from, ill_formed}
use Rattle.semantics.specs.Runs.{Run, atom_at, is_agent, run_length, run_in, run_records, good_run, bad_run, runs_from, bad_knowledge_from}
use Rattle.semantics.specs.Scenario.{Scenario, term_part, role_part, run_part, knowledge_part, role_parts, role_count, run_parts, scenario_of, opened}
use Rattle.semantics.specs.Encoding.{Parts, Blocks, no_blocks, more_blocks, Framed, framed_as}
use Rattle.semantics.specs.Encoding.{RowBytes, trusted_bytes, untrusted_bytes, global_bytes, intruder_bytes, role_bytes, agent_variable_bytes, fresh_variable_bytes, local_bytes, public_bytes, secret_bytes, shared_bytes, pair_bytes, encrypted_bytes}
use Rattle.semantics.specs.Encoding.{TermBytes, no_rows, more_rows, KindByte, send_byte, read_byte, claim_byte, EventBytes, no_events, more_events, RoleBytes, no_roles, more_roles, RunBytes, no_runs, more_runs, Encodes}
use Rattle.semantics.specs.Guarantee.{GoodTable, HasValue, GoodRole, WellFormedEvents, no_events as formed_none, more_events as formed_more, GoodRun, Guarantee}
use Rattle.semantics.proofs.laws.Test.{all_three, four-tests, five-tests, both_left, both_right, both, both-parts, not_iff, not-not, provided-none, failed-none, provided-some, passed-gives, found-gives, first_of-gives, has_value-iff}
use Rattle.semantics.proofs.laws.List.{every-iff, mem-get_elem, mem-map, get_elem-below, get_elem-seam, get_elem-append, keep-cons, keep_append, present-all}
use Rattle.semantics.proofs.laws.Table.{repeated-at, rows_from-step, rows-good, Reads, ends, reads, rows_from-reads}
use Rattle.semantics.proofs.laws.Frame.{first_bad-none, first_bad-all}
use Rattle.semantics.proofs.laws.Open.{names_present-exactly, bad_role-present, Opened, opened-inverts, opened-guarantee}

-- a block's length by its two bytes
block-length : (high low : ℕ) (rest : List ℕ) → block_length (high ∷ low ∷ rest) ≡ high * 256 + low
block-length high low rest = omega arith

-- a block and its two bytes
two-more : (high low : ℕ) (rest : List ℕ) → 2 + block_length (high ∷ low ∷ rest) ≡ suc (suc (high * 256 + low))
two-more high low rest = omega arith

-- a framing of one block more: the block is whole, and the others stand behind it
framed-step : (n high low : ℕ) (rest : List ℕ) → T (framed (suc n) (high ∷ low ∷ rest)) ↔ ((high * 256 + low ≤ length rest) × T (framed n (drop (high * 256 + low) rest)))
unfolding framed
framed-step n high low rest = rw (two-more high low rest) (
  λ t. (let l = leb→le (suc (suc k)) (suc (suc (length rest))) (both_left fits (framed n (drop k rest)) t) in omega arith, both_right fits (framed n (drop k rest)) t),
  λ w. both fits (framed n (drop k rest)) (le→leb (suc (suc k)) (suc (suc (length rest))) (omega arith)) w.1,
)
  where
    k : ℕ
    k = high * 256 + low

    fits : Bool
    fits = leb (suc (suc k)) (suc (suc (length rest)))

-- blocks cut from framed bytes
framed-cut : (n : ℕ) (bytes : List ℕ) → T (framed n bytes) → (blocks : List (List ℕ)) × (length blocks ≡ n) × Blocks blocks bytes
unfolding framed
framed-cut zero [] t = ([], refl, no_blocks)
framed-cut zero (b ∷ bytes) t = let e = eqb→eq (suc (length bytes)) 0 t in absurd (omega arith)
framed-cut (suc n) [] t = absurd t
framed-cut (suc n) (b ∷ []) t = let l = leb→le (2 + block_length (b ∷ [])) 1 (search both-parts) in absurd (omega arith)
framed-cut (suc n) (high ∷ low ∷ rest) t =
    let s = (framed-step n high low rest).0 t in
    let k : ℕ = high * 256 + low in
    let w = framed-cut n (drop k rest) s.1 in
    (take k rest ∷ w.0, ap suc w.1, rw (take-append-drop k rest) at (more_blocks {high = high} {low = low} {block = take k rest} (sym (length-take-le k rest s.0)) w.2))

-- bytes made of blocks are framed
blocks-frame : {blocks : List (List ℕ)} {bytes : List ℕ} → Blocks blocks bytes → T (framed (length blocks) bytes)
unfolding framed
blocks-frame no_blocks = tt
blocks-frame (more_blocks {high = high} {low = low} {block = block} {blocks = blocks} {bytes = bytes} e p) =
    (framed-step (length blocks) high low (block ++ bytes)).1 (rw length-append (omega arith), rw (drop_at block bytes (high * 256 + low) (sym e)) (blocks-frame p))

-- four blocks behind a version and a budget make a framed file
framed-four : (version b₃ b₂ b₁ b₀ : ℕ) (rest : List ℕ) (blocks : List (List ℕ)) → length blocks ≡ 4 → Blocks blocks rest
    → Framed (version ∷ b₃ ∷ b₂ ∷ b₁ ∷ b₀ ∷ rest) (b₃ * 16777216 + b₂ * 65536 + b₁ * 256 + b₀) blocks
framed-four version b₃ b₂ b₁ b₀ rest [] e p = absurd (omega arith)
framed-four version b₃ b₂ b₁ b₀ rest (t ∷ []) e p = absurd (omega arith)
framed-four version b₃ b₂ b₁ b₀ rest (t ∷ r ∷ []) e p = absurd (omega arith)
framed-four version b₃ b₂ b₁ b₀ rest (t ∷ r ∷ u ∷ []) e p = absurd (omega arith)
framed-four version b₃ b₂ b₁ b₀ rest (t ∷ r ∷ u ∷ k ∷ []) e p = framed_as p
framed-four version b₃ b₂ b₁ b₀ rest (t ∷ r ∷ u ∷ k ∷ x ∷ blocks) e p = absurd (omega arith)

-- whether a file has bytes for version and budget, and four blocks behind them
abbrev has_frame : List ℕ → Bool
has_frame file = leb 5 (length file) && framed 4 (drop 5 file)

-- such a file is framed
file-frames : (file : List ℕ) → T (has_frame file) → (budget : ℕ) × (blocks : List (List ℕ)) × Framed file budget blocks
file-frames [] t = absurd t
file-frames (v ∷ []) t = absurd t
file-frames (v ∷ b₃ ∷ []) t = absurd t
file-frames (v ∷ b₃ ∷ b₂ ∷ []) t = absurd t
file-frames (v ∷ b₃ ∷ b₂ ∷ b₁ ∷ []) t = absurd t
file-frames (v ∷ b₃ ∷ b₂ ∷ b₁ ∷ b₀ ∷ rest) t =
    let w = framed-cut 4 rest (both_right (leb 5 (length (v ∷ b₃ ∷ b₂ ∷ b₁ ∷ b₀ ∷ rest))) (framed 4 rest) t) in
    (_, w.0, framed-four v b₃ b₂ b₁ b₀ rest w.0 w.1 w.2)

-- and a framed file is such
framed-file : {file : List ℕ} {budget : ℕ} {blocks : List (List ℕ)} → Framed file budget blocks → T (has_frame file)
framed-file (framed_as {rest = rest} p) = let n : ℕ = suc (suc (suc (suc (suc (length rest))))) in both (leb 5 n) (framed 4 rest) (le→leb 5 n (omega arith)) (blocks-frame p)

-- a file is not refused by its framing exactly if it is framed
pub framed-exactly : (file : List ℕ) → (misframed file ≡ none) ↔ ((budget : ℕ) × (blocks : List (List ℕ)) × Framed file budget blocks)
unfolding misframed
framed-exactly file = (
  λ e. file-frames file (not-not (has_frame file) (provided-none (not (has_frame file)) (length file) e)),
  λ w. failed-none (not (has_frame file)) (length file) (λ t. (not_iff (has_frame file)).0 t (framed-file w.2)),
)

-- and refused, at its end, exactly if it is not
pub misframed-exactly : (file : List ℕ) (at : ℕ) → (misframed file ≡ some at) ↔ ((at ≡ length file) × ((budget : ℕ) (blocks : List (List ℕ)) → ¬ Framed file budget blocks))
unfolding misframed
misframed-exactly file at = (
  λ e. let w = (provided-some (not (has_frame file))).0 e in (w.1, λ budget blocks f. (not_iff (has_frame file)).0 w.0 (framed-file f)),
  λ w. (provided-some (not (has_frame file))).1 ((not_iff (has_frame file)).1 (λ t. let f = file-frames file t in w.1 f.0 f.1 f.2), w.0),
)

-- no blocks have no bytes
no-blocks : {bytes : List ℕ} → Blocks [] bytes → length bytes ≡ 0
no-blocks no_blocks = refl

-- the block that stands first
first_block : {bytes b : List ℕ} {bs : List (List ℕ)} (at start : ℕ) → at + 2 ≡ start → Blocks (b ∷ bs) bytes → block_from 0 at bytes ≡ record { start = start; bytes = b }
unfolding block_from
first_block at start s (more_blocks {high = high} {low = low} {block = b} {bytes = rest} e p) = rw (block-length high low (b ++ rest), take_at b rest (high * 256 + low) (sym e), s) refl

-- the blocks behind the first
later-blocks : {bytes b : List ℕ} {bs : List (List ℕ)} → Blocks (b ∷ bs) bytes
    → (rest : List ℕ) × Blocks bs rest × (length bytes ≡ 2 + length b + length rest) × ((n at : ℕ) → block_from (suc n) at bytes ≡ block_from n (at + (2 + length b)) rest)
unfolding block_from
later-blocks (more_blocks {high = high} {low = low} {block = b} {bytes = rest} e p) = (
  rest,
  p,
  rw length-append (omega arith),
  λ n at. rw (two-more high low (b ++ rest), e, drop-append_seam b rest) (ap (λ k. block_from n (at + k) rest) (omega arith)),
)

-- the parts of a framed file are its budget and its blocks
pub framed-parts : {file : List ℕ} {budget : ℕ} {t r u k : List ℕ} → Framed file budget (t ∷ r ∷ u ∷ k ∷ []) → Parts file budget t r u k
unfolding budget_of block
framed-parts (framed_as {terms = t} {roles = r} {runs = u} p) =
    let q = later-blocks p in
    let s = later-blocks q.1 in
    let v = later-blocks s.1 in
    let w = later-blocks v.1 in
    let z = no-blocks w.1 in
    record {
      of_budget = omega arith;
      of_terms = first_block 5 7 refl p;
      of_roles = q.3 0 5 ∙ first_block (5 + (2 + length t)) (9 + length t) (omega arith) q.1;
      of_runs = q.3 1 5 ∙ s.3 0 _ ∙ first_block (5 + (2 + length t) + (2 + length r)) (11 + length t + length r) (omega arith) s.1;
      of_knowledge = q.3 2 5 ∙ s.3 1 _ ∙ v.3 0 _ ∙ first_block (5 + (2 + length t) + (2 + length r) + (2 + length u)) (13 + length t + length r + length u) (omega arith) v.1;
      long = omega arith;
    }

-- the budget of a file of bytes fits four bytes
pub framed-budget : {file : List ℕ} {budget : ℕ} {blocks : List (List ℕ)} → ((b : ℕ) → Memᴰ b file → b < 256) → Framed file budget blocks → budget < 4294967296
framed-budget h (framed_as {b₃ = b₃} {b₂ = b₂} {b₁ = b₁} {b₀ = b₀} p) =
    let l₃ = h b₃ (Memᴰ.tail (Memᴰ.head refl)) in
    let l₂ = h b₂ (Memᴰ.tail (Memᴰ.tail (Memᴰ.head refl))) in
    let l₁ = h b₁ (Memᴰ.tail (Memᴰ.tail (Memᴰ.tail (Memᴰ.head refl)))) in
    let l₀ = h b₀ (Memᴰ.tail (Memᴰ.tail (Memᴰ.tail (Memᴰ.tail (Memᴰ.head refl))))) in
    omega arith

-- a kind whose right byte is 0
single-bytes : {kind : ℕ} (make : ℕ → Row) (left right : ℕ) {row : Row} → ((n : ℕ) → RowBytes kind n 0 (make n)) → single make left right ≡ some row → RowBytes kind left right row
single-bytes make left right each e = let w = (provided-some (eqb right 0)).0 e in rw (eqb→eq right 0 w.0, w.1) (each left)

-- a role's row
role-bytes : (left right : ℕ) {row : Row} → provided (ltb left most_roles && eqb right 0) (atomic (role left)) ≡ some row → RowBytes 5 left right row
role-bytes left right e =
    let w = (provided-some (ltb left most_roles && eqb right 0)).0 e in
    let t = w.0 in
    rw (eqb→eq right 0 (search both-parts), w.1) (role_bytes (ltb→lt left most_roles (search both-parts)))

-- a variable's row
variable-bytes : (left right : ℕ) {row : Row} → mapped (λ type. atomic (variable left type)) (get_elem? variable_types right) ≡ some row → RowBytes 6 left right row
variable-bytes left zero {row} e = rw (← some-injective (atomic (variable left agent_type)) row e) agent_variable_bytes
variable-bytes left (suc zero) {row} e = rw (← some-injective (atomic (variable left fresh_type)) row e) fresh_variable_bytes
variable-bytes left (suc (suc right)) {row} e = absurd (none-ne-some row e)

-- a decoded row has its three bytes in the table of kinds
decoded-bytes : (kind left right : ℕ) (row : Row) → decode kind left right ≡ some row → RowBytes kind left right row
unfolding decode
decoded-bytes zero left right row e = absurd (none-ne-some row e)
decoded-bytes (suc zero) left right row e = single-bytes (λ n. atomic (trusted n)) left right (λ n. trusted_bytes) e
decoded-bytes (suc (suc zero)) left right row e = single-bytes (λ n. atomic (untrusted n)) left right (λ n. untrusted_bytes) e
decoded-bytes (suc (suc (suc zero))) left right row e = single-bytes (λ n. atomic (global n)) left right (λ n. global_bytes) e
decoded-bytes (suc (suc (suc (suc zero)))) left right row e = single-bytes (λ n. atomic (intruder n)) left right (λ n. intruder_bytes) e
decoded-bytes (suc (suc (suc (suc (suc zero))))) left right row e = role-bytes left right e
decoded-bytes (suc (suc (suc (suc (suc (suc zero)))))) left right row e = variable-bytes left right e
decoded-bytes (suc (suc (suc (suc (suc (suc (suc zero))))))) left right row e = single-bytes (λ n. atomic (local n 0)) left right (λ n. local_bytes) e
decoded-bytes (suc (suc (suc (suc (suc (suc (suc (suc zero)))))))) left right row e = single-bytes pk_of left right (λ n. public_bytes) e
decoded-bytes (suc (suc (suc (suc (suc (suc (suc (suc (suc zero))))))))) left right row e = single-bytes sk_of left right (λ n. secret_bytes) e
decoded-bytes (suc (suc (suc (suc (suc (suc (suc (suc (suc (suc zero)))))))))) left right row e = rw (← some-injective (shared_of left right) row e) shared_bytes
decoded-bytes (suc (suc (suc (suc (suc (suc (suc (suc (suc (suc (suc zero))))))))))) left right row e = rw (← some-injective (pair_of left right) row e) pair_bytes
decoded-bytes (suc (suc (suc (suc (suc (suc (suc (suc (suc (suc (suc (suc zero)))))))))))) left right row e = rw (← some-injective (encrypted_of left right) row e) encrypted_bytes
decoded-bytes (suc (suc (suc (suc (suc (suc (suc (suc (suc (suc (suc (suc (suc kind))))))))))))) left right row e = absurd (none-ne-some row e)

-- bytes in the table of kinds are decoded
bytes-decoded : {kind left right : ℕ} {row : Row} → RowBytes kind left right row → decode kind left right ≡ some row
unfolding decode
bytes-decoded trusted_bytes = refl
bytes-decoded untrusted_bytes = refl
bytes-decoded global_bytes = refl
bytes-decoded intruder_bytes = refl
bytes-decoded (role_bytes {i} l) = (provided-some (ltb i most_roles && eqb 0 0)).1 (both (ltb i most_roles) true (lt→ltb i most_roles l) tt, refl)
bytes-decoded agent_variable_bytes = refl
bytes-decoded fresh_variable_bytes = refl
bytes-decoded local_bytes = refl
bytes-decoded public_bytes = refl
bytes-decoded secret_bytes = refl
bytes-decoded shared_bytes = refl
bytes-decoded pair_bytes = refl
bytes-decoded encrypted_bytes = refl

-- three bytes are a row's exactly as the table of kinds says
pub decode-exactly : (kind left right : ℕ) (row : Row) → (decode kind left right ≡ some row) ↔ RowBytes kind left right row
decode-exactly kind left right row = (decoded-bytes kind left right row, bytes-decoded)

-- rows read from bytes are those of the bytes, after those already read
reads-after : {below rows : List Row} {bytes : List ℕ} → Reads below bytes rows → (new : List Row) × (rows ≡ below ++ new) × TermBytes new bytes
reads-after (ends {below}) = ([], sym (append-nil below), no_rows)
reads-after (reads {below = below} {kind = kind} {left = left} {right = right} {row = row} d a n r) =
    let w = reads-after r in (row ∷ w.0, w.1 ∙ append_assoc below (row ∷ []) w.0, more_rows (decoded-bytes kind left right row d) w.2)

-- rows read from a block are those of its bytes
pub reads-terms : {bytes : List ℕ} {rows : List Row} → Reads [] bytes rows → TermBytes rows bytes
reads-terms r = let w = reads-after r in rw w.1 w.2

-- the kind of an event by its byte
kind-exactly : (byte : ℕ) (kind : EventKind) → (get_elem? event_kinds byte ≡ some kind) ↔ KindByte kind byte
kind-exactly byte kind = (of-byte byte kind, to-byte)
  where
    of-byte : (byte : ℕ) (kind : EventKind) → get_elem? event_kinds byte ≡ some kind → KindByte kind byte
    of-byte zero kind e = rw (← some-injective send kind e) send_byte
    of-byte (suc zero) kind e = rw (← some-injective read kind e) read_byte
    of-byte (suc (suc zero)) kind e = rw (← some-injective (claim secrecy) kind e) claim_byte
    of-byte (suc (suc (suc byte))) kind e = absurd (none-ne-some kind e)

    to-byte : {byte : ℕ} {kind : EventKind} → KindByte kind byte → get_elem? event_kinds byte ≡ some kind
    to-byte send_byte = refl
    to-byte read_byte = refl
    to-byte claim_byte = refl

-- the bytes of so many events, each of a kind
events-bytes : (n at : ℕ) (bytes : List ℕ) → length bytes ≡ 4 * n → T (every present (events_from at bytes))
    → EventBytes at (present_ones (events_from at bytes)) bytes × (length (present_ones (events_from at bytes)) ≡ n)
unfolding events_from
events-bytes zero at [] l t = (no_events, refl)
events-bytes zero at (b ∷ bytes) l t = absurd (omega arith)
events-bytes (suc n) at [] l t = absurd (omega arith)
events-bytes (suc n) at (kind ∷ []) l t = absurd (omega arith)
events-bytes (suc n) at (kind ∷ label ∷ []) l t = absurd (omega arith)
events-bytes (suc n) at (kind ∷ label ∷ peer ∷ []) l t = absurd (omega arith)
events-bytes (suc n) at (kind ∷ label ∷ peer ∷ row ∷ bytes) l t = go (get_elem? event_kinds kind) refl t (events-bytes n (at + 4) bytes (omega arith))
  where
    es : List (Option Event)
    es = events_from (at + 4) bytes

    go : (o : Option EventKind) → get_elem? event_kinds kind ≡ o → T (every present (event_from o peer row at ∷ es))
        → (T (every present es) → EventBytes (at + 4) (present_ones es) bytes × (length (present_ones es) ≡ n))
        → EventBytes at (present_ones (event_from o peer row at ∷ es)) (kind ∷ label ∷ peer ∷ row ∷ bytes) × (length (present_ones (event_from o peer row at ∷ es)) ≡ suc n)
    go none e t rest = absurd t
    go (some k) e t rest = let w = rest t in (more_events ((kind-exactly kind k).0 e) refl w.0, ap suc w.1)

-- the bytes of a role record: its counts, its knowledge and what follows
abbrev role_shape : List ℕ → ℕ → List ℕ → List ℕ
role_shape known n events = length known ∷ (known ++ (n ∷ events))

-- its count of events
shape-count : (known : List ℕ) (n : ℕ) (events : List ℕ) → event_count (role_shape known n events) ≡ n
shape-count known n events = let s : 1 + length known ≡ suc (length known) = omega arith in rw s (get_or-append_seam known n events 0)

-- its length by its counts
shape-length : (known : List ℕ) (n : ℕ) (events : List ℕ) → role_length (role_shape known n events) ≡ 2 + length known + 4 * n
shape-length known n events = ap (λ e. 2 + length known + 4 * e) (shape-count known n events)

-- bytes behind it
shape-append : (known : List ℕ) (n : ℕ) (events rest : List ℕ) → role_shape known n events ++ rest ≡ role_shape known n (events ++ rest)
shape-append known n events rest = ap (λ bytes. length known ∷ bytes) (append_assoc known (n ∷ events) rest)

-- it is as long as its counts say if its events are
shape-whole : (known : List ℕ) (n : ℕ) (events rest : List ℕ) → length events ≡ 4 * n → length (role_shape known n events) ≡ role_length (role_shape known n (events ++ rest))
shape-whole known n events rest l = rw (shape-length known n (events ++ rest), length-append known (n ∷ events)) (omega arith)

-- the record cut from bytes that begin with it
shape-taken : (known : List ℕ) (n : ℕ) (events rest : List ℕ) → length events ≡ 4 * n
    → take (role_length (role_shape known n (events ++ rest))) (role_shape known n (events ++ rest)) ≡ role_shape known n events
shape-taken known n events rest l =
    ap (take (role_length (role_shape known n (events ++ rest)))) (sym (shape-append known n events rest))
    ∙ take_at (role_shape known n events) rest (role_length (role_shape known n (events ++ rest))) (shape-whole known n events rest l)

-- and the bytes behind it
shape-dropped : (known : List ℕ) (n : ℕ) (events rest : List ℕ) → length events ≡ 4 * n
    → drop (role_length (role_shape known n (events ++ rest))) (role_shape known n (events ++ rest)) ≡ rest
shape-dropped known n events rest l =
    ap (drop (role_length (role_shape known n (events ++ rest)))) (sym (shape-append known n events rest))
    ∙ drop_at (role_shape known n events) rest (role_length (role_shape known n (events ++ rest))) (shape-whole known n events rest l)

-- its knowledge
shape-knowledge : (known : List ℕ) (n : ℕ) (events : List ℕ) → knowledge_in (role_shape known n events) ≡ known
unfolding knowledge_in
shape-knowledge known n events = take-append_seam known (n ∷ events)

-- the bytes of its events
shape_behind : (known : List ℕ) (n : ℕ) (events : List ℕ) → length events ≡ 4 * n
    → take (4 * event_count (role_shape known n events)) (drop (2 + length known) (role_shape known n events)) ≡ events
shape_behind known n events l =
    let s : 2 + length known ≡ suc (length known + 1) = omega arith in
    rw (shape-count known n events, s, drop-append-add known (n ∷ events) 1, ← l) (take-length events)

-- its events
shape-events : (at : ℕ) (known : List ℕ) (n : ℕ) (events : List ℕ) → length events ≡ 4 * n
    → events_in (record { start = at; bytes = role_shape known n events }) ≡ events_from (at + (2 + length known)) events
unfolding events_in
shape-events at known n events l = ap (events_from (at + (2 + length known))) (shape_behind known n events l)

-- the role
shape-role : (at : ℕ) (known : List ℕ) (n : ℕ) (events : List ℕ) → length events ≡ 4 * n
    → role_in (record { start = at; bytes = role_shape known n events }) ≡ record { knowledge = known; events = present_ones (events_from (at + (2 + length known)) events) }
unfolding role_in
shape-role at known n events l = rw (shape-knowledge known n events, shape-events at known n events l) refl

-- the bytes of a role before those of others
role-before : (at : ℕ) (known : List ℕ) (n : ℕ) (events rest : List ℕ) (rs : List Role) → length events ≡ 4 * n → T (every present (events_from (at + (2 + length known)) events))
    → RoleBytes (at + (2 + length known + 4 * n)) rs rest
    → RoleBytes at (record { knowledge = known; events = present_ones (events_from (at + (2 + length known)) events) } ∷ rs) (role_shape known n (events ++ rest))
role-before at known n events rest rs l t p =
    let w = events-bytes n (at + (2 + length known)) events l t in
    let r : Role = record { knowledge = known; events = present_ones (events_from (at + (2 + length known)) events) } in
    rw w.1 at (more_roles {r = r} w.0 (rw (sym w.1) at p))

-- a record cut from bytes behind its counts says the length that they say
length_taken : (k : ℕ) (bytes : List ℕ) → 1 + knowledge_count bytes < k → role_length (take k bytes) ≡ role_length bytes
length_taken k bytes l = rw (get_or-take k bytes 0 0 (omega arith), get_or-take k bytes (1 + knowledge_count bytes) 0 l) refl

-- a complete record is cut from bytes that are as long as they say
complete-whole : (bytes : List ℕ) → T (leb (role_length (take (role_length bytes) bytes)) (length (take (role_length bytes) bytes))) → role_length bytes ≤ length bytes
complete-whole bytes t =
    let k : ℕ = role_length bytes in
    let l = leb→le (role_length (take k bytes)) (length (take k bytes)) t in
    let e = length_taken k bytes (omega arith) in
    let f = length-take k bytes in
    omega arith

-- bytes that are as long as they say begin with a role record
cut-role : (b : ℕ) (bytes : List ℕ) → role_length (b ∷ bytes) ≤ length (b ∷ bytes)
    → (known : List ℕ) × (n : ℕ) × (events : List ℕ) × (rest : List ℕ) × (b ∷ bytes ≡ role_shape known n (events ++ rest)) × (length events ≡ 4 * n)
cut-role b bytes l = (
  take b bytes,
  e,
  take (4 * e) behind,
  drop (4 * e) behind,
  rw (length-take-le b bytes (omega arith), take-append-drop (4 * e) behind) (ap (λ bs. b ∷ bs) (split_at bytes b 0 (omega arith))),
  length-take-le (4 * e) behind (rw length-drop (omega (arith, fits))),
)
  where
    e : ℕ
    e = get_or bytes b 0

    behind : List ℕ
    behind = drop (suc b) bytes

    fits : 2 + b + 4 * e ≤ suc (length bytes)
    fits = let s : 1 + b ≡ suc b = omega arith in rw s at l

-- a role record cut from bytes, before the records behind it
role-cut : (at : ℕ) (bytes known : List ℕ) (n : ℕ) (events rest : List ℕ) (rs : List Role) → bytes ≡ role_shape known n (events ++ rest) → length events ≡ 4 * n
    → T (every present (events_in (record { start = at; bytes = take (role_length bytes) bytes }))) → RoleBytes (at + role_length bytes) rs (drop (role_length bytes) bytes)
    → RoleBytes at (role_in (record { start = at; bytes = take (role_length bytes) bytes }) ∷ rs) bytes
role-cut at bytes known n events rest rs e l t p =
    let t' = rw (e, shape-taken known n events rest l, shape-events at known n events l) at t in
    let p' = rw (e, shape-dropped known n events rest l, shape-length known n (events ++ rest)) at p in
    rw (e, shape-taken known n events rest l, shape-role at known n events l) (role-before at known n events rest rs l t' p')

-- a record that is complete, with all its events of a kind
abbrev Whole : Part → Type 0
Whole part = T (complete role_length part) × T (every present (events_in part))

-- the roles of records that are whole
whole-roles : (n at : ℕ) (bytes : List ℕ) → length bytes ≤ n → ((part : Part) → Memᴰ part (records_from role_length n at bytes) → Whole part)
    → RoleBytes at (map role_in (records_from role_length n at bytes)) bytes
unfolding records_from
whole-roles zero at [] l h = no_roles
whole-roles zero at (b ∷ bytes) l h = absurd (omega arith)
whole-roles (suc n) at [] l h = no_roles
whole-roles (suc n) at (b ∷ bytes) l h =
    let k : ℕ = role_length (b ∷ bytes) in
    let f = h (record { start = at; bytes = take k (b ∷ bytes) }) (Memᴰ.head refl) in
    let w = cut-role b bytes (complete-whole (b ∷ bytes) f.0) in
    role-cut at (b ∷ bytes) w.0 w.1 w.2 w.3 (map role_in (records_from role_length n (at + k) (drop k (b ∷ bytes)))) w.4 w.5 f.1
    (whole-roles n (at + k) (drop k (b ∷ bytes)) (let e = length-drop k (b ∷ bytes) in omega arith) (λ part m. h part (Memᴰ.tail m)))

-- a block of role records that are all complete, with all events of a kind, is the bytes of its roles
pub roles-encoded : (part : Part) → ((p : Part) → Memᴰ p (records role_length part) → T (complete role_length p) × T (every present (events_in p)))
    → RoleBytes part.start (map role_in (records role_length part)) part.bytes
unfolding records
roles-encoded part h = whole-roles (length part.bytes) part.start part.bytes (le_refl (length part.bytes)) h

-- the runs of records that are complete
complete-runs : (roles n at : ℕ) (bytes : List ℕ) → length bytes ≤ n → ((part : Part) → Memᴰ part (records_from (run_length roles) n at bytes) → T (complete (run_length roles) part))
    → RunBytes roles (map run_in (records_from (run_length roles) n at bytes)) bytes
unfolding records_from run_in
complete-runs roles zero at [] l h = no_runs
complete-runs roles zero at (b ∷ bytes) l h = absurd (omega arith)
complete-runs roles (suc n) at [] l h = no_runs
complete-runs roles (suc n) at (b ∷ bytes) l h =
    let c = leb→le (suc roles) (suc (length (take roles bytes))) (h (record { start = at; bytes = b ∷ take roles bytes }) (Memᴰ.head refl)) in
    let e = length-take roles bytes in
    let d = length-drop roles bytes in
    let all : length (take roles bytes) ≡ roles = omega arith in
    let run : Run = record { role = b; agents = take roles bytes } in
    let rest = complete-runs roles n (at + suc roles) (drop roles bytes) (omega arith) (λ part m. h part (Memᴰ.tail m)) in
    rw (take-append-drop roles bytes) at (more_runs {run = run} all rest)

-- a block of run records that are all complete is the bytes of its runs
pub runs-encoded : (roles : ℕ) (part : Part) → ((p : Part) → Memᴰ p (records (run_length roles) part) → T (complete (run_length roles) p))
    → RunBytes roles (map run_in (records (run_length roles) part)) part.bytes
unfolding records
runs-encoded roles part h = complete-runs roles (length part.bytes) part.start part.bytes (le_refl (length part.bytes)) h

-- the four blocks of a framed file
four-blocks : {file : List ℕ} {budget : ℕ} {blocks : List (List ℕ)} → Framed file budget blocks → (t : List ℕ) × (r : List ℕ) × (u : List ℕ) × (k : List ℕ) × Framed file budget (t ∷ r ∷ u ∷ k ∷ [])
four-blocks (framed_as {terms = t} {roles = r} {runs = u} {knowledge = k} p) = (t, r, u, k, framed_as p)

-- a file that its framing does not refuse is framed by its parts
framed-by : (file : List ℕ) → misframed file ≡ none
    → Framed file (budget_of file) ((term_part file).bytes ∷ (role_part file).bytes ∷ (run_part file).bytes ∷ (knowledge_part file).bytes ∷ [])
framed-by file e =
    let f = four-blocks ((framed-exactly file).0 e).2 in
    let p = framed-parts f.4 in
    rw (p.of_budget, p.of_terms, p.of_roles, p.of_runs, p.of_knowledge) f.4

-- an event that fits is of a kind
fits-present : (rows : List Row) (roles : ℕ) (o : Option Event) → T (event_fits rows roles o) → T (present o)
fits-present rows roles none t = t
fits-present rows roles (some e) t = tt

-- a role record that is not refused is whole
good-whole : (rows : List Row) (roles i : ℕ) (part : Part) → T (good_role rows roles i part) → Whole part
unfolding good_role
good-whole rows roles i part t = (
  search both-parts,
  (every-iff present (events_in part)).1 (λ o m. fits-present rows roles o ((every-iff (event_fits rows roles) (events_in part)).0 (search both-parts) o m)),
)

-- where no role record is refused, each is whole
bad_role-whole : (rows : List Row) (parts : List Part) → bad_role rows parts ≡ none → (part : Part) → Memᴰ part parts → Whole part
unfolding bad_role
bad_role-whole rows parts e part m =
    let w = (mem-get_elem parts).0 m in good-whole rows (roles_present parts) (0 + w.0) part (first_bad-none (good_role rows (roles_present parts)) 0 parts e w.0 part w.1)

-- where no run record is refused, each is complete
bad_run-complete : (rows : List Row) (roles : ℕ) (parts : List Part) → bad_run rows roles parts ≡ none → (part : Part) → Memᴰ part parts → T (complete (run_length roles) part)
unfolding bad_run good_run
bad_run-complete rows roles parts e part m =
    let w = (mem-get_elem parts).0 m in
    let t = first_bad-none (good_run rows roles) 0 parts e w.0 part w.1 in
    search both-parts

-- the bytes of a file that no condition of Open refuses are those of its scenario
scenario-encodes : (file : List ℕ) (sc : Scenario) (o : Opened file sc) → Encodes file (scenario_of file o.rows)
unfolding scenario_of roles_from runs_from role_records run_records
scenario-encodes file sc o =
    let f = framed-by file o.framed in
    let p = framed-parts f in
    let all : length (map role_in (role_parts file)) ≡ role_count file = length-map (role_parts file) role_in ∙ sym (bad_role-present o.rows (role_parts file) o.roles) in
    record {
      terms = (term_part file).bytes;
      roles = (role_part file).bytes;
      runs = (run_part file).bytes;
      framed = f;
      of_rows = reads-terms (rows_from-reads (term_part file).start [] (term_part file).bytes o.rows o.table);
      of_roles = subst (λ at. RoleBytes at (map role_in (role_parts file)) (role_part file).bytes) (ap (λ part. part.start) p.of_roles) (roles-encoded (role_part file) (bad_role-whole o.rows (role_parts file) o.roles));
      of_runs = rw all (runs-encoded (role_count file) (run_part file) (bad_run-complete o.rows (role_count file) (run_parts file) o.runs));
    }

-- the bytes of an accepted file are those of its scenario
pub accepted-encodes : (file : List ℕ) (sc : Scenario) → opened file ≡ accepted sc → Encodes file sc
accepted-encodes file sc e = let o = opened-inverts file sc e in rw o.scenario (scenario-encodes file sc o)

-- a row of a good table may follow those below it
good-admissible : (below : List Row) (row : Row) (new : List Row) → GoodTable (below ++ row ∷ new) → T (admissible below row)
unfolding admissible
good-admissible below row new g =
    let f = g.few in
    let v = g.few_variables in
    let e = length-append below (row ∷ new) in
    let a = keep_append variable_row below (row ∷ new) in
    let b = keep-cons variable_row row new in
    let c = keep_append variable_row below (row ∷ []) in
    (all_three (ltb (length below) most_rows) (leb (length (keep variable_row (below ++ row ∷ []))) most_variables) (fits below row)).1 (
      lt→ltb (length below) most_rows (omega arith),
      le→leb (length (keep variable_row (below ++ row ∷ []))) most_variables (omega arith),
      rw (take-append_seam below (row ∷ new)) at (g.fitting (length below) row (get_elem-seam below row new)),
    )

-- and is none of them
good-unrepeated : (below : List Row) (row : Row) (new : List Row) → GoodTable (below ++ row ∷ new) → ¬ T (repeated below row)
good-unrepeated below row new g t =
    let w = (repeated-at below row).0 t in
    let l = get_elem-below below w.0 w.1 in
    let s = g.distinct w.0 (length below) row (get_elem-append below (row ∷ new) w.0 w.1) (get_elem-seam below row new) in
    omega arith

-- the bytes of the rows of a good table, after those below, are accepted
terms-accepted : (at : ℕ) (below : List Row) {new : List Row} {bytes : List ℕ} → TermBytes new bytes → GoodTable (below ++ new) → rows_from at below bytes ≡ accepted (below ++ new)
unfolding rows_from
terms-accepted at below no_rows g = ap accepted (sym (append-nil below))
terms-accepted at below (more_rows {kind = kind} {left = left} {right = right} {row = row} {rows = new} {bytes = bytes} d p) g =
    let e : decode kind left right ≡ some row = bytes-decoded d in
    let s : (below ++ row ∷ []) ++ new ≡ below ++ row ∷ new = append_assoc below (row ∷ []) new in
    rows_from-step at below kind left right bytes row e (good-admissible below row new g) (good-unrepeated below row new g)
    ∙ rw s at (terms-accepted (at + 3) (below ++ row ∷ []) p (rw s g))

-- the bytes of an event are read as that event
event-read : (kind at : ℕ) (e : Event) → KindByte e.kind kind → e.place ≡ at → event_from (get_elem? event_kinds kind) e.peer e.row at ≡ some e
event-read kind at e k f = rw ((kind-exactly kind e.kind).1 k, ← f) refl

-- the bytes of events are read as those events
events-read : {at : ℕ} {es : List Event} {bytes : List ℕ} → EventBytes at es bytes → (events_from at bytes ≡ map some es) × (length bytes ≡ 4 * length es)
unfolding events_from
events-read no_events = (refl, refl)
events-read (more_events {at = at} {kind = kind} {e = e} k f p) = let w = events-read p in (ap₂ (λ x xs. x ∷ xs) (event-read kind at e k f) w.0, omega arith)

-- What the record of a role is, as the conditions on it see it.
record Written (part : Part) (r : Role) : Type 0 where
  is_role : role_in part ≡ r
  whole : T (complete role_length part)
  counted : event_count part.bytes ≡ length r.events
  knows : knowledge_in part.bytes ≡ r.knowledge
  listed : events_in part ≡ map some r.events

-- the bytes of a role are its record
role-written : (at : ℕ) (r : Role) (events : List ℕ) → EventBytes (at + (2 + length r.knowledge)) r.events events
    → Written (record { start = at; bytes = role_shape r.knowledge (length r.events) events }) r
role-written at r events p =
    let n : ℕ = length r.events in
    let bytes : List ℕ = role_shape r.knowledge n events in
    let w = events-read p in
    let a = shape-length r.knowledge n events in
    let b = length-append r.knowledge (n ∷ events) in
    record {
      is_role = shape-role at r.knowledge n events w.1 ∙ ap (λ es. record { knowledge = r.knowledge; events = es }) (ap present_ones w.0 ∙ present-all r.events);
      whole = le→leb (role_length bytes) (length bytes) (omega arith);
      counted = shape-count r.knowledge n events;
      knows = shape-knowledge r.knowledge n events;
      listed = shape-events at r.knowledge n events w.1 ∙ w.0;
    }

-- Two lists whose elements stand in a relation, place by place.
data Matched {A B : Type 0} (R : A → B → Type 0) : List A → List B → Type 0 where
  no_matched : Matched R [] []
  more_matched : {x : A} {y : B} {xs : List A} {ys : List B} → R x y → Matched R xs ys → Matched R (x ∷ xs) (y ∷ ys)

module _ {A B : Type 0} {R : A → B → Type 0} where
  -- they are as long
  matched-length : {xs : List A} {ys : List B} → Matched R xs ys → length xs ≡ length ys
  matched-length no_matched = refl
  matched-length (more_matched r m) = ap suc (matched-length m)

  -- an element of the one stands in the relation to that at the same place of the other
  matched-at : {xs : List A} {ys : List B} → Matched R xs ys → (k : ℕ) {x : A} → get_elem? xs k ≡ some x → (y : B) × (get_elem? ys k ≡ some y) × R x y
  matched-at no_matched k {x} e = absurd (none-ne-some x e)
  matched-at (more_matched {x = a} {y = b} r m) zero {x} e = (b, refl, rw (some-injective a x e) at r)
  matched-at (more_matched r m) (suc k) e = matched-at m k e

  -- where the relation is that of a function, the one is the other's image
  matched-map : {f : A → B} → ((x : A) (y : B) → R x y → f x ≡ y) → {xs : List A} {ys : List B} → Matched R xs ys → map f xs ≡ ys
  matched-map h no_matched = refl
  matched-map h (more_matched {x = x} {y = y} r m) = ap₂ (λ z zs. z ∷ zs) (h x y r) (matched-map h m)

-- the first record of bytes that begin with a role
first-record : (n at : ℕ) (known : List ℕ) (m : ℕ) (events rest : List ℕ) → length events ≡ 4 * m
    → records_from role_length (suc n) at (role_shape known m (events ++ rest))
    ≡ record { start = at; bytes = role_shape known m events } ∷ records_from role_length n (at + (2 + length known + 4 * m)) rest
unfolding records_from
first-record n at known m events rest l = rw (shape-taken known m events rest l, shape-dropped known m events rest l, shape-length known m (events ++ rest)) refl

-- the bytes of roles are cut into their records
roles-read : {at : ℕ} {rs : List Role} {bytes : List ℕ} (n : ℕ) → length bytes ≤ n → RoleBytes at rs bytes → Matched Written (records_from role_length n at bytes) rs
unfolding records_from
roles-read {at = at} zero l no_roles = no_matched
roles-read {at = at} (suc n) l no_roles = no_matched
roles-read {at = at} zero l (more_roles e p) = absurd (omega arith)
roles-read {at = at} (suc n) l (more_roles {r = r} {events = events} {bytes = rest} e p) =
    let a = length-append r.knowledge (length r.events ∷ (events ++ rest)) in
    let b = length-append events rest in
    rw (first-record n at r.knowledge (length r.events) events rest (events-read e).1) (more_matched (role-written at r events e) (roles-read {at = at + (2 + length r.knowledge + 4 * length r.events)} n (omega arith) p))

-- the knowledge of a good role fits
knowledge-fits : (rows : List Row) (known : List ℕ) → T (rising known) → ((x : ℕ) → Memᴰ x known → HasValue without_variables rows x) → T (knowledge_fits rows known)
unfolding knowledge_fits
knowledge-fits rows known t h =
    both (rising known) (every (λ r. present (value_of without_variables rows r)) known) t
    ((every-iff (λ r. present (value_of without_variables rows r)) known).1 (λ x m. (has_value-iff (value_of without_variables rows x)).1 (h x m)))

-- events of a good role fit
events-fit : (rows : List Row) (roles : ℕ) (es : List Event) → ((e : Event) → Memᴰ e es → T (peer_fits roles e.kind e.peer))
    → ((e : Event) → Memᴰ e es → e.row < length rows) → T (every (event_fits rows roles) (map some es))
events-fit rows roles es p q = (every-iff (event_fits rows roles) (map some es)).1 (λ o m. let w = (mem-map some es).0 m in rw w.2 (fit w.0 w.1))
  where
    fit : (e : Event) → Memᴰ e es → T (event_fits rows roles (some e))
    fit e m = both (peer_fits roles e.kind e.peer) (ltb e.row (length rows)) (p e m) (lt→ltb e.row (length rows) (q e m))

-- a record that is that of a good role is good
written-good : (rows : List Row) (roles i : ℕ) (part : Part) (r : Role) → Written part r → i < most_roles → GoodRole rows roles r → T (good_role rows roles i part)
unfolding good_role
written-good rows roles i part r w l g =
    five-tests (complete role_length part) (ltb i most_roles) (leb (event_count part.bytes) most_events) (knowledge_fits rows (knowledge_in part.bytes)) (every (event_fits rows roles) (events_in part))
    w.whole
    (lt→ltb i most_roles l)
    (rw w.counted (le→leb (length r.events) most_events g.few_events))
    (rw w.knows (knowledge-fits rows r.knowledge g.rises g.knows))
    (rw w.listed (events-fit rows roles r.events g.peers g.present))

-- no role record is refused where they are those of good roles
written-roles : (rows : List Row) (parts : List Part) (rs : List Role) → Matched Written parts rs → length rs ≤ most_roles
    → ((r : Role) → Memᴰ r rs → GoodRole rows (length rs) r) → bad_role rows parts ≡ none
unfolding bad_role roles_present
written-roles rows parts rs m l h = rw present (first_bad-all (good_role rows (length rs)) 0 parts good)
  where
    present : min most_roles (length parts) ≡ length rs
    present = let e = matched-length m in omega arith

    good : (k : ℕ) (part : Part) → get_elem? parts k ≡ some part → T (good_role rows (length rs) (0 + k) part)
    good k part e =
        let w = matched-at m k e in
        let b = get_elem-below rs k w.1 in
        written-good rows (length rs) (0 + k) part w.0 w.2 (omega arith) (h w.0 ((mem-get_elem rs).1 (k, w.1)))

-- What the record of a run is, as the conditions on it see it.
record WrittenRun (roles : ℕ) (part : Part) (run : Run) : Type 0 where
  is_run : run_in part ≡ run
  whole : T (complete (run_length roles) part)

-- the bytes of a run are its record
run-written : (roles at : ℕ) (run : Run) → length run.agents ≡ roles → WrittenRun roles (record { start = at; bytes = run.role ∷ run.agents }) run
unfolding run_in
run-written roles at run e = record { is_run = refl; whole = le→leb (suc roles) (suc (length run.agents)) (omega arith) }

-- the bytes of runs are cut into their records
runs-read : {roles : ℕ} {runs : List Run} {bytes : List ℕ} (n at : ℕ) → length bytes ≤ n → RunBytes roles runs bytes → Matched (WrittenRun roles) (records_from (run_length roles) n at bytes) runs
unfolding records_from
runs-read zero at l no_runs = no_matched
runs-read (suc n) at l no_runs = no_matched
runs-read zero at l (more_runs e p) = absurd (omega arith)
runs-read {roles} (suc n) at l (more_runs {run = run} {bytes = rest} e p) =
    let a = length-append run.agents rest in
    rw (take_at run.agents rest roles e, drop_at run.agents rest roles e) (more_matched (run-written roles at run e) (runs-read n (at + suc roles) (omega arith) p))

-- a record that is that of a good run is good
written-good-run : (rows : List Row) (roles i : ℕ) (part : Part) (run : Run) → WrittenRun roles part run → i < most_runs → GoodRun rows roles run → T (good_run rows roles i part)
unfolding good_run
written-good-run rows roles i part run w l g =
    four-tests (complete (run_length roles) part) (ltb i most_runs) (ltb (run_in part).role roles) (every (λ r. is_agent (atom_at rows r)) (run_in part).agents)
    w.whole
    (lt→ltb i most_runs l)
    (rw w.is_run (lt→ltb run.role roles g.role_present))
    (rw w.is_run ((every-iff (λ r. is_agent (atom_at rows r)) run.agents).1 g.are_agents))

-- no run record is refused where they are those of good runs
written-runs : (rows : List Row) (roles : ℕ) (parts : List Part) (runs : List Run) → Matched (WrittenRun roles) parts runs → length runs ≤ most_runs
    → ((run : Run) → Memᴰ run runs → GoodRun rows roles run) → bad_run rows roles parts ≡ none
unfolding bad_run
written-runs rows roles parts runs m l h = first_bad-all (good_run rows roles) 0 parts good
  where
    good : (k : ℕ) (part : Part) → get_elem? parts k ≡ some part → T (good_run rows roles (0 + k) part)
    good k part e =
        let w = matched-at m k e in
        let b = get_elem-below runs k w.1 in
        written-good-run rows roles (0 + k) part w.0 w.2 (omega arith) (h w.0 ((mem-get_elem runs).1 (k, w.1)))

-- no row is refused for the role that it names
named-passes : (roles at : ℕ) (rows : List Row) → ((x i : ℕ) → get_elem? rows x ≡ some (atomic (role i)) → i < roles) → absent_role_from roles at rows ≡ none
unfolding absent_role_from
named-passes roles at [] h = refl
named-passes roles at (row ∷ rows) h =
    passed-gives (names_present roles row) (absent_role_from roles (at + 3) rows) at ((names_present-exactly roles row).1 (λ i e. h 0 i (ap some e))) (named-passes roles (at + 3) rows (λ x i e. h (suc x) i e))

-- no event is refused where all are well formed
formed-passes : {rows : List Row} {own : ℕ} {known : List Term} {es : List Event} → WellFormedEvents rows own known es → ill_formed_from rows own known es ≡ none
unfolding ill_formed_from
formed-passes formed_none = refl
formed-passes {rows} {own} (formed_more {known = known} {e = e} {es = es} {t = t} f w p) =
    found-gives (event_term rows e) _ e.place f
    ∙ passed-gives (well_formed own known e.kind e.peer t) (ill_formed_from rows own (learned known e.kind t) es) e.place w (formed-passes p)

-- no role is refused for its events where those of each are well formed
roles-formed : (rows : List Row) (own : ℕ) (roles : List Role) → ((i : ℕ) (r : Role) → get_elem? roles i ≡ some r → WellFormedEvents rows (own + i) (role_knowledge rows r) r.events)
    → ill_formed rows own roles ≡ none
unfolding ill_formed
roles-formed rows own [] h = refl
roles-formed rows own (r ∷ roles) h =
    first_of-gives (ill_formed_from rows own (role_knowledge rows r) r.events) (ill_formed rows (suc own) roles)
    (formed-passes (rw add-zero at (h 0 r refl)))
    (roles-formed rows (suc own) roles (λ i q e. let s : suc own + i ≡ own + suc i = omega arith in rw s (h (suc i) q e)))

-- a knowledge row that is high enough and has a value is not refused
knowledge-next : (rows : List Row) (at least r : ℕ) (bytes : List ℕ) → least ≤ r → HasValue without_run rows r → bad_knowledge_from rows (suc at) (suc r) bytes ≡ none
    → bad_knowledge_from rows at least (r ∷ bytes) ≡ none
unfolding unfit_from
knowledge-next rows at least r bytes l v e =
    passed-gives (leb least r && present (value_of without_run rows r)) (bad_knowledge_from rows (suc at) (suc r) bytes) at
    (both (leb least r) (present (value_of without_run rows r)) (le→leb least r l) ((has_value-iff (value_of without_run rows r)).1 v)) e

-- no knowledge row is refused where they rise from a number on and have values
knowledge-from : (rows : List Row) (at least r : ℕ) (bytes : List ℕ) → least ≤ r → T (rising (r ∷ bytes)) → ((x : ℕ) → Memᴰ x (r ∷ bytes) → HasValue without_run rows x)
    → bad_knowledge_from rows at least (r ∷ bytes) ≡ none
unfolding unfit_from
knowledge-from rows at least r [] l t h = knowledge-next rows at least r [] l (h r (Memᴰ.head refl)) refl
knowledge-from rows at least r (q ∷ bytes) l t h =
    knowledge-next rows at least r (q ∷ bytes) l (h r (Memᴰ.head refl))
    (knowledge-from rows (suc at) (suc r) q bytes (ltb→lt r q (both_left (ltb r q) (rising (q ∷ bytes)) t)) (both_right (ltb r q) (rising (q ∷ bytes)) t) (λ x m. h x (Memᴰ.tail m)))

-- no knowledge row is refused where they rise and have values
knowledge-passes : (rows : List Row) (at : ℕ) (bytes : List ℕ) → T (rising bytes) → ((x : ℕ) → Memᴰ x bytes → HasValue without_run rows x) → bad_knowledge_from rows at 0 bytes ≡ none
unfolding unfit_from
knowledge-passes rows at [] t h = refl
knowledge-passes rows at (r ∷ bytes) t h = knowledge-from rows at 0 r bytes (omega arith) t h

-- a file that no condition of Open refuses is accepted
pub opened-passes : (file : List ℕ) (sc : Scenario) → Opened file sc → opened file ≡ accepted sc
unfolding opened
opened-passes file sc o =
    rw (o.versioned, o.short, o.framed, o.table, o.roles, o.named, o.well_formed, o.runs, o.knowledge) (ap accepted (sym o.scenario))

-- the records of the roles of an encoded scenario
encoded-roles : (file : List ℕ) (sc : Scenario) (c : Encodes file sc) → Matched Written (role_parts file) sc.roles
unfolding role_records records
encoded-roles file sc c = rw (framed-parts c.framed).of_roles (roles-read (length c.roles) (le_refl (length c.roles)) c.of_roles)

-- all its roles are present
encoded-count : (file : List ℕ) (sc : Scenario) → Encodes file sc → length sc.roles ≤ most_roles → role_count file ≡ length sc.roles
unfolding roles_present
encoded-count file sc c l = let e = matched-length (encoded-roles file sc c) in omega arith

-- the records of its runs
encoded-runs : (file : List ℕ) (sc : Scenario) (c : Encodes file sc) → Matched (WrittenRun (length sc.roles)) (run_records (length sc.roles) (run_part file)) sc.runs
unfolding run_records records
encoded-runs file sc c = rw (framed-parts c.framed).of_runs (runs-read (length c.runs) _ (le_refl (length c.runs)) c.of_runs)

-- the scenario of its bytes
encoded-scenario : (file : List ℕ) (sc : Scenario) (c : Encodes file sc) → role_count file ≡ length sc.roles → sc ≡ scenario_of file sc.rows
unfolding scenario_of roles_from runs_from
encoded-scenario file sc c e =
    let p = framed-parts c.framed in
    let roles : map role_in (role_parts file) ≡ sc.roles = matched-map (λ part r w. w.is_role) (encoded-roles file sc c) in
    let runs : map run_in (run_records (length sc.roles) (run_part file)) ≡ sc.runs = matched-map (λ part run w. w.is_run) (encoded-runs file sc c) in
    rw (p.of_budget, roles, e, runs, p.of_knowledge) refl

-- no condition of Open refuses the bytes of a scenario that keeps the rules, if the version and the length are right
encodes-opened : (file : List ℕ) (sc : Scenario) → Encodes file sc → unversioned file ≡ none → too_long file ≡ none → Guarantee sc → Opened file sc
unfolding roles_from
encodes-opened file sc c v s g =
    let p = framed-parts c.framed in
    let e = encoded-count file sc c g.few_roles in
    let m = encoded-roles file sc c in
    record {
      rows = sc.rows;
      versioned = v;
      short = s;
      framed = (framed-exactly file).1 (sc.budget, _, c.framed);
      table = rw p.of_terms (terms-accepted 7 [] c.of_rows g.table);
      roles = written-roles sc.rows (role_parts file) sc.roles m g.few_roles g.good_roles;
      named = rw e (named-passes (length sc.roles) (term_part file).start sc.rows g.roles_named);
      well_formed = rw (matched-map (λ part r w. w.is_role) m) (roles-formed sc.rows 0 sc.roles (λ i r h. rw zero-add (g.well_formed_roles i r h)));
      runs = rw e (written-runs sc.rows (length sc.roles) (run_records (length sc.roles) (run_part file)) sc.runs (encoded-runs file sc c) g.few_runs g.good_runs);
      knowledge = rw p.of_knowledge (knowledge-passes sc.rows _ sc.knowledge g.rises g.known);
      scenario = encoded-scenario file sc c e;
    }

-- the bytes of a scenario that keeps the rules are accepted as that scenario, if the version and the length are right
pub encodes-accepted : (file : List ℕ) (sc : Scenario) → Encodes file sc → unversioned file ≡ none → too_long file ≡ none → Guarantee sc → opened file ≡ accepted sc
encodes-accepted file sc c v s g = opened-passes file sc (encodes-opened file sc c v s g)

-- the rows of some bytes are accepted exactly if the bytes are theirs and they are a good table
pub table-exactly : (at : ℕ) (bytes : List ℕ) (rows : List Row) → (rows_from at [] bytes ≡ accepted rows) ↔ (TermBytes rows bytes × GoodTable rows)
table-exactly at bytes rows = (λ e. (reads-terms (rows_from-reads at [] bytes rows e), rows-good at bytes rows e), λ w. terms-accepted at [] w.0 w.1)

-- a file is accepted as a scenario exactly if its version and its length are right, its bytes are those of the scenario, and the scenario keeps the rules
pub accepted-exactly : (file : List ℕ) (sc : Scenario) → (opened file ≡ accepted sc) ↔ ((unversioned file ≡ none) × (too_long file ≡ none) × Encodes file sc × Guarantee sc)
accepted-exactly file sc = (
  λ e. let o = opened-inverts file sc e in (o.versioned, o.short, accepted-encodes file sc e, opened-guarantee file sc e),
  λ w. encodes-accepted file sc w.2 w.0 w.1 w.3,
)
