-- The laws of the conditions that refuse: each holds, at the place that it gives, exactly as its plain statement says. Assumes nothing.
use Rattle.std.specs.Prelude.{ℕ, suc, ◌+◌, ◌≤◌, ◌<◌, ◌≡◌, ◌↔◌, ◌⊎◌, Bool, false, ◌&&◌, not, T, ltb, leb, eqb, length}
use native.Mathlib.Omega.{arith}
use Rattle.std.proofs.Math.Path.{refl}
use Rattle.std.proofs.Common.{sym, ap, ◌∙◌, inl, inr, lt→ltb}
use Rattle.std.proofs.Math.Logic.{⊎_elim}
use Rattle.std.proofs.Math.Bool.{true}
use Rattle.std.proofs.Math.Option.{Option, none, some, none-ne-some, some-injective}
use mathlib.Core.List.Memᴰ
use mathlib.Core.List.{List, [], ◌∷◌, ◌++◌, Memᴰ}
use Rattle.std.proofs.Math.Dec.{nltb→le}
use Rattle.std.proofs.Math.ListN.{get_elem?}
use Rattle.semantics.specs.Basic.{unfit_from, present, first_of, provided, keep, every, rising, Ordered, ordered-none, ordered-more}
use Rattle.semantics.specs.Answer.{refuse}
use Rattle.semantics.specs.Term.{agent_type, fresh_type, trusted, untrusted, global, intruder, role, variable, local, Term}
use Rattle.semantics.specs.Table.{Row, atomic, pk_of, sk_of, shared_of, pair_of, encrypted_of, variable_row, agent_like, no_pair, fits, admissible, repeated, decode, row_refusal, rows_from}
use Rattle.semantics.specs.Value.{value_of, without_variables, without_run}
use Rattle.semantics.specs.Frame.{Part, unversioned, too_long, first_bad, complete}
use Rattle.semantics.specs.Roles.{secrecy, EventKind, send, read, claim, Event, Role, event_count, knowledge_in, events_in, role_length, roles_present, peer_fits, event_fits, knowledge_fits, good_role, bad_role, names_present, absent_role_from}
use Rattle.semantics.specs.WellFormed.{well_formed, learned, event_term, role_knowledge, ill_formed_from, ill_formed}
use Rattle.semantics.specs.Runs.{atom_of, atom_at, is_agent, run_in, good_run, bad_run, bad_knowledge_from}
use Rattle.semantics.specs.Derive.{absent_from}
use Rattle.semantics.specs.Guarantee.{HasValue, WellFormedEvents, no_events, more_events}
use Rattle.semantics.specs.Refusals.{AgentLike, like_trusted, like_untrusted, like_role, like_variable, IsPair, is_pair, Below, RowRefused, incomplete, no_row, unfit, repeats, later_row, Fits, fits_atom, fits_pk, fits_sk, fits_shared, fits_pair, fits_encrypted, Admitted, FirstBad, bad_here, bad_later, PeerFits, sends_to, reads_from, claims, GoodRoleRecord, FirstAbsentRole, absent_here, absent_later, FirstIllFormed, ill_here, ill_later, AllWellFormed, well_none, well_more, FirstIllFormedRole, in_role, in_later_role, AgentRow, is_trusted_row, is_untrusted_row, GoodRunRecord, FirstBadKnowledge, bad_byte, later_byte, FirstAbsent, target_absent, listed_absent, later_absent}
use Rattle.semantics.proofs.laws.Test.{same_test, both_right, both-parts, both, all_three, four-tests, five-tests, both_iff, choice-some, ltb_iff, leb-iff, eqb-iff, provided-some, not_iff, present-some, has_value-iff}
use Rattle.semantics.proofs.laws.Answer.{refused-not-accepted, refused-same}
use Rattle.semantics.proofs.laws.List.{ordered-first, ordered-rest, mem-cases, every-iff, get_elem-below, get_elem-there}
use Rattle.semantics.proofs.laws.Table.{repeated-exactly, row_then, rows_from-then, rows_from-short}
use Rattle.semantics.proofs.laws.Open.{names-cases, names_present-exactly, ill_formed_from-none}
use Rattle.semantics.proofs.laws.Encoding.{decode-exactly}
use Rattle.semantics.proofs.laws.WellFormed.{well_formed-exact}

-- 1: the file does not begin with the byte 1
pub unversioned-exactly : (file : List ℕ) (at : ℕ) → (unversioned file ≡ some at) ↔ ((at ≡ 0) × ((rest : List ℕ) → ¬ (file ≡ 1 ∷ rest)))
unfolding unversioned
unversioned-exactly [] at = (λ e. (sym (some-injective 0 at e), λ rest q. absurd (nothing rest q)), λ w. ap some (sym w.0))
  where
    nothing : (rest : List ℕ) → ¬ (◌≡◌ {A = List ℕ} [] (1 ∷ rest))
    nothing rest q = let z : ◌≡◌ {A = ℕ} 0 (suc (length rest)) = ap length q in omega arith
unversioned-exactly (b ∷ bytes) at = (
  λ e. let w = (provided-some (not (eqb b 1))).0 e in (w.1, λ rest q. (not_iff (eqb b 1)).0 w.0 ((eqb-iff b 1).1 (ap head q))),
  λ w. (provided-some (not (eqb b 1))).1 ((not_iff (eqb b 1)).1 (λ t. w.1 bytes (ap (λ x. x ∷ bytes) ((eqb-iff b 1).0 t))), w.0),
)
  where
    head : List ℕ → ℕ
    head [] = 0
    head (x ∷ xs) = x

-- 2: the file has more than 4,096 bytes
pub too_long-exactly : (file : List ℕ) (at : ℕ) → (too_long file ≡ some at) ↔ ((4096 < length file) × (at ≡ 4096))
unfolding too_long
too_long-exactly file at = (
  λ e. let w = (provided-some (ltb 4096 (length file))).0 e in ((ltb_iff 4096 (length file)).0 w.0, w.1),
  λ w. (provided-some (ltb 4096 (length file))).1 ((ltb_iff 4096 (length file)).1 w.0, w.1),
)

-- a row that is agent-like
agent_like-iff : (o : Option Row) → T (agent_like o) ↔ ((row : Row) × (o ≡ some row) × AgentLike row)
agent_like-iff none = (λ t. absurd t, λ w. absurd (none-ne-some w.0 w.1))
agent_like-iff (some row) = (λ t. (row, refl, like row t), λ w. is (some-injective row w.0 w.1) w.2)
  where
    like : (row : Row) → T (agent_like (some row)) → AgentLike row
    like (atomic (trusted n)) t = like_trusted
    like (atomic (untrusted n)) t = like_untrusted
    like (atomic (global n)) t = absurd t
    like (atomic (intruder n)) t = absurd t
    like (atomic (role i)) t = like_role
    like (atomic (variable n agent_type)) t = like_variable
    like (atomic (variable n fresh_type)) t = absurd t
    like (atomic (local n u)) t = absurd t
    like (pk_of a) t = absurd t
    like (sk_of a) t = absurd t
    like (shared_of a b) t = absurd t
    like (pair_of l r) t = absurd t
    like (encrypted_of l r) t = absurd t

    passes : {row : Row} → AgentLike row → T (agent_like (some row))
    passes like_trusted = tt
    passes like_untrusted = tt
    passes like_role = tt
    passes like_variable = tt

    is : {row q : Row} → row ≡ q → AgentLike q → T (agent_like (some row))
    is e h = passes (rw (sym e) at h)

-- a row that is no pair
no_pair-iff : (o : Option Row) → T (no_pair o) ↔ ((row : Row) × (o ≡ some row) × (¬ IsPair row))
no_pair-iff none = (λ t. absurd t, λ w. absurd (none-ne-some w.0 w.1))
no_pair-iff (some row) = (λ t. (row, refl, other row t), λ w. is row (λ p. w.2 (rw (some-injective row w.0 w.1) at p)))
  where
    other : (row : Row) → T (no_pair (some row)) → ¬ IsPair row
    other row t is_pair = t

    is : (row : Row) → ¬ IsPair row → T (no_pair (some row))
    is (atomic a) n = tt
    is (pk_of a) n = tt
    is (sk_of a) n = tt
    is (shared_of a b) n = tt
    is (pair_of l r) n = n is_pair
    is (encrypted_of l r) n = tt

-- a row that is there
there-iff : (rows : List Row) (r : ℕ) → T (present (get_elem? rows r)) ↔ (r < length rows)
there-iff rows r = (λ t. get_elem-below rows r (present-some (get_elem? rows r) t).1, λ l. rw (get_elem-there rows r l).1 tt)

-- a row fits those below it exactly as the table of kinds says
pub fits-exactly : (below : List Row) (row : Row) → T (fits below row) ↔ Fits below row
unfolding fits
fits-exactly below (atomic a) = (λ t. fits_atom, λ h. tt)
fits-exactly below (pk_of a) = (λ t. fits_pk ((agent_like-iff (get_elem? below a)).0 t), λ h. (agent_like-iff (get_elem? below a)).1 (of h))
  where
    of : Fits below (pk_of a) → Below below AgentLike a
    of (fits_pk h) = h
fits-exactly below (sk_of a) = (λ t. fits_sk ((agent_like-iff (get_elem? below a)).0 t), λ h. (agent_like-iff (get_elem? below a)).1 (of h))
  where
    of : Fits below (sk_of a) → Below below AgentLike a
    of (fits_sk h) = h
fits-exactly below (shared_of a b) = (λ t. let w = two.0 t in fits_shared w.0 w.1, λ h. two.1 (of h))
  where
    two : T (agent_like (get_elem? below a) && agent_like (get_elem? below b)) ↔ (Below below AgentLike a × Below below AgentLike b)
    two = both_iff (agent_like (get_elem? below a)) (agent_like (get_elem? below b)) (agent_like-iff (get_elem? below a)) (agent_like-iff (get_elem? below b))

    of : Fits below (shared_of a b) → Below below AgentLike a × Below below AgentLike b
    of (fits_shared h k) = (h, k)
fits-exactly below (pair_of l r) = (λ t. let w = two.0 t in fits_pair w.0 w.1, λ h. two.1 (of h))
  where
    two : T (no_pair (get_elem? below l) && present (get_elem? below r)) ↔ (Below below (λ row. ¬ IsPair row) l × (r < length below))
    two = both_iff (no_pair (get_elem? below l)) (present (get_elem? below r)) (no_pair-iff (get_elem? below l)) (there-iff below r)

    of : Fits below (pair_of l r) → Below below (λ row. ¬ IsPair row) l × (r < length below)
    of (fits_pair h k) = (h, k)
fits-exactly below (encrypted_of c k) = (λ t. let w = two.0 t in fits_encrypted w.0 w.1, λ h. two.1 (of h))
  where
    two : T (present (get_elem? below c) && present (get_elem? below k)) ↔ ((c < length below) × (k < length below))
    two = both_iff (present (get_elem? below c)) (present (get_elem? below k)) (there-iff below c) (there-iff below k)

    of : Fits below (encrypted_of c k) → (c < length below) × (k < length below)
    of (fits_encrypted h q) = (h, q)

-- and it may follow them exactly if there are not too many rows or variables besides
pub admissible-exactly : (below : List Row) (row : Row) → T (admissible below row) ↔ Admitted below row
unfolding admissible
admissible-exactly below row = (
  λ t. let w = three.0 t in record { few = (ltb_iff (length below) 96).0 w.0; few_variables = (leb-iff variables 8).0 w.1; fitting = (fits-exactly below row).0 w.2 },
  λ h. three.1 ((ltb_iff (length below) 96).1 h.few, (leb-iff variables 8).1 h.few_variables, (fits-exactly below row).1 h.fitting),
)
  where
    variables : ℕ
    variables = length (keep variable_row (below ++ row ∷ []))

    three : T (ltb (length below) 96 && leb variables 8 && fits below row) ↔ (T (ltb (length below) 96) × T (leb variables 8) × T (fits below row))
    three = all_three (ltb (length below) 96) (leb variables 8) (fits below row)

-- What the refusal of a row after those below it says.
data RowJudged (below : List Row) : Option Row → Option ℕ → Type 0 where
  judged_none : RowJudged below none (some 4)
  judged_unfit : {row : Row} → ¬ Admitted below row → RowJudged below (some row) (some 4)
  judged_repeated : {row : Row} → Admitted below row → Memᴰ row below → RowJudged below (some row) (some 5)
  judged_taken : {row : Row} → Admitted below row → ¬ Memᴰ row below → RowJudged below (some row) none

row-judged : (below : List Row) (o : Option Row) → RowJudged below o (row_refusal below o)
unfolding row_refusal
row-judged below none = judged_none
row-judged below (some row) = go (admissible below row) refl (repeated below row) refl
  where
    go : (a : Bool) → admissible below row ≡ a → (b : Bool) → repeated below row ≡ b → RowJudged below (some row) (elim a [ true ↦ provided b 5 | false ↦ some 4 ])
    go false e b f = judged_unfit (λ h. rw e at ((admissible-exactly below row).1 h))
    go true e true f = judged_repeated ((admissible-exactly below row).0 (rw e tt)) ((repeated-exactly below row).0 (rw f tt))
    go true e false f = judged_taken ((admissible-exactly below row).0 (rw e tt)) (λ m. rw f at ((repeated-exactly below row).1 m))

-- one row is judged in one way only
judged-once : {below : List Row} {o : Option Row} {n m : Option ℕ} → RowJudged below o n → RowJudged below o m → n ≡ m
judged-once judged_none judged_none = refl
judged-once (judged_unfit n) (judged_unfit m) = refl
judged-once (judged_unfit n) (judged_repeated a m) = absurd (n a)
judged-once (judged_unfit n) (judged_taken a m) = absurd (n a)
judged-once (judged_repeated a m) (judged_unfit n) = absurd (n a)
judged-once (judged_repeated a m) (judged_repeated b k) = refl
judged-once (judged_repeated a m) (judged_taken b k) = absurd (k m)
judged-once (judged_taken a m) (judged_unfit n) = absurd (n a)
judged-once (judged_taken a m) (judged_repeated b k) = absurd (m k)
judged-once (judged_taken a m) (judged_taken b k) = refl

module _ (kind left right at n p : ℕ) (below : List Row) (bytes : List ℕ) where
  -- what refuses there is the row or a later one
  row-refuses : (o : Option Row) → decode kind left right ≡ o → (m : Option ℕ) → RowJudged below o m
      → ((row : Row) → rows_from (at + 3) (below ++ row ∷ []) bytes ≡ refuse n p → RowRefused (below ++ row ∷ []) (at + 3) bytes n p)
      → row_then at below bytes o m ≡ refuse n p → RowRefused below at (kind ∷ left ∷ right ∷ bytes) n p
  row-refuses o d m judged_none later e =
      let w = refused-same e in no_row (λ row h. none-ne-some row (sym d ∙ (decode-exactly kind left right row).1 h)) (sym w.0) (sym w.1)
  row-refuses o d m (judged_unfit {row} u) later e = let w = refused-same e in unfit ((decode-exactly kind left right row).0 d) u (sym w.0) (sym w.1)
  row-refuses o d m (judged_repeated {row} a r) later e = let w = refused-same e in repeats ((decode-exactly kind left right row).0 d) a r (sym w.0) (sym w.1)
  row-refuses o d m (judged_taken {row} a r) later e = later_row ((decode-exactly kind left right row).0 d) a r (later row e)

  -- the answer of three bytes that are judged so
  rows_from-row : {o : Option Row} {m : Option ℕ} → decode kind left right ≡ o → RowJudged below o m → rows_from at below (kind ∷ left ∷ right ∷ bytes) ≡ row_then at below bytes o m
  rows_from-row {o} d j = rows_from-then at below kind left right bytes d (judged-once (row-judged below o) j)

-- 4 and 5: the first row that is refused
rows-refuse : (at : ℕ) (below : List Row) (bytes : List ℕ) (n p : ℕ) → rows_from at below bytes ≡ refuse n p → RowRefused below at bytes n p
unfolding rows_from
rows-refuse at below [] n p e = absurd (refused-not-accepted (sym e))
rows-refuse at below (kind ∷ []) n p e = let w = refused-same e in incomplete {bytes = kind ∷ []} (omega arith) (omega arith) (sym w.0) (sym w.1)
rows-refuse at below (kind ∷ left ∷ []) n p e = let w = refused-same e in incomplete {bytes = kind ∷ left ∷ []} (omega arith) (omega arith) (sym w.0) (sym w.1)
rows-refuse at below (kind ∷ left ∷ right ∷ bytes) n p e =
    row-refuses kind left right at n p below bytes (decode kind left right) refl (row_refusal below (decode kind left right)) (row-judged below (decode kind left right))
    (λ row. rows-refuse (at + 3) (below ++ row ∷ []) bytes n p) e

refuse-rows : {below : List Row} {at : ℕ} {bytes : List ℕ} {n p : ℕ} → RowRefused below at bytes n p → rows_from at below bytes ≡ refuse n p
refuse-rows (incomplete {below} {at} {bytes = bytes} l h e f) = rw (e, f) (rows_from-short at below bytes l h)
refuse-rows (no_row {below} {at} {kind = kind} {left} {right} {bytes} none-such e f) = rw (e, f) (go (decode kind left right) refl)
  where
    go : (o : Option Row) → decode kind left right ≡ o → rows_from at below (kind ∷ left ∷ right ∷ bytes) ≡ refuse 4 at
    go none d = rows_from-row kind left right at 4 at below bytes d judged_none
    go (some row) d = absurd (none-such row ((decode-exactly kind left right row).0 d))
refuse-rows (unfit {below} {at} {kind = kind} {left} {right} {bytes} {row} h u e f) = rw (e, f) (rows_from-row kind left right at 4 at below bytes ((decode-exactly kind left right row).1 h) (judged_unfit u))
refuse-rows (repeats {below} {at} {kind = kind} {left} {right} {bytes} {row} h a r e f) =
    rw (e, f) (rows_from-row kind left right at 5 at below bytes ((decode-exactly kind left right row).1 h) (judged_repeated a r))
refuse-rows (later_row {below} {at} {n} {p} {kind} {left} {right} {bytes} {row} h a r later) =
    rows_from-row kind left right at n p below bytes ((decode-exactly kind left right row).1 h) (judged_taken a r) ∙ refuse-rows later

pub rows-refused : (at : ℕ) (below : List Row) (bytes : List ℕ) (n p : ℕ) → (rows_from at below bytes ≡ refuse n p) ↔ RowRefused below at bytes n p
rows-refused at below bytes n p = (rows-refuse at below bytes n p, refuse-rows)

-- the first record that is not good
module _ (good : ℕ → Part → Bool) (Good : ℕ → Part → Type 0) (exact : (i : ℕ) (part : Part) → T (good i part) ↔ Good i part) where
  first-bad : (i : ℕ) (parts : List Part) (at : ℕ) → first_bad good i parts ≡ some at → FirstBad Good i parts at
  unfolding first_bad
  first-bad i [] at e = absurd (none-ne-some at e)
  first-bad i (part ∷ parts) at e =
      ⊎_elim (λ w. bad_later ((exact i part).0 w.0) (first-bad (suc i) parts at w.1)) (λ w. bad_here (λ g. w.0 ((exact i part).1 g)) w.1)
      ((choice-some (good i part) (first_bad good (suc i) parts) part.start at).0 e)

  bad-first : {i : ℕ} {parts : List Part} {at : ℕ} → FirstBad Good i parts at → first_bad good i parts ≡ some at
  unfolding first_bad
  bad-first (bad_here {i} {at} {part} {parts} n e) = (choice-some (good i part) (first_bad good (suc i) parts) part.start at).1 (inr (λ t. n ((exact i part).0 t), e))
  bad-first (bad_later {i} {at} {part} {parts} g h) = (choice-some (good i part) (first_bad good (suc i) parts) part.start at).1 (inl ((exact i part).1 g, bad-first h))

  pub first_bad-exactly : (i : ℕ) (parts : List Part) (at : ℕ) → (first_bad good i parts ≡ some at) ↔ FirstBad Good i parts at
  first_bad-exactly i parts at = (first-bad i parts at, bad-first)

-- rows rise exactly if each is below every later one
rising-head : (a : ℕ) (bs : List ℕ) → T (rising (a ∷ bs)) → (b : ℕ) → Memᴰ b bs → a < b
rising-head a [] t b m = absurd (Memᴰ.not-nil m)
rising-head a (c ∷ bs) t b m =
    let w = (both_iff (ltb a c) (rising (c ∷ bs)) (ltb_iff a c) (λ x. x, λ x. x)).0 t in
    mem-cases m (λ e. rw e w.0) (λ k. let l = rising-head c bs w.1 b k in let h = w.0 in omega arith)

pub rising-exactly : (bs : List ℕ) → T (rising bs) ↔ Ordered ◌<◌ bs
rising-exactly [] = (λ t. ordered-none, λ o. tt)
rising-exactly (a ∷ []) = (λ t. ordered-more (rising-head a [] t) ordered-none, λ o. tt)
rising-exactly (a ∷ b ∷ bs) = (
  λ t. ordered-more (rising-head a (b ∷ bs) t) ((rising-exactly (b ∷ bs)).0 (both_right (ltb a b) (rising (b ∷ bs)) t)),
  λ o. both (ltb a b) (rising (b ∷ bs)) (lt→ltb a b (ordered-first o b (Memᴰ.head refl))) ((rising-exactly (b ∷ bs)).1 (ordered-rest o)),
)

-- the peer of an event
peer_fits-exactly : (roles : ℕ) (kind : EventKind) (peer : ℕ) → T (peer_fits roles kind peer) ↔ PeerFits roles kind peer
peer_fits-exactly roles send peer = (λ t. sends_to ((ltb_iff peer roles).0 t), of)
  where
    of : PeerFits roles send peer → T (ltb peer roles)
    of (sends_to l) = (ltb_iff peer roles).1 l
peer_fits-exactly roles read peer = (λ t. reads_from ((ltb_iff peer roles).0 t), of)
  where
    of : PeerFits roles read peer → T (ltb peer roles)
    of (reads_from l) = (ltb_iff peer roles).1 l
peer_fits-exactly roles (claim secrecy) peer = (λ t. claims ((eqb-iff peer 0).0 t), of)
  where
    of : PeerFits roles (claim secrecy) peer → T (eqb peer 0)
    of (claims e) = (eqb-iff peer 0).1 e

-- an event of a record
event_fits-exactly : (rows : List Row) (roles : ℕ) (o : Option Event)
    → T (event_fits rows roles o) ↔ ((e : Event) × (o ≡ some e) × PeerFits roles e.kind e.peer × (e.row < length rows))
event_fits-exactly rows roles none = (λ t. absurd t, λ w. absurd (none-ne-some w.0 w.1))
event_fits-exactly rows roles (some e) = (
  λ t. let w = (two e).0 t in (e, refl, w.0, w.1),
  λ w. (two e).1 (let q = sym (some-injective e w.0 w.1) in (rw q at w.2, rw q at w.3)),
)
  where
    two : (e : Event) → T (peer_fits roles e.kind e.peer && ltb e.row (length rows)) ↔ (PeerFits roles e.kind e.peer × (e.row < length rows))
    two e = both_iff (peer_fits roles e.kind e.peer) (ltb e.row (length rows)) (peer_fits-exactly roles e.kind e.peer) (ltb_iff e.row (length rows))

-- 6: a role record that is not refused
pub good_role-exactly : (rows : List Row) (roles i : ℕ) (part : Part) → T (good_role rows roles i part) ↔ GoodRoleRecord rows roles i part
unfolding good_role knowledge_fits
good_role-exactly rows roles i part = (
  λ t. record {
    whole = (leb-iff (role_length part.bytes) (length part.bytes)).0 (search both-parts);
    among_four = (ltb_iff i 4).0 (search both-parts);
    few_events = (leb-iff (event_count part.bytes) 8).0 (search both-parts);
    rises = (rising-exactly known).0 (search both-parts);
    knows = λ x m. (has_value-iff (value_of without_variables rows x)).0 ((every-iff (λ r. present (value_of without_variables rows r)) known).0 (search both-parts) x m);
    events = λ o m. (event_fits-exactly rows roles o).0 ((every-iff (event_fits rows roles) (events_in part)).0 (search both-parts) o m);
  },
  λ g. five-tests (complete role_length part) (ltb i 4) (leb (event_count part.bytes) 8) fitting (every (event_fits rows roles) (events_in part))
      ((leb-iff (role_length part.bytes) (length part.bytes)).1 g.whole)
      ((ltb_iff i 4).1 g.among_four)
      ((leb-iff (event_count part.bytes) 8).1 g.few_events)
      (both (rising known) (every (λ r. present (value_of without_variables rows r)) known) ((rising-exactly known).1 g.rises) ((every-iff (λ r. present (value_of without_variables rows r)) known).1 (λ x m. (has_value-iff (value_of without_variables rows x)).1 (g.knows x m))))
      ((every-iff (event_fits rows roles) (events_in part)).1 (λ o m. (event_fits-exactly rows roles o).1 (g.events o m))),
)
  where
    known : List ℕ
    known = knowledge_in part.bytes

    fitting : Bool
    fitting = rising known && every (λ r. present (value_of without_variables rows r)) known

pub bad_role-exactly : (rows : List Row) (parts : List Part) (at : ℕ) → (bad_role rows parts ≡ some at) ↔ FirstBad (GoodRoleRecord rows (roles_present parts)) 0 parts at
unfolding bad_role
bad_role-exactly rows parts at = first_bad-exactly (good_role rows (roles_present parts)) (GoodRoleRecord rows (roles_present parts)) (good_role-exactly rows (roles_present parts)) 0 parts at

-- 6, after all records: the first row that names an absent role
first-absent-role : (roles at : ℕ) (rows : List Row) (p : ℕ) → absent_role_from roles at rows ≡ some p → FirstAbsentRole roles at rows p
unfolding absent_role_from
first-absent-role roles at [] p e = absurd (none-ne-some p e)
first-absent-role roles at (row ∷ rows) p e =
    ⊎_elim (λ w. absent_later ((names_present-exactly roles row).0 w.0) (first-absent-role roles (at + 3) rows p w.1)) (λ w. here w.0 w.1 (names-cases roles row))
    ((choice-some (names_present roles row) (absent_role_from roles (at + 3) rows) at p).0 e)
  where
    here : ¬ T (names_present roles row) → p ≡ at → T (names_present roles row) ⊎ ((i : ℕ) × (row ≡ atomic (role i)) × (roles ≤ i)) → FirstAbsentRole roles at (row ∷ rows) p
    here n q (inl t) = absurd (n t)
    here n q (inr w) = rw w.1 (absent_here w.2 q)

absent-first-role : {roles at : ℕ} {rows : List Row} {p : ℕ} → FirstAbsentRole roles at rows p → absent_role_from roles at rows ≡ some p
unfolding absent_role_from
absent-first-role {roles} (absent_here {at} {p} {i} {rows} l e) =
    (choice-some (ltb i roles) (absent_role_from roles (at + 3) rows) at p).1 (inr (λ t. let h = (ltb_iff i roles).0 t in omega arith, e))
absent-first-role {roles} (absent_later {at} {p} {row} {rows} h later) =
    (choice-some (names_present roles row) (absent_role_from roles (at + 3) rows) at p).1 (inl ((names_present-exactly roles row).1 h, absent-first-role later))

pub absent_role-exactly : (roles at : ℕ) (rows : List Row) (p : ℕ) → (absent_role_from roles at rows ≡ some p) ↔ FirstAbsentRole roles at rows p
absent_role-exactly roles at rows p = (first-absent-role roles at rows p, absent-first-role)

-- where a missing value and a failed test give a value, what is given is that, or what there is otherwise
judged-some : {A B : Type 0} (o : Option A) (test : A → Bool) (next : A → Option B) (x y : B)
    → (◌≡◌ {A = Option B} (elim o [ none ↦ some x | some a ↦ elim (test a) [ true ↦ next a | false ↦ some x ] ]) (some y))
    ↔ (((a : A) × (o ≡ some a) × T (test a) × (next a ≡ some y)) ⊎ (((a : A) → o ≡ some a → ¬ T (test a)) × (y ≡ x)))
judged-some none test next x y = (
  λ e. inr ((λ a q. absurd (none-ne-some a q)), sym (some-injective x y e)),
  λ w. ⊎_elim (λ h. absurd (none-ne-some h.0 h.1)) (λ h. ap some (sym h.1)) w,
)
judged-some (some a) test next x y = (
  λ e. ⊎_elim (λ w. inl (a, refl, w.0, w.1)) (λ w. inr ((λ b q t. w.0 (rw (sym (some-injective a b q)) at t)), w.1)) ((choice-some (test a) (next a) x y).0 e),
  λ w. (choice-some (test a) (next a) x y).1
      (⊎_elim (λ h. let q = sym (some-injective a h.0 h.1) in inl (rw q at h.2, rw q at h.3)) (λ h. inr (h.0 a refl, h.1)) w),
)

-- 7: the first event of a role that is not well formed
module _ (rows : List Row) (own : ℕ) where
  first-ill : (known : List Term) (es : List Event) (at : ℕ) → ill_formed_from rows own known es ≡ some at → FirstIllFormed rows own known es at
  unfolding ill_formed_from
  first-ill known [] at e = absurd (none-ne-some at e)
  first-ill known (v ∷ es) at e =
      ⊎_elim
      (λ w. ill_later w.1 ((well_formed-exact own known v.kind v.peer w.0).0 w.2) (first-ill (learned known v.kind w.0) es at w.3))
      (λ w. ill_here (λ t q h. w.0 t q ((well_formed-exact own known v.kind v.peer t).1 h)) w.1)
      ((judged-some (event_term rows v) (well_formed own known v.kind v.peer) (λ t. ill_formed_from rows own (learned known v.kind t) es) v.place at).0 e)

  ill-first : {known : List Term} {es : List Event} {at : ℕ} → FirstIllFormed rows own known es at → ill_formed_from rows own known es ≡ some at
  unfolding ill_formed_from
  ill-first (ill_here {known} {e = v} {es} {at} n e) =
      (judged-some (event_term rows v) (well_formed own known v.kind v.peer) (λ t. ill_formed_from rows own (learned known v.kind t) es) v.place at).1
      (inr (λ t q h. n t q ((well_formed-exact own known v.kind v.peer t).0 h), e))
  ill-first (ill_later {known} {e = v} {es} {at} {t} q h later) =
      (judged-some (event_term rows v) (well_formed own known v.kind v.peer) (λ t. ill_formed_from rows own (learned known v.kind t) es) v.place at).1
      (inl (t, q, (well_formed-exact own known v.kind v.peer t).1 h, ill-first later))

  pub ill_formed_from-exactly : (known : List Term) (es : List Event) (at : ℕ) → (ill_formed_from rows own known es ≡ some at) ↔ FirstIllFormed rows own known es at
  ill_formed_from-exactly known es at = (first-ill known es at, ill-first)

  -- none is refused exactly if all are well formed
  well-all : {known : List Term} {es : List Event} → WellFormedEvents rows own known es → AllWellFormed rows own known es
  well-all no_events = well_none
  well-all (more_events {known = known} {e = v} {t = t} q h rest) = well_more q ((well_formed-exact own known v.kind v.peer t).0 h) (well-all rest)

  all-well : {known : List Term} {es : List Event} → AllWellFormed rows own known es → ill_formed_from rows own known es ≡ none
  unfolding ill_formed_from
  all-well well_none = refl
  all-well (well_more {known} {e = v} {es} {t} q h rest) =
      let w = same_test (well_formed own known v.kind v.peer t) true (λ x. tt, λ x. (well_formed-exact own known v.kind v.peer t).1 h) in
      rw (q, ill_formed_from) (rw w (all-well rest))

-- 7: the first event in role order that is not well formed
module _ (rows : List Row) where
  first-ill-role : (own : ℕ) (roles : List Role) (at : ℕ) → ill_formed rows own roles ≡ some at → FirstIllFormedRole rows own roles at
  unfolding ill_formed
  first-ill-role own [] at e = absurd (none-ne-some at e)
  first-ill-role own (r ∷ roles) at e = go (ill_formed_from rows own (role_knowledge rows r) r.events) refl (first-ill-role (suc own) roles at) e
    where
      go : (o : Option ℕ) → ill_formed_from rows own (role_knowledge rows r) r.events ≡ o → (ill_formed rows (suc own) roles ≡ some at → FirstIllFormedRole rows (suc own) roles at)
          → first_of (o ∷ ill_formed rows (suc own) roles ∷ []) ≡ some at → FirstIllFormedRole rows own (r ∷ roles) at
      go (some p) q later e = in_role ((ill_formed_from-exactly rows own (role_knowledge rows r) r.events at).0 (q ∙ e))
      go none q later e = in_later_role (well-all rows own (ill_formed_from-none rows own (role_knowledge rows r) r.events q)) (later (last (ill_formed rows (suc own) roles) e))
        where
          last : (o : Option ℕ) → first_of (o ∷ []) ≡ some at → o ≡ some at
          last none e = e
          last (some x) e = e

  ill-first-role : {own : ℕ} {roles : List Role} {at : ℕ} → FirstIllFormedRole rows own roles at → ill_formed rows own roles ≡ some at
  unfolding ill_formed
  ill-first-role (in_role {own} {at} {r} {rs} h) = rw ((ill_formed_from-exactly rows own (role_knowledge rows r) r.events at).1 h)
  ill-first-role (in_later_role {own} {at} {r} {rs} h later) = rw (all-well rows own h, ill-first-role later)

  pub ill_formed-exactly : (own : ℕ) (roles : List Role) (at : ℕ) → (ill_formed rows own roles ≡ some at) ↔ FirstIllFormedRole rows own roles at
  ill_formed-exactly own roles at = (first-ill-role own roles at, ill-first-role)

-- a row that is an agent
is_agent-exactly : (rows : List Row) (r : ℕ) → T (is_agent (atom_at rows r)) ↔ AgentRow rows r
is_agent-exactly rows r = (agent (get_elem? rows r) refl, is)
  where
    agent : (o : Option Row) → get_elem? rows r ≡ o → T (is_agent (atom_of o)) → AgentRow rows r
    agent none e t = absurd t
    agent (some (atomic (trusted n))) e t = is_trusted_row e
    agent (some (atomic (untrusted n))) e t = is_untrusted_row e
    agent (some (atomic (global n))) e t = absurd t
    agent (some (atomic (intruder n))) e t = absurd t
    agent (some (atomic (role i))) e t = absurd t
    agent (some (atomic (variable n x))) e t = absurd t
    agent (some (atomic (local n u))) e t = absurd t
    agent (some (pk_of a)) e t = absurd t
    agent (some (sk_of a)) e t = absurd t
    agent (some (shared_of a b)) e t = absurd t
    agent (some (pair_of a b)) e t = absurd t
    agent (some (encrypted_of a b)) e t = absurd t

    is : AgentRow rows r → T (is_agent (atom_at rows r))
    is (is_trusted_row e) = rw e tt
    is (is_untrusted_row e) = rw e tt

-- 8: a run record that is not refused
good_run-exactly : (rows : List Row) (roles i : ℕ) (part : Part) → T (good_run rows roles i part) ↔ GoodRunRecord rows roles i part
unfolding good_run
good_run-exactly rows roles i part = (
  λ t. record {
    whole = (leb-iff (suc roles) (length part.bytes)).0 (search both-parts);
    among_four = (ltb_iff i 4).0 (search both-parts);
    role_present = (ltb_iff (run_in part).role roles).0 (search both-parts);
    are_agents = λ r m. (is_agent-exactly rows r).0 ((every-iff (λ r. is_agent (atom_at rows r)) (run_in part).agents).0 (search both-parts) r m);
  },
  λ g. four-tests (leb (suc roles) (length part.bytes)) (ltb i 4) (ltb (run_in part).role roles) (every (λ r. is_agent (atom_at rows r)) (run_in part).agents)
      ((leb-iff (suc roles) (length part.bytes)).1 g.whole)
      ((ltb_iff i 4).1 g.among_four)
      ((ltb_iff (run_in part).role roles).1 g.role_present)
      ((every-iff (λ r. is_agent (atom_at rows r)) (run_in part).agents).1 (λ r m. (is_agent-exactly rows r).1 (g.are_agents r m))),
)

pub bad_run-exactly : (rows : List Row) (roles : ℕ) (parts : List Part) (at : ℕ) → (bad_run rows roles parts ≡ some at) ↔ FirstBad (GoodRunRecord rows roles) 0 parts at
unfolding bad_run
bad_run-exactly rows roles parts at = first_bad-exactly (good_run rows roles) (GoodRunRecord rows roles) (good_run-exactly rows roles) 0 parts at

-- 9: the first knowledge byte against its rule
module _ (rows : List Row) where
  -- what a knowledge byte must be
  knowledge-byte : (least r : ℕ) → T (leb least r && present (value_of without_run rows r)) ↔ ((least ≤ r) × HasValue without_run rows r)
  knowledge-byte least r = both_iff (leb least r) (present (value_of without_run rows r)) (leb-iff least r) (has_value-iff (value_of without_run rows r))

  first-bad-byte : (at least : ℕ) (bytes : List ℕ) (p : ℕ) → bad_knowledge_from rows at least bytes ≡ some p → FirstBadKnowledge rows at least bytes p
  unfolding unfit_from
  first-bad-byte at least [] p e = absurd (none-ne-some p e)
  first-bad-byte at least (r ∷ bytes) p e =
      ⊎_elim (λ w. let h = (knowledge-byte least r).0 w.0 in later_byte h.0 h.1 (first-bad-byte (suc at) (suc r) bytes p w.1))
      (λ w. bad_byte (λ h. w.0 ((knowledge-byte least r).1 h)) w.1)
      ((choice-some (leb least r && present (value_of without_run rows r)) (bad_knowledge_from rows (suc at) (suc r) bytes) at p).0 e)

  bad-first-byte : {at least : ℕ} {bytes : List ℕ} {p : ℕ} → FirstBadKnowledge rows at least bytes p → bad_knowledge_from rows at least bytes ≡ some p
  unfolding unfit_from
  bad-first-byte (bad_byte {at} {least} {p} {r} {bytes} n e) =
      (choice-some (leb least r && present (value_of without_run rows r)) (bad_knowledge_from rows (suc at) (suc r) bytes) at p).1 (inr (λ t. n ((knowledge-byte least r).0 t), e))
  bad-first-byte (later_byte {at} {least} {p} {r} {bytes} l h later) =
      (choice-some (leb least r && present (value_of without_run rows r)) (bad_knowledge_from rows (suc at) (suc r) bytes) at p).1 (inl ((knowledge-byte least r).1 (l, h), bad-first-byte later))

  pub bad_knowledge-exactly : (at least : ℕ) (bytes : List ℕ) (p : ℕ) → (bad_knowledge_from rows at least bytes ≡ some p) ↔ FirstBadKnowledge rows at least bytes p
  bad_knowledge-exactly at least bytes p = (first-bad-byte at least bytes p, bad-first-byte)

-- 11: the first listed row that is absent, or the target
module _ (rows : List Row) (target : ℕ) where
  first_absent : (at : ℕ) (list : List ℕ) (p : ℕ) → absent_from rows at list target ≡ some p → FirstAbsent (length rows) target at list p
  unfolding absent_from
  first_absent at [] p e =
      let w = (provided-some (not (ltb target (length rows)))).0 e in
      let l = nltb→le target (length rows) w.0 in
      target_absent l w.1
  first_absent at (r ∷ list) p e =
      ⊎_elim (λ w. later_absent ((ltb_iff r (length rows)).0 w.0) (first_absent (suc at) list p w.1))
      (λ w. listed_absent (nltb→le r (length rows) ((not_iff (ltb r (length rows))).1 w.0)) w.1)
      ((choice-some (ltb r (length rows)) (absent_from rows (suc at) list target) at p).0 e)

  absent-first : {at : ℕ} {list : List ℕ} {p : ℕ} → FirstAbsent (length rows) target at list p → absent_from rows at list target ≡ some p
  unfolding absent_from
  absent-first (target_absent {at} {p} l e) = (provided-some (not (ltb target (length rows)))).1 ((not_iff (ltb target (length rows))).1 (λ t. let h = (ltb_iff target (length rows)).0 t in omega arith), e)
  absent-first (listed_absent {at} {p} {r} {list} l e) =
      (choice-some (ltb r (length rows)) (absent_from rows (suc at) list target) at p).1 (inr (λ t. let h = (ltb_iff r (length rows)).0 t in omega arith, e))
  absent-first (later_absent {at} {p} {r} {list} l later) =
      (choice-some (ltb r (length rows)) (absent_from rows (suc at) list target) at p).1 (inl ((ltb_iff r (length rows)).1 l, absent-first later))

  pub absent_from-exactly : (at : ℕ) (list : List ℕ) (p : ℕ) → (absent_from rows at list target ≡ some p) ↔ FirstAbsent (length rows) target at list p
  absent_from-exactly at list p = (first_absent at list p, absent-first)
