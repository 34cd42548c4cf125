-- Refusal 7: the events of a role record one after the other, and the role records of a block. Assumes nothing.
use Rattle.std.specs.Prelude.{ℕ, zero, suc, ◌+◌, ◌-◌, ◌*◌, ◌<◌, ◌≤◌, ◌≡◌, refl, Bool, true, false, ◌&&◌, T, ltb, leb, length, get_or, take, drop, None, Some}
use Rattle.std.proofs.Common.{add-one, arith, ◌∙◌, ltb→lt, leb→le}
use Rattle.std.proofs.Math.Path.{sym, ap}
use mathlib.Core.List.{List, [], ◌∷◌, map}
use Rattle.std.proofs.Math.Option.{Option, none, some}
use Rattle.std.proofs.Math.ListN.{get_elem?}
use Rattle.semantics.specs.Basic.{present, present_ones, first_of, every}
use Rattle.semantics.specs.Limits.{most_roles, most_events}
use Rattle.semantics.specs.Term.{Term}
use Rattle.semantics.specs.Table.{Row}
use Rattle.semantics.specs.Value.{value_of, as_atoms, without_variables}
use Rattle.semantics.specs.Frame.{Part, first_bad}
use Rattle.semantics.specs.Roles.{EventKind, event_kinds, Event, event_from, knowledge_count, event_count, role_length, knowledge_in, events_in, role_in, role_records, roles_present, peer_fits, event_fits, knowledge_fits, good_role, bad_role, roles_from}
use Rattle.semantics.specs.WellFormed.{well_formed, learned, event_term, role_knowledge, ill_formed_from, ill_formed}
use Rattle.semantics.proofs.laws.Test.{both_left, both_right, both-parts, present-some, passed_none}
use Rattle.semantics.proofs.laws.List.{mem-present, mem-map, every-iff}
use Rattle.semantics.proofs.laws.Value.{value-within}
use Rattle.rows.specs.Rows.{rows_of, place_as, Shape}
use Rattle.rows.specs.Rows.{Place}
use Rattle.role_level.specs.laws.RoleLevel.{row-cell}
use Rattle.role_level.specs.RoleLevel.{RoleCelled, listed_terms, RoleExact}
use Rattle.records.specs.Records.{part_at, record_at, event_at}
use Rattle.records.specs.laws.Events.{events_left, left-events-all, left-events-cons, left-events-none}
use Rattle.records.specs.RoleRecords.{begins}
use Rattle.records.specs.laws.RoleRecords.{record_of, block-records}
use Rattle.records.specs.laws.Roles.{own-rows, own-events_in, role-good}
use Rattle.open_wellformed.specs.WellFormed.{WellFormedEvent, EventLearns, IsEvent, GoodRecord, ill_role, IllRole}
use Rattle.open_marks.specs.Marks.{Learns}
use Rattle.open_marks.specs.laws.Marks.{has-term}
use Rattle.open_wellformed.specs.laws.WellFormed.{EventIs, is_send, is_read, is_claim, event-is}

-- a read adds its term to what is known, no other event does
read-adds : {kind : ℕ} {e : EventKind} → EventIs kind e → kind ≡ 1 → (known : List Term) (t : Term) → learned known e t ≡ t ∷ known
read-adds is_send k known t = absurd (omega arith)
read-adds is_read k known t = refl
read-adds is_claim k known t = absurd (omega arith)

module _ (rows : List Row) (kind x : ℕ) (marks : List Bool) where
  -- so the marks after a read are those with its term known
  pub read-learns : kind ≡ 1 → (more : List Bool) → Learns rows x marks more → EventLearns rows kind x marks more
  read-learns c more learns known e t celled exact k h = rw (read-adds (event-is kind e k) c known t) (learns known t celled exact h)

-- each term of listed rows is that of a row
listed-celled : (rows : List Row) (list : List ℕ) → RoleCelled rows (listed_terms rows list)
listed-celled rows list t m =
    let w = (mem-map (value_of as_atoms rows) list).0 ((mem-present (map (value_of as_atoms rows) list)).0 m) in
    row-cell w.0 (sym w.2)

-- the rows listed in a role record, as the code reads them
pub listed-rows : (s : List ℕ) (k : ℕ) → k ≡ get_or s 0 0 → take (1 + k - 1) (drop 1 s) ≡ knowledge_in s
unfolding knowledge_in
listed-rows s k e = let z : 1 + k - 1 ≡ get_or s 0 0 = omega arith in rw z

module _ (rows : List Row) (own : ℕ) (known : List Term) (e : Event) (es : List Event) {t : Term} (term : event_term rows e ≡ some t) where
  -- an event that is not well formed is the first such one
  ill-here : well_formed own known e.kind e.peer t ≡ false → ill_formed_from rows own known (e ∷ es) ≡ some e.place
  unfolding ill_formed_from
  ill-here f = rw (term, f, ill_formed_from)

  -- behind one that is, the first is that of the others
  ill-later : well_formed own known e.kind e.peer t ≡ true → ill_formed_from rows own known (e ∷ es) ≡ ill_formed_from rows own (learned known e.kind t) es
  unfolding ill_formed_from
  ill-later f = rw (term, f, ill_formed_from)

-- the second count stands behind the knowledge
pub count_of : (s : List ℕ) (k count : ℕ) → k ≡ get_or s 0 0 → count ≡ get_or s (1 + k) 0 → count ≡ event_count s
count_of s k count e f = rw f (rw e)

-- each event of a role record that is not refused has a kind and a row
pub events-are : {rows : List Row} (s : List ℕ) (first count : ℕ) → GoodRecord rows s → first ≡ 2 + knowledge_count s → count ≡ event_count s → (j : ℕ) → j < count → IsEvent rows s (first + 4 * j)
events-are s first count good e f j l = rw e (good.events j (omega arith))

-- What is known before event j of a role record: the first event that is not well formed is that of the events left.
pub record RoleLeft (rows : List Row) (own : ℕ) (s : List ℕ) (first count j : ℕ) (marks : List Bool) : Type 0 where
  pub known : List Term
  pub celled : RoleCelled rows known
  pub exact : RoleExact rows known marks
  pub left : (start : ℕ) → ill_role rows own s start ≡ ill_formed_from rows own known (present_ones (events_left start s first count j))

module _ (rows : List Row) (own : ℕ) (s : List ℕ) (first count : ℕ) where
  -- at first all are left
  pub role_start : first ≡ 2 + knowledge_count s → count ≡ event_count s → {marks : List Bool} → RoleExact rows (listed_terms rows (knowledge_in s)) marks → RoleLeft rows own s first count 0 marks
  role_start e f exact = record {
    known = listed_terms rows (knowledge_in s);
    celled = listed-celled rows (knowledge_in s);
    exact = exact;
    left = λ start. ap (λ (es : List (Option Event)). ill_formed_from rows own (listed_terms rows (knowledge_in s)) (present_ones es)) (left-events-all start s first count e f);
  }

  -- with none left all are well formed
  pub role-none : (j : ℕ) {marks : List Bool} → RoleLeft rows own s first count j marks → count ≤ j → IllRole rows own s None
  unfolding ill_formed_from
  role-none j left l = record {
    place = λ start. sym (ap place_as (left.left start ∙ ap (λ (es : List (Option Event)). ill_formed_from rows own left.known (present_ones es)) (left-events-none start s first count j l)));
    near = omega arith;
  }

module _ (bytes : List ℕ) (n : ℕ) (shape : Shape bytes n 0) (own : ℕ) (s : List ℕ) (first count : ℕ) (whole : first + 4 * count ≤ length s) (j : ℕ) (marks : List Bool)
    (left : RoleLeft (rows_of bytes) own s first count j marks) (within : j < count) {kind peer x : ℕ} (ek : kind ≡ get_or s (first + 4 * j) 0) (ep : peer ≡ get_or s (first + 4 * j + 2) 0)
    (ex : x ≡ get_or s (first + 4 * j + 3) 0) (is : IsEvent (rows_of bytes) s (first + 4 * j)) {r : Bool} (formed : WellFormedEvent (rows_of bytes) marks own kind peer x r) where
  -- the event, as one of a place
  abbrev event : ℕ → Event
  event start = record { kind = is.0; peer = peer; row = x; place = start + (first + 4 * j) }

  -- its kind and its term
  has-kind : get_elem? event_kinds kind ≡ some is.0
  has-kind = rw ek is.1

  value : (t : Term) × (value_of as_atoms (rows_of bytes) x ≡ some t)
  value = has-term bytes n shape x (omega (arith, is.2, shape.count))

  -- it is the first of those left
  event-next : (start : ℕ) → present_ones (events_left start s first count j) ≡ event start ∷ present_ones (events_left start s first count (j + 1))
  event-next start =
      ap present_ones (left-events-cons start s first count j within whole)
      ∙ rw (← ek, ← ep, ← ex) (rw has-kind)

  -- whether it is well formed
  judged : r ≡ well_formed own left.known is.0 peer value.0
  judged = formed left.known is.0 value.0 left.celled left.exact has-kind value.1

  -- one that is not is found
  pub role-ill : r ≡ false → first + 4 * j ≤ 1277 → IllRole (rows_of bytes) own s (Some (first + 4 * j))
  unfolding event_term
  role-ill f l = record {
    place = λ start. sym (ap place_as (left.left start ∙ ap (ill_formed_from (rows_of bytes) own left.known) (event-next start)
        ∙ ill-here (rows_of bytes) own left.known (event start) (present_ones (events_left start s first count (j + 1))) value.1 (sym judged ∙ f)));
    near = l;
  }

  -- one that is well formed is passed, with what it makes known
  pub role-more : r ≡ true → (more : List Bool) → EventLearns (rows_of bytes) kind x marks more → RoleLeft (rows_of bytes) own s first count (j + 1) more
  unfolding event_term
  role-more f more learns =
      let m = learns left.known is.0 value.0 left.celled left.exact has-kind value.1 in
      record {
        known = learned left.known is.0 value.0;
        celled = m.0;
        exact = m.1;
        left = λ start. left.left start ∙ ap (ill_formed_from (rows_of bytes) own left.known) (event-next start)
            ∙ ill-later (rows_of bytes) own left.known (event start) (present_ones (events_left start s first count (j + 1))) value.1 (sym judged ∙ f);
      }

module _ (p : Option Event → Bool) (start : ℕ) (s : List ℕ) (first count : ℕ) (whole : first + 4 * count ≤ length s) (all : T (every p (events_left start s first count 0))) where
  -- where all events pass a test, those from one on do
  every-left : (j : ℕ) → j ≤ count → T (every p (events_left start s first count j))
  every-left zero l = all
  every-left (suc j) l =
      rw (← add-one j) (both_right (p (event_at s (first + 4 * j) (start + (first + 4 * j)))) (every p (events_left start s first count (j + 1)))
      (rw (left-events-cons start s first count j (omega arith) whole) at (every-left j (omega arith))))

  -- and so does each
  every-at : (j : ℕ) → j < count → T (p (event_at s (first + 4 * j) (start + (first + 4 * j))))
  every-at j l =
      both_left (p (event_at s (first + 4 * j) (start + (first + 4 * j)))) (every p (events_left start s first count (j + 1)))
      (rw (left-events-cons start s first count j l whole) at (every-left j (omega arith)))

-- an event that fits has a kind and a row
fits-is : (rows : List Row) (roles peer x place : ℕ) (o : Option EventKind) → T (event_fits rows roles (event_from o peer x place)) → (e : EventKind) × (o ≡ some e) × (x < length rows)
fits-is rows roles peer x place none t = absurd t
fits-is rows roles peer x place (some e) t = (e, refl, ltb→lt x (length rows) (both_right (peer_fits roles e peer) (ltb x (length rows)) t))

-- what is true of a role record that is not refused
good-record : (rows : List Row) (roles i start : ℕ) (s : List ℕ) → T (good_role rows roles i (record_at role_length start s)) → GoodRecord rows s
unfolding knowledge_fits
good-record rows roles i start s g = record {
  whole = whole;
  knows = λ x m. value-within without_variables rows x (present-some (value_of without_variables rows x) ((every-iff (λ r. present (value_of without_variables rows r)) (knowledge_in s)).0 (search (both-parts, parts)) x m));
  events = λ j l. fits-is rows roles (get_or s (2 + knowledge_count s + 4 * j + 2) 0) (get_or s (2 + knowledge_count s + 4 * j + 3) 0) (start + (2 + knowledge_count s + 4 * j)) (get_elem? event_kinds (get_or s (2 + knowledge_count s + 4 * j) 0))
      (every-at (event_fits rows roles) start s (2 + knowledge_count s) (event_count s) whole (rw (← left-events-all start s (2 + knowledge_count s) (event_count s) refl refl) fit) j l);
}
  where
    parts : T (leb (role_length s) (length s) && ltb i most_roles && leb (event_count s) most_events && knowledge_fits rows (knowledge_in s) && every (event_fits rows roles) (events_in (part_at start s)))
    parts = rw role-good at g

    whole : role_length s ≤ length s
    whole = leb→le (role_length s) (length s) (search (both-parts, parts))

    fit : T (every (event_fits rows roles) (events_in (part_at start s)))
    fit = search (both-parts, parts)

-- where a place is found first, it is the place, and where none is, it is that of the others
found_first : (x : ℕ) (o q : Option ℕ) → Some x ≡ place_as o → Some x ≡ place_as (first_of (o ∷ q ∷ []))
found_first x none q e = let z : ◌≡◌ {A = ℕ} 0 1 = cc in absurd (omega arith)
found_first x (some y) q e = e

found-later : (o q : Option ℕ) → None ≡ place_as o → first_of (o ∷ q ∷ []) ≡ q
found-later none none e = refl
found-later none (some y) e = refl
found-later (some y) q e = let z : ◌≡◌ {A = ℕ} 0 1 = cc in absurd (omega arith)

module _ (rows : List Row) (i start : ℕ) (s : List ℕ) where
  -- a role record has the knowledge and the events that the bytes from its first on have
  record-ill : ill_formed_from rows i (role_knowledge rows (role_in (record_at role_length start s))) (role_in (record_at role_length start s)).events ≡ ill_role rows i s start
  unfolding role_knowledge role_in
  record-ill = rw (own-rows s, own-events_in s start)

  -- so the first event that is not well formed is that of the record or that of the others
  roles-cons : (parts : List Part) → ill_formed rows i (roles_from (record_at role_length start s ∷ parts)) ≡ first_of (ill_role rows i s start ∷ ill_formed rows (i + 1) (roles_from parts) ∷ [])
  unfolding ill_formed roles_from
  roles-cons parts = rw (add-one i) (rw record-ill)

module _ (rows : List Row) (base : ℕ) (b : List ℕ) where
  -- the first event of the block that is not well formed
  abbrev pub ill_block : Option ℕ
  ill_block = ill_formed rows 0 (roles_from (role_records (part_at base b)))

  -- how many roles are present
  abbrev roles : ℕ
  roles = roles_present (role_records (part_at base b))

  -- Before record i: none of the records left is bad, and the first event is theirs.
  pub record BlockLeft (i : ℕ) (ps : List (ℕ × List ℕ)) : Type 0 where
    pub good : first_bad (good_role rows roles) i (map (record_of base) ps) ≡ none
    pub left : ill_block ≡ ill_formed rows i (roles_from (map (record_of base) ps))

  -- at first all are left
  pub block_start : bad_role rows (role_records (part_at base b)) ≡ none → BlockLeft 0 (begins 0 b)
  unfolding bad_role
  block_start h = record {
    good = ap (first_bad (good_role rows roles) 0) (sym (block-records base b)) ∙ h;
    left = ap (λ (parts : List Part). ill_formed rows 0 (roles_from parts)) (block-records base b);
  }

  -- with none left there is no such event
  pub block_none : (i : ℕ) → BlockLeft i [] → None ≡ place_as ill_block
  unfolding ill_formed roles_from
  block_none i left = sym (ap place_as left.left)

  module _ (i at : ℕ) (s : List ℕ) (more : List (ℕ × List ℕ)) (left : BlockLeft i ((at, s) ∷ more)) where
    -- the next record is good, and none behind it is bad
    passed : T (good_role rows roles i (record_at role_length (base + at) s)) × (first_bad (good_role rows roles) (suc i) (map (record_of base) more) ≡ none)
    unfolding first_bad
    passed = passed_none (good_role rows roles i (record_at role_length (base + at) s)) (first_bad (good_role rows roles) (suc i) (map (record_of base) more)) (base + at) left.good

    pub block-good : GoodRecord rows s
    block-good = good-record rows roles i (base + at) s passed.0

    -- the first event of the records behind it that is not well formed
    abbrev others : Option ℕ
    others = ill_formed rows (i + 1) (roles_from (map (record_of base) more))

    -- the first event is that of the record or that of the others
    block-cons : ill_block ≡ first_of (ill_role rows i s (base + at) ∷ others ∷ [])
    block-cons = left.left ∙ roles-cons rows i (base + at) s (map (record_of base) more)

    module _ {p : Place} (found : IllRole rows i s p) where
      -- one of the record is found
      pub block-ill : {event : ℕ} → p ≡ Some event → Some (base + at + event) ≡ place_as ill_block
      block-ill {event} e = rw block-cons (found_first (base + at + event) (ill_role rows i s (base + at)) others (rw e at (found.place (base + at))))

      -- where there is none, the record is passed
      pub block_more : p ≡ None → BlockLeft (i + 1) more
      block_more e = record {
        good = rw (add-one i) passed.1;
        left = block-cons ∙ found-later (ill_role rows i s (base + at)) others (rw e at (found.place (base + at)));
      }
