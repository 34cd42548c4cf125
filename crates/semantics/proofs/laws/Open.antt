-- The laws of Open: what is true of an accepted file's scenario. Assumes nothing.
use Rattle.std.specs.Prelude.{ℕ, zero, suc, ◌+◌, ◌*◌, ◌≤◌, ◌<◌, ◌≡◌, refl, ◌↔◌, ◌⊎◌, ◌&&◌, ltb, leb, length, get_or, take, drop}
use Rattle.std.proofs.Math.Decide.{dec_lt}
use native.Mathlib.Omega.{arith}
use Rattle.std.proofs.Common.{add-zero, zero-add, sym, ◌∙◌, inl, inr, ⊎_elim, lt→ltb, length-take}
use Rattle.std.proofs.Math.Option.{none, some, none-ne-some, some-injective}
use mathlib.Core.List.Memᴰ
use mathlib.Core.List.{List, [], ◌∷◌, map, Memᴰ}
use Rattle.std.proofs.Math.Dec.{T, ltb→lt, leb→le}
use Rattle.std.proofs.Math.ListN.{get_elem?, length-drop}
use Rattle.std.proofs.lemmas.List.{length-map}
use Rattle.semantics.specs.Basic.{unfit_from, present, present_ones, rising}
use Rattle.semantics.specs.Limits.{most_roles, most_runs, most_events}
use Rattle.semantics.specs.Answer.{accepted}
use Rattle.semantics.specs.Term.{trusted, untrusted, global, intruder, role, variable, local, Term}
use Rattle.semantics.specs.Table.{Row, atomic, pk_of, sk_of, shared_of, pair_of, encrypted_of, rows_from}
use Rattle.semantics.specs.Value.{value_of, without_variables, without_run}
use Rattle.semantics.specs.Frame.{Part, unversioned, too_long, misframed}
use Rattle.semantics.specs.Roles.{Event, Role, events_from, event_count, knowledge_count, knowledge_in, events_in, role_in, roles_present, peer_fits, event_fits, knowledge_fits, good_role, bad_role, names_present, absent_role_from, roles_from}
use Rattle.semantics.specs.WellFormed.{well_formed, learned, event_term, role_knowledge, ill_formed_from, ill_formed}
use Rattle.semantics.specs.Runs.{atom_at, is_agent, run_length, run_in, run_records, good_run, bad_run, runs_from, bad_knowledge_from}
use Rattle.semantics.specs.Scenario.{Scenario, term_part, run_part, knowledge_part, role_parts, role_count, run_parts, scenario_of, opened}
use Rattle.semantics.specs.Guarantee.{HasValue, GoodRole, WellFormedEvents, no_events, more_events, GoodRun, Guarantee}
use Rattle.semantics.proofs.laws.Test.{both_left, both_right, both-parts, both, present-some, passed_none, found_none, first_of-none, ltb_iff}
use Rattle.semantics.proofs.laws.List.{mem-cases, mem-present, every-iff, mem-get_elem, mem-map, present-length}
use Rattle.semantics.proofs.laws.Answer.{accepted-same, checked-passed, bound-passed}
use Rattle.semantics.proofs.laws.Table.{rows-good}
use Rattle.semantics.proofs.laws.Frame.{first_bad-none, first_bad-few, records-taken}

-- four bytes make an event
events_from-length : (at : ℕ) (bytes : List ℕ) → 4 * length (events_from at bytes) ≤ length bytes
unfolding events_from
events_from-length at [] = omega arith
events_from-length at (kind ∷ []) = omega arith
events_from-length at (kind ∷ label ∷ []) = omega arith
events_from-length at (kind ∷ label ∷ peer ∷ []) = omega arith
events_from-length at (kind ∷ label ∷ peer ∷ row ∷ bytes) = let l = events_from-length (at + 4) bytes in omega arith

-- a role record has at most as many events as it says
pub events_in-length : (part : Part) → length (events_in part) ≤ event_count part.bytes
unfolding events_in
events_in-length part =
    let n = event_count part.bytes in
    let rest = drop (2 + knowledge_count part.bytes) part.bytes in
    let l = events_from-length (part.start + (2 + knowledge_count part.bytes)) (take (4 * n) rest) in
    let k = length-take (4 * n) rest in
    omega arith

-- a run record is at most as long as the roles say
run_records-length : (roles : ℕ) (whole part : Part) → Memᴰ part (run_records roles whole) → length part.bytes ≤ suc roles
unfolding run_records
run_records-length roles whole part m = let w = records-taken (run_length roles) whole m in rw (w.1, length-take) (omega arith)

module _ (rows : List Row) where
  -- the number of a role record that is not refused
  good_role-number : (roles i : ℕ) (part : Part) → T (good_role rows roles i part) → i < most_roles
  unfolding good_role
  good_role-number roles i part t = ltb→lt i most_roles (search both-parts)

  -- a role record that is not refused
  pub good_role-good : (roles i : ℕ) (part : Part) → T (good_role rows roles i part) → GoodRole rows roles (role_in part)
  unfolding good_role knowledge_fits role_in
  good_role-good roles i part t = record {
    few_events =
        let e = leb→le (event_count part.bytes) most_events (search both-parts) in
        let k = events_in-length part in
        let l = present-length (events_in part) in
        omega arith;
    rises = search both-parts;
    knows = λ x m. present-some (value_of without_variables rows x) ((every-iff (λ r. present (value_of without_variables rows r)) (knowledge_in part.bytes)).0 (search both-parts) x m);
    peers = λ e m. both_left (peer_fits roles e.kind e.peer) (ltb e.row (length rows)) (fit e m);
    present = λ e m. ltb→lt e.row (length rows) (both_right (peer_fits roles e.kind e.peer) (ltb e.row (length rows)) (fit e m));
  }
    where
      fit : (e : Event) → Memᴰ e (present_ones (events_in part)) → T (event_fits rows roles (some e))
      fit e m = (every-iff (event_fits rows roles) (events_in part)).0 (search both-parts) (some e) ((mem-present (events_in part)).0 m)

  -- where no role record is refused, there are at most four
  pub bad_role-few : (parts : List Part) → bad_role rows parts ≡ none → length parts ≤ most_roles
  unfolding bad_role
  bad_role-few parts e = first_bad-few (good_role rows (roles_present parts)) most_roles (good_role-number (roles_present parts)) parts e

  -- all their roles are present
  pub bad_role-present : (parts : List Part) → bad_role rows parts ≡ none → roles_present parts ≡ length parts
  unfolding roles_present
  bad_role-present parts e = let l = bad_role-few parts e in omega arith

  -- and each is a good role
  pub bad_role-none : (parts : List Part) → bad_role rows parts ≡ none → (part : Part) → Memᴰ part parts → GoodRole rows (roles_present parts) (role_in part)
  unfolding bad_role
  bad_role-none parts e part m =
      let w = (mem-get_elem parts).0 m in
      good_role-good (roles_present parts) (0 + w.0) part (first_bad-none (good_role rows (roles_present parts)) 0 parts e w.0 part w.1)

  module _ (roles : ℕ) where
    -- the number of a run record that is not refused
    good_run-number : (i : ℕ) (part : Part) → T (good_run rows roles i part) → i < most_runs
    unfolding good_run
    good_run-number i part t = ltb→lt i most_runs (search both-parts)

    -- a run record that is not refused
    pub good_run-good : (i : ℕ) (part : Part) → length part.bytes ≤ suc roles → T (good_run rows roles i part) → GoodRun rows roles (run_in part)
    unfolding good_run run_in
    good_run-good i part l t = record {
      role_present = ltb→lt (get_or part.bytes 0 0) roles (search both-parts);
      agent_for_each = let k = leb→le (suc roles) (length part.bytes) (search both-parts) in rw length-drop (omega arith);
      are_agents = (every-iff (λ r. is_agent (atom_at rows r)) (drop 1 part.bytes)).0 (search both-parts);
    }

    -- where no run record is refused, there are at most four
    pub bad_run-few : (parts : List Part) → bad_run rows roles parts ≡ none → length parts ≤ most_runs
    unfolding bad_run
    bad_run-few parts e = first_bad-few (good_run rows roles) most_runs good_run-number parts e

    -- and each is a good run
    pub bad_run-none : (whole : Part) → bad_run rows roles (run_records roles whole) ≡ none → (part : Part) → Memᴰ part (run_records roles whole) → GoodRun rows roles (run_in part)
    unfolding bad_run
    bad_run-none whole e part m =
        let w = (mem-get_elem (run_records roles whole)).0 m in
        good_run-good (0 + w.0) part (run_records-length roles whole part m) (first_bad-none (good_run rows roles) 0 (run_records roles whole) e w.0 part w.1)

-- events that are not refused are well formed
pub ill_formed_from-none : (rows : List Row) (own : ℕ) (known : List Term) (es : List Event) → ill_formed_from rows own known es ≡ none → WellFormedEvents rows own known es
unfolding ill_formed_from
ill_formed_from-none rows own known [] h = no_events
ill_formed_from-none rows own known (e ∷ es) h =
    let w = found_none (event_term rows e) _ e.place h in
    let v = passed_none (well_formed own known e.kind e.peer w.0) (ill_formed_from rows own (learned known e.kind w.0) es) e.place w.2 in
    more_events w.1 v.0 (ill_formed_from-none rows own (learned known e.kind w.0) es v.1)

-- the events of each role are well formed where none is refused
pub ill_formed-none : (rows : List Row) (own : ℕ) (roles : List Role) → ill_formed rows own roles ≡ none
    → (i : ℕ) (r : Role) → get_elem? roles i ≡ some r → WellFormedEvents rows (own + i) (role_knowledge rows r) r.events
unfolding ill_formed
ill_formed-none rows own [] h i r e = absurd (none-ne-some r e)
ill_formed-none rows own (q ∷ roles) h zero r e =
    let w = first_of-none (ill_formed_from rows own (role_knowledge rows q) q.events) (ill_formed rows (suc own) roles) h in
    rw (add-zero, ← some-injective q r e) (ill_formed_from-none rows own (role_knowledge rows q) q.events w.0)
ill_formed-none rows own (q ∷ roles) h (suc i) r e =
    let w = first_of-none (ill_formed_from rows own (role_knowledge rows q) q.events) (ill_formed rows (suc own) roles) h in
    let s : own + suc i ≡ suc own + i = omega arith in
    rw s (ill_formed-none rows (suc own) roles w.1 i r e)

-- a row names no absent role, or it is the name of one
pub names-cases : (roles : ℕ) (row : Row) → T (names_present roles row) ⊎ ((i : ℕ) × (row ≡ atomic (role i)) × (roles ≤ i))
names-cases roles (atomic (trusted n)) = inl tt
names-cases roles (atomic (untrusted n)) = inl tt
names-cases roles (atomic (global n)) = inl tt
names-cases roles (atomic (intruder n)) = inl tt
names-cases roles (atomic (role i)) = go (dec_lt i roles)
  where
    go : Dec (i < roles) → T (ltb i roles) ⊎ ((j : ℕ) × (atomic (role i) ≡ atomic (role j)) × (roles ≤ j))
    go (yes l) = inl (lt→ltb i roles l)
    go (no n) = inr (i, refl, omega arith)
names-cases roles (atomic (variable n t)) = inl tt
names-cases roles (atomic (local n u)) = inl tt
names-cases roles (pk_of a) = inl tt
names-cases roles (sk_of a) = inl tt
names-cases roles (shared_of a b) = inl tt
names-cases roles (pair_of l r) = inl tt
names-cases roles (encrypted_of l r) = inl tt

-- so it names roles that are present exactly if it names no other
pub names_present-exactly : (roles : ℕ) (row : Row) → T (names_present roles row) ↔ ((i : ℕ) → row ≡ atomic (role i) → i < roles)
names_present-exactly roles row = (
  λ t i e. (ltb_iff i roles).0 (rw e at t),
  λ h. ⊎_elim (λ t. t) (λ w. absurd (let l = h w.0 w.1 in let k = w.2 in omega arith)) (names-cases roles row),
)

-- no row names an absent role where none is refused
pub absent_role-none : (roles at : ℕ) (rows : List Row) → absent_role_from roles at rows ≡ none → (x : ℕ) (row : Row) → get_elem? rows x ≡ some row → T (names_present roles row)
unfolding absent_role_from
absent_role-none roles at [] h x row e = absurd (none-ne-some row e)
absent_role-none roles at (q ∷ rows) h zero row e =
    rw (← some-injective q row e) (passed_none (names_present roles q) (absent_role_from roles (at + 3) rows) at h).0
absent_role-none roles at (q ∷ rows) h (suc x) row e = absent_role-none roles (at + 3) rows (passed_none (names_present roles q) (absent_role_from roles (at + 3) rows) at h).1 x row e

-- a knowledge byte that is not refused, and those after it
knowledge-step : (rows : List Row) (at least r : ℕ) (bytes : List ℕ) → bad_knowledge_from rows at least (r ∷ bytes) ≡ none
    → T (leb least r) × HasValue without_run rows r × (bad_knowledge_from rows (suc at) (suc r) bytes ≡ none)
unfolding unfit_from
knowledge-step rows at least r bytes h =
    let w = passed_none (leb least r && present (value_of without_run rows r)) (bad_knowledge_from rows (suc at) (suc r) bytes) at h in
    let p = both_right (leb least r) (present (value_of without_run rows r)) w.0 in
    (both_left (leb least r) (present (value_of without_run rows r)) w.0, present-some (value_of without_run rows r) p, w.1)

-- knowledge rows that are not refused rise
pub bad_knowledge-rises : (rows : List Row) (at least : ℕ) (bytes : List ℕ) → bad_knowledge_from rows at least bytes ≡ none → T (rising bytes)
bad_knowledge-rises rows at least [] h = tt
bad_knowledge-rises rows at least (r ∷ []) h = tt
bad_knowledge-rises rows at least (r ∷ q ∷ bytes) h =
    let w = knowledge-step rows at least r (q ∷ bytes) h in
    both (ltb r q) (rising (q ∷ bytes)) (knowledge-step rows (suc at) (suc r) q bytes w.2).0 (bad_knowledge-rises rows (suc at) (suc r) (q ∷ bytes) w.2)

-- and have values
pub bad_knowledge-none : (rows : List Row) (at least : ℕ) (bytes : List ℕ) → bad_knowledge_from rows at least bytes ≡ none → (x : ℕ) → Memᴰ x bytes → HasValue without_run rows x
bad_knowledge-none rows at least [] h x m = absurd (Memᴰ.not-nil m)
bad_knowledge-none rows at least (r ∷ bytes) h x m =
    let w = knowledge-step rows at least r bytes h in
    mem-cases m (λ e. rw e w.1) (bad_knowledge-none rows (suc at) (suc r) bytes w.2 x)

-- What the acceptance of a file says of its parts.
pub record Opened (file : List ℕ) (sc : Scenario) : Type 0 where
  pub rows : List Row
  pub versioned : unversioned file ≡ none
  pub short : too_long file ≡ none
  pub framed : misframed file ≡ none
  pub table : rows_from (term_part file).start [] (term_part file).bytes ≡ accepted rows
  pub roles : bad_role rows (role_parts file) ≡ none
  pub named : absent_role_from (role_count file) (term_part file).start rows ≡ none
  pub well_formed : ill_formed rows 0 (roles_from (role_parts file)) ≡ none
  pub runs : bad_run rows (role_count file) (run_parts file) ≡ none
  pub knowledge : bad_knowledge_from rows (knowledge_part file).start 0 (knowledge_part file).bytes ≡ none
  pub scenario : sc ≡ scenario_of file rows

-- no condition of Open refuses an accepted file
pub opened-inverts : (file : List ℕ) (sc : Scenario) → opened file ≡ accepted sc → Opened file sc
unfolding opened
opened-inverts file sc e =
    let a = checked-passed 1 (unversioned file) _ e in
    let b = checked-passed 2 (too_long file) _ a.1 in
    let c = checked-passed 3 (misframed file) _ b.1 in
    let t = bound-passed (rows_from (term_part file).start [] (term_part file).bytes) _ c.1 in
    let d = checked-passed 6 (bad_role t.0 (role_parts file)) _ t.2 in
    let n = checked-passed 6 (absent_role_from (role_count file) (term_part file).start t.0) _ d.1 in
    let f = checked-passed 7 (ill_formed t.0 0 (roles_from (role_parts file))) _ n.1 in
    let g = checked-passed 8 (bad_run t.0 (role_count file) (run_parts file)) _ f.1 in
    let k = checked-passed 9 (bad_knowledge_from t.0 (knowledge_part file).start 0 (knowledge_part file).bytes) _ g.1 in
    record {
      rows = t.0;
      versioned = a.0;
      short = b.0;
      framed = c.0;
      table = t.1;
      roles = d.0;
      named = n.0;
      well_formed = f.0;
      runs = g.0;
      knowledge = k.0;
      scenario = sym (accepted-same k.1);
    }

-- the scenario of a file that no condition of Open refuses
scenario-guarantee : (file : List ℕ) (sc : Scenario) (o : Opened file sc) → Guarantee (scenario_of file o.rows)
unfolding scenario_of roles_from runs_from
scenario-guarantee file sc o = record {
  table = rows-good (term_part file).start (term_part file).bytes o.rows o.table;
  few_roles = rw length-map (bad_role-few o.rows (role_parts file) o.roles);
  good_roles = λ r m. let w = (mem-map role_in (role_parts file)).0 m in rw (w.2, all) (bad_role-none o.rows (role_parts file) o.roles w.0 w.1);
  roles_named = λ x i h. rw all (ltb→lt i (role_count file) (absent_role-none (role_count file) (term_part file).start o.rows o.named x (atomic (role i)) h));
  well_formed_roles = λ i r h. rw zero-add at (ill_formed-none o.rows 0 (map role_in (role_parts file)) o.well_formed i r h);
  few_runs = rw length-map (bad_run-few o.rows (role_count file) (run_parts file) o.runs);
  good_runs = λ run m. let w = (mem-map run_in (run_parts file)).0 m in rw (w.2, all) (bad_run-none o.rows (role_count file) (run_part file) o.runs w.0 w.1);
  rises = bad_knowledge-rises o.rows (knowledge_part file).start 0 (knowledge_part file).bytes o.knowledge;
  known = bad_knowledge-none o.rows (knowledge_part file).start 0 (knowledge_part file).bytes o.knowledge;
}
  where
    all : length (map role_in (role_parts file)) ≡ role_count file
    all = length-map (role_parts file) role_in ∙ sym (bad_role-present o.rows (role_parts file) o.roles)

-- what an accepted file guarantees
pub opened-guarantee : (file : List ℕ) (sc : Scenario) → opened file ≡ accepted sc → Guarantee sc
opened-guarantee file sc e = let o = opened-inverts file sc e in rw o.scenario (scenario-guarantee file sc o)
