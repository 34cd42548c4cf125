-- The runs of an accepted file: where the record of each stands, and where the events of its role do. Assumes nothing.
use Prim.Native.Nat.{ℕ, zero, suc, ◌+◌, ◌-◌, ◌*◌, ◌<◌, ◌≤◌}
use native.Mathlib.Omega.{arith}
use Rattle.std.specs.Prelude.{◌≡◌, refl, ◌&&◌, T, ltb, leb, drop}
use Rattle.std.proofs.Common.{sym, ◌∙◌}
use Rattle.std.proofs.Math.Path.{ap}
use mathlib.Core.List.{List, [], ◌∷◌, map}
use Rattle.std.proofs.Math.Option.{Option, some, some-injective}
use Rattle.std.proofs.Math.Dec.{leb→le}
use Rattle.std.proofs.Math.ListN.{length, get_elem?, get_or, take, length-take, length-drop}
use Rattle.std.proofs.lemmas.List.{length-map}
use Rattle.std.proofs.Math.Seq.{get_or-take, get_or-drop}
use Rattle.semantics.specs.Basic.{every, mapped, present_ones}
use Rattle.semantics.specs.Limits.{most_roles, most_events}
use Rattle.semantics.specs.Answer.{accepted}
use Rattle.semantics.specs.Table.{Row}
use Rattle.semantics.specs.Frame.{Part}
use Rattle.semantics.specs.Roles.{Event, Role, knowledge_count, event_count, role_length, knowledge_in, events_in, role_in, role_records, event_fits, knowledge_fits, good_role, bad_role, roles_from}
use Rattle.semantics.specs.Runs.{Run, run_length, run_in, run_records, good_run, bad_run, runs_from}
use Rattle.semantics.specs.Scenario.{Scenario, role_part, run_part, role_parts, role_count, run_parts, scenario_of, opened}
use Rattle.semantics.specs.State.{events_of}
use Rattle.semantics.proofs.laws.Test.{both-parts, mapped-some}
use Rattle.semantics.proofs.laws.List.{mem-get_elem, get_elem-below, get_elem-there}
use Rattle.semantics.proofs.laws.Frame.{first_bad-none}
use Rattle.semantics.proofs.laws.Open.{Opened, opened-inverts, opened-guarantee, bad_role-present}
use Rattle.records.specs.Records.{part_at, record_at, event_at}
use Rattle.records.specs.laws.Roles.{role-good, own-events_in}
use Rattle.records.specs.laws.Runs.{run-bytes}
use Rattle.runs.specs.Runs.{RunAt, IsRun}
use Rattle.runs.specs.laws.Blocks.{PartStands, block-stands, opened-framed}
use Rattle.records.specs.laws.Begins.{begins-record, begins-each}
use Rattle.runs.specs.laws.Events.{record-count, record-each}

-- the element at a place, and the image of one
pub get_elem-some : {A : Type 0} (xs : List A) (i : ℕ) (d : A) → i < length xs → get_elem? xs i ≡ some (get_or xs i d)
get_elem-some [] i d l = absurd (omega arith)
get_elem-some (x ∷ xs) zero d l = refl
get_elem-some (x ∷ xs) (suc i) d l = get_elem-some xs i d (omega arith)

get_elem_map : {A B : Type 0} (f : A → B) (xs : List A) (i : ℕ) → get_elem? (map f xs) i ≡ mapped f (get_elem? xs i)
get_elem_map f [] i = refl
get_elem_map f (x ∷ xs) zero = refl
get_elem_map f (x ∷ xs) (suc i) = get_elem_map f xs i

module _ (file : List ℕ) (base : ℕ) (b : List ℕ) (stands : PartStands file (part_at base b)) where
  -- the bytes of a block from a place on stand in the file too
  stands_from : (at : ℕ) → at ≤ length b → PartStands file (part_at (base + at) (drop at b))
  stands_from at l = record {
    inside = let d = length-drop at b in omega (arith, stands.inside);
    same = λ i m. let z : base + (at + i) ≡ base + at + i = omega arith in
        get_or-drop at b i 0 ∙ stands.same (at + i) (omega (arith, length-drop at b)) ∙ ap (λ (j : ℕ). get_or file j 0) z;
  }

  -- an event of the block is the event at its place in the file
  event-in-file : (i : ℕ) → i + 3 < length b → event_at b i (base + i) ≡ event_at file (base + i) (base + i)
  event-in-file i l =
      let p : base + (i + 2) ≡ base + i + 2 = omega arith in
      let q : base + (i + 3) ≡ base + i + 3 = omega arith in
      rw (stands.same i (omega arith), stands.same (i + 2) (omega arith), stands.same (i + 3) (omega arith), p, q)

  module _ (roles at : ℕ) (whole : at + suc roles ≤ length b) where
    -- a whole run record in the file: its role, its agents
    run-role : (run_in (record_at (run_length roles) (base + at) (drop at b))).role ≡ get_or file (base + at) 0
    unfolding run_in
    run-role =
        let z : at + 0 ≡ at = omega arith in
        get_or-take (suc roles) (drop at b) 0 0 (omega arith) ∙ get_or-drop at b 0 0 ∙ ap (λ (j : ℕ). get_or b j 0) z ∙ stands.same at (omega arith)

    run-agents : (i : ℕ) → i < roles → get_elem? (run_in (record_at (run_length roles) (base + at) (drop at b))).agents i ≡ some (get_or file (base + at + 1 + i) 0)
    unfolding run_in
    run-agents i l =
        let s = take (suc roles) (drop at b) in
        let n : length (drop 1 s) ≡ roles = rw (length-drop, length-take, length-drop) (omega arith) in
        let z : base + (at + (1 + i)) ≡ base + at + 1 + i = omega arith in
        get_elem-some (drop 1 s) i 0 (omega arith)
        ∙ ap some (get_or-drop 1 s i 0 ∙ get_or-take (suc roles) (drop at b) (1 + i) 0 (omega arith) ∙ get_or-drop at b (1 + i) 0 ∙ stands.same (at + (1 + i)) (omega arith) ∙ ap (λ (j : ℕ). get_or file j 0) z)

  -- a good run record is whole
  run-whole : (rows : List Row) (roles i at : ℕ) → T (good_run rows roles i (record_at (run_length roles) (base + at) (drop at b))) → at + suc roles ≤ length b
  unfolding good_run
  run-whole rows roles i at t =
      let c = leb→le (suc roles) (length (take (suc roles) (drop at b))) (search both-parts) in
      omega (arith, length-take (suc roles) (drop at b), length-drop at b)

module _ (file : List ℕ) (start : ℕ) (s : List ℕ) (stands : PartStands file (part_at start s)) (rows : List Row) (roles i : ℕ) (good : T (good_role rows roles i (record_at role_length start s))) where
  parts : T (leb (role_length s) (length s) && ltb i most_roles && leb (event_count s) most_events && knowledge_fits rows (knowledge_in s) && every (event_fits rows roles) (events_in (part_at start s)))
  parts = rw role-good at good

  -- a good role record is whole, with at most eight events
  role-whole : role_length s ≤ length s
  role-whole = let t = parts in leb→le (role_length s) (length s) (search both-parts)

  role-few : event_count s ≤ most_events
  role-few = let t = parts in leb→le (event_count s) most_events (search both-parts)

  role-fit : T (every (event_fits rows roles) (events_in (part_at start s)))
  role-fit = let t = parts in search both-parts

  -- its events are as many as it says, and each is the event of its bytes in the file
  abbrev events : List Event
  events = (role_in (record_at role_length start s)).events

  role-events : events ≡ present_ones (events_in (part_at start s))
  unfolding role_in
  role-events = ap (λ (os : List (Option Event)). present_ones os) (own-events_in s start)

  role-count : length events ≡ event_count s
  role-count = ap length role-events ∙ record-count start s (2 + knowledge_count s) (event_count s) role-whole refl refl rows roles role-fit

  role-each : (j : ℕ) → j < event_count s → get_elem? events j ≡ event_at file (start + (2 + knowledge_count s) + 4 * j) (start + (2 + knowledge_count s) + 4 * j)
  role-each j l =
      let z : start + (2 + knowledge_count s + 4 * j) ≡ start + (2 + knowledge_count s) + 4 * j = omega arith in
      ap (λ (es : List Event). get_elem? es j) role-events
      ∙ record-each start s (2 + knowledge_count s) (event_count s) role-whole refl refl rows roles role-fit j l
      ∙ event-in-file file start s stands (2 + knowledge_count s + 4 * j) (omega (arith, role-whole))
      ∙ ap (λ (n : ℕ). event_at file n n) z

module _ (file : List ℕ) (sc : Scenario) (accepts : opened file ≡ accepted sc) where
  o : Opened file sc
  o = opened-inverts file sc accepts

  -- the roles and the runs are those of the records
  roles-parts : sc.roles ≡ map role_in (role_parts file)
  unfolding scenario_of roles_from
  roles-parts = ap (λ (x : Scenario). x.roles) o.scenario

  runs-parts : sc.runs ≡ map run_in (run_parts file)
  unfolding scenario_of runs_from
  runs-parts = ap (λ (x : Scenario). x.runs) o.scenario

  roles-length : length sc.roles ≡ length (role_parts file)
  roles-length = ap length roles-parts ∙ length-map (role_parts file) role_in

  roles-count : length sc.roles ≡ role_count file
  roles-count = roles-length ∙ sym (bad_role-present o.rows (role_parts file) o.roles)

  roles-stand : PartStands file (role_part file)
  roles-stand = block-stands file (opened-framed file sc accepts) 1 (omega arith)

  runs-stand : PartStands file (run_part file)
  runs-stand = block-stands file (opened-framed file sc accepts) 2 (omega arith)

  -- the record of a role
  module _ (i at : ℕ) (there : get_elem? (role_parts file) i ≡ some (record_at role_length ((role_part file).start + at) (drop at (role_part file).bytes))) where
    role-there : get_elem? sc.roles i ≡ some (role_in (record_at role_length ((role_part file).start + at) (drop at (role_part file).bytes)))
    role-there = ap (λ (rs : List Role). get_elem? rs i) roles-parts ∙ get_elem_map role_in (role_parts file) i ∙ ap (mapped role_in) there

    role-is-good : T (good_role o.rows (role_count file) (0 + i) (record_at role_length ((role_part file).start + at) (drop at (role_part file).bytes)))
    unfolding bad_role
    role-is-good = first_bad-none (good_role o.rows (role_count file)) 0 (role_parts file) o.roles i (record_at role_length ((role_part file).start + at) (drop at (role_part file).bytes)) there

    pub role-inside : at ≤ length (role_part file).bytes → at + role_length (drop at (role_part file).bytes) ≤ length (role_part file).bytes
    role-inside l = let w = role-whole file _ _ (stands_from file _ _ roles-stand at l) o.rows (role_count file) (0 + i) role-is-good in omega (arith, length-drop at (role_part file).bytes)

  -- the record of a run
  module _ (k : ℕ) (run : Run) (found : get_elem? sc.runs k ≡ some run) where
    abbrev run_record : Part
    run_record = record_at (run_length (role_count file)) ((run_part file).start + k * suc (role_count file)) (drop (k * suc (role_count file)) (run_part file).bytes)

    run-there : (get_elem? (run_parts file) k ≡ some run_record) × (run ≡ run_in run_record)
    unfolding run_records
    run-there =
        let w = (mapped-some run_in (get_elem? (run_parts file) k)).0 (sym (get_elem_map run_in (run_parts file) k) ∙ ap (λ (rs : List Run). get_elem? rs k) (sym runs-parts) ∙ found) in
        let b = begins-each (role_count file) (run_part file).bytes (run_part file).start k (get_elem-below (run_parts file) k w.1) in
        let r = begins-record (run_length (role_count file)) (run-bytes (role_count file)) (run_part file).bytes k (k * suc (role_count file)) b.0 b.1 (run_part file).start in
        (r, w.2 ∙ ap run_in (some-injective w.0 run_record (sym w.1 ∙ r)))

    run-is-whole : k * suc (role_count file) + suc (role_count file) ≤ length (run_part file).bytes
    unfolding bad_run
    run-is-whole =
        run-whole file _ _ runs-stand o.rows (role_count file) (0 + k) (k * suc (role_count file))
        (first_bad-none (good_run o.rows (role_count file)) 0 (run_parts file) o.runs k run_record run-there.0)

    -- its role is present
    role-present : run.role < length (role_parts file)
    role-present =
        let g = (opened-guarantee file sc accepts).good_runs run ((mem-get_elem sc.runs).1 (k, found)) in
        omega (arith, g.role_present, roles-length)

-- Run k, whose record begins at a place of the file.
module _ (file : List ℕ) (sc : Scenario) (k start : ℕ) (is : IsRun file sc k start) where
  -- where that is by the count of roles
  start-at : start ≡ (run_part file).start + k * suc (role_count file)
  start-at = let z : 1 + length sc.roles ≡ suc (role_count file) = omega (arith, roles-count file sc is.accepts) in is.begins ∙ ap (λ (n : ℕ). (run_part file).start + k * n) z

  module _ (run : Run) (found : get_elem? sc.runs k ≡ some run) where
    -- its role and its agents
    pub front-role : run.role ≡ get_or file start 0
    front-role =
        rw (run-there file sc is.accepts k run found).1
        (run-role file _ _ (runs-stand file sc is.accepts) (role_count file) (k * suc (role_count file)) (run-is-whole file sc is.accepts k run found) ∙ ap (λ (n : ℕ). get_or file n 0) (sym start-at))

    front-agents : (i : ℕ) → i < length sc.roles → get_elem? run.agents i ≡ some (get_or file (start + 1 + i) 0)
    front-agents i l =
        ap (λ (r : Run). get_elem? r.agents i) (run-there file sc is.accepts k run found).1
        ∙ run-agents file _ _ (runs-stand file sc is.accepts) (role_count file) (k * suc (role_count file)) (run-is-whole file sc is.accepts k run found) i (omega (arith, roles-count file sc is.accepts))
        ∙ ap (λ (n : ℕ). some (get_or file (n + 1 + i) 0)) (sym start-at)

    front-inside : start + length sc.roles < length file
    front-inside =
        omega (arith, start-at, run-is-whole file sc is.accepts k run found, (runs-stand file sc is.accepts).inside, roles-count file sc is.accepts)

    -- the run stands with its record and with the events of its role
    module _ (b : List ℕ) (is_block : b ≡ (role_part file).bytes) (base : ℕ) (is_base : base ≡ (role_part file).start) (at : ℕ) (within : at < length b) (there : get_elem? (role_records (part_at base b)) run.role ≡ some (record_at role_length (base + at) (drop at b))) where
      there-file : get_elem? (role_parts file) run.role ≡ some (record_at role_length ((role_part file).start + at) (drop at (role_part file).bytes))
      there-file = rw (is_block, is_base) at there

      knowledge-read : knowledge_count (drop at b) ≡ get_or b at 0
      knowledge-read = let z : at + 0 ≡ at = omega arith in get_or-drop at b 0 0 ∙ ap (λ (n : ℕ). get_or b n 0) z

      -- the record is inside the block
      inside : at + role_length (drop at b) ≤ length b
      inside = rw is_block (role-inside file sc is.accepts run.role at there-file (omega (arith, ap length is_block)))

      pub first-inside : at + 2 + get_or b at 0 ≤ length b
      first-inside = omega (arith, inside, knowledge-read)

      -- the events of the run are those of the record
      listed : events_of sc run ≡ (role_in (record_at role_length ((role_part file).start + at) (drop at (role_part file).bytes))).events
      unfolding events_of
      listed = rw (role-there file sc is.accepts run.role at there-file, events_of)

      pub run-found : {knowledge first events : ℕ} → knowledge ≡ get_or b at 0 → first ≡ base + (at + 2 + knowledge) → events ≡ get_or b (at + 2 + knowledge - 1) 0 → RunAt file sc run start first events
      run-found {knowledge} {first} {events} e f g =
          let stands = stands_from file _ _ (roles-stand file sc is.accepts) at (omega (arith, ap length is_block)) in
          let good = role-is-good file sc is.accepts run.role at there-file in
          let s = drop at (role_part file).bytes in
          let same : drop at b ≡ s = ap (λ (x : List ℕ). drop at x) is_block in
          let n : events ≡ event_count s = rw (← same) (g ∙ count) in
          let p : first ≡ (role_part file).start + at + (2 + knowledge_count s) = rw (← same) (omega (arith, knowledge-read)) in
          record {
            role = front-role;
            agents = front-agents;
            agents_inside = front-inside;
            count = n ∙ sym (role-count file _ _ stands (o file sc is.accepts).rows (role_count file) (0 + run.role) good) ∙ ap length (sym listed);
            few = omega (arith, role-few file _ _ stands (o file sc is.accepts).rows (role_count file) (0 + run.role) good);
            events_inside = omega (arith, inside, ap role_length same, (roles-stand file sc is.accepts).inside, ap length is_block, p, n);
            each = λ j l. ap (λ (es : List Event). get_elem? es j) listed
                ∙ role-each file _ _ stands (o file sc is.accepts).rows (role_count file) (0 + run.role) good j (omega arith)
                ∙ ap (λ (m : ℕ). event_at file (m + 4 * j) (m + 4 * j)) (sym p);
          }
        where
          count : get_or b (at + 2 + knowledge - 1) 0 ≡ event_count (drop at b)
          count =
              let z : at + 2 + knowledge - 1 ≡ at + (1 + knowledge_count (drop at b)) = omega (arith, knowledge-read) in
              ap (λ (m : ℕ). get_or b m 0) z ∙ sym (get_or-drop at b (1 + knowledge_count (drop at b)) 0)

-- some run of an accepted file has its record at a place
abbrev pub SomeRun : List ℕ → ℕ → Type 0
SomeRun file start = (sc : Scenario) × (k : ℕ) × IsRun file sc k start

-- What is read on the way from the record of a run to the events of its role.
module _ (file : List ℕ) (start : ℕ) where
  -- the record is inside the file
  pub start-inside : SomeRun file start → start < length file
  start-inside w =
      let g = get_elem-there w.0.runs w.1 w.2.below in
      omega (arith, front-inside file w.0 w.1 start w.2 g.0 g.1)

  module _ {b : List ℕ} (is_block : b ≡ (role_part file).bytes) {role : ℕ} (is_role : role ≡ get_or file start 0) where
    -- its role has a record
    pub role-recorded : SomeRun file start → (base : ℕ) × (role < length (role_records (part_at base b)))
    role-recorded w =
        let g = get_elem-there w.0.runs w.1 w.2.below in
        let l = role-present file w.0 w.2.accepts w.1 g.0 g.1 in
        ((role_part file).start, rw (is_block, is_role ∙ sym (front-role file w.0 w.1 start w.2 g.0 g.1)) l)

    module _ {at : ℕ} (found : (at < length b) × ((base : ℕ) → get_elem? (role_records (part_at base b)) role ≡ some (record_at role_length (base + at) (drop at b)))) {knowledge : ℕ} (is_knowledge : knowledge ≡ get_or b at 0) where
      role-found : (sc : Scenario) (k : ℕ) (is : IsRun file sc k start) (run : Run) → get_elem? sc.runs k ≡ some run
          → get_elem? (role_records (part_at (role_part file).start b)) run.role ≡ some (record_at role_length ((role_part file).start + at) (drop at b))
      role-found sc k is run g = rw (front-role file sc k start is run g ∙ sym is_role) (found.1 (role_part file).start)

      -- the first event is inside the block
      pub first_read : SomeRun file start → at + 2 + knowledge ≤ length b
      first_read w =
          let g = get_elem-there w.0.runs w.1 w.2.below in
          omega (arith, first-inside file w.0 w.1 start w.2 g.0 g.1 b is_block (role_part file).start refl at found.0 (role-found w.0 w.1 w.2 g.0 g.1))

      -- the run stands where the record and the events do
      pub events-read : {base events : ℕ} → base ≡ (role_part file).start → events ≡ get_or b (at + 2 + knowledge - 1) 0
          → (sc : Scenario) (k : ℕ) (run : Run) → IsRun file sc k start → get_elem? sc.runs k ≡ some run → RunAt file sc run start (base + (at + 2 + knowledge)) events
      events-read is_base is_count sc k run is g =
          run-found file sc k start is run g b is_block (role_part file).start refl at found.0 (role-found sc k is run g) is_knowledge (ap (λ (n : ℕ). n + (at + 2 + knowledge)) is_base) is_count
