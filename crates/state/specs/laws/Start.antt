-- The state before any move: names and classes run by run, and what is known at the start. Assumes nothing.
use Rattle.std.specs.Prelude.{ℕ, zero, suc, ◌+◌, ◌-◌, ◌<◌, ◌≤◌, ◌≡◌, refl, ◌⊎◌, Bool, T, length, get_or, take, drop, replicate}
use Rattle.std.proofs.Common.{zero-add, ◌∙◌, subst, inl, lt-ltb, le-ltb, length-drop, ext_get_or, length-take-le, get_or-take, get_or-drop}
use Rattle.std.proofs.Math.Decide.{ℕ_discrete, dec_lt}
use native.Mathlib.Omega.{arith}
use Rattle.std.proofs.Math.Path.{sym, ap, fun_ext}
use Rattle.std.proofs.Math.Logic.{inr, ⊎_elim}
use mathlib.Core.List.Memᴰ
use mathlib.Core.List.{List, [], ◌∷◌, map, Memᴰ}
use Rattle.std.proofs.Math.Option.{Option, none, some, some-injective, none-ne-some}
use Rattle.std.proofs.Math.ListN.{get_elem?, get_or-eq_default}
use Rattle.std.proofs.lemmas.List.{get_or-replicate, length-replicate, length-map}
use Rattle.semantics.specs.Basic.{present_ones, keep, numbers_from}
use Rattle.semantics.specs.Term.{agent_type, fresh_type, Atom, trusted, untrusted, global, intruder, role, variable, local, Term, atom}
use Rattle.semantics.specs.Inference.{member}
use Rattle.semantics.specs.Table.{Row, atomic, pk_of, sk_of, shared_of, pair_of, encrypted_of}
use Rattle.semantics.specs.Value.{Reading, value_of, without_run}
use Rattle.semantics.specs.Runs.{Run, atom_of, atom_at}
use Rattle.semantics.specs.Scenario.{Scenario}
use Rattle.semantics.specs.Guarantee.{Guarantee, GoodTable}
use Rattle.semantics.specs.State.{Progress, reading_in, intruder_atom, atoms_of, initial_knowledge, initial, assigned}
use Rattle.semantics.specs.Encoding.{RowBytes, trusted_bytes, untrusted_bytes, global_bytes, intruder_bytes, role_bytes, agent_variable_bytes, fresh_variable_bytes, local_bytes, public_bytes, secret_bytes, shared_bytes, pair_bytes, encrypted_bytes}
use Rattle.semantics.proofs.laws.List.{mem-map, mem-present, mem-keep, mem-numbers_from, mem-get_elem, get_elem-below, get_elem-there, get_elem-get_d}
use Rattle.semantics.proofs.laws.Reached.{Standing}
use Rattle.semantics.proofs.laws.Value.{value-unfolds, value-within}
use Rattle.rows.specs.Rows.{rows_of, Shape}
use Rattle.cells.specs.Cells.{cell_of, absent, Within, Readings, cell_value}
use Rattle.cells.specs.laws.Cells.{row-there, row-decodes}
use Rattle.classes.specs.Classes.{Named, NamesRight, unnamed, Classes, Grows, Refilled}
use Rattle.classes.specs.laws.Classes.{no-values, classes-same}
use Rattle.knowledge.specs.Marks.{Marked, Derivable, Covers, Settled}
use Rattle.knowledge.specs.Steps.{kind_at}
use Rattle.role_level.specs.RoleLevel.{ListedBelow}
use Rattle.runs.specs.declared.Runs.{Runs}
use Rattle.runs.specs.Runs.{RunsAt, RunAt, run_at}
use Rattle.state.specs.Readings.{SetsOf, sets_in, sets_of, readings}
use Rattle.runs.specs.Given.{Given}
use Rattle.state.specs.State.{Arrays, IsState}
use Rattle.state.specs.laws.Readings.{reading-run}
use Rattle.state_start.specs.Start.{first_reading, Entered, StartMarks}
use Rattle.state.specs.Start.{up_to, Agents, BegunTo}

-- an atom's row is a row of the table
pub atom-below : (rows : List Row) (r : ℕ) {a : Atom} → atom_at rows r ≡ some a → r < length rows
atom-below rows r {a} e = go (get_elem? rows r) refl e
  where
    go : (o : Option Row) → get_elem? rows r ≡ o → atom_of o ≡ some a → r < length rows
    go none f h = absurd (none-ne-some a h)
    go (some row) f h = get_elem-below rows r f

-- readings up to a number
up_to-below : (u : ℕ) (readings : Readings) (w : ℕ) → w < u → up_to u readings w ≡ readings w
up_to-below u readings w l = rw (up_to, lt-ltb w u l) refl

up_to-above : (u : ℕ) (readings : Readings) (w : ℕ) → u ≤ w → up_to u readings w ≡ (λ (a : Atom). none)
up_to-above u readings w l = rw (up_to, le-ltb w u l) refl

pub up_to-grows : (u : ℕ) (readings : Readings) → Grows u (up_to u readings) (up_to (u + 1) readings)
up_to-grows u readings = record { elsewhere = elsewhere; more = more }
  where
    elsewhere : (w : ℕ) → (w ≡ u → ⊥) → (a : Atom) → up_to (u + 1) readings w a ≡ up_to u readings w a
    elsewhere w d a = go (dec_lt w u)
      where
        go : Dec (w < u) → up_to (u + 1) readings w a ≡ up_to u readings w a
        go (yes l) = ap (λ (ρ : Reading). ρ a) (up_to-below (u + 1) readings w (omega arith) ∙ sym (up_to-below u readings w l))
        go (no n) = ap (λ (ρ : Reading). ρ a) (up_to-above (u + 1) readings w (omega arith) ∙ sym (up_to-above u readings w (omega arith)))

    more : (a : Atom) (t : Term) → up_to u readings u a ≡ some t → up_to (u + 1) readings u a ≡ some t
    more a t e = absurd (none-ne-some t (sym (ap (λ (ρ : Reading). ρ a) (up_to-above u readings u (omega arith))) ∙ e))

module _ (rows : List Row) (few : length rows ≤ 96) (runs : ℕ) (readings : Readings) where
  -- no names for no readings
  pub names-none : NamesRight rows runs (up_to 0 readings) (replicate 480 480)
  names-none r u a l e = unnamed (get_d_past (cell_of r u)) (ap (λ (ρ : Reading). ρ a) (up_to-above 0 readings u (omega arith)))
    where
      get_d_past : (i : ℕ) → get_or (replicate 480 480) i absent ≡ absent
      get_d_past i = go (dec_lt i 480)
        where
          go : Dec (i < 480) → get_or (replicate 480 480) i absent ≡ absent
          go (yes l) = get_or-replicate 480 i 480 absent l
          go (no n) = get_or-eq_default (replicate 480 480) absent {n = i} (let e : length (replicate {A = ℕ} 480 480) ≡ 480 = length-replicate {A = ℕ} 480 480 in omega (arith, e))

  -- the names of one more run
  pub names_more : (u : ℕ) (agents names more : List ℕ) → NamesRight rows runs (up_to u readings) names → Entered rows u agents names more → ((a : Atom) → first_reading rows u agents a ≡ readings u a)
      → NamesRight rows runs (up_to (u + 1) readings) more
  names_more u agents names more right entered same r w a l e = go (ℕ_discrete w u)
    where
      low : r < length rows
      low = atom-below rows r e

      go : Dec (w ≡ u) → Named rows runs (get_or more (cell_of r w) absent) (up_to (u + 1) readings w a)
      go (yes f) = rw f (subst (Named rows runs (get_or more (cell_of r u) absent)) (same a ∙ ap (λ (ρ : Reading). ρ a) (sym (up_to-below (u + 1) readings u (omega arith)))) (entered.here r low runs a (omega arith) e))
      go (no d) = rw (entered.elsewhere r w (omega (arith, low)) d, (up_to-grows u readings).elsewhere w d a) (right r w a l e)

-- the rows of kind 4 are those of intruder constants
intruder-row : {k l q : ℕ} {row : Row} → RowBytes k l q row → k ≡ 4 → (m : ℕ) × (row ≡ atomic (intruder m))
intruder-row trusted_bytes e = absurd (omega arith)
intruder-row untrusted_bytes e = absurd (omega arith)
intruder-row global_bytes e = absurd (omega arith)
intruder-row (intruder_bytes {n}) e = (n, refl)
intruder-row (role_bytes l) e = absurd (omega arith)
intruder-row agent_variable_bytes e = absurd (omega arith)
intruder-row fresh_variable_bytes e = absurd (omega arith)
intruder-row local_bytes e = absurd (omega arith)
intruder-row public_bytes e = absurd (omega arith)
intruder-row secret_bytes e = absurd (omega arith)
intruder-row shared_bytes e = absurd (omega arith)
intruder-row pair_bytes e = absurd (omega arith)
intruder-row encrypted_bytes e = absurd (omega arith)

intruder-kind : {k l q : ℕ} {row : Row} → RowBytes k l q row → {a : Atom} → atom_of (some row) ≡ some a → T (intruder_atom a) → (k ≡ 4) × (without_run a ≡ some (atom a))
intruder-kind (trusted_bytes {n}) {a} e h = absurd (rw (← some-injective (trusted n) a e) at h)
intruder-kind (untrusted_bytes {n}) {a} e h = absurd (rw (← some-injective (untrusted n) a e) at h)
intruder-kind (global_bytes {n}) {a} e h = absurd (rw (← some-injective (global n) a e) at h)
intruder-kind (intruder_bytes {n}) {a} e h = (refl, rw (← some-injective (intruder n) a e) refl)
intruder-kind (role_bytes {i} l) {a} e h = absurd (rw (← some-injective (role i) a e) at h)
intruder-kind (agent_variable_bytes {n}) {a} e h = absurd (rw (← some-injective (variable n agent_type) a e) at h)
intruder-kind (fresh_variable_bytes {n}) {a} e h = absurd (rw (← some-injective (variable n fresh_type) a e) at h)
intruder-kind (local_bytes {n}) {a} e h = absurd (rw (← some-injective (local n 0) a e) at h)
intruder-kind public_bytes {a} e h = absurd (none-ne-some a e)
intruder-kind secret_bytes {a} e h = absurd (none-ne-some a e)
intruder-kind shared_bytes {a} e h = absurd (none-ne-some a e)
intruder-kind pair_bytes {a} e h = absurd (none-ne-some a e)
intruder-kind encrypted_bytes {a} e h = absurd (none-ne-some a e)

module _ (sc : Scenario) (good : Guarantee sc) (t : List ℕ) (n runs : ℕ) (shape : Shape t n runs) (rows : sc.rows ≡ rows_of t) where
  rows-n : length sc.rows ≡ n
  rows-n = ap length rows ∙ sym shape.count

  -- a row of kind 4 has an intruder constant, which is known at the start
  intruder-known : (r : ℕ) → r < n → kind_at t r ≡ 4 → (v : Term) × (value_of without_run sc.rows r ≡ some v) × Memᴰ v (initial_knowledge sc)
  unfolding initial_knowledge atoms_of
  intruder-known r low k =
      let w = intruder-row (row-decodes t n runs shape r low) k in
      let row : get_elem? sc.rows r ≡ some (atomic (intruder w.0)) = ap (λ (rs : List Row). get_elem? rs r) rows ∙ (row-there t n runs shape r low).1 ∙ ap some w.1 in
      let here = (mem-present (map (atom_at sc.rows) (numbers_from 0 (length sc.rows)))).1 ((mem-map (atom_at sc.rows) (numbers_from 0 (length sc.rows))).1 (r, (mem-numbers_from 0 (length sc.rows)).1 (omega arith, omega (arith, rows-n)), sym (ap atom_of row))) in (
        atom (intruder w.0),
        value-unfolds good.table without_run r row,
        Memᴰ.append_right (present_ones (map (value_of without_run sc.rows) sc.knowledge)) ((mem-map atom (keep intruder_atom (atoms_of sc.rows))).1 (intruder w.0, (mem-keep intruder_atom (atoms_of sc.rows)).1 (here, tt), refl)),
      )

  -- a listed row has a value, which is known at the start
  listed-known : (r : ℕ) → Memᴰ r sc.knowledge → (v : Term) × (value_of without_run sc.rows r ≡ some v) × Memᴰ v (initial_knowledge sc)
  unfolding initial_knowledge
  listed-known r m =
      let v = good.known r m in
      (v.0, v.1, Memᴰ.append_left (map atom (keep intruder_atom (atoms_of sc.rows))) ((mem-present (map (value_of without_run sc.rows) sc.knowledge)).1 ((mem-map (value_of without_run sc.rows) sc.knowledge).1 (r, m, sym v.1))))

  -- and all that is known is one or the other
  known-row : (v : Term) → Memᴰ v (initial_knowledge sc) → (r : ℕ) × (r < n) × (value_of without_run sc.rows r ≡ some v) × ((kind_at t r ≡ 4) ⊎ Memᴰ r sc.knowledge)
  unfolding initial_knowledge atoms_of
  known-row v m = ⊎_elim left right (Memᴰ.append_cases (present_ones (map (value_of without_run sc.rows) sc.knowledge)) m)
    where
      left : Memᴰ v (present_ones (map (value_of without_run sc.rows) sc.knowledge)) → (r : ℕ) × (r < n) × (value_of without_run sc.rows r ≡ some v) × ((kind_at t r ≡ 4) ⊎ Memᴰ r sc.knowledge)
      left h =
          let w = (mem-map (value_of without_run sc.rows) sc.knowledge).0 ((mem-present (map (value_of without_run sc.rows) sc.knowledge)).0 h) in
          (w.0, omega (arith, rows-n, value-within without_run sc.rows w.0 (v, sym w.2)), sym w.2, inr w.1)

      right : Memᴰ v (map atom (keep intruder_atom (atoms_of sc.rows))) → (r : ℕ) × (r < n) × (value_of without_run sc.rows r ≡ some v) × ((kind_at t r ≡ 4) ⊎ Memᴰ r sc.knowledge)
      right h =
          let w = (mem-map atom (keep intruder_atom (atoms_of sc.rows))).0 h in
          let k = (mem-keep intruder_atom (atoms_of sc.rows)).0 w.1 in
          let p = (mem-map (atom_at sc.rows) (numbers_from 0 (length sc.rows))).0 ((mem-present (map (atom_at sc.rows) (numbers_from 0 (length sc.rows)))).0 k.0) in
          let low : p.0 < n = omega (arith, rows-n, (mem-numbers_from 0 (length sc.rows)).0 p.1) in
          let there = row-there t n runs shape p.0 low in
          let row : get_elem? sc.rows p.0 ≡ some there.0 = ap (λ (rs : List Row). get_elem? rs p.0) rows ∙ there.1 in
          let is-atom : atom_of (some there.0) ≡ some w.0 = sym (ap atom_of row) ∙ sym p.2 in
          let kind = intruder-kind (row-decodes t n runs shape p.0 low) is-atom k.1 in
          (p.0, low, atom-row-value sc.rows good.table p.0 (sym p.2) ∙ kind.1 ∙ ap some (sym w.2), inl kind.0)
        where
          atom-row-value : (rs : List Row) → GoodTable rs → (r : ℕ) {a : Atom} → atom_at rs r ≡ some a → value_of without_run rs r ≡ without_run a
          atom-row-value rs g r {a} e = go (get_elem? rs r) refl e
            where
              go : (o : Option Row) → get_elem? rs r ≡ o → atom_of o ≡ some a → value_of without_run rs r ≡ without_run a
              go none f h = absurd (none-ne-some a h)
              go (some (atomic b)) f h = value-unfolds g without_run r f ∙ ap without_run (some-injective b a h)
              go (some (pk_of b)) f h = absurd (none-ne-some a h)
              go (some (sk_of b)) f h = absurd (none-ne-some a h)
              go (some (shared_of b c)) f h = absurd (none-ne-some a h)
              go (some (pair_of b c)) f h = absurd (none-ne-some a h)
              go (some (encrypted_of b c)) f h = absurd (none-ne-some a h)

  -- so marks to start from are right
  pub start-covers : (sets : SetsOf) (marks : List Bool) → StartMarks t n sc.knowledge marks → Covers sc.rows runs (readings sc sets) (initial_knowledge sc) marks
  start-covers sets marks start = record { sound = sound; covers = covers }
    where
      sound : (r u : ℕ) → Within sc.rows runs r u → Marked marks r u → Derivable sc.rows (readings sc sets) (initial_knowledge sc) r u
      sound r zero w m =
          let f = start.from r (rw zero-add at m) in
          let v = ⊎_elim (intruder-known r f.0) (listed-known r) f.1 in
          (v.0, v.1, member v.2)
      sound r (suc u) w m = let f = start.from (cell_of r (suc u)) m in absurd (omega (arith, f.0, shape.few))

      covers : (v : Term) → Memᴰ v (initial_knowledge sc) → (r : ℕ) × (u : ℕ) × Within sc.rows runs r u × (cell_value (readings sc sets) sc.rows r u ≡ some v) × Marked marks r u
      covers v m =
          let w = known-row v m in
          (w.0, 0, record { row = omega (arith, rows-n, w.1); run = omega arith }, w.2, rw zero-add (⊎_elim (start.intruders w.0 w.1) (start.listed w.0) w.3))

-- the reading of a run at the start is that of its agents
reading-first : (rows : List Row) (k : ℕ) (run : Run) (agents : List ℕ) → agents ≡ run.agents → (a : Atom) → first_reading rows (suc k) agents a ≡ reading_in rows (suc k) run [] a
unfolding reading_in
reading-first rows k run agents e (trusted n) = refl
reading-first rows k run agents e (untrusted n) = refl
reading-first rows k run agents e (global n) = refl
reading-first rows k run agents e (intruder n) = refl
reading-first rows k run agents e (role i) = rw e refl
reading-first rows k run agents e (variable n t) = refl
reading-first rows k run agents e (local n u) = refl

module _ (sc : Scenario) (good : Guarantee sc) (file : List ℕ) (r : Runs) (runs : RunsAt file sc r) where
  -- run 0 has no agents
  pub agents-none : (u : ℕ) → u ≡ 0 → (agents : List ℕ) → agents ≡ [] → Agents sc u agents
  agents-none u z agents e = rw (z, e) (record { reads = λ a. refl; are = λ x m. absurd (Memᴰ.not-nil m) })

  run-there : (k : ℕ) → k < r.count → (run : Run) × (get_elem? sc.runs k ≡ some run)
  run-there k l = get_elem-there sc.runs k (omega (arith, runs.count))

  -- the agents of a run, as a part of the file
  pub agents-run : (k : ℕ) (first : ℕ) → k < r.count → first ≡ (run_at r k).start + 1 → Agents sc (suc k) (take r.roles (drop first file))
  agents-run k first l e = record {
    reads = λ a. reading-first sc.rows k run _ same a ∙ sym (ap (λ (ρ : Reading). ρ a) (reading-run sc (λ j. []) k found));
    are = λ x m. (good.good_runs run ((mem-get_elem sc.runs).1 (k, found))).are_agents x (rw same at m);
  }
    where
      run : Run
      run = (run-there k l).0

      found : get_elem? sc.runs k ≡ some run
      found = (run-there k l).1

      at : RunAt file sc run (run_at r k).start (run_at r k).first (run_at r k).events
      at = runs.each k run found

      size : length run.agents ≡ r.roles
      size = (good.good_runs run ((mem-get_elem sc.runs).1 (k, found))).agent_for_each ∙ sym runs.roles

      enough : r.roles ≤ length (drop first file)
      enough = omega (arith, length-drop first file, at.agents_inside, runs.roles)

      same : take r.roles (drop first file) ≡ run.agents
      same = ext_get_or 0 (take r.roles (drop first file)) run.agents (length-take-le r.roles (drop first file) enough ∙ sym size)
          (λ i h.
          let low : i < r.roles = omega (arith, length-take-le r.roles (drop first file) enough) in
          get_or-take r.roles (drop first file) i 0 low ∙ get_or-drop first file i 0 ∙ ap (λ (x : ℕ). get_or file (x + i) 0) e
          ∙ sym (get_elem-get_d run.agents i 0 (at.agents i (omega (arith, runs.roles)))))

-- no run is begun at first
pub begun-none : (rows : List Row) → GoodTable rows → (runs : ℕ) (readings : Readings) → BegunTo rows runs readings 0 (replicate 480 480) (replicate 480 480)
begun-none rows good runs readings = record {
  size = refl;
  named = names-none rows good.few runs readings;
  classed = classes-same (λ r u w. ap (λ (ρ : Reading). value_of ρ rows r) (sym (up_to-above 0 readings u (omega arith)))) (no-values rows runs good);
}

-- one more run
pub begun_more : (rows : List Row) → GoodTable rows → (runs : ℕ) (readings : Readings) (u : ℕ) (agents names more classes after : List ℕ) → BegunTo rows runs readings u names classes
    → Entered rows u agents names more → ((a : Atom) → first_reading rows u agents a ≡ readings u a) → Refilled rows runs u more classes after → BegunTo rows runs readings (u + 1) more after
begun_more rows good runs readings u agents names more classes after begun entered same refilled =
    let named = names_more rows good.few runs readings u agents names more begun.named entered same in
    record {
      size = entered.size;
      named = named;
      classed = refilled (up_to u readings) (up_to (u + 1) readings) (up_to-grows u readings) named begun.classed;
    }

-- all runs
module _ (rows : List Row) (runs : ℕ) (readings : Readings) (u : ℕ) (names classes : List ℕ) (all : runs < u) (begun : BegunTo rows runs readings u names classes) where
  pub begun-names : NamesRight rows runs readings names
  begun-names r w a l e = subst (Named rows runs (get_or names (cell_of r w) absent)) (ap (λ (ρ : Reading). ρ a) (up_to-below u readings w (omega arith))) (begun.named r w a l e)

  pub begun-classes : Classes rows runs (cell_value readings rows) classes
  begun-classes = classes-same (λ r w h. ap (λ (ρ : Reading). value_of ρ rows r) (up_to-below u readings w (omega (arith, h.run)))) begun.classed

-- nothing is set at the start
start-sets : (sc : Scenario) → sets_of (initial sc).progress ≡ (λ k. [])
unfolding initial
start-sets sc = fun_ext (λ k. go sc.runs k)
  where
    go : (runs : List Run) (k : ℕ) → sets_in (get_elem? (map (λ run. record { done = 0; values = [] }) runs) k) ≡ []
    go [] k = refl
    go (run ∷ runs) zero = refl
    go (run ∷ runs) (suc k) = go runs k

none-set : (rows : List Row) → Standing rows []
unfolding assigned
none-set rows x v e = absurd (none-ne-some v e)

-- the state before any move
pub start-state : (sc : Scenario) (good : Guarantee sc) (t : List ℕ) (n : ℕ) (shape : Shape t n (length sc.runs)) → sc.rows ≡ rows_of t → (names classes : List ℕ) (start marks : List Bool) {u : ℕ} → length sc.runs < u
    → BegunTo sc.rows (length sc.runs) (readings sc (λ k. [])) u names classes → StartMarks t n sc.knowledge start → Settled sc.rows (length sc.runs) classes start marks
    → IsState sc (initial sc) (record { done = 0 ∷ 0 ∷ 0 ∷ 0 ∷ []; names = names; classes = classes; marks = marks })
unfolding initial
start-state sc good t n shape rows names classes start marks {u} all begun marked settled = record {
  placed = record {
    progress = length-map {A = Run} {B = Progress} sc.runs (λ run. record { done = 0; values = [] });
    positions = λ k p e. zero-done k ∙ go sc.runs k p e;
    named = subst (λ (sets : SetsOf). NamesRight sc.rows (length sc.runs) (readings sc sets) names) (sym (start-sets sc)) (begun-names sc.rows (length sc.runs) (readings sc (λ k. [])) u names classes all begun);
    sized = begun.size;
    valued = λ k. subst (λ (sets : SetsOf). Standing sc.rows (sets k)) (sym (start-sets sc)) (none-set sc.rows);
  };
  arrays = subst (λ (sets : SetsOf). Arrays sc.rows (length sc.runs) (readings sc sets) (initial_knowledge sc) classes marks) (sym (start-sets sc)) (record {
    classed = classed;
    exact = settled (readings sc (λ k. [])) (initial_knowledge sc) classed covers;
    celled = λ v m. let c = covers.covers v m in (c.0, c.1, c.2, c.3);
  });
}
  where
    classed : Classes sc.rows (length sc.runs) (cell_value (readings sc (λ k. [])) sc.rows) classes
    classed = begun-classes sc.rows (length sc.runs) (readings sc (λ k. [])) u names classes all begun

    covers : Covers sc.rows (length sc.runs) (readings sc (λ k. [])) (initial_knowledge sc) start
    covers = start-covers sc good t n (length sc.runs) shape rows (λ k. []) start marked

    zero-done : (k : ℕ) → ◌≡◌ {A = ℕ} (get_or (0 ∷ 0 ∷ 0 ∷ 0 ∷ []) k 0) 0
    zero-done zero = refl
    zero-done (suc zero) = refl
    zero-done (suc (suc zero)) = refl
    zero-done (suc (suc (suc zero))) = refl
    zero-done (suc (suc (suc (suc k)))) = refl

    go : (runs : List Run) (k : ℕ) (p : Progress) → get_elem? (map (λ run. record { done = 0; values = [] }) runs) k ≡ some p → ◌≡◌ {A = ℕ} 0 p.done
    go [] k p e = absurd (none-ne-some p e)
    go (run ∷ runs) zero p e = ap (λ (q : Progress). q.done) (some-injective (record { done = 0; values = [] }) p e)
    go (run ∷ runs) (suc k) p e = go runs k p e

-- the same as the code has it
pub agents-part : (sc : Scenario) (good : Guarantee sc) (file : List ℕ) (r : Runs) (runs : RunsAt file sc r) (u : ℕ) → (u ≡ 0 → ⊥) → u ≤ r.count → (first : ℕ) → first ≡ (run_at r (u - 1)).start + 1
    → Agents sc u (take (first + r.roles - first) (drop first file))
agents-part sc good file r runs zero z l first e = absurd (z refl)
agents-part sc good file r runs (suc k) z l first e =
    let size : first + r.roles - first ≡ r.roles = omega arith in
    let k-is : suc k - 1 ≡ k = omega arith in
    subst (λ (m : ℕ). Agents sc (suc k) (take m (drop first file))) (sym size) (agents-run sc good file r runs k first (omega arith) (e ∙ ap (λ (j : ℕ). (run_at r j).start + 1) k-is))

-- where the agents of a run stand is within the file
pub agents-inside : (file : List ℕ) (sc : Scenario) (r : Runs) → RunsAt file sc r → (u : ℕ) → (u ≡ 0 → ⊥) → u ≤ r.count → (run_at r (u - 1)).start + r.roles < length file
agents-inside file sc r runs u z l =
    let w = get_elem-there sc.runs (u - 1) (omega (arith, runs.count)) in
    omega (arith, (runs.each (u - 1) w.0 w.1).agents_inside, runs.roles)

-- the loop over the runs of a given scenario
module _ {file t : List ℕ} {n : ℕ} {r : Runs} {sc : Scenario} (given : Given file t n r sc) where
  abbrev pub Begun : ℕ → List ℕ → List ℕ → Type 0
  Begun u names classes = BegunTo sc.rows (length sc.runs) (readings sc (λ k. [])) u names classes

  pub given-none : Begun 0 (replicate 480 480) (replicate 480 480)
  given-none = begun-none sc.rows given.good.table (length sc.runs) (readings sc (λ k. []))

  pub given-more : (u : ℕ) (agents names more classes after : List ℕ) → Begun u names classes → Entered (rows_of t) u agents names more → Agents sc u agents
      → Refilled (rows_of t) r.count u more classes after → Begun (u + 1) more after
  given-more u agents names more classes after begun entered agents-are refilled =
      let e : Entered sc.rows u agents names more = rw given.rows entered in
      let f : Refilled sc.rows (length sc.runs) u more classes after = rw (given.rows, ← given.runs.count) refilled in
      begun_more sc.rows given.good.table (length sc.runs) (readings sc (λ k. [])) u agents names more classes after begun e agents-are.reads f

  pub given-listed : (list : List ℕ) → list ≡ sc.knowledge → ListedBelow n list
  given-listed list e x m =
      let v = given.good.known x (rw e at m) in
      omega (arith, value-within without_run sc.rows x v, ap length given.rows, given.shape.count)

  pub given-start : (list : List ℕ) → list ≡ sc.knowledge → (names classes : List ℕ) (start marks : List Bool) {u : ℕ} → r.count < u → Begun u names classes → StartMarks t n list start
      → Settled (rows_of t) r.count classes start marks → IsState sc (initial sc) (record { done = 0 ∷ 0 ∷ 0 ∷ 0 ∷ []; names = names; classes = classes; marks = marks })
  given-start list e names classes start marks l begun marked settled =
      let s : Settled sc.rows (length sc.runs) classes start marks = rw (given.rows, ← given.runs.count) settled in
      let shape : Shape t n (length sc.runs) = rw (← given.runs.count) given.shape in
      start-state sc given.good t n shape given.rows names classes start marks (omega (arith, given.runs.count)) begun (rw e at marked) s
