-- What an accepted file guarantees (document 01, 'Terms', 'The scenario file', 'Operations'): one record, for whoever goes on with the scenario. Assumes nothing.
use Rattle.std.specs.Prelude.{ℕ, ◌<◌, ◌≤◌, ◌≡◌, T, length, take}
use mathlib.Core.List.{List, [], ◌∷◌, Memᴰ}
use Rattle.std.proofs.Math.Option.{some}
use Rattle.std.proofs.Math.ListN.{get_elem?}
use Rattle.semantics.specs.Basic.{keep, rising}
use Rattle.semantics.specs.Limits.{most_rows, most_variables, most_roles, most_runs, most_events}
use Rattle.semantics.specs.Term.{role, Term}
use Rattle.semantics.specs.Table.{Row, atomic, pk_of, sk_of, shared_of, pair_of, encrypted_of, variable_row, fits}
use Rattle.semantics.specs.Value.{Reading, value_of, without_variables, without_run}
use Rattle.semantics.specs.Roles.{Event, Role, peer_fits}
use Rattle.semantics.specs.WellFormed.{well_formed, learned, event_term, role_knowledge}
use Rattle.semantics.specs.Runs.{Run, atom_at, is_agent}
use Rattle.semantics.specs.Scenario.{Scenario}

-- the rows to which a row refers
abbrev pub refers_to : Row → List ℕ
refers_to (atomic a) = []
refers_to (pk_of a) = a ∷ []
refers_to (sk_of a) = a ∷ []
refers_to (shared_of a b) = a ∷ b ∷ []
refers_to (pair_of l r) = l ∷ r ∷ []
refers_to (encrypted_of l r) = l ∷ r ∷ []

-- a table that is not refused
pub record GoodTable (rows : List Row) : Type 0 where
  pub few : length rows ≤ most_rows
  pub few_variables : length (keep variable_row rows) ≤ most_variables
  -- "Rows referred to are lower than the row itself."
  pub lower : (i : ℕ) (row : Row) → get_elem? rows i ≡ some row → (r : ℕ) → Memᴰ r (refers_to row) → r < i
  -- and they are of the kinds that the row's kind asks for
  pub fitting : (i : ℕ) (row : Row) → get_elem? rows i ≡ some row → T (fits (take i rows) row)
  -- "5, equal to an earlier row": no two rows are equal
  pub distinct : (i j : ℕ) (row : Row) → get_elem? rows i ≡ some row → get_elem? rows j ≡ some row → i ≡ j

-- a row that is there and has a value under a reading
abbrev pub HasValue : Reading → List Row → ℕ → Type 0
HasValue reading rows r = (t : Term) × (value_of reading rows r ≡ some t)

-- a role record that is not refused, in a file with so many roles
pub record GoodRole (rows : List Row) (roles : ℕ) (r : Role) : Type 0 where
  pub few_events : length r.events ≤ most_events
  pub rises : T (rising r.knowledge)
  -- "rows present and no variable beneath its knowledge"
  pub knows : (x : ℕ) → Memᴰ x r.knowledge → HasValue without_variables rows x
  pub peers : (e : Event) → Memᴰ e r.events → T (peer_fits roles e.kind e.peer)
  pub present : (e : Event) → Memᴰ e r.events → e.row < length rows

-- the events of the role with a number, each well formed for what the role knows at it
pub data WellFormedEvents (rows : List Row) (own : ℕ) : List Term → List Event → Type 0 where
  no_events : {known : List Term} → WellFormedEvents rows own known []
  more_events :
      {known : List Term} {e : Event} {es : List Event} {t : Term} → event_term rows e ≡ some t → T (well_formed own known e.kind e.peer t)
      → WellFormedEvents rows own (learned known e.kind t) es → WellFormedEvents rows own known (e ∷ es)

-- a run record that is not refused
pub record GoodRun (rows : List Row) (roles : ℕ) (run : Run) : Type 0 where
  pub role_present : run.role < roles
  -- "one agent row for each role"
  pub agent_for_each : length run.agents ≡ roles
  pub are_agents : (r : ℕ) → Memᴰ r run.agents → T (is_agent (atom_at rows r))

-- an accepted file's scenario
pub record Guarantee (sc : Scenario) : Type 0 where
  pub table : GoodTable sc.rows
  pub few_roles : length sc.roles ≤ most_roles
  pub good_roles : (r : Role) → Memᴰ r sc.roles → GoodRole sc.rows (length sc.roles) r
  -- no row names an absent role
  pub roles_named : (x i : ℕ) → get_elem? sc.rows x ≡ some (atomic (role i)) → i < length sc.roles
  pub well_formed_roles : (i : ℕ) (r : Role) → get_elem? sc.roles i ≡ some r → WellFormedEvents sc.rows i (role_knowledge sc.rows r) r.events
  pub few_runs : length sc.runs ≤ most_runs
  pub good_runs : (run : Run) → Memᴰ run sc.runs → GoodRun sc.rows (length sc.roles) run
  pub rises : T (rising sc.knowledge)
  -- "with no role name, variable or local constant beneath"
  pub known : (x : ℕ) → Memᴰ x sc.knowledge → HasValue without_run sc.rows x
