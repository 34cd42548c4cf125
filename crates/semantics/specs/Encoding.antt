-- What the bytes of a scenario file are, stated without reading them: the framing, and how rows, roles, runs and knowledge are written (document 01, 'Terms', 'The scenario file'). Assumes nothing.
use Rattle.std.specs.Prelude.{ℕ, ◌+◌, ◌*◌, ◌<◌, ◌≡◌, List, [], ◌∷◌, ◌++◌, length}
use Rattle.semantics.specs.Term.{agent_type, fresh_type, trusted, untrusted, global, intruder, role, variable, local}
use Rattle.semantics.specs.Table.{Row, atomic, pk_of, sk_of, shared_of, pair_of, encrypted_of}
use Rattle.semantics.specs.Frame.{budget_of}
use Rattle.semantics.specs.Roles.{secrecy, EventKind, send, read, claim, Event, Role}
use Rattle.semantics.specs.Runs.{Run}
use Rattle.semantics.specs.Scenario.{Scenario, term_part, role_part, run_part, knowledge_part}

-- "blocks, each with its length first in 2 bytes; everything is big-endian": blocks one after the other, and nothing else
pub data Blocks : List (List ℕ) → List ℕ → Type 0 where
  no_blocks : Blocks [] []
  more_blocks :
      {high low : ℕ} {block : List ℕ} {blocks : List (List ℕ)} {bytes : List ℕ} → high * 256 + low ≡ length block → Blocks blocks bytes
      → Blocks (block ∷ blocks) (high ∷ low ∷ (block ++ bytes))

-- "First a version byte .., then the budget in 4 bytes .., then four blocks": a framed file, with its budget and its blocks
pub data Framed : List ℕ → ℕ → List (List ℕ) → Type 0 where
  framed_as :
      {version b₃ b₂ b₁ b₀ : ℕ} {terms roles runs knowledge rest : List ℕ} → Blocks (terms ∷ roles ∷ runs ∷ knowledge ∷ []) rest
      → Framed (version ∷ b₃ ∷ b₂ ∷ b₁ ∷ b₀ ∷ rest) (b₃ * 16777216 + b₂ * 65536 + b₁ * 256 + b₀) (terms ∷ roles ∷ runs ∷ knowledge ∷ [])

-- What is read of a framed file: its budget, and its blocks, each right after its own two length bytes.
pub record Parts (file : List ℕ) (budget : ℕ) (t r u k : List ℕ) : Type 0 where
  pub of_budget : budget_of file ≡ budget
  pub of_terms : term_part file ≡ record { start = 7; bytes = t }
  pub of_roles : role_part file ≡ record { start = 9 + length t; bytes = r }
  pub of_runs : run_part file ≡ record { start = 11 + length t + length r; bytes = u }
  pub of_knowledge : knowledge_part file ≡ record { start = 13 + length t + length r + length u; bytes = k }
  pub long : length file ≡ 13 + length t + length r + length u + length k

-- The table of kinds: kind, left and right of each row.
pub data RowBytes : ℕ → ℕ → ℕ → Row → Type 0 where
  trusted_bytes : {n : ℕ} → RowBytes 1 n 0 (atomic (trusted n))
  untrusted_bytes : {n : ℕ} → RowBytes 2 n 0 (atomic (untrusted n))
  global_bytes : {n : ℕ} → RowBytes 3 n 0 (atomic (global n))
  intruder_bytes : {n : ℕ} → RowBytes 4 n 0 (atomic (intruder n))
  role_bytes : {i : ℕ} → i < 4 → RowBytes 5 i 0 (atomic (role i))
  agent_variable_bytes : {n : ℕ} → RowBytes 6 n 0 (atomic (variable n agent_type))
  fresh_variable_bytes : {n : ℕ} → RowBytes 6 n 1 (atomic (variable n fresh_type))
  local_bytes : {n : ℕ} → RowBytes 7 n 0 (atomic (local n 0))
  public_bytes : {a : ℕ} → RowBytes 8 a 0 (pk_of a)
  secret_bytes : {a : ℕ} → RowBytes 9 a 0 (sk_of a)
  shared_bytes : {a b : ℕ} → RowBytes 10 a b (shared_of a b)
  pair_bytes : {l r : ℕ} → RowBytes 11 l r (pair_of l r)
  encrypted_bytes : {l r : ℕ} → RowBytes 12 l r (encrypted_of l r)

-- "Terms: the rows", "each of three bytes: kind, left, right"
pub data TermBytes : List Row → List ℕ → Type 0 where
  no_rows : TermBytes [] []
  more_rows :
      {kind left right : ℕ} {row : Row} {rows : List Row} {bytes : List ℕ} → RowBytes kind left right row → TermBytes rows bytes
      → TermBytes (row ∷ rows) (kind ∷ left ∷ right ∷ bytes)

-- "kind 0 send, 1 read, 2 claim"
pub data KindByte : EventKind → ℕ → Type 0 where
  send_byte : KindByte send 0
  read_byte : KindByte read 1
  claim_byte : KindByte (claim secrecy) 2

-- "events of 4 bytes (kind ..; label; peer role; term row)", from a place in the file on
pub data EventBytes : ℕ → List Event → List ℕ → Type 0 where
  no_events : {at : ℕ} → EventBytes at [] []
  more_events :
      {at kind label : ℕ} {e : Event} {es : List Event} {bytes : List ℕ} → KindByte e.kind kind → e.place ≡ at → EventBytes (at + 4) es bytes
      → EventBytes at (e ∷ es) (kind ∷ label ∷ e.peer ∷ e.row ∷ bytes)

-- "Roles ..: count of knowledge rows, those rows .., count of events, events", from a place in the file on
pub data RoleBytes : ℕ → List Role → List ℕ → Type 0 where
  no_roles : {at : ℕ} → RoleBytes at [] []
  more_roles :
      {at : ℕ} {r : Role} {rs : List Role} {events bytes : List ℕ} → EventBytes (at + (2 + length r.knowledge)) r.events events
      → RoleBytes (at + (2 + length r.knowledge + 4 * length r.events)) rs bytes
      → RoleBytes at (r ∷ rs) (length r.knowledge ∷ (r.knowledge ++ (length r.events ∷ (events ++ bytes))))

-- "Runs ..: role, then one agent row for each role"
pub data RunBytes (roles : ℕ) : List Run → List ℕ → Type 0 where
  no_runs : RunBytes roles [] []
  more_runs : {run : Run} {runs : List Run} {bytes : List ℕ} → length run.agents ≡ roles → RunBytes roles runs bytes → RunBytes roles (run ∷ runs) (run.role ∷ (run.agents ++ bytes))

-- The bytes of a file are those of a scenario: its rows begin at 7, and its roles right after their own length.
pub record Encodes (file : List ℕ) (sc : Scenario) : Type 0 where
  pub terms : List ℕ
  pub roles : List ℕ
  pub runs : List ℕ
  pub framed : Framed file sc.budget (terms ∷ roles ∷ runs ∷ sc.knowledge ∷ [])
  pub of_rows : TermBytes sc.rows terms
  pub of_roles : RoleBytes (9 + length terms) sc.roles roles
  pub of_runs : RunBytes (length sc.roles) sc.runs runs
