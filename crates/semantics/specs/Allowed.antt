-- Well-formed events, allowed moves and traces, broken claims and the order of the list, stated plainly: with the inference relation and not its decision (document 01, 'Roles and moves'). Assumes nothing.
use Rattle.std.specs.Prelude.{ℕ, suc, ◌<◌, ◌≤◌, ◌≡◌, ◌⊎◌, List, [], ◌∷◌, T, length}
use Rattle.std.proofs.Math.Option.{Option, some}
use Rattle.std.proofs.Math.ListN.{get_elem?}
use Rattle.semantics.specs.Term.{VariableType, agent_type, fresh_type, Atom, variable, role, intruder, local, Term, atom, pk, sk, shared, pair, encrypted, inverse}
use Rattle.semantics.specs.Inference.{Derives}
use Rattle.semantics.specs.Table.{Row}
use Rattle.semantics.specs.Value.{value_of}
use Rattle.semantics.specs.Roles.{ClaimKind, secrecy, EventKind, send, read, claim, Event}
use Rattle.semantics.specs.Runs.{Run, atom_at, is_agent, all_trusted}
use Rattle.semantics.specs.Scenario.{Scenario}
use Rattle.semantics.specs.State.{Value, Progress, State, initial, Active, active, events_of, reading_in, Message, Claim}
use Rattle.semantics.specs.Moves.{Move, to_set, message_after, advanced, Listing, full, short}
use Rattle.semantics.specs.Tree.{Follows, Earlier}

-- 000's Readable, with the inference relation: which patterns a role can read
pub data Readable : List Term → Term → Type 0 where
  -- "A variable can always occur in a read pattern."
  reads_variable : {known : List Term} {n : ℕ} {type : VariableType} → Readable known (atom (variable n type))
  -- "Any other term can only occur in a read pattern, if it can be inferred from the knowledge": constants, role names and keys
  reads_atom : {known : List Term} {a : Atom} → Derives known (atom a) → Readable known (atom a)
  reads_pk : {known : List Term} {t : Term} → Derives known (pk t) → Readable known (pk t)
  reads_sk : {known : List Term} {t : Term} → Derives known (sk t) → Readable known (sk t)
  reads_shared : {known : List Term} {t u : Term} → Derives known (shared t u) → Readable known (shared t u)
  -- a pair, each part with the other part added to the knowledge
  reads_pair : {known : List Term} {t u : Term} → Readable (u ∷ known) t → Readable (t ∷ known) u → Readable known (pair t u)
  -- an encryption that can be inferred whole, or whose key's inverse can be and whose content is readable
  reads_whole : {known : List Term} {t k : Term} → Derives known (encrypted t k) → Readable known (encrypted t k)
  reads_content : {known : List Term} {t k : Term} → Derives known (inverse k) → Readable known t → Readable known (encrypted t k)

-- 000's WF, for one event of the role with a number
pub data WellFormed (own : ℕ) (known : List Term) : EventKind → ℕ → Term → Type 0 where
  well_sent : {peer : ℕ} {t : Term} → Derives known (atom (role own)) → Derives known (atom (role peer)) → Derives known t → WellFormed own known send peer t
  well_read : {peer : ℕ} {t : Term} → Derives known (atom (role own)) → Derives known (atom (role peer)) → Readable known t → WellFormed own known read peer t
  well_claimed : {peer : ℕ} {t : Term} → Derives known (atom (role own)) → Derives known t → WellFormed own known (claim secrecy) peer t

-- the values that a variable may take
pub data MayTake (rows : List Row) (runs : ℕ) : Atom → Value → Type 0 where
  -- "An agent variable may take any agent row;"
  an_agent : {n : ℕ} {v : Value} → T (is_agent (atom_at rows v.row)) → v.run ≡ 0 → MayTake rows runs (variable n agent_type) v
  -- "a fresh variable any intruder constant"
  an_intruder : {n c : ℕ} {v : Value} → atom_at rows v.row ≡ some (intruder c) → v.run ≡ 0 → MayTake rows runs (variable n fresh_type) v
  -- "or any c#u, u being any run of the scenario."
  a_local : {n c w : ℕ} {v : Value} → atom_at rows v.row ≡ some (local c w) → 1 ≤ v.run → v.run ≤ runs → MayTake rows runs (variable n fresh_type) v

-- as many values as variables, in order
pub data Takes (rows : List Row) (runs : ℕ) : List Atom → List Value → Type 0 where
  takes_none : Takes rows runs [] []
  takes_more : {x : Atom} {v : Value} {xs : List Atom} {vs : List Value} → MayTake rows runs x v → Takes rows runs xs vs → Takes rows runs (x ∷ xs) (v ∷ vs)

-- an event that is allowed, and what is known after it
pub data Performs (known : List Term) : EventKind → Option Message → List Term → Type 0 where
  -- "A send adds sender, receiver and term."
  sends : {m : Message} {after : List Term} → after ≡ m.sender ∷ m.receiver ∷ m.term ∷ known → Performs known send (some m) after
  -- "A read .. is allowed exactly if sender, receiver and pattern are then derivable."
  reads :
      {m : Message} {after : List Term} → Derives known m.sender → Derives known m.receiver → Derives known m.term → after ≡ known
      → Performs known read (some m) after
  -- "A claim adds nothing."
  claims : {kind : ClaimKind} {m : Option Message} {after : List Term} → after ≡ known → Performs known (claim kind) m after

-- An allowed move: "A run's next event is its only move", "A read gives values to the variables of its pattern not yet set in that run".
pub data Step (sc : Scenario) (s : State) (m : Move) (s' : State) : Type 0 where
  step :
      {a : Active} {known : List Term} → active sc s m.run ≡ some a → Takes sc.rows (length sc.runs) (to_set sc a) m.values
      → Performs s.known a.event.kind (message_after sc a m.values) known → s' ≡ advanced sc s a m.values known
      → Step sc s m s'

-- "An allowed trace is any sequence of allowed moves, the empty one included.": a trace with the state at its end
abbrev pub AllowedTrace : Scenario → List Move → State → Type 0
AllowedTrace sc ms s = Follows (Step sc) (initial sc) ms s

-- a run whose "next event is a send or claim"
abbrev pub Ready : Scenario → State → ℕ → Type 0
Ready sc s u = (a : Active) × (active sc s u ≡ some a) × ¬ (a.event.kind ≡ read)

-- a run whose moves the short list goes on with: "wherever some run's next event is a send or claim, the only move listed is that of the lowest such run"
pub data InShort (sc : Scenario) (s : State) (u : ℕ) : Type 0 where
  lowest_ready : Ready sc s u → ((v : ℕ) → v < u → ¬ Ready sc s v) → InShort sc s u
  none_ready : ((v : ℕ) → ¬ Ready sc s v) → InShort sc s u

-- an allowed move of such a run
abbrev pub ShortStep : Scenario → State → Move → State → Type 0
ShortStep sc s m s' = InShort sc s m.run × Step sc s m s'

-- the moves that a list goes on with: the full list has every allowed move
abbrev pub StepIn : Listing → Scenario → State → Move → State → Type 0
StepIn full sc = Step sc
StepIn short sc = ShortStep sc

-- a trace of a list, with the state at its end; of the full list it is any allowed trace
abbrev pub TraceIn : Listing → Scenario → List Move → State → Type 0
TraceIn l sc ms s = Follows (StepIn l sc) (initial sc) ms s

-- "each by row and then run"
pub data ValueBefore (v w : Value) : Type 0 where
  by_row : v.row < w.row → ValueBefore v w
  by_run : v.row ≡ w.row → v.run < w.run → ValueBefore v w

-- "ordered by run, then by the new values in order of variable row"
pub data MoveBefore (m m' : Move) : Type 0 where
  earlier_run : m.run < m'.run → MoveBefore m m'
  earlier_values : m.run ≡ m'.run → Earlier ValueBefore m.values m'.values → MoveBefore m m'

-- what a trace's end says against a claim of a kind, in the run with a number
pub data Against (sc : Scenario) (s : State) (u : ℕ) (run : Run) (p : Progress) (e : Event) : ClaimKind → Type 0 where
  -- "the claimed value is derivable at the trace's end"
  value_known : {t : Term} → value_of (reading_in sc.rows u run p.values) sc.rows e.row ≡ some t → Derives s.known t → Against sc s u run p e secrecy

-- "A trace breaks a claim if it passes that claim in a run whose agents (over the file's roles) are all trusted and the claimed value is derivable at the trace's end."
pub data Breaks (sc : Scenario) (s : State) (c : Claim) : Type 0 where
  breaks :
      {k : ℕ} {run : Run} {p : Progress} {e : Event} → get_elem? sc.runs k ≡ some run → get_elem? s.progress k ≡ some p
      → get_elem? (events_of sc run) c.event ≡ some e → c.event < p.done → e.kind ≡ claim c.kind → T (all_trusted sc.rows run)
      → Against sc s (suc k) run p e c.kind → c.run ≡ suc k → Breaks sc s c

-- "the lowest run, then the lowest event"
abbrev pub ClaimBefore : Claim → Claim → Type 0
ClaimBefore c d = (c.run < d.run) ⊎ ((c.run ≡ d.run) × (c.event < d.event))

-- the claim that is named of those that a trace breaks
pub record Names (sc : Scenario) (s : State) (c : Claim) : Type 0 where
  pub is_broken : Breaks sc s c
  pub lowest : (d : Claim) → Breaks sc s d → ClaimBefore d c → ⊥
