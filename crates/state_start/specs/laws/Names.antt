-- Names of a run before any variable is set, row by row. Assumes nothing.
use Rattle.std.specs.Prelude.{Option as CodeOption, None, Some, MatchOption, ℕ, zero, suc, ◌<◌, ◌≤◌, ◌≡◌, refl, List, [], ◌∷◌, T, length, get_or}
use Rattle.std.specs.Option.{unwrap_or}
use Rattle.std.proofs.Common.{zero-add, arith, sym, ap, ◌∙◌}
use Rattle.std.proofs.Math.Option.{Option, none, some, some-injective, none-ne-some}
use Rattle.std.proofs.Math.ListN.{get_elem?}
use Rattle.semantics.specs.Basic.{and_then}
use Rattle.semantics.specs.Term.{agent_type, fresh_type, Atom, trusted, untrusted, global, intruder, role, variable, local, Term, atom}
use Rattle.semantics.specs.Table.{Row, atomic, pk_of, sk_of, shared_of, pair_of, encrypted_of}
use Rattle.semantics.specs.Value.{without_run}
use Rattle.semantics.specs.Runs.{Run, atom_of, atom_at, is_agent}
use Rattle.semantics.specs.State.{in_run, term_of, reading_in, assigned}
use Rattle.semantics.specs.Encoding.{RowBytes, trusted_bytes, untrusted_bytes, global_bytes, intruder_bytes, role_bytes, agent_variable_bytes, fresh_variable_bytes, local_bytes, public_bytes, secret_bytes, shared_bytes, pair_bytes, encrypted_bytes}
use Rattle.semantics.proofs.laws.List.{get_elem-below, mem-get_elem}
use Rattle.rows.specs.Rows.{rows_of, Shape}
use Rattle.cells.specs.Cells.{cell_of, absent, Within, Canonical}
use Rattle.cells.specs.laws.Cells.{row-there, row-decodes}
use Rattle.classes.specs.Classes.{Named, unnamed, named}
use Rattle.knowledge.specs.Steps.{kind_at, left_at}
use Rattle.state_start.specs.Start.{first_reading, AreAgents, FirstName}

-- the row of an agent
pub agent-atom : (o : Option Row) → T (is_agent (atom_of o)) → (b : Atom) × (o ≡ some (atomic b)) × (in_run 0 b ≡ b) × (without_run b ≡ some (atom b)) × Canonical b 0
agent-atom none h = absurd h
agent-atom (some (atomic (trusted n))) h = (trusted n, refl, refl, refl, refl)
agent-atom (some (atomic (untrusted n))) h = (untrusted n, refl, refl, refl, refl)
agent-atom (some (atomic (global n))) h = absurd h
agent-atom (some (atomic (intruder n))) h = absurd h
agent-atom (some (atomic (role i))) h = absurd h
agent-atom (some (atomic (variable n t))) h = absurd h
agent-atom (some (atomic (local n u))) h = absurd h
agent-atom (some (pk_of a)) h = absurd h
agent-atom (some (sk_of a)) h = absurd h
agent-atom (some (shared_of a b)) h = absurd h
agent-atom (some (pair_of l r)) h = absurd h
agent-atom (some (encrypted_of l r)) h = absurd h

pub agent-term : (rows : List Row) (r : ℕ) (b : Atom) → get_elem? rows r ≡ some (atomic b) → in_run 0 b ≡ b → term_of rows (record { row = r; run = 0 }) ≡ some (atom b)
unfolding term_of
agent-term rows r b e f = rw (e, f) refl

-- what the atom of a row is, by its kind and left byte
data AtomIs (l : ℕ) (a : Atom) : ℕ → Type 0 where
  an_agent_or_constant : {k : ℕ} → k < 5 → Canonical a 0 → ((rows : List Row) (u : ℕ) (agents : List ℕ) → first_reading rows u agents a ≡ some (atom (in_run 0 a))) → AtomIs l a k
  a_role : a ≡ role l → AtomIs l a 5
  a_variable : ((rows : List Row) (u : ℕ) (agents : List ℕ) → first_reading rows u agents a ≡ none) → AtomIs l a 6
  a_local : (n : ℕ) → a ≡ local n 0 → AtomIs l a 7

-- an atom that reads the same without a run and in each
reads_same : (a : Atom) {o : Option Term} → without_run a ≡ o → ((rows : List Row) (u : ℕ) (run : Run) → reading_in rows u run [] a ≡ o)
    → (rows : List Row) (u : ℕ) (agents : List ℕ) → first_reading rows u agents a ≡ o
reads_same a without within rows zero agents = without
reads_same a without within rows (suc u) agents = within rows (suc u) (record { role = 0; agents = agents })

reads-role : (rows : List Row) (u : ℕ) (agents : List ℕ) (i : ℕ) → (u ≡ 0 → ⊥) → first_reading rows u agents (role i) ≡ and_then (get_elem? agents i) (λ r. term_of rows (record { row = r; run = 0 }))
unfolding reading_in
reads-role rows zero agents i z = absurd (z refl)
reads-role rows (suc u) agents i z = refl

reads_local : (rows : List Row) (u : ℕ) (agents : List ℕ) (n : ℕ) → (u ≡ 0 → ⊥) → first_reading rows u agents (local n 0) ≡ some (atom (local n u))
unfolding reading_in
reads_local rows zero agents n z = absurd (z refl)
reads_local rows (suc u) agents n z = refl

-- an element of a list, and none past its end
element-there : (xs : List ℕ) (i : ℕ) → i < length xs → get_elem? xs i ≡ some (get_or xs i 0)
element-there [] i l = absurd (omega arith)
element-there (x ∷ xs) zero l = refl
element-there (x ∷ xs) (suc i) l = element-there xs i (omega arith)

element-past : (xs : List ℕ) (i : ℕ) → length xs ≤ i → get_elem? xs i ≡ none
element-past [] i l = refl
element-past (x ∷ xs) zero l = absurd (omega arith)
element-past (x ∷ xs) (suc i) l = element-past xs i (omega arith)

-- the agent of a role
agent-name : (rows : List Row) (runs x : ℕ) → length rows ≤ 96 → T (is_agent (atom_at rows x)) → Named rows runs x (term_of rows (record { row = x; run = 0 }))
agent-name rows runs x few t =
    let w = agent-atom (get_elem? rows x) t in
    let low = get_elem-below rows x w.1 in
    named x 0 w.0 (rw zero-add refl) (record { row = low; run = omega arith }) (ap atom_of w.1) w.4 (agent-term rows x w.0 w.1 w.2 ∙ ap (λ (b : Atom). some (atom b)) (sym w.2))

atom-is : {k l q : ℕ} {row : Row} (a : Atom) → RowBytes k l q row → atom_of (some row) ≡ some a → AtomIs l a k
unfolding reading_in assigned
atom-is a (trusted_bytes {n}) e = rw (← some-injective (trusted n) a e) (an_agent_or_constant {k = 1} (omega arith) refl (reads_same (trusted n) refl (λ rows u run. refl)))
atom-is a (untrusted_bytes {n}) e = rw (← some-injective (untrusted n) a e) (an_agent_or_constant {k = 2} (omega arith) refl (reads_same (untrusted n) refl (λ rows u run. refl)))
atom-is a (global_bytes {n}) e = rw (← some-injective (global n) a e) (an_agent_or_constant {k = 3} (omega arith) refl (reads_same (global n) refl (λ rows u run. refl)))
atom-is a (intruder_bytes {n}) e = rw (← some-injective (intruder n) a e) (an_agent_or_constant {k = 4} (omega arith) refl (reads_same (intruder n) refl (λ rows u run. refl)))
atom-is a (role_bytes {i} l) e = a_role (sym (some-injective (role i) a e))
atom-is a (agent_variable_bytes {n}) e = rw (← some-injective (variable n agent_type) a e) (a_variable (reads_same (variable n agent_type) refl (λ rows u run. refl)))
atom-is a (fresh_variable_bytes {n}) e = rw (← some-injective (variable n fresh_type) a e) (a_variable (reads_same (variable n fresh_type) refl (λ rows u run. refl)))
atom-is a (local_bytes {n}) e = a_local n (sym (some-injective (local n 0) a e))
atom-is a public_bytes e = absurd (none-ne-some a e)
atom-is a secret_bytes e = absurd (none-ne-some a e)
atom-is a shared_bytes e = absurd (none-ne-some a e)
atom-is a pair_bytes e = absurd (none-ne-some a e)
atom-is a encrypted_bytes e = absurd (none-ne-some a e)

module _ (bytes : List ℕ) (n : ℕ) (shape : Shape bytes n 0) (r : ℕ) (low : r < n) (u : ℕ) (agents : List ℕ) where
  is : (a : Atom) → atom_at (rows_of bytes) r ≡ some a → AtomIs (left_at bytes r) a (kind_at bytes r)
  is a e = atom-is a (row-decodes bytes n 0 shape r low) (sym (ap atom_of (row-there bytes n 0 shape r low).1) ∙ e)

  within : (runs : ℕ) (w : ℕ) → w ≤ runs → Within (rows_of bytes) runs r w
  within runs w l = record { row = omega (arith, shape.count); run = l }

  -- an agent or a constant names itself
  pub name-itself : {k : ℕ} → k ≡ kind_at bytes r → k < 5 → FirstName (rows_of bytes) u agents r r
  name-itself f l runs a h e = go l (rw (← f) at (is a e))
    where
      go : {k : ℕ} → k < 5 → AtomIs (left_at bytes r) a k → Named (rows_of bytes) runs r (first_reading (rows_of bytes) u agents a)
      go l (an_agent_or_constant m c v) = named r 0 a (rw zero-add refl) (within runs 0 (omega arith)) e c (v (rows_of bytes) u agents)
      go l (a_role q) = absurd (omega arith)
      go l (a_variable v) = absurd (omega arith)
      go l (a_local m q) = absurd (omega arith)

  -- without a run every other atom has no value
  pub name-without-run : {k : ℕ} → k ≡ kind_at bytes r → 5 ≤ k → u ≡ 0 → FirstName (rows_of bytes) u agents r absent
  name-without-run f l z runs a h e = unnamed refl (rw z (go l (rw (← f) at (is a e))))
    where
      go : {k : ℕ} → 5 ≤ k → AtomIs (left_at bytes r) a k → first_reading (rows_of bytes) 0 agents a ≡ none
      go l (an_agent_or_constant m c v) = absurd (omega arith)
      go l (a_role q) = rw q refl
      go l (a_variable v) = v (rows_of bytes) 0 agents
      go l (a_local m q) = rw q refl

  module _ (in_run_u : u ≡ 0 → ⊥) where
    -- a role name has its agent's
    name-agent : AreAgents (rows_of bytes) agents → {k i x : ℕ} → k ≡ kind_at bytes r → k ≡ 5 → i ≡ left_at bytes r → i < length agents → x ≡ get_or agents i 0 → FirstName (rows_of bytes) u agents r x
    name-agent are {x = x} f k q l g runs a h e = go k (rw (← f) at (is a e))
      where
        element : get_elem? agents (left_at bytes r) ≡ some x
        element = rw (← q, g) (element-there agents _ l)

        go : {k : ℕ} → k ≡ 5 → AtomIs (left_at bytes r) a k → Named (rows_of bytes) runs x (first_reading (rows_of bytes) u agents a)
        go k (an_agent_or_constant m c v) = absurd (omega arith)
        go k (a_role p) =
            let v = reads-role (rows_of bytes) u agents (left_at bytes r) in_run_u ∙ ap (λ (o : Option ℕ). and_then o (λ y. term_of (rows_of bytes) (record { row = y; run = 0 }))) element in
            rw (p, v) (agent-name (rows_of bytes) runs x (omega (arith, shape.few, shape.count)) (are x ((mem-get_elem agents).1 (left_at bytes r, element))))
        go k (a_variable v) = absurd (omega arith)
        go k (a_local m p) = absurd (omega arith)

    name-no-agent : {k i : ℕ} → k ≡ kind_at bytes r → k ≡ 5 → i ≡ left_at bytes r → length agents ≤ i → FirstName (rows_of bytes) u agents r absent
    name-no-agent f k q l runs a h e = unnamed refl (go k (rw (← f) at (is a e)))
      where
        go : {k : ℕ} → k ≡ 5 → AtomIs (left_at bytes r) a k → first_reading (rows_of bytes) u agents a ≡ none
        go k (an_agent_or_constant m c v) = absurd (omega arith)
        go k (a_role p) =
            rw p (reads-role (rows_of bytes) u agents (left_at bytes r) in_run_u
            ∙ ap (λ (o : Option ℕ). and_then o (λ y. term_of (rows_of bytes) (record { row = y; run = 0 }))) (element-past agents (left_at bytes r) (rw (← q) l)))
        go k (a_variable v) = absurd (omega arith)
        go k (a_local m p) = absurd (omega arith)

    -- so it has the name of what stands at its place in the list of agents, if anything does
    pub name-role : AreAgents (rows_of bytes) agents → {k i : ℕ} → k ≡ kind_at bytes r → k ≡ 5 → i ≡ left_at bytes r → (name : CodeOption ℕ)
        → MatchOption name (length agents ≤ i) (λ x. (i < length agents) × (x ≡ get_or agents i 0)) → FirstName (rows_of bytes) u agents r (unwrap_or name absent)
    name-role are f k q None l = name-no-agent f k q l
    name-role are f k q (Some x) w = name-agent are f k q w.0 w.1

    -- a local constant has its own run
    pub name-local : {k : ℕ} → k ≡ kind_at bytes r → k ≡ 7 → u ≤ 4 → FirstName (rows_of bytes) u agents r (cell_of r u)
    name-local f k l runs a h e = go k (rw (← f) at (is a e))
      where
        go : {k : ℕ} → k ≡ 7 → AtomIs (left_at bytes r) a k → Named (rows_of bytes) runs (cell_of r u) (first_reading (rows_of bytes) u agents a)
        go k (an_agent_or_constant m c v) = absurd (omega arith)
        go k (a_role p) = absurd (omega arith)
        go k (a_variable v) = absurd (omega arith)
        go k (a_local m p) = named r u (local m 0) refl (within runs u h) (e ∙ ap some p) tt (rw p (reads_local (rows_of bytes) u agents m in_run_u))

  -- a variable, and what is no atom, has none
  pub name-none : {k : ℕ} → k ≡ kind_at bytes r → 5 ≤ k → (k ≡ 5 → ⊥) → (k ≡ 7 → ⊥) → FirstName (rows_of bytes) u agents r absent
  name-none f l p q runs a h e = unnamed refl (go l p q (rw (← f) at (is a e)))
    where
      go : {k : ℕ} → 5 ≤ k → (k ≡ 5 → ⊥) → (k ≡ 7 → ⊥) → AtomIs (left_at bytes r) a k → first_reading (rows_of bytes) u agents a ≡ none
      go l p q (an_agent_or_constant m c v) = absurd (omega arith)
      go l p q (a_role x) = absurd (p refl)
      go l p q (a_variable v) = v (rows_of bytes) u agents
      go l p q (a_local m x) = absurd (q refl)
