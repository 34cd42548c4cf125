-- The rows of a table at role level: what the bytes of a row say of its term, and that atoms and keys that derive are terms of rows. Assumes nothing.
use Rattle.std.specs.Prelude.{ℕ, zero, suc, ◌<◌, ◌≤◌, ◌≡◌, T, take}
use Rattle.std.proofs.Common.{le_of_suc-le-suc, not-suc-le-zero, arith, sym, ◌∙◌}
use Rattle.std.proofs.Math.Path.{refl}
use mathlib.Core.List.Memᴰ.{head as here}
use mathlib.Core.List.Memᴰ.{tail as later}
use mathlib.Core.List.{List, [], ◌∷◌, Memᴰ}
use Rattle.std.proofs.Math.Option.{Option, none, some, some-injective}
use Rattle.std.proofs.Math.ListN.{get_elem?}
use Rattle.semantics.specs.Term.{VariableType, Atom, trusted, untrusted, global, intruder, role, variable, local, Term, atom, pk, sk, shared, pair, encrypted, inverse}
use Rattle.semantics.specs.Inference.{Derives}
use Rattle.semantics.specs.Table.{Row, atomic, pk_of, sk_of, shared_of, pair_of, encrypted_of, agent_like, fits}
use Rattle.semantics.specs.Value.{value_of, as_atoms}
use Rattle.semantics.specs.Guarantee.{refers_to}
use Rattle.semantics.specs.Encoding.{RowBytes, trusted_bytes, untrusted_bytes, global_bytes, intruder_bytes, role_bytes, agent_variable_bytes, fresh_variable_bytes, local_bytes, public_bytes, secret_bytes, shared_bytes, pair_bytes, encrypted_bytes}
use Rattle.semantics.proofs.laws.Test.{mapped-some}
use Rattle.semantics.proofs.laws.Inference.{Carried, derives-keeps}
use Rattle.semantics.proofs.laws.Value.{row_value, value-unfolds, value-within}
use Rattle.rows.specs.Rows.{rows_of, Shape}
use Rattle.rows.specs.laws.Table.{table-good}
use Rattle.cells.specs.laws.Cells.{row-there, row-decodes, left-lower, second-lower, second-right}
use Rattle.semantics.proofs.laws.Test.{mapped₂-some}
use Rattle.knowledge.specs.Steps.{kind_at, left_at, right_at}
use Rattle.knowledge.specs.laws.Sound.{KeyOf, pk_key, sk_key}
use Rattle.role_level.specs.RoleLevel.{RoleCelled}
use Rattle.role_level.specs.laws.RoleLevel.{celled-row}

-- a row has a term
abbrev pub HasTerm : List ℕ → ℕ → Term → Type 0
HasTerm bytes x t = value_of as_atoms (rows_of bytes) x ≡ some t

-- What the term of a row is, by its kind.
pub data RowTerm (bytes : List ℕ) (x : ℕ) : ℕ → Term → Type 0 where
  a_trusted : {i : ℕ} → RowTerm bytes x 1 (atom (trusted i))
  a_untrusted : {i : ℕ} → RowTerm bytes x 2 (atom (untrusted i))
  a_global : {i : ℕ} → RowTerm bytes x 3 (atom (global i))
  an_intruder : {i : ℕ} → RowTerm bytes x 4 (atom (intruder i))
  a_role : {i : ℕ} → left_at bytes x ≡ i → RowTerm bytes x 5 (atom (role i))
  a_variable : {i : ℕ} {type : VariableType} → RowTerm bytes x 6 (atom (variable i type))
  a_local : {i u : ℕ} → RowTerm bytes x 7 (atom (local i u))
  a_pk : {b : Atom} → get_elem? (rows_of bytes) (left_at bytes x) ≡ some (atomic b) → RowTerm bytes x 8 (pk (atom b))
  a_sk : {b : Atom} → get_elem? (rows_of bytes) (left_at bytes x) ≡ some (atomic b) → RowTerm bytes x 9 (sk (atom b))
  a_shared : {a b : Term} → RowTerm bytes x 10 (shared a b)
  a_pair :
      {a b : Term} → left_at bytes x < x → right_at bytes x < x → HasTerm bytes (left_at bytes x) a → HasTerm bytes (right_at bytes x) b
      → RowTerm bytes x 11 (pair a b)
  an_encryption :
      {a b : Term} → left_at bytes x < x → right_at bytes x < x → HasTerm bytes (left_at bytes x) a → HasTerm bytes (right_at bytes x) b
      → RowTerm bytes x 12 (encrypted a b)

-- the first elements of a list are its elements
get_elem_take : {A : Type 0} (k : ℕ) (xs : List A) (i : ℕ) → i < k → get_elem? (take k xs) i ≡ get_elem? xs i
get_elem_take zero xs i l = absurd (not-suc-le-zero l)
get_elem_take (suc k) [] i l = refl
get_elem_take (suc k) (x ∷ xs) zero l = refl
get_elem_take (suc k) (x ∷ xs) (suc i) l = get_elem_take k xs i (le_of_suc-le-suc l)

-- a row that is like an agent is an atom
agent-atom : (o : Option Row) → T (agent_like o) → (b : Atom) × (o ≡ some (atomic b))
agent-atom none h = absurd h
agent-atom (some (atomic b)) h = (b, refl)
agent-atom (some (pk_of a)) h = absurd h
agent-atom (some (sk_of a)) h = absurd h
agent-atom (some (shared_of a b)) h = absurd h
agent-atom (some (pair_of l r)) h = absurd h
agent-atom (some (encrypted_of l r)) h = absurd h

-- What terms of rows make: pairs and encryptions of them.
pub data FromRows (bytes : List ℕ) : Term → Type 0 where
  of_row : {t : Term} (r : ℕ) → HasTerm bytes r t → FromRows bytes t
  of_pair : {t u : Term} → FromRows bytes t → FromRows bytes u → FromRows bytes (pair t u)
  of_encryption : {t k : Term} → FromRows bytes t → FromRows bytes k → FromRows bytes (encrypted t k)

-- an atom that terms of rows make is the term of a row
pub from-atom : {bytes : List ℕ} {a : Atom} → FromRows bytes (atom a) → (r : ℕ) × HasTerm bytes r (atom a)
from-atom (of_row r e) = (r, e)

-- and so is a key
pub from_key : {bytes : List ℕ} {kind : ℕ} {mk : Term → Term} (u : Term) → KeyOf kind mk → FromRows bytes (mk u) → (r : ℕ) × HasTerm bytes r (mk u)
from_key u (pk_key e) (of_row r h) = (r, h)
from_key u (sk_key e) (of_row r h) = (r, h)

module _ {bytes : List ℕ} {x : ℕ} where
  -- a row of kind 5 is the role name of its left byte, and only such rows are
  pub role-term : {t : Term} → RowTerm bytes x 5 t → t ≡ atom (role (left_at bytes x))
  role-term (a_role e) = rw e

  pub role-row : {k i : ℕ} → RowTerm bytes x k (atom (role i)) → (k ≡ 5) × (left_at bytes x ≡ i)
  role-row (a_role e) = (refl, e)

  -- a row of a key's kind is that key of the agent of its left byte
  pk-term : {t : Term} → RowTerm bytes x 8 t → (b : Atom) × (t ≡ pk (atom b)) × (get_elem? (rows_of bytes) (left_at bytes x) ≡ some (atomic b))
  pk-term (a_pk {b = b} e) = (b, refl, e)

  sk-term : {t : Term} → RowTerm bytes x 9 t → (b : Atom) × (t ≡ sk (atom b)) × (get_elem? (rows_of bytes) (left_at bytes x) ≡ some (atomic b))
  sk-term (a_sk {b = b} e) = (b, refl, e)

  pub key-term : {k : ℕ} {mk : Term → Term} {t : Term} → KeyOf k mk → RowTerm bytes x k t
      → (b : Atom) × (t ≡ mk (atom b)) × (get_elem? (rows_of bytes) (left_at bytes x) ≡ some (atomic b))
  key-term (pk_key e) r = pk-term (rw e at r)
  key-term (sk_key e) r = sk-term (rw e at r)

  -- and only such rows are
  pub key_row : {k j : ℕ} {mk : Term → Term} (b : Atom) → KeyOf k mk → RowTerm bytes x j (mk (atom b)) → (j ≡ k) × (get_elem? (rows_of bytes) (left_at bytes x) ≡ some (atomic b))
  key_row b (pk_key e) (a_pk f) = (sym e, f)
  key_row b (sk_key e) (a_sk f) = (sym e, f)

  -- a row of another kind is its own inverse
  pub own-inverse : {k : ℕ} {t : Term} → RowTerm bytes x k t → (k ≡ 8 → ⊥) → (k ≡ 9 → ⊥) → inverse t ≡ t
  own-inverse a_trusted p s = refl
  own-inverse a_untrusted p s = refl
  own-inverse a_global p s = refl
  own-inverse an_intruder p s = refl
  own-inverse (a_role e) p s = refl
  own-inverse a_variable p s = refl
  own-inverse a_local p s = refl
  own-inverse (a_pk e) p s = absurd (p refl)
  own-inverse (a_sk e) p s = absurd (s refl)
  own-inverse a_shared p s = refl
  own-inverse (a_pair l r g h) p s = refl
  own-inverse (an_encryption l r g h) p s = refl

module _ (bytes : List ℕ) (n : ℕ) (shape : Shape bytes n 0) where
  -- a row with a term is in the table
  pub term-below : (x : ℕ) {t : Term} → HasTerm bytes x t → x < n
  term-below x {t} e = omega (arith, value-within as_atoms (rows_of bytes) x (t, e), shape.count)

  -- the parts of a pair or an encryption are lower rows
  pub parts-lower : (x : ℕ) → x < n → {k : ℕ} → k ≡ kind_at bytes x → 11 ≤ k → (left_at bytes x < x) × (right_at bytes x < x)
  parts-lower x l e h =
      let q = second-right bytes x e (omega arith) refl in
      let r = second-lower bytes n 0 shape x l (omega arith) in
      (left-lower bytes n 0 shape x l (omega arith), omega arith)

  -- an agent to which a row refers is an atom
  agent-row : (x a : ℕ) → a < x → T (agent_like (get_elem? (take x (rows_of bytes)) a)) → (b : Atom) × (get_elem? (rows_of bytes) a ≡ some (atomic b))
  agent-row x a l h = let w = agent-atom (get_elem? (take x (rows_of bytes)) a) h in (w.0, sym (get_elem_take x (rows_of bytes) a l) ∙ w.1)

  -- the term of an agent that is an atom
  agent-term : (a : ℕ) {b : Atom} {t : Term} → get_elem? (rows_of bytes) a ≡ some (atomic b) → HasTerm bytes a t → t ≡ atom b
  agent-term a {b} {t} e f = some-injective t (atom b) (sym f ∙ value-unfolds (table-good bytes shape.table) as_atoms a e)

  -- the term of a row, by its kind
  pub row-term : (x : ℕ) {t : Term} → HasTerm bytes x t → RowTerm bytes x (kind_at bytes x) t
  unfolding fits
  row-term x {t} e =
      let l = term-below x e in
      let row = row-there bytes n 0 shape x l in
      let good = table-good bytes shape.table in
      go (row-decodes bytes n 0 shape x l) refl refl (λ y m. good.lower x row.0 row.1 y m) (good.fitting x row.0 row.1)
      (sym (value-unfolds good as_atoms x row.1) ∙ e)
    where
      table : List Row
      table = rows_of bytes

      value : ℕ → Option Term
      value = value_of as_atoms table

      go : {k a b : ℕ} {row : Row} → RowBytes k a b row → left_at bytes x ≡ a → right_at bytes x ≡ b → ((y : ℕ) → Memᴰ y (refers_to row) → y < x)
          → T (fits (take x table) row) → row_value as_atoms value row ≡ some t → RowTerm bytes x k t
      go (trusted_bytes {n = i}) el er low fit v = rw (← some-injective (atom (trusted i)) t v) a_trusted
      go (untrusted_bytes {n = i}) el er low fit v = rw (← some-injective (atom (untrusted i)) t v) a_untrusted
      go (global_bytes {n = i}) el er low fit v = rw (← some-injective (atom (global i)) t v) a_global
      go (intruder_bytes {n = i}) el er low fit v = rw (← some-injective (atom (intruder i)) t v) an_intruder
      go (role_bytes {i = i} l) el er low fit v = rw (← some-injective (atom (role i)) t v) (a_role el)
      go (agent_variable_bytes {n = i}) el er low fit v = rw (← some-injective (atom (variable i _)) t v) a_variable
      go (fresh_variable_bytes {n = i}) el er low fit v = rw (← some-injective (atom (variable i _)) t v) a_variable
      go (local_bytes {n = i}) el er low fit v = rw (← some-injective (atom (local i 0)) t v) a_local
      go (public_bytes {a = a}) el er low fit v =
          let p = (mapped-some pk (value a)).0 v in
          let w = agent-row x a (low a (here refl)) fit in
          rw (p.2, agent-term a w.1 p.1) (a_pk {b = w.0} (rw el w.1))
      go (secret_bytes {a = a}) el er low fit v =
          let p = (mapped-some sk (value a)).0 v in
          let w = agent-row x a (low a (here refl)) fit in
          rw (p.2, agent-term a w.1 p.1) (a_sk {b = w.0} (rw el w.1))
      go (shared_bytes {a = a} {b = b}) el er low fit v = let p = (mapped₂-some shared (value a) (value b)).0 v in rw p.4 a_shared
      go (pair_bytes {l = l} {r = r}) el er low fit v =
          let p = (mapped₂-some pair (value l) (value r)).0 v in
          rw p.4 (a_pair {a = p.0} {b = p.1} (rw el (low l (here refl))) (rw er (low r (later (here refl)))) (rw el p.2) (rw er p.3))
      go (encrypted_bytes {l = l} {r = r}) el er low fit v =
          let p = (mapped₂-some encrypted (value l) (value r)).0 v in
          rw p.4 (an_encryption {a = p.0} {b = p.1} (rw el (low l (here refl))) (rw er (low r (later (here refl)))) (rw el p.2) (rw er p.3))

  -- the parts of a row's term are terms of rows
  pair-rows : {x k : ℕ} {t u : Term} → RowTerm bytes x k (pair t u) → FromRows bytes t × FromRows bytes u
  pair-rows {x} (a_pair l r g h) = (of_row (left_at bytes x) g, of_row (right_at bytes x) h)

  content-row : {x k : ℕ} {t u : Term} → RowTerm bytes x k (encrypted t u) → FromRows bytes t
  content-row {x} (an_encryption l r g h) = of_row (left_at bytes x) g

  -- and so are those of what terms of rows make
  pair-parts : (t u : Term) → FromRows bytes (pair t u) → FromRows bytes t × FromRows bytes u
  pair-parts t u (of_row r e) = pair-rows (row-term r e)
  pair-parts t u (of_pair d e) = (d, e)

  content-part : (t k : Term) → FromRows bytes (encrypted t k) → FromRows bytes t
  content-part t k (of_row r e) = content-row (row-term r e)
  content-part t k (of_encryption d e) = d

  -- so all that derives from terms of rows is made of them
  pub derives-rows : {known : List Term} → RoleCelled (rows_of bytes) known → {t : Term} → Derives known t → FromRows bytes t
  derives-rows celled d = derives-keeps carried (λ t m. let w = celled-row celled t m in of_row w.0 w.1) d
    where
      carried : Carried (FromRows bytes)
      carried = record {
        joins = λ t u. of_pair;
        left = λ t u p. (pair-parts t u p).0;
        right = λ t u p. (pair-parts t u p).1;
        seals = λ t k. of_encryption;
        content = λ t k p q. content-part t k p;
      }
