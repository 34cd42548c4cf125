-- What the three bytes of a row say of it: its kind and parts, and whether it is agent-like, a pair, a variable or an agent's, and the rows to which it refers. Assumes nothing.
use Rattle.std.specs.Prelude.{ℕ, ◌<◌, ◌≤◌, ◌≡◌, refl, Bool, false, ◌&&◌, ◌||◌, not, T, leb, eqb}
use Rattle.std.proofs.Common.{arith, sym, ap, ◌∙◌, eqb→eq, ne_eqb}
use mathlib.Core.List.Memᴰ.{head as here}
use mathlib.Core.List.Memᴰ.{tail as later}
use mathlib.Core.List.{List, Memᴰ}
use Rattle.std.proofs.Math.Option.{some, none-ne-some, some-injective}
use Rattle.semantics.specs.Term.{Atom, VariableType, agent_type, fresh_type, trusted, untrusted, global, intruder, role, variable, local}
use Rattle.semantics.specs.Table.{Row, atomic, pk_of, sk_of, shared_of, pair_of, encrypted_of, agent_like, no_pair, variable_atom, variable_row}
use Rattle.semantics.specs.Guarantee.{refers_to}
use Rattle.semantics.specs.Runs.{atom_of, is_trusted, is_agent}
use Rattle.semantics.specs.Encoding.{RowBytes, trusted_bytes, untrusted_bytes, global_bytes, intruder_bytes, role_bytes, agent_variable_bytes, fresh_variable_bytes, local_bytes, public_bytes, secret_bytes, shared_bytes, pair_bytes, encrypted_bytes}

-- the right byte of a variable's row
abbrev pub type_byte : VariableType → ℕ
type_byte agent_type = 0
type_byte fresh_type = 1

-- the bytes of an atom's row: kind, left and right
abbrev pub bytes_of_atom : Atom → ℕ × ℕ × ℕ
bytes_of_atom (trusted n) = (1, n, 0)
bytes_of_atom (untrusted n) = (2, n, 0)
bytes_of_atom (global n) = (3, n, 0)
bytes_of_atom (intruder n) = (4, n, 0)
bytes_of_atom (role n) = (5, n, 0)
bytes_of_atom (variable n type) = (6, n, type_byte type)
bytes_of_atom (local n u) = (7, n, 0)

-- the bytes of a row
abbrev pub bytes_of : Row → ℕ × ℕ × ℕ
bytes_of (atomic a) = bytes_of_atom a
bytes_of (pk_of a) = (8, a, 0)
bytes_of (sk_of a) = (9, a, 0)
bytes_of (shared_of a b) = (10, a, b)
bytes_of (pair_of l r) = (11, l, r)
bytes_of (encrypted_of l r) = (12, l, r)

abbrev pub kind_of : Row → ℕ
kind_of row = (bytes_of row).0

abbrev pub left_of : Row → ℕ
left_of row = (bytes_of row).1

abbrev pub right_of : Row → ℕ
right_of row = (bytes_of row).2

-- whether a kind and a right byte are those of an agent-like row
abbrev pub agent_kind : ℕ → ℕ → Bool
agent_kind k r = eqb k 1 || eqb k 2 || eqb k 5 || (eqb k 6 && eqb r 0)

-- what the bytes say of a row: its kind and its parts, whether it is agent-like, no pair, a variable, an agent's or a trusted agent's
decodes-all : {k l r : ℕ} {row : Row} → RowBytes k l r row
    → (k ≡ kind_of row) × (l ≡ left_of row) × (r ≡ right_of row) × (agent_like (some row) ≡ agent_kind k r) × (no_pair (some row) ≡ not (eqb k 11)) × (variable_row row ≡ eqb k 6)
    × (is_agent (atom_of (some row)) ≡ leb k 2) × (is_trusted (atom_of (some row)) ≡ eqb k 1)
decodes-all trusted_bytes = (refl, refl, refl, refl, refl, refl, refl, refl)
decodes-all untrusted_bytes = (refl, refl, refl, refl, refl, refl, refl, refl)
decodes-all global_bytes = (refl, refl, refl, refl, refl, refl, refl, refl)
decodes-all intruder_bytes = (refl, refl, refl, refl, refl, refl, refl, refl)
decodes-all (role_bytes h) = (refl, refl, refl, refl, refl, refl, refl, refl)
decodes-all agent_variable_bytes = (refl, refl, refl, refl, refl, refl, refl, refl)
decodes-all fresh_variable_bytes = (refl, refl, refl, refl, refl, refl, refl, refl)
decodes-all local_bytes = (refl, refl, refl, refl, refl, refl, refl, refl)
decodes-all public_bytes = (refl, refl, refl, refl, refl, refl, refl, refl)
decodes-all secret_bytes = (refl, refl, refl, refl, refl, refl, refl, refl)
decodes-all shared_bytes = (refl, refl, refl, refl, refl, refl, refl, refl)
decodes-all pair_bytes = (refl, refl, refl, refl, refl, refl, refl, refl)
decodes-all encrypted_bytes = (refl, refl, refl, refl, refl, refl, refl, refl)

-- a row's bytes are its kind and its parts
pub decodes-bytes : {k l r : ℕ} {row : Row} → RowBytes k l r row → (k ≡ kind_of row) × (l ≡ left_of row) × (r ≡ right_of row)
decodes-bytes d = let w = decodes-all d in (w.0, w.1, w.2)

-- a row is agent-like by its kind and its right byte
pub decodes-agent : {k l r : ℕ} {row : Row} → RowBytes k l r row → agent_like (some row) ≡ agent_kind k r
decodes-agent d = (decodes-all d).3

-- a row is a pair by its kind
pub decodes-pair : {k l r : ℕ} {row : Row} → RowBytes k l r row → no_pair (some row) ≡ not (eqb k 11)
decodes-pair d = (decodes-all d).4

-- a row is a variable by its kind
pub decodes-variable : {k l r : ℕ} {row : Row} → RowBytes k l r row → variable_row row ≡ eqb k 6
decodes-variable d = (decodes-all d).5

-- a row is an agent's by its kind
pub decodes-agent-name : {k l r : ℕ} {row : Row} → RowBytes k l r row → is_agent (atom_of (some row)) ≡ leb k 2
decodes-agent-name d = (decodes-all d).6

-- and a trusted agent's
pub decodes-trusted : {k l r : ℕ} {row : Row} → RowBytes k l r row → is_trusted (atom_of (some row)) ≡ eqb k 1
decodes-trusted d = (decodes-all d).7

-- a row of kind 6 is a variable
pub six-variable : {k l r : ℕ} {row : Row} → RowBytes k l r row → k ≡ 6 → T (variable_row row)
six-variable d e = rw (decodes-variable d, e) tt

-- a row is a variable exactly if its atom is
variable-atom : (row : Row) (a : Atom) → atom_of (some row) ≡ some a → variable_atom a ≡ variable_row row
variable-atom (atomic b) a e = ap variable_atom (sym (some-injective b a e))
variable-atom (pk_of x) a e = absurd (none-ne-some a e)
variable-atom (sk_of x) a e = absurd (none-ne-some a e)
variable-atom (shared_of x y) a e = absurd (none-ne-some a e)
variable-atom (pair_of l r) a e = absurd (none-ne-some a e)
variable-atom (encrypted_of l r) a e = absurd (none-ne-some a e)

-- the row of a variable has kind 6
pub variable-six : {k l r : ℕ} {row : Row} → RowBytes k l r row → (a : Atom) → atom_of (some row) ≡ some a → T (variable_atom a) → k ≡ 6
variable-six {k} {row = row} d a e t = eqb→eq k 6 (rw (variable-atom row a e, decodes-variable d) at t)

-- and a row of kind 6 is that of a variable
pub six-atom : {k l r : ℕ} {row : Row} → RowBytes k l r row → k ≡ 6 → (a : Atom) × (atom_of (some row) ≡ some a) × T (variable_atom a)
six-atom {row = row} d e = atom row (six-variable d e)
  where
    atom : (row : Row) → T (variable_row row) → (a : Atom) × (atom_of (some row) ≡ some a) × T (variable_atom a)
    atom (atomic a) t = (a, refl, t)
    atom (pk_of x) t = absurd t
    atom (sk_of x) t = absurd t
    atom (shared_of x y) t = absurd t
    atom (pair_of l r) t = absurd t
    atom (encrypted_of l r) t = absurd t

-- only the same bytes are decoded to the same row
pub decodes-same : {k l r k' l' r' : ℕ} {row : Row} → RowBytes k l r row → RowBytes k' l' r' row → (k ≡ k') × (l ≡ l') × (r ≡ r')
decodes-same d d' =
    let w = decodes-bytes d in
    let w' = decodes-bytes d' in
    (w.0 ∙ sym w'.0, w.1 ∙ sym w'.1, w.2 ∙ sym w'.2)

-- a row of a kind from 8 on refers to its left row, and one of a kind from 10 on to its right row
abbrev pub Refers : ℕ → ℕ → ℕ → List ℕ → Type 0
Refers k l r rows = (8 ≤ k → Memᴰ l rows) × (10 ≤ k → Memᴰ r rows)

refers-none : (k l r : ℕ) (rows : List ℕ) → k < 8 → Refers k l r rows
refers-none k l r rows h = (λ m. absurd (omega arith), λ m. absurd (omega arith))

pub decodes-refers : {k l r : ℕ} {row : Row} → RowBytes k l r row → Refers k l r (refers_to row)
decodes-refers trusted_bytes = refers-none _ _ _ _ (omega arith)
decodes-refers untrusted_bytes = refers-none _ _ _ _ (omega arith)
decodes-refers global_bytes = refers-none _ _ _ _ (omega arith)
decodes-refers intruder_bytes = refers-none _ _ _ _ (omega arith)
decodes-refers (role_bytes i) = refers-none _ _ _ _ (omega arith)
decodes-refers agent_variable_bytes = refers-none _ _ _ _ (omega arith)
decodes-refers fresh_variable_bytes = refers-none _ _ _ _ (omega arith)
decodes-refers local_bytes = refers-none _ _ _ _ (omega arith)
decodes-refers public_bytes = (λ m. here refl, λ m. absurd (omega arith))
decodes-refers secret_bytes = (λ m. here refl, λ m. absurd (omega arith))
decodes-refers shared_bytes = (λ m. here refl, λ m. later (here refl))
decodes-refers pair_bytes = (λ m. here refl, λ m. later (here refl))
decodes-refers encrypted_bytes = (λ m. here refl, λ m. later (here refl))

-- no kind but 1, 2, 5 and 6 is agent-like
pub other-kinds : (k r : ℕ) → ¬ (k ≡ 1) → ¬ (k ≡ 2) → ¬ (k ≡ 5) → ¬ (k ≡ 6) → agent_kind k r ≡ false
other-kinds k r n₁ n₂ n₅ n₆ = rw (ne_eqb k 1 n₁, ne_eqb k 2 n₂, ne_eqb k 5 n₅, ne_eqb k 6 n₆)
