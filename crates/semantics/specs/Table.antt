-- The table of terms: rows decoded from bytes, and refusals 4 and 5 (document 01, 'Terms'). Assumes nothing.
use Rattle.std.specs.Prelude.{ℕ, ◌+◌, ◌≡◌, Bool, true, false, ◌&&◌, not, List, [], ◌∷◌, ◌++◌, ltb, leb, eqb, length, get_or}
use Rattle.std.proofs.Math.Decide.{ℕ_discrete}
use Rattle.std.proofs.Math.Option.{Option, none, some}
use Rattle.std.proofs.Math.ListN.{get_elem?}
use Rattle.semantics.specs.Basic.{decided, present, provided, mapped, keep, every}
use Rattle.semantics.specs.Limits.{most_rows, most_variables, most_roles}
use Rattle.semantics.specs.Answer.{Answer, accepted, refuse}
use Rattle.semantics.specs.Term.{VariableType, agent_type, fresh_type, Atom, trusted, untrusted, global, intruder, role, variable, local, atom?}

-- A row: a term of kinds 1 to 7, or a term made of the terms of other rows, given by their numbers.
pub data Row : Type 0 where
  atomic : Atom → Row
  pk_of sk_of : ℕ → Row
  shared_of pair_of encrypted_of : ℕ → ℕ → Row
  deriving Discrete as Row-discrete

abbrev pub row? : (r q : Row) → Dec (r ≡ q)
row? = Row-discrete atom? ℕ_discrete

-- "left, right: number, 0": a kind whose right byte is 0
abbrev pub single : (ℕ → Row) → ℕ → ℕ → Option Row
single make left right = provided (eqb right 0) (make left)

abbrev pub variable_types : List VariableType
variable_types = agent_type ∷ fresh_type ∷ []

-- What each kind byte means, from kind 0, which there is not, to kind 12.
abbrev pub kinds : List (ℕ → ℕ → Option Row)
kinds =
    (λ left right. none)
    ∷ single (λ n. atomic (trusted n))
    ∷ single (λ n. atomic (untrusted n))
    ∷ single (λ n. atomic (global n))
    ∷ single (λ n. atomic (intruder n))
    ∷ (λ left right. provided (ltb left most_roles && eqb right 0) (atomic (role left)))
    ∷ (λ left right. mapped (λ type. atomic (variable left type)) (get_elem? variable_types right))
    ∷ single (λ n. atomic (local n 0))
    ∷ single (λ a. pk_of a)
    ∷ single (λ a. sk_of a)
    ∷ (λ left right. some (shared_of left right))
    ∷ (λ left right. some (pair_of left right))
    ∷ (λ left right. some (encrypted_of left right))
    ∷ []

-- The row of three bytes: kind, left, right; none where the kind does not have such bytes.
unfoldable pub decode : ℕ → ℕ → ℕ → Option Row
decode kind left right = get_or kinds kind (λ l r. none) left right

-- "Agent-like rows have kind 1, 2 or 5, or are variables of type 0."
abbrev pub agent_like_atom : Atom → Bool
agent_like_atom (trusted n) = true
agent_like_atom (untrusted n) = true
agent_like_atom (global n) = false
agent_like_atom (intruder n) = false
agent_like_atom (role i) = true
agent_like_atom (variable n agent_type) = true
agent_like_atom (variable n fresh_type) = false
agent_like_atom (local n u) = false

abbrev pub agent_like : Option Row → Bool
agent_like none = false
agent_like (some (atomic a)) = agent_like_atom a
agent_like (some (pk_of a)) = false
agent_like (some (sk_of a)) = false
agent_like (some (shared_of a b)) = false
agent_like (some (pair_of l r)) = false
agent_like (some (encrypted_of l r)) = false

-- "a row that is no pair"
abbrev pub no_pair : Option Row → Bool
no_pair none = false
no_pair (some (atomic a)) = true
no_pair (some (pk_of a)) = true
no_pair (some (sk_of a)) = true
no_pair (some (shared_of a b)) = true
no_pair (some (pair_of l r)) = false
no_pair (some (encrypted_of l r)) = true

abbrev pub variable_atom : Atom → Bool
variable_atom (trusted n) = false
variable_atom (untrusted n) = false
variable_atom (global n) = false
variable_atom (intruder n) = false
variable_atom (role i) = false
variable_atom (variable n t) = true
variable_atom (local n u) = false

abbrev pub variable_row : Row → Bool
variable_row (atomic a) = variable_atom a
variable_row (pk_of a) = false
variable_row (sk_of a) = false
variable_row (shared_of a b) = false
variable_row (pair_of l r) = false
variable_row (encrypted_of l r) = false

-- "Rows referred to are lower than the row itself", and of the kind that the table of kinds asks for.
unfoldable pub fits : List Row → Row → Bool
fits below (atomic a) = true
fits below (pk_of a) = agent_like (get_elem? below a)
fits below (sk_of a) = agent_like (get_elem? below a)
fits below (shared_of a b) = agent_like (get_elem? below a) && agent_like (get_elem? below b)
fits below (pair_of l r) = no_pair (get_elem? below l) && present (get_elem? below r)
fits below (encrypted_of l r) = present (get_elem? below l) && present (get_elem? below r)

-- "4, .. a 97th row, a ninth variable, or against the table above": whether a decoded row may follow those below it
unfoldable pub admissible : List Row → Row → Bool
admissible below row =
    ltb (length below) most_rows
    && leb (length (keep variable_row (below ++ row ∷ []))) most_variables
    && fits below row

-- "5, equal to an earlier row"
unfoldable pub repeated : List Row → Row → Bool
repeated below row = not (every (λ earlier. not (decided (row? earlier row))) below)

-- The number of the refusal of three bytes after the rows below, if they are refused: "each row: 4, ..; 5, ..".
unfoldable pub row_refusal : List Row → Option Row → Option ℕ
row_refusal below none = some 4
row_refusal below (some row) =
    elim (admissible below row) [
      | true ↦ provided (repeated below row) 5
      | false ↦ some 4
    ]

abbrev pub extended : List Row → Option Row → List Row
extended below none = below
extended below (some row) = below ++ row ∷ []

-- The rows of a block that begins at a place, or the refusal of the first row against the rules: "4, incomplete, ..", place the row's first byte.
unfoldable pub rows_from : ℕ → List Row → List ℕ → Answer (List Row)
rows_from at below [] = accepted below
rows_from at below (kind ∷ []) = refuse 4 at
rows_from at below (kind ∷ left ∷ []) = refuse 4 at
rows_from at below (kind ∷ left ∷ right ∷ bytes) =
    elim (row_refusal below (decode kind left right)) [
      | some number ↦ refuse number at
      | none ↦ rows_from (at + 3) (extended below (decode kind left right)) bytes
    ]
