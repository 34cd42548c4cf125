-- What a row is made of, by its bytes: an atom, or a kind with two parts; and what its value is made of. Assumes nothing.
use Rattle.std.specs.Prelude.{ℕ, ◌+◌, ◌*◌, ◌<◌, ◌≤◌, ◌≡◌, refl, ◌↔◌, cond, List, [], ◌∷◌, ltb, get_or}
use Rattle.std.proofs.Common.{arith, sym, ap, ◌∙◌}
use Rattle.std.proofs.Math.Option.{Option, none, some, some-injective, none-ne-some}
use Rattle.std.proofs.Math.ListN.{get_elem?}
use Rattle.semantics.specs.Term.{Atom, trusted, untrusted, global, intruder, role, variable, local, Term, atom, pk, sk, shared, pair, encrypted, shared_key}
use Rattle.semantics.specs.Table.{Row, atomic, pk_of, sk_of, shared_of, pair_of, encrypted_of}
use Rattle.semantics.specs.Value.{Reading, value_of}
use Rattle.semantics.specs.State.{in_run}
use Rattle.semantics.specs.Runs.{atom_of, atom_at}
use Rattle.semantics.specs.Guarantee.{GoodTable}
use Rattle.semantics.specs.Encoding.{RowBytes, trusted_bytes, untrusted_bytes, global_bytes, intruder_bytes, role_bytes, agent_variable_bytes, fresh_variable_bytes, local_bytes, public_bytes, secret_bytes, shared_bytes, pair_bytes, encrypted_bytes}
use Rattle.semantics.proofs.laws.Test.{There, mapped-some, mapped-there, mapped₂-there}
use Rattle.semantics.proofs.laws.Value.{row_value, value-unfolds}
use Rattle.rows.specs.Rows.{rows_of, Shape, second_of}
use Rattle.rows.specs.laws.Table.{table-good}
use Rattle.cells.specs.Cells.{Canonical}
use Rattle.semantics.proofs.laws.Test.{mapped₂-some}
use Rattle.cells.specs.laws.Cells.{row-there, row-decodes}

-- an atom, whose run is 0 in the table, or a kind with the rows of its two parts
data Sort : ℕ → ℕ → ℕ → Row → Type 0 where
  sort_atom : {k l s : ℕ} {a : Atom} → k < 8 → in_run 0 a ≡ a → Sort k l s (atomic a)
  sort_pk : {a : ℕ} → Sort 8 a a (pk_of a)
  sort_sk : {a : ℕ} → Sort 9 a a (sk_of a)
  sort_shared : {a b : ℕ} → Sort 10 a b (shared_of a b)
  sort_pair : {l r : ℕ} → Sort 11 l r (pair_of l r)
  sort_encrypted : {l r : ℕ} → Sort 12 l r (encrypted_of l r)

-- what the bytes of a row say
decodes-sort : {k l r : ℕ} {row : Row} → RowBytes k l r row → Sort k l (cond (ltb k 10) l r) row
decodes-sort trusted_bytes = sort_atom {k = 1} (omega arith) refl
decodes-sort untrusted_bytes = sort_atom {k = 2} (omega arith) refl
decodes-sort global_bytes = sort_atom {k = 3} (omega arith) refl
decodes-sort intruder_bytes = sort_atom {k = 4} (omega arith) refl
decodes-sort (role_bytes i) = sort_atom {k = 5} (omega arith) refl
decodes-sort agent_variable_bytes = sort_atom {k = 6} (omega arith) refl
decodes-sort fresh_variable_bytes = sort_atom {k = 6} (omega arith) refl
decodes-sort local_bytes = sort_atom {k = 7} (omega arith) refl
decodes-sort public_bytes = sort_pk
decodes-sort secret_bytes = sort_sk
decodes-sort shared_bytes = sort_shared
decodes-sort pair_bytes = sort_pair
decodes-sort encrypted_bytes = sort_encrypted

-- the kind of a term, 0 of an atom, and its parts
abbrev pub shape_of : Term → ℕ × Term × Term
shape_of (atom a) = (0, atom a, atom a)
shape_of (pk t) = (8, t, t)
shape_of (sk t) = (9, t, t)
shape_of (shared t u) = (10, t, u)
shape_of (pair t u) = (11, t, u)
shape_of (encrypted t k) = (12, t, k)

abbrev pub kind_of : Term → ℕ
kind_of t = (shape_of t).0

abbrev pub first_part : Term → Term
first_part t = (shape_of t).1

abbrev pub second_part : Term → Term
second_part t = (shape_of t).2

-- a term of a kind whose parts are the given ones
pub record Made (k : ℕ) (o p : Option Term) (t : Term) : Type 0 where
  pub kind : kind_of t ≡ k
  pub first : o ≡ some (first_part t)
  pub second : p ≡ some (second_part t)

-- a term made of the values of a row's parts
abbrev pub MadeAt : List ℕ → (ℕ → Option Term) → ℕ → Term → Type 0
MadeAt bytes value x t = Made (get_or bytes (3 * x) 0) (value (get_or bytes (3 * x + 1) 0)) (value (second_of bytes x)) t

-- a term from its kind and its parts
maker : ℕ → Term → Term → Term
maker k a b = get_or (pair ∷ pair ∷ pair ∷ pair ∷ pair ∷ pair ∷ pair ∷ pair ∷ (λ c d. pk c) ∷ (λ c d. sk c) ∷ shared ∷ pair ∷ encrypted ∷ []) k pair a b

-- a term of a kind is so made of its parts
remade : (t : Term) {k : ℕ} → kind_of t ≡ k → 8 ≤ k → maker k (first_part t) (second_part t) ≡ t
unfolding maker
remade (atom a) e l = absurd (omega arith)
remade (pk t) e l = rw (← e)
remade (sk t) e l = rw (← e)
remade (shared t u) e l = rw (← e)
remade (pair t u) e l = rw (← e)
remade (encrypted t k) e l = rw (← e)

module _ (reading : Reading) (value : ℕ → Option Term) where
  -- the value of a row that is no atom is made of the values of its parts
  row_made : {k l s : ℕ} {row : Row} {t : Term} → Sort k l s row → 8 ≤ k → row_value reading value row ≡ some t → Made k (value l) (value s) t
  row_made (sort_atom h q) m e = absurd (omega arith)
  row_made (sort_pk {a}) m e = let w = (mapped-some pk (value a)).0 e in rw w.2 (record { kind = refl; first = w.1; second = w.1 })
  row_made (sort_sk {a}) m e = let w = (mapped-some sk (value a)).0 e in rw w.2 (record { kind = refl; first = w.1; second = w.1 })
  row_made (sort_shared {a} {b}) m e = let w = (mapped₂-some shared (value a) (value b)).0 e in rw w.4 (record { kind = refl; first = w.2; second = w.3 })
  row_made (sort_pair {l} {r}) m e = let w = (mapped₂-some pair (value l) (value r)).0 e in rw w.4 (record { kind = refl; first = w.2; second = w.3 })
  row_made (sort_encrypted {l} {r}) m e = let w = (mapped₂-some encrypted (value l) (value r)).0 e in rw w.4 (record { kind = refl; first = w.2; second = w.3 })

  -- and a term so made is its value
  row-remade : {k l s : ℕ} {row : Row} {t : Term} → Sort k l s row → 8 ≤ k → Made k (value l) (value s) t → row_value reading value row ≡ some t
  unfolding maker
  row-remade (sort_atom h q) m d = absurd (omega arith)
  row-remade {t = t} sort_pk m d = rw d.first (ap some (remade t d.kind m))
  row-remade {t = t} sort_sk m d = rw d.first (ap some (remade t d.kind m))
  row-remade {t = t} sort_shared m d = rw (d.first, d.second) (ap some (remade t d.kind m))
  row-remade {t = t} sort_pair m d = rw (d.first, d.second) (ap some (remade t d.kind m))
  row-remade {t = t} sort_encrypted m d = rw (d.first, d.second) (ap some (remade t d.kind m))

  -- parts with values make a value
  row-valued : {k l s : ℕ} {row : Row} → Sort k l s row → 8 ≤ k → There (value l) → There (value s) → There (row_value reading value row)
  row-valued (sort_atom h q) m a b = absurd (omega arith)
  row-valued (sort_pk {a}) m v w = (mapped-there pk (value a)).1 v
  row-valued (sort_sk {a}) m v w = (mapped-there sk (value a)).1 v
  row-valued (sort_shared {a} {b}) m v w = (mapped₂-there shared_key (value a) (value b)).1 (v, w)
  row-valued (sort_pair {l} {r}) m v w = (mapped₂-there pair (value l) (value r)).1 (v, w)
  row-valued (sort_encrypted {l} {r}) m v w = (mapped₂-there encrypted (value l) (value r)).1 (v, w)

-- a row that is an atom
sort-atom : {k l s : ℕ} {row : Row} {a : Atom} → Sort k l s row → atom_of (some row) ≡ some a → (row ≡ atomic a) × (in_run 0 a ≡ a)
sort-atom {a = a} (sort_atom {a = b} h q) e = let p = some-injective b a e in (ap atomic p, rw p at q)
sort-atom {a = a} sort_pk e = absurd (none-ne-some a e)
sort-atom {a = a} sort_sk e = absurd (none-ne-some a e)
sort-atom {a = a} sort_shared e = absurd (none-ne-some a e)
sort-atom {a = a} sort_pair e = absurd (none-ne-some a e)
sort-atom {a = a} sort_encrypted e = absurd (none-ne-some a e)

-- which is so by its kind
sort-low : {k l s : ℕ} {row : Row} → Sort k l s row → k < 8 → There (atom_of (some row))
sort-low (sort_atom {a = b} h q) m = (b, refl)
sort-low sort_pk m = absurd (omega arith)
sort-low sort_sk m = absurd (omega arith)
sort-low sort_shared m = absurd (omega arith)
sort-low sort_pair m = absurd (omega arith)
sort-low sort_encrypted m = absurd (omega arith)

-- and a row that is none
sort-high : {k l s : ℕ} {row : Row} → Sort k l s row → (8 ≤ k) ↔ (atom_of (some row) ≡ none)
sort-high (sort_atom {a = b} h q) = (λ m. absurd (omega arith), λ e. absurd (none-ne-some b (sym e)))
sort-high sort_pk = (λ m. refl, λ e. omega arith)
sort-high sort_sk = (λ m. refl, λ e. omega arith)
sort-high sort_shared = (λ m. refl, λ e. omega arith)
sort-high sort_pair = (λ m. refl, λ e. omega arith)
sort-high sort_encrypted = (λ m. refl, λ e. omega arith)

-- the last run that a local constant is put into counts
in_run-again : (u w : ℕ) (a : Atom) → in_run u (in_run w a) ≡ in_run u a
in_run-again u w (trusted n) = refl
in_run-again u w (untrusted n) = refl
in_run-again u w (global n) = refl
in_run-again u w (intruder n) = refl
in_run-again u w (role i) = refl
in_run-again u w (variable n t) = refl
in_run-again u w (local n v) = refl

-- an atom names itself in one run only
canonical-run : (a : Atom) {w v : ℕ} → Canonical a w → Canonical a v → in_run w a ≡ in_run v a → w ≡ v
canonical-run (trusted n) p q e = omega arith
canonical-run (untrusted n) p q e = omega arith
canonical-run (global n) p q e = omega arith
canonical-run (intruder n) p q e = omega arith
canonical-run (role i) p q e = omega arith
canonical-run (variable n t) p q e = omega arith
canonical-run (local n u) p q e = cc

-- atoms of the table that are equal in runs in which they name themselves are equal
same-atom : {a b : Atom} (w v : ℕ) → in_run 0 a ≡ a → in_run 0 b ≡ b → in_run w a ≡ in_run v b → a ≡ b
same-atom {a} {b} w v p q e = sym p ∙ sym (in_run-again 0 w a) ∙ ap (in_run 0) e ∙ in_run-again 0 v b ∙ q

module _ {bytes : List ℕ} {n runs : ℕ} (shape : Shape bytes n runs) where
  pub good-rows : GoodTable (rows_of bytes)
  good-rows = table-good bytes shape.table

  module _ {x : ℕ} (low : x < n) where
    -- a row, and what it is made of
    sort-at : (row : Row) × (get_elem? (rows_of bytes) x ≡ some row) × Sort (get_or bytes (3 * x) 0) (get_or bytes (3 * x + 1) 0) (second_of bytes x) row
    sort-at = ((row-there bytes n runs shape x low).0, (row-there bytes n runs shape x low).1, decodes-sort (row-decodes bytes n runs shape x low))

    -- the value of a row that is no atom is made of the values of its parts
    pub value_made : (reading : Reading) {t : Term} → 8 ≤ get_or bytes (3 * x) 0 → value_of reading (rows_of bytes) x ≡ some t → MadeAt bytes (value_of reading (rows_of bytes)) x t
    value_made reading m e = row_made reading (value_of reading (rows_of bytes)) sort-at.2 m (sym (value-unfolds good-rows reading x sort-at.1) ∙ e)

    pub value-remade : (reading : Reading) {t : Term} → 8 ≤ get_or bytes (3 * x) 0 → MadeAt bytes (value_of reading (rows_of bytes)) x t → value_of reading (rows_of bytes) x ≡ some t
    value-remade reading m d = value-unfolds good-rows reading x sort-at.1 ∙ row-remade reading (value_of reading (rows_of bytes)) sort-at.2 m d

    pub value-valued : (reading : Reading) → 8 ≤ get_or bytes (3 * x) 0 → There (value_of reading (rows_of bytes) (get_or bytes (3 * x + 1) 0))
        → There (value_of reading (rows_of bytes) (second_of bytes x)) → There (value_of reading (rows_of bytes) x)
    value-valued reading m v w = rw (value-unfolds good-rows reading x sort-at.1) (row-valued reading (value_of reading (rows_of bytes)) sort-at.2 m v w)

    -- a row is an atom or none, by its kind
    pub atom-at : get_or bytes (3 * x) 0 < 8 → There (atom_at (rows_of bytes) x)
    atom-at l = rw sort-at.1 (sort-low sort-at.2 l)

    pub no-atom-at : (8 ≤ get_or bytes (3 * x) 0) ↔ (atom_at (rows_of bytes) x ≡ none)
    no-atom-at = rw sort-at.1 (sort-high sort-at.2)

    -- the row of an atom
    atom-row : {a : Atom} → atom_at (rows_of bytes) x ≡ some a → (get_elem? (rows_of bytes) x ≡ some (atomic a)) × (in_run 0 a ≡ a)
    atom-row e = let w = sort-atom sort-at.2 (rw sort-at.1 at e) in (sort-at.1 ∙ ap some w.0, w.1)

    -- its value is the atom's reading
    pub atom-value : {a : Atom} (reading : Reading) → atom_at (rows_of bytes) x ≡ some a → value_of reading (rows_of bytes) x ≡ reading a
    atom-value reading e = value-unfolds good-rows reading x (atom-row e).0

  -- an atom has one name
  pub atom-name : {x y w v : ℕ} {a b : Atom} → x < n → y < n → atom_at (rows_of bytes) x ≡ some a → atom_at (rows_of bytes) y ≡ some b → Canonical a w → Canonical b v
      → in_run w a ≡ in_run v b → (x ≡ y) × (w ≡ v)
  atom-name {x} {y} {w} {v} {a} {b} l k ea eb ca cb e =
      let ra = atom-row l ea in
      let rb = atom-row k eb in
      let same = same-atom w v ra.1 rb.1 e in
      (good-rows.distinct x y (atomic a) ra.0 (rw (← same) at rb.0), canonical-run a ca (rw (← same) at cb) (rw (← same) at e))
