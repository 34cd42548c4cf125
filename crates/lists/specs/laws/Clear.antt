-- Which rows have a value: by their kinds and by the rows that they refer to. Assumes nothing.
use Rattle.std.specs.Prelude.{ℕ, ◌+◌, ◌*◌, ◌≤◌, ◌<◌, ◌≡◌, Bool, cond, ◌&&◌, not, List, leb, length, get_or, set}
use Rattle.std.proofs.Common.{arith, ap, ◌∙◌, get_or-set_same, get_or-set_other}
use Rattle.std.proofs.Math.Decide.{ℕ_discrete}
use Rattle.std.proofs.Math.Path.{refl, sym}
use Rattle.std.proofs.Math.Bool.{true, false}
use Rattle.std.proofs.Math.Option.{Option, none, some}
use Rattle.std.proofs.Math.Dec.{ltb}
use borrow.Author.Tests.{ltb-false, leb-true, leb-false, lt-ltb, le-ltb, lt-leb, le-leb}
use Rattle.semantics.specs.Basic.{present, mapped, mapped₂}
use Rattle.semantics.specs.Term.{Atom, Term, trusted, untrusted, global, intruder, role, variable, local, agent_type, fresh_type, pk, sk, pair, encrypted, shared_key}
use Rattle.semantics.specs.Table.{Row}
use Rattle.semantics.specs.Value.{Reading, value_of, without_variables, without_run}
use Rattle.semantics.specs.Encoding.{RowBytes, trusted_bytes, untrusted_bytes, global_bytes, intruder_bytes, role_bytes, agent_variable_bytes, fresh_variable_bytes, local_bytes, public_bytes, secret_bytes, shared_bytes, pair_bytes, encrypted_bytes}
use Rattle.semantics.proofs.laws.Value.{row_value, value-unfolds}
use Rattle.rows.specs.Rows.{rows_of, Sized}
use Rattle.rows.specs.laws.Table.{table-good, row_here, left-lower, right-lower}
use Rattle.lists.specs.Lists.{atom_kind, Bars, Valued, clear_by, clear_at}

-- a number is not up to another exactly if it is above it
not-leb : (a b : ℕ) → not (leb a b) ≡ ltb b a
not-leb a b = go (leb a b) refl
  where
    go : (d : Bool) → leb a b ≡ d → not d ≡ ltb b a
    go true e = sym (le-ltb b a (leb-true a b e))
    go false e = sym (lt-ltb b a (leb-false a b e))

-- what is made of one value, and of two, is there exactly if they are
mapped-present : {A B : Type 0} (f : A → B) (o : Option A) → present (mapped f o) ≡ present o
mapped-present f none = refl
mapped-present f (some a) = refl

mapped₂-present : {A B C : Type 0} (f : A → B → C) (o : Option A) (p : Option B) → present (mapped₂ f o p) ≡ (present o && present p)
mapped₂-present f none p = refl
mapped₂-present f (some a) none = refl
mapped₂-present f (some a) (some b) = refl

module _ (low high : ℕ) (reading : Reading) (bars : Bars low high reading) where
  -- a row has a value by its kind and by whether its parts have one
  decodes-clear : (value : ℕ → Option Term) {k l r : ℕ} {row : Row} → RowBytes k l r row
      → present (row_value reading value row) ≡ clear_by low high k (present (value l)) (present (value r))
  unfolding clear_by
  decodes-clear value (trusted_bytes {n}) = bars (trusted n)
  decodes-clear value (untrusted_bytes {n}) = bars (untrusted n)
  decodes-clear value (global_bytes {n}) = bars (global n)
  decodes-clear value (intruder_bytes {n}) = bars (intruder n)
  decodes-clear value (role_bytes {i} h) = bars (role i)
  decodes-clear value (agent_variable_bytes {n}) = bars (variable n agent_type)
  decodes-clear value (fresh_variable_bytes {n}) = bars (variable n fresh_type)
  decodes-clear value (local_bytes {n}) = bars (local n 0)
  decodes-clear value (public_bytes {a}) = mapped-present pk (value a)
  decodes-clear value (secret_bytes {a}) = mapped-present sk (value a)
  decodes-clear value (shared_bytes {a} {b}) = mapped₂-present shared_key (value a) (value b)
  decodes-clear value (pair_bytes {l} {r}) = mapped₂-present pair (value l) (value r)
  decodes-clear value (encrypted_bytes {l} {r}) = mapped₂-present encrypted (value l) (value r)

module _ (low high kind : ℕ) (left right : Bool) where
  -- an atom has a value if its kind is below low, or not up to high
  pub clear-low : kind < 8 → kind < low → true ≡ clear_by low high kind left right
  unfolding clear_by
  clear-low h l = sym (rw (lt-ltb kind 8 h, lt-leb low kind l))

  pub clear-high : kind < 8 → low ≤ kind → ltb high kind ≡ clear_by low high kind left right
  unfolding clear_by
  clear-high h l = sym (rw (lt-ltb kind 8 h, le-leb low kind l) (not-leb kind high))

  -- another row has none if its first part has none
  pub clear-not : 8 ≤ kind → left ≡ false → false ≡ clear_by low high kind left right
  unfolding clear_by
  clear-not h e = go (ltb kind 10) refl
    where
      go : (b : Bool) → ltb kind 10 ≡ b → false ≡ clear_by low high kind left right
      go true f = sym (rw (le-ltb kind 8 h, f) e)
      go false f = sym (rw (le-ltb kind 8 h, f, e))

  -- only what a kind asks for counts
  clear-same : {left' right' : Bool} → (8 ≤ kind → left ≡ left') → (10 ≤ kind → right ≡ right') → clear_by low high kind left right ≡ clear_by low high kind left' right'
  unfolding clear_by
  clear-same {left'} {right'} l r = go (ltb kind 8) refl (ltb kind 10) refl
    where
      go : (b : Bool) → ltb kind 8 ≡ b → (d : Bool) → ltb kind 10 ≡ d → clear_by low high kind left right ≡ clear_by low high kind left' right'
      go true e d f = rw e
      go false e true f = rw (e, f) (l (ltb-false kind 8 e))
      go false e false f = rw (e, f, l (ltb-false kind 8 e), r (ltb-false kind 10 f))

-- with the first part, another row has one if the second part has
pub clear-parts : (low high kind l r : ℕ) (clear : List Bool) → 8 ≤ kind → get_or clear l false ≡ true
    → get_or clear (cond (ltb kind 10) l r) false ≡ clear_by low high kind (get_or clear l false) (get_or clear r false)
unfolding clear_by
clear-parts low high kind l r clear h e = go (ltb kind 10) refl
  where
    go : (b : Bool) → ltb kind 10 ≡ b → get_or clear (cond b l r) false ≡ clear_by low high kind (get_or clear l false) (get_or clear r false)
    go true f = sym (rw (le-ltb kind 8 h, f) refl)
    go false f = sym (rw (le-ltb kind 8 h, f, e) refl)

-- the rows below one with a number are those marked that have a value, under each reading in which just the kinds from low to high stand for nothing
abbrev pub Cleared : List ℕ → ℕ → ℕ → List Bool → ℕ → Type 0
Cleared t low high clear r = (reading : Reading) → Bars low high reading → (q : ℕ) → q < r → get_or clear q false ≡ present (value_of reading (rows_of t) q)

-- one row more
pub cleared_more : (t : List ℕ) (n low high : ℕ) (clear : List Bool) (r : ℕ) → Sized t n → r < n → length clear ≡ 96 → Cleared t low high clear r
    → {b : Bool} → b ≡ clear_at low high t clear r → Cleared t low high (set clear r b) (r + 1)
cleared_more t n low high clear r s l size cleared {b} e reading bars q m = go (ℕ_discrete q r)
  where
    within : r < length (rows_of t)
    within = omega (arith, s.count)

    value : present (value_of reading (rows_of t) r) ≡ b
    value =
        let w = row_here t s.table r within in
        ap present (value-unfolds (table-good t s.table) reading r w.1)
        ∙ decodes-clear low high reading bars (value_of reading (rows_of t)) w.2
        ∙ clear-same low high (get_or t (3 * r) 0) _ _
        (λ h. sym (cleared reading bars (get_or t (3 * r + 1) 0) (left-lower t s.table r within h)))
        (λ h. sym (cleared reading bars (get_or t (3 * r + 2) 0) (right-lower t s.table r within h)))
        ∙ sym e

    go : Dec (q ≡ r) → get_or (set clear r b) q false ≡ present (value_of reading (rows_of t) q)
    go (yes f) = rw f (get_or-set_same clear r b false (omega (arith, s.few)) ∙ sym value)
    go (no f) = get_or-set_other clear r q b false f ∙ cleared reading bars q (omega arith)

-- and all rows
pub cleared-all : (t : List ℕ) (n low high : ℕ) (clear : List Bool) (r : ℕ) → Sized t n → n ≤ r → length clear ≡ 96 → Cleared t low high clear r
    → (reading : Reading) → Bars low high reading → Valued (rows_of t) reading clear
cleared-all t n low high clear r s l size cleared reading bars = record {
  size = size;
  each = λ q m. cleared reading bars q (omega (arith, s.count));
}

-- without variables just kind 6 stands for nothing, without a run kinds 5 to 7
bars : (a : Atom) → (present (without_variables a) ≡ not (leb 6 (atom_kind a) && leb (atom_kind a) 6)) × (present (without_run a) ≡ not (leb 5 (atom_kind a) && leb (atom_kind a) 7))
bars (trusted n) = (refl, refl)
bars (untrusted n) = (refl, refl)
bars (global n) = (refl, refl)
bars (intruder n) = (refl, refl)
bars (role i) = (refl, refl)
bars (variable n t) = (refl, refl)
bars (local n u) = (refl, refl)

pub bars-variables : Bars 6 6 without_variables
bars-variables a = (bars a).0

pub bars-run : Bars 5 7 without_run
bars-run a = (bars a).1
