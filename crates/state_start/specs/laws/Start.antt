-- What a scenario starts with: names row by row, and marks of what is known. Assumes nothing.
use denote.Enum.Bare.{sameb, same_true, same_false}
use Rattle.std.specs.Prelude.{ℕ, ◌+◌, ◌<◌, ◌≤◌, ◌≡◌, Bool, true, false, List, [], length, get_or, set}
use Rattle.std.proofs.Common.{rules, eq-or-lt_of_le, arith, sym, ap, ◌∙◌, subst, inl, ⊎_elim, length-set, get_or-set_same, get_or-set_other}
use mathlib.Core.List.Memᴰ
use Rattle.semantics.specs.Table.{Row}
use Rattle.rows.specs.contracts.Kind.{the_type}
use Rattle.rows.specs.declared.Kind.{Kind}
use Rattle.rows.specs.declared.Kind.TheVariants.{Intruder}
use Rattle.rows.specs.Kinds.{number_of}
use Rattle.rows.specs.laws.Kinds.{kinds-differ}
use Rattle.cells.specs.Cells.{cell_of, cell_count, absent}
use Rattle.knowledge.specs.Steps.{On, kind_at}
use Rattle.state_start.specs.Start.{FirstName, Entered, StartMarks}

-- a cell tells its row and its run
cells-other : (r u x w : ℕ) → r < 96 → x < 96 → (w ≡ u → ⊥) → cell_of x w ≡ cell_of r u → ⊥
cells-other r u x w l k d e = d (omega arith)

cells-row : (r u x : ℕ) → r < 96 → x < 96 → (x ≡ r → ⊥) → cell_of x u ≡ cell_of r u → ⊥
cells-row r u x l k d e = d (omega arith)

-- Names filled in for the rows below a number.
pub record EnteredTo (rows : List Row) (u : ℕ) (agents : List ℕ) (before : List ℕ) (r : ℕ) (names : List ℕ) : Type 0 where
  pub size : length names ≡ cell_count
  pub here : (x : ℕ) → x < r → FirstName rows u agents x (get_or names (cell_of x u) absent)
  pub elsewhere : (x w : ℕ) → x < 96 → (w ≡ u → ⊥) → get_or names (cell_of x w) absent ≡ get_or before (cell_of x w) absent

pub entered-more : (rows : List Row) (u : ℕ) (agents before names : List ℕ) (r name : ℕ) {c : ℕ} → r < 96 → c ≡ cell_of r u → c < cell_count → EnteredTo rows u agents before r names → FirstName rows u agents r name
    → EnteredTo rows u agents before (r + 1) (set names c name)
entered-more rows u agents before names r name {c} low e l done named = record {
  size = length-set names c name ∙ done.size;
  here = λ x h. ⊎_elim
      (λ (f : x ≡ r). rw f (subst (FirstName rows u agents r) (sym (ap (λ (k : ℕ). get_or (set names k name) (cell_of r u) absent) e ∙ get_or-set_same names (cell_of r u) name absent (omega (arith, done.size)))) named))
      (λ (m : x < r). subst (FirstName rows u agents x) (sym (get_or-set_other names c (cell_of x u) name absent (λ z. cells-row r u x low (omega arith) (λ q. omega arith) (z ∙ e)))) (done.here x m))
      (eq-or-lt_of_le (omega arith));
  elsewhere = λ x w h d. get_or-set_other names c (cell_of x w) name absent (λ z. cells-other r u x w low h d (z ∙ e)) ∙ done.elsewhere x w h d;
}

pub entered_all : (rows : List Row) (u : ℕ) (agents before names : List ℕ) {r : ℕ} → length rows ≤ r → EnteredTo rows u agents before r names → Entered rows u agents before names
entered_all rows u agents before names l done = record { size = done.size; here = λ x h. done.here x (omega arith); elsewhere = done.elsewhere }

-- what a comparison with the kind of an intruder constant says of a byte that a kind has
pub kind-intruder : {r : Bool} {byte : ℕ} (kind : Kind) → r ≡ sameb the_type kind Intruder → number_of kind ≡ byte → true ≡ r → byte ≡ 4
kind-intruder kind e n t = sym n ∙ ap number_of (same_true the_type (search rules) kind Intruder (sym e ∙ sym t))

pub kind-other : {r : Bool} {byte : ℕ} (kind : Kind) → r ≡ sameb the_type kind Intruder → number_of kind ≡ byte → false ≡ r → byte ≡ 4 → ⊥
kind-other kind e n f q = kinds-differ (same_false the_type kind Intruder (sym e ∙ sym f)) (n ∙ q)

-- marks of just the rows that are intruder constants
pub intruders : (bytes : List ℕ) (n : ℕ) (marks : List Bool) → n ≤ 96 → length marks ≡ cell_count
    → ((c : ℕ) → (On marks c → (c < n) × (kind_at bytes c ≡ 4)) × (c < 480 → (c < n) × (kind_at bytes c ≡ 4) → On marks c)) → StartMarks bytes n [] marks
intruders bytes n marks few size each = record {
  size = size;
  from = λ c o. let w = (each c).0 o in (w.0, inl w.1);
  intruders = λ r l k. (each r).1 (omega arith) (l, k);
  listed = λ r m. absurd (Memᴰ.not-nil m);
}
