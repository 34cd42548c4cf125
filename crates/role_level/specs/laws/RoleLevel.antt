-- At role level, in run 0 alone: names, marks to start from, and what exact marks answer. Assumes nothing.
use Rattle.std.specs.Prelude.{ℕ, zero, suc, ◌<◌, ◌≤◌, ◌≡◌, Bool, true, false, length, get_or, replicate}
use Rattle.std.proofs.Common.{zero-add, sym, ap, ◌∙◌, true≢false}
use native.Mathlib.Omega.{arith}
use Rattle.std.proofs.Math.Path.{refl}
use mathlib.Core.List.{List, map, Memᴰ}
use Rattle.std.proofs.Math.Option.{Option, none, some, some-injective, none-ne-some}
use Rattle.std.proofs.Math.ListN.{get_elem?}
use Rattle.semantics.specs.Term.{Atom, Term}
use Rattle.semantics.specs.Inference.{member, derivable}
use Rattle.semantics.specs.Table.{Row}
use Rattle.semantics.specs.Value.{as_atoms, value_of}
use Rattle.semantics.specs.Runs.{atom_of, atom_at}
use Rattle.semantics.specs.State.{in_run}
use Rattle.semantics.specs.Derive.{derivable_row}
use Rattle.semantics.specs.Encoding.{RowBytes, trusted_bytes, untrusted_bytes, global_bytes, intruder_bytes, role_bytes, agent_variable_bytes, fresh_variable_bytes, local_bytes, public_bytes, secret_bytes, shared_bytes, pair_bytes, encrypted_bytes}
use Rattle.semantics.proofs.laws.Test.{same_test}
use Rattle.semantics.proofs.laws.List.{mem-map, mem-present, get_elem-below}
use Rattle.semantics.proofs.laws.Inference.{derivable-exact}
use Rattle.semantics.proofs.laws.Value.{as_atoms-value, value-within}
use Rattle.rows.specs.Rows.{rows_of, Shape}
use Rattle.rows.specs.laws.Table.{table-good, table-row}
use Rattle.cells.specs.Cells.{Within, cell_value, Canonical}
use Rattle.classes.specs.Classes.{named, NamesRight, Grows, Refilled}
use Rattle.classes.specs.laws.Classes.{no-values}
use Rattle.knowledge.specs.Marks.{Marked, Derivable, Covers, Exact}
use Rattle.role_level.specs.RoleLevel.{role_readings, no_readings, listed_terms, RoleClasses, RoleCelled, OwnNames, ListedMarks, ListedBelow}

pub role-grows : Grows 0 no_readings role_readings
role-grows = record { elsewhere = elsewhere; more = λ a t e. absurd (none-ne-some t e) }
  where
    elsewhere : (w : ℕ) → (w ≡ 0 → ⊥) → (a : Atom) → role_readings w a ≡ no_readings w a
    elsewhere zero n a = absurd (n refl)
    elsewhere (suc w) n a = refl

-- an atom of the table is itself in run 0, which is its own run
data OwnRun : Option Atom → Type 0 where
  own_run : {a : Atom} → Canonical a 0 → in_run 0 a ≡ a → OwnRun (some a)
  no_atom : OwnRun none

decodes-own : {k l r : ℕ} {row : Row} → RowBytes k l r row → OwnRun (atom_of (some row))
decodes-own trusted_bytes = own_run refl refl
decodes-own untrusted_bytes = own_run refl refl
decodes-own global_bytes = own_run refl refl
decodes-own intruder_bytes = own_run refl refl
decodes-own (role_bytes l) = own_run refl refl
decodes-own agent_variable_bytes = own_run refl refl
decodes-own fresh_variable_bytes = own_run refl refl
decodes-own local_bytes = own_run tt refl
decodes-own public_bytes = no_atom
decodes-own secret_bytes = no_atom
decodes-own shared_bytes = no_atom
decodes-own pair_bytes = no_atom
decodes-own encrypted_bytes = no_atom

own-run : {a : Atom} → OwnRun (some a) → Canonical a 0 × (in_run 0 a ≡ a)
own-run (own_run c e) = (c, e)

-- a row whose atom is there is there
atom-row : (o : Option Row) (a : Atom) → atom_of o ≡ some a → (row : Row) × (o ≡ some row)
atom-row none a e = absurd (none-ne-some a e)
atom-row (some row) a e = (row, refl)

module _ (bytes : List ℕ) (n : ℕ) (shape : Shape bytes n 0) where
  abbrev table : List Row
  table = rows_of bytes

  atom-own : (r : ℕ) (a : Atom) → atom_at table r ≡ some a → (r < length table) × Canonical a 0 × (in_run 0 a ≡ a)
  atom-own r a e =
      let w = atom-row (get_elem? table r) a e in
      let l = get_elem-below table r w.1 in
      let o = own-run (rw (sym (ap atom_of w.1) ∙ e) at (decodes-own (table-row bytes shape.table r w.0 w.1 l))) in
      (l, o.0, o.1)

  -- the names are right
  pub names-right : (names : List ℕ) → OwnNames n names → NamesRight table 0 role_readings names
  names-right names own r zero a l e =
      let w = atom-own r a e in
      named r 0 a (rw zero-add (own.own r (omega (arith, shape.count, w.0)))) (record { row = w.0; run = l }) e w.1 (rw w.2 refl)
  names-right names own r (suc u) a l e = absurd (omega arith)

  -- classes that were of no values are right at role level once they are filled
  pub role-classes : {names after : List ℕ} → OwnNames n names → Refilled table 0 0 names (replicate 480 480) after → RoleClasses table after
  role-classes {names} own filled =
      filled no_readings role_readings role-grows (names-right names own) (no-values table 0 (table-good bytes shape.table))

  module _ (list : List ℕ) (below : ListedBelow n list) where
    listed-term : (r : ℕ) → Memᴰ r list → (t : Term) × (value_of as_atoms table r ≡ some t) × Memᴰ t (listed_terms table list)
    listed-term r m =
        let w = as_atoms-value (table-good bytes shape.table) r (omega (arith, below r m, shape.count)) in
        (w.0, w.1, (mem-present (map (value_of as_atoms table) list)).1 ((mem-map (value_of as_atoms table) list).1 (r, m, sym w.1)))

    -- the marks of the listed rows are sound and cover what is known
    pub listed-cover : (marks : List Bool) → ListedMarks n list marks → Covers table 0 role_readings (listed_terms table list) marks
    listed-cover marks marked = record { sound = sound; covers = covers }
      where
        sound : (r u : ℕ) → Within table 0 r u → Marked marks r u → Derivable table role_readings (listed_terms table list) r u
        sound r zero h m = let w = listed-term r ((marked.listed r (omega (arith, h.row, shape.count))).0 (rw zero-add at m)) in (w.0, w.1, member w.2)
        sound r (suc u) h m = absurd (omega (arith, h.run))

        covers : (t : Term) → Memᴰ t (listed_terms table list) → (r : ℕ) × (u : ℕ) × Within table 0 r u × (cell_value role_readings table r u ≡ some t) × Marked marks r u
        covers t m =
            let w = (mem-map (value_of as_atoms table) list).0 ((mem-present (map (value_of as_atoms table) list)).0 m) in
            let l = below w.0 w.1 in
            (w.0, 0, record { row = omega (arith, shape.count); run = omega arith }, sym w.2, rw zero-add ((marked.listed w.0 l).1 w.1))

    -- exact marks answer
    pub exact-answers : (marks : List Bool) (target : ℕ) → target < n → Exact table 0 role_readings (listed_terms table list) marks
        → derivable_row table list (value_of as_atoms table target) ≡ get_or marks target false
    unfolding derivable_row
    exact-answers marks target l exact =
        let w = as_atoms-value (table-good bytes shape.table) target (omega (arith, shape.count)) in
        rw w.1 (go (get_or marks target false) refl w.0 w.1)
      where
        here : Within table 0 target 0
        here = record { row = omega (arith, shape.count); run = omega arith }

        go : (b : Bool) → get_or marks target false ≡ b → (t : Term) → value_of as_atoms table target ≡ some t → derivable (listed_terms table list) t ≡ get_or marks target false
        go true e t v = let d = (exact target 0 here).0 (rw zero-add e) in same_test (derivable (listed_terms table list) t) _ (rw e (λ x. tt, λ x. (derivable-exact (listed_terms table list) t).1 (rw (some-injective d.0 t (sym d.1 ∙ v)) at d.2)))
        go false e t v = same_test (derivable (listed_terms table list) t) _ (rw e (λ x. true≢false (sym (rw zero-add at ((exact target 0 here).1 (t, v, (derivable-exact (listed_terms table list) t).0 x))) ∙ e), λ x. absurd x))

-- a known term is that of a row
pub celled-row : {rows : List Row} {known : List Term} → RoleCelled rows known → (t : Term) → Memᴰ t known → (r : ℕ) × (value_of as_atoms rows r ≡ some t)
celled-row {rows} celled t m = let w = celled t m in go w.0 w.1 w.2.run w.3
  where
    go : (r u : ℕ) → u ≤ 0 → cell_value role_readings rows r u ≡ some t → (r : ℕ) × (value_of as_atoms rows r ≡ some t)
    go r zero l e = (r, e)
    go r (suc u) l e = absurd (omega arith)

-- and a row with a term is in run 0
pub row-cell : {rows : List Row} (r : ℕ) {t : Term} → value_of as_atoms rows r ≡ some t → (x : ℕ) × (u : ℕ) × Within rows 0 x u × (cell_value role_readings rows x u ≡ some t)
row-cell {rows} r {t} e = (r, 0, record { row = value-within as_atoms rows r (t, e); run = omega arith }, e)
