-- One row more has its new values: the class that its cell gets suits them. Assumes nothing.
use Rattle.std.specs.Prelude.{ℕ, ◌+◌, ◌-◌, ◌*◌, ◌<◌, ◌≤◌, ◌≡◌, refl, List, T, eqb, length, get_or, set}
use Rattle.std.proofs.Common.{arith, sym, ap, ◌∙◌, subst, eqb→eq}
use Rattle.std.proofs.lemmas.List.{set-get_or}
use Rattle.std.proofs.Math.Decide.{ℕ_discrete}
use Rattle.std.proofs.Math.Option.{Option, none, some, none-ne-some}
use Rattle.std.proofs.Math.Dec.{eqb_refl}
use Rattle.semantics.specs.Term.{Atom, Term, atom}
use Rattle.semantics.specs.Value.{value_of}
use Rattle.semantics.specs.State.{in_run}
use Rattle.semantics.specs.Runs.{atom_at}
use Rattle.semantics.proofs.laws.Test.{There, both, both-parts}
use Rattle.rows.specs.Rows.{rows_of, Shape}
use Rattle.cells.specs.Cells.{cell_of, cell_count, absent, Within, Readings, cell_value, Canonical, Matches, is_found, not_found}
use Rattle.cells.specs.laws.Cells.{class-read, left-lower, second-lower}
use Rattle.classes.specs.Classes.{Named, unnamed, named, NamesRight, Stands, by_name, by_cell, Classes, Grows, Refilled}
use Rattle.classes.specs.Filled.{first_class, second_class, ClassOf, of_atom, no_first, no_second, of_other, of_itself, mixed, Filled}
use Rattle.classes.specs.laws.Kinds.{kind_of, MadeAt, good-rows, value_made, value-remade, value-valued, atom-at, no-atom-at, atom-value, atom-name}
use Rattle.classes.specs.laws.Classes.{stands-kept, classes-same, classes-present, classes-none, classes-there, classes-equal, Suits, suits_none, suits_some, classes-put}
use Rattle.classes.specs.laws.Values.{mixed-new, mixed-old, mixed-next, mixed-more, cell-kept, cell-elsewhere, mixed-made}

-- the values of cells, new below a row
abbrev up_to : List ℕ → Readings → Readings → ℕ → ℕ → ℕ → Option Term
up_to bytes old new x = mixed x (cell_value old (rows_of bytes)) (cell_value new (rows_of bytes))

-- a class suits the cell of the next row
abbrev SuitsNext : List ℕ → ℕ → ℕ → ℕ → List ℕ → Readings → Readings → ℕ → Type 0
SuitsNext bytes runs u x classes old new class = Suits (rows_of bytes) runs (up_to bytes old new x) (up_to bytes old new (x + 1)) classes x u class

module _ {bytes : List ℕ} {n runs u x : ℕ} (shape : Shape bytes n runs) (low : x < n) (run : u ≤ runs) (names classes : List ℕ) {old new : Readings} (grows : Grows u old new)
    (right : Classes (rows_of bytes) runs (up_to bytes old new x) classes) where
  -- a row and a run
  within : {r w : ℕ} → r < n → w ≤ runs → Within (rows_of bytes) runs r w
  within l k = record { row = omega (arith, shape.count); run = k }

  row_of : {r w : ℕ} → Within (rows_of bytes) runs r w → r < n
  row_of w = omega (arith, shape.count, w.row)

  -- the row itself gets its new value, the lower rows have theirs
  next-new : up_to bytes old new (x + 1) x u ≡ cell_value new (rows_of bytes) x u
  next-new = mixed-new (cell_value old (rows_of bytes)) (cell_value new (rows_of bytes)) (x + 1) x u (omega arith)

  lower-new : {r : ℕ} → r < x → up_to bytes old new x r u ≡ cell_value new (rows_of bytes) r u
  lower-new {r} l = mixed-new (cell_value old (rows_of bytes)) (cell_value new (rows_of bytes)) x r u l

  -- an atom is the value of no cell whose row is none
  atom-cell : {r w : ℕ} {a : Atom} → Within (rows_of bytes) runs r w → atom_at (rows_of bytes) r ≡ none → up_to bytes old new x r w ≡ some (atom a) → ⊥
  atom-cell {r} {w} i e f =
      let l = row_of i in
      let high = (no-atom-at shape l).1 e in
      omega (arith, (mixed-made shape grows x r w l high f).kind)

  -- a name suits an atom
  suits-named : {class y w : ℕ} {b : Atom} → class ≡ cell_of y w → Within (rows_of bytes) runs y w → atom_at (rows_of bytes) y ≡ some b → Canonical b w
      → cell_value new (rows_of bytes) x u ≡ some (atom (in_run w b)) → SuitsNext bytes runs u x classes old new class
  suits-named {class} {y} {w} {b} c i q k e = suits_some (atom (in_run w b)) y w (next-new ∙ e) c i (by_name q k refl) λ r v z f.
      let s = right.stands r v (atom (in_run w b)) z f in s.2 ∙ go s.3 s.4 ∙ sym c
    where
      go : {y' w' : ℕ} → Within (rows_of bytes) runs y' w' → Stands (rows_of bytes) (up_to bytes old new x) y' w' (atom (in_run w b)) → cell_of y' w' ≡ cell_of y w
      go {y'} {w'} i' (by_name {a = b'} q' k' e') =
          let runs_same : in_run w b ≡ in_run w' b' = cc in
          let same = atom-name shape (row_of i) (row_of i') q q' k k' runs_same in
          rw (same.0, same.1)
      go i' (by_cell q' e') = absurd (atom-cell i' q' e')

  suits-name : {class : ℕ} {a : Atom} → class ≡ get_or names (cell_of x u) absent → atom_at (rows_of bytes) x ≡ some a → Named (rows_of bytes) runs (get_or names (cell_of x u) absent) (new u a)
      → SuitsNext bytes runs u x classes old new class
  suits-name c e (unnamed p q) = suits_none (next-new ∙ atom-value shape low (new u) e ∙ q) (c ∙ p)
  suits-name c e (named y w b p i q k f) = suits-named (c ∙ p) i q k (atom-value shape low (new u) e ∙ f)

  -- no class suits a row with a part that has none
  suits-missing : {class : ℕ} → 8 ≤ get_or bytes (3 * x) 0 → class ≡ absent
      → ((t : Term) → MadeAt bytes (value_of (new u) (rows_of bytes)) x t → ⊥)
      → SuitsNext bytes runs u x classes old new class
  suits-missing m c missing = suits_none (next-new ∙ go (cell_value new (rows_of bytes) x u) refl) c
    where
      go : (o : Option Term) → cell_value new (rows_of bytes) x u ≡ o → cell_value new (rows_of bytes) x u ≡ none
      go none e = e
      go (some t) e = absurd (missing t (value_made shape low (new u) m e))

  -- a part without a class has no value
  part_none : {r : ℕ} → r < x → get_or classes (cell_of r u) absent ≡ absent → {t : Term} → cell_value new (rows_of bytes) r u ≡ some t → ⊥
  part_none {r} l e {t} f =
      none-ne-some t (sym (classes-none (good-rows shape) shape.few_runs right (within (omega arith) run) (omega arith)) ∙ lower-new l ∙ f)

  -- a part with a class has one
  part-there : {r : ℕ} → r < x → (get_or classes (cell_of r u) absent ≡ absent → ⊥) → There (cell_value new (rows_of bytes) r u)
  part-there l h = let w = classes-there (good-rows shape) shape.few_runs right (within (omega arith) run) h in (w.0, sym (lower-new l) ∙ w.1)

  -- parts with equal classes have equal values
  part_same : {r s y w : ℕ} → r < x → s < y → y < n → w ≤ runs → get_or classes (cell_of r u) absent ≡ get_or classes (cell_of s w) absent
      → cell_value new (rows_of bytes) r u ≡ up_to bytes old new x s w
  part_same l k b h e = sym (lower-new l) ∙ classes-equal (good-rows shape) shape.few_runs right (within (omega arith) run) (within (omega arith) h) e

  -- and parts with equal values have equal classes
  same_class : {r s y w : ℕ} {t : Term} → r < x → s < y → y < n → w ≤ runs → cell_value new (rows_of bytes) r u ≡ some t → up_to bytes old new x s w ≡ some t
      → T (eqb (get_or classes (cell_of r u) absent) (get_or classes (cell_of s w) absent))
  same_class {r} {s} {y} {w} {t} l k b h e f =
      rw (right.same r u s w t (within (omega arith) run) (within (omega arith) h) (lower-new l ∙ e) f) (eqb_refl (get_or classes (cell_of s w) absent))

  -- a cell with such parts has the value
  other-value : {y w : ℕ} {t : Term} → 8 ≤ get_or bytes (3 * x) 0 → y < n → w ≤ runs → get_or bytes (3 * y) 0 ≡ get_or bytes (3 * x) 0
      → Matches bytes classes (first_class bytes classes u x) (second_class bytes classes u x) y w → up_to bytes old new x y w ≡ some t → cell_value new (rows_of bytes) x u ≡ some t
  other-value {y} {w} m l k e matches f =
      let high : 8 ≤ get_or bytes (3 * y) 0 = omega arith in
      let d = mixed-made shape grows x y w l high f in
      let first = eqb→eq (first_class bytes classes u x) (first_class bytes classes w y) (search (both-parts, matches.parts)) in
      let second = eqb→eq (second_class bytes classes u x) (second_class bytes classes w y) (search (both-parts, matches.parts)) in
      value-remade shape low (new u) m (record {
        kind = d.kind ∙ e;
        first = part_same (left-lower bytes n runs shape x low m) (left-lower bytes n runs shape y l high) l k first ∙ d.first;
        second = part_same (second-lower bytes n runs shape x low m) (second-lower bytes n runs shape y l high) l k second ∙ d.second;
      })

  -- its class suits
  suits-other : {class y w : ℕ} {t : Term} → Within (rows_of bytes) runs y w → up_to bytes old new x y w ≡ some t → cell_value new (rows_of bytes) x u ≡ some t
      → class ≡ get_or classes (cell_of y w) absent → SuitsNext bytes runs u x classes old new class
  suits-other {y = y} {w = w} {t = t} i f e c =
      let s = right.stands y w t i f in
      suits_some t s.0 s.1 (next-new ∙ e) (c ∙ s.2) s.3
      (stands-kept (mixed-more (cell_value old (rows_of bytes)) (cell_value new (rows_of bytes)) (cell-kept shape grows) x s.0 s.1) s.4)
      (λ r v z g. right.same r v y w t z i g f ∙ sym c)

  -- the cell itself, where no cell has such parts
  suits-itself : {class : ℕ} → 8 ≤ get_or bytes (3 * x) 0 → (first_class bytes classes u x ≡ absent → ⊥) → (second_class bytes classes u x ≡ absent → ⊥)
      → ((y w : ℕ) → y < n → w ≤ runs → get_or bytes (3 * y) 0 ≡ get_or bytes (3 * x) 0 → Matches bytes classes (first_class bytes classes u x) (second_class bytes classes u x) y w → ⊥)
      → class ≡ cell_of x u → SuitsNext bytes runs u x classes old new class
  suits-itself {class} m h₁ h₂ none-matches c =
      let there = value-valued shape low (new u) m (part-there (left-lower bytes n runs shape x low m) h₁) (part-there (second-lower bytes n runs shape x low m) h₂) in
      let d = value_made shape low (new u) m there.1 in
      suits_some there.0 x u (next-new ∙ there.1) c (within low run) (by_cell ((no-atom-at shape low).0 m) (next-new ∙ there.1))
      (λ r v z f. let s = right.stands r v there.0 z f in absurd (alone d s.3 s.4))
    where
      alone : {t : Term} {y w : ℕ} → MadeAt bytes (value_of (new u) (rows_of bytes)) x t
          → Within (rows_of bytes) runs y w → Stands (rows_of bytes) (up_to bytes old new x) y w t → ⊥
      alone {t} d i (by_name q k e) = let z : kind_of t ≡ 0 = rw e in omega (arith, d.kind)
      alone {t} {y} {w} d i (by_cell q e) =
          let l = row_of i in
          let high = (no-atom-at shape l).1 q in
          let d' = mixed-made shape grows x y w l high e in
          none-matches y w l i.run (sym d'.kind ∙ d.kind) (record {
            there = classes-present (good-rows shape) shape.few_runs right i e;
            parts = both (eqb (first_class bytes classes u x) (first_class bytes classes w y)) (eqb (second_class bytes classes u x) (second_class bytes classes w y))
                (same_class (left-lower bytes n runs shape x low m) (left-lower bytes n runs shape y l high) l i.run d.first d'.first)
                (same_class (second-lower bytes n runs shape x low m) (second-lower bytes n runs shape y l high) l i.run d.second d'.second);
          })

  -- the class that a cell gets suits its new value
  suits : {class : ℕ} → NamesRight (rows_of bytes) runs new names → ClassOf bytes n runs names classes u x class → SuitsNext bytes runs u x classes old new class
  suits naming (of_atom l c) = let w = atom-at shape low l in suits-name c w.1 (naming x u w.0 run w.1)
  suits naming (no_first m e c) = suits-missing m c (λ t d. part_none (left-lower bytes n runs shape x low m) e d.first)
  suits naming (no_second m e c) = suits-missing m c (λ t d. part_none (second-lower bytes n runs shape x low m) e d.second)
  suits naming (of_other m (is_found y w l k e matches c) h) =
      let i = within l k in
      let there = classes-there (good-rows shape) shape.few_runs right i (λ q. omega (arith, matches.there)) in
      suits-other i there.1 (other-value m l k e matches there.1) c
  suits naming (of_other m (not_found f c) h) = absurd (h c)
  suits naming (of_itself m h₁ h₂ (is_found y w l k e matches c) q) = absurd (omega (arith, matches.there))
  suits naming (of_itself m h₁ h₂ (not_found f c) q) = suits-itself m h₁ h₂ f q

  -- so classes stay right with it
  next-put : {class : ℕ} → NamesRight (rows_of bytes) runs new names → get_or classes (cell_of x u) absent ≡ absent → ClassOf bytes n runs names classes u x class
      → Classes (rows_of bytes) runs (up_to bytes old new (x + 1)) (set classes (cell_of x u) class)
  next-put {class} naming e c =
      classes-put (good-rows shape) shape.few_runs class right (within low run) (classes-none (good-rows shape) shape.few_runs right (within low run) (omega arith))
      (λ r v d. mixed-next (cell_value old (rows_of bytes)) (cell_value new (rows_of bytes)) x r v (λ p. cell-elsewhere shape grows r v (d p)))
      (suits naming c)

  -- a cell that has a class keeps it
  next-kept : (get_or classes (cell_of x u) absent ≡ absent → ⊥) → Classes (rows_of bytes) runs (up_to bytes old new (x + 1)) classes
  next-kept h = classes-same (λ r v i. mixed-next (cell_value old (rows_of bytes)) (cell_value new (rows_of bytes)) x r v (λ p. go (ℕ_discrete v u) p)) right
    where
      there : There (up_to bytes old new x x u)
      there = classes-there (good-rows shape) shape.few_runs right (within low run) h

      was : cell_value old (rows_of bytes) x u ≡ some there.0
      was = sym (mixed-old (cell_value old (rows_of bytes)) (cell_value new (rows_of bytes)) x x u (omega arith)) ∙ there.1

      go : {r v : ℕ} → Dec (v ≡ u) → r ≡ x → cell_value old (rows_of bytes) r v ≡ cell_value new (rows_of bytes) r v
      go (yes q) p = rw (p, q) (was ∙ sym (cell-kept shape grows x u there.0 was))
      go {r} {v} (no d) p = cell-elsewhere shape grows r v d

module _ (bytes : List ℕ) (n runs u : ℕ) (names : List ℕ) (shape : Shape bytes n runs) where
  module _ (x : ℕ) (low : x < n) (run : u ≤ runs) (classes : List ℕ) where
    module _ {c : ℕ} (cell : c ≡ cell_of x u) (small : c < cell_count) (sized : length classes ≡ cell_count) where
      -- a row whose cell gets its class is filled
      pub row_put : {class : ℕ} → get_or classes c 0 ≡ absent → ClassOf bytes n runs names classes u x class
          → Filled (rows_of bytes) runs u names x (x + 1) classes (set classes c class)
      row_put e o = λ old new grows naming right. rw cell (next-put shape low run names classes grows right naming (sym (class-read classes sized cell small) ∙ e) o)

      -- one whose cell gets none is
      pub row_none : get_or classes c 0 ≡ absent → ClassOf bytes n runs names classes u x absent → Filled (rows_of bytes) runs u names x (x + 1) classes classes
      row_none e o = subst (λ after. Filled (rows_of bytes) runs u names x (x + 1) classes after) (ap (set classes c) (sym e) ∙ set-get_or classes c 0) (row_put e o)

      -- and so is one whose cell has a class
      pub row_kept : (get_or classes c 0 ≡ absent → ⊥) → Filled (rows_of bytes) runs u names x (x + 1) classes classes
      row_kept h = λ old new grows naming right. next-kept shape low run names classes grows right (λ e. h (class-read classes sized cell small ∙ e))

  -- one row more
  pub filled_next : {r : ℕ} {a b c : List ℕ} → (r ≡ 0 → ⊥) → Filled (rows_of bytes) runs u names 0 (r - 1) a b → Filled (rows_of bytes) runs u names (r - 1) (r - 1 + 1) b c
      → Filled (rows_of bytes) runs u names 0 r a c
  filled_next {r} d f g = λ old new grows naming right. let e : r - 1 + 1 ≡ r = omega arith in rw e at (g old new grows naming (f old new grows naming right))

  -- all rows
  pub filled-all : {before after : List ℕ} → Filled (rows_of bytes) runs u names 0 n before after → Refilled (rows_of bytes) runs u names before after
  filled-all f = λ old new grows naming right.
      classes-same (λ r w i. mixed-new (cell_value old (rows_of bytes)) (cell_value new (rows_of bytes)) n r w (omega (arith, shape.count, i.row)))
      (f old new grows naming (classes-same (λ r w i. sym (mixed-old (cell_value old (rows_of bytes)) (cell_value new (rows_of bytes)) 0 r w (omega arith))) right))
