-- What the values of cells and their classes say of each other, where the classes are right. Assumes nothing.
use Rattle.std.specs.Prelude.{ℕ, ◌<◌, ◌≤◌, ◌≡◌, refl, ◌⊎◌}
use Rattle.std.proofs.Common.{arith, sym, ◌∙◌, inl, inr, ⊎_elim}
use mathlib.Core.List.Memᴰ.{head as here}
use mathlib.Core.List.Memᴰ.{tail as later}
use mathlib.Core.List.{List, Memᴰ}
use Rattle.std.proofs.Math.Option.{Option, none, some, none-ne-some}
use Rattle.semantics.specs.Term.{Atom, Term, atom, pk, sk, shared, pair, encrypted}
use Rattle.semantics.specs.Table.{Row}
use Rattle.semantics.specs.Value.{value_of}
use Rattle.semantics.specs.Runs.{atom_of, atom_at}
use Rattle.semantics.specs.Guarantee.{refers_to}
use Rattle.semantics.specs.Encoding.{RowBytes, trusted_bytes, untrusted_bytes, global_bytes, intruder_bytes, role_bytes, agent_variable_bytes, fresh_variable_bytes, local_bytes, public_bytes, secret_bytes, shared_bytes, pair_bytes, encrypted_bytes}
use Rattle.semantics.proofs.laws.Test.{There, mapped-some}
use Rattle.semantics.proofs.laws.Value.{row_value, value-unfolds}
use Rattle.rows.specs.Rows.{rows_of, Shape}
use Rattle.rows.specs.laws.Table.{table-good}
use Rattle.cells.specs.Cells.{cell_of, absent, Within, Readings, cell_value}
use Rattle.cells.specs.laws.Cells.{row-there, row-decodes}
use Rattle.classes.specs.Classes.{Classes, Stands, by_name, by_cell}
pub use Rattle.knowledge.specs.Marks.{Has}
use Rattle.semantics.proofs.laws.Test.{mapped₂-some}
use Rattle.knowledge.specs.Steps.{class_at, kind_at, left_at, right_at, Inside}

-- a cell is the cell of one row in one run
pub cells-apart : (x w y v : ℕ) → x < 96 → y < 96 → cell_of x w ≡ cell_of y v → (x ≡ y) × (w ≡ v)
cells-apart x w y v l k e = (omega arith, omega arith)

-- What the value of a row says of its kind and its parts.
pub data ShownAs (bytes : List ℕ) (n : ℕ) (readings : Readings) (x w : ℕ) : Term → Type 0 where
  shows_atom : {t : Term} → kind_at bytes x < 8 → ShownAs bytes n readings x w t
  shows_pk : {a : Term} → kind_at bytes x ≡ 8 → left_at bytes x < n → Has bytes readings (left_at bytes x) w a → ShownAs bytes n readings x w (pk a)
  shows_sk : {a : Term} → kind_at bytes x ≡ 9 → left_at bytes x < n → Has bytes readings (left_at bytes x) w a → ShownAs bytes n readings x w (sk a)
  shows_shared : {a b : Term} → kind_at bytes x ≡ 10 → ShownAs bytes n readings x w (shared a b)
  shows_pair :
      {a b : Term} → kind_at bytes x ≡ 11 → left_at bytes x < n → right_at bytes x < n → Has bytes readings (left_at bytes x) w a → Has bytes readings (right_at bytes x) w b
      → ShownAs bytes n readings x w (pair a b)
  shows_encrypted :
      {a b : Term} → kind_at bytes x ≡ 12 → left_at bytes x < n → right_at bytes x < n → Has bytes readings (left_at bytes x) w a → Has bytes readings (right_at bytes x) w b
      → ShownAs bytes n readings x w (encrypted a b)

-- The values of the parts of a pair or an encryption.
pub data PartsKnown (bytes : List ℕ) (n : ℕ) (readings : Readings) (x w : ℕ) : Term → Type 0 where
  pair_parts :
      {a b : Term} → kind_at bytes x ≡ 11 → left_at bytes x < n → right_at bytes x < n → Has bytes readings (left_at bytes x) w a → Has bytes readings (right_at bytes x) w b
      → PartsKnown bytes n readings x w (pair a b)
  encrypted_parts :
      {a b : Term} → kind_at bytes x ≡ 12 → left_at bytes x < n → right_at bytes x < n → Has bytes readings (left_at bytes x) w a → Has bytes readings (right_at bytes x) w b
      → PartsKnown bytes n readings x w (encrypted a b)

module _ (bytes : List ℕ) (n runs : ℕ) (shape : Shape bytes n runs) (readings : Readings) where
  -- a row with a value shows it
  pub shown : (x w : ℕ) (t : Term) → x < n → Has bytes readings x w t → ShownAs bytes n readings x w t
  shown x w t l e =
      let row = row-there bytes n runs shape x l in
      let good = table-good bytes shape.table in
      go (row-decodes bytes n runs shape x l) refl refl refl
      (λ y m. good.lower x row.0 row.1 y m)
      (sym (value-unfolds good (readings w) x row.1) ∙ e)
    where
      go : {k a b : ℕ} {row : Row} → RowBytes k a b row → kind_at bytes x ≡ k → left_at bytes x ≡ a → right_at bytes x ≡ b
          → ((y : ℕ) → Memᴰ y (refers_to row) → y < x) → row_value (readings w) (value_of (readings w) (rows_of bytes)) row ≡ some t → ShownAs bytes n readings x w t
      go trusted_bytes ek el er low v = shows_atom (omega arith)
      go untrusted_bytes ek el er low v = shows_atom (omega arith)
      go global_bytes ek el er low v = shows_atom (omega arith)
      go intruder_bytes ek el er low v = shows_atom (omega arith)
      go (role_bytes i) ek el er low v = shows_atom (omega arith)
      go agent_variable_bytes ek el er low v = shows_atom (omega arith)
      go fresh_variable_bytes ek el er low v = shows_atom (omega arith)
      go local_bytes ek el er low v = shows_atom (omega arith)
      go {a = a} public_bytes ek el er low v =
          let p = (mapped-some pk (value_of (readings w) (rows_of bytes) a)).0 v in
          rw p.2 (shows_pk {a = p.0} ek (omega (arith, low a (here refl))) (rw el p.1))
      go {a = a} secret_bytes ek el er low v =
          let p = (mapped-some sk (value_of (readings w) (rows_of bytes) a)).0 v in
          rw p.2 (shows_sk {a = p.0} ek (omega (arith, low a (here refl))) (rw el p.1))
      go {a = a} {b} shared_bytes ek el er low v =
          let p = (mapped₂-some shared (value_of (readings w) (rows_of bytes) a) (value_of (readings w) (rows_of bytes) b)).0 v in
          rw p.4 (shows_shared ek)
      go {a = a} {b} pair_bytes ek el er low v =
          let p = (mapped₂-some pair (value_of (readings w) (rows_of bytes) a) (value_of (readings w) (rows_of bytes) b)).0 v in
          rw p.4 (shows_pair {a = p.0} {b = p.1} ek (omega (arith, low a (here refl))) (omega (arith, low b (later (here refl)))) (rw el p.2) (rw er p.3))
      go {a = a} {b} encrypted_bytes ek el er low v =
          let p = (mapped₂-some encrypted (value_of (readings w) (rows_of bytes) a) (value_of (readings w) (rows_of bytes) b)).0 v in
          rw p.4 (shows_encrypted {a = p.0} {b = p.1} ek (omega (arith, low a (here refl))) (omega (arith, low b (later (here refl)))) (rw el p.2) (rw er p.3))

  -- a row of kind 11 or 12 with a value has parts with values
  pub parts : (x w : ℕ) (t : Term) → x < n → 11 ≤ kind_at bytes x → Has bytes readings x w t → PartsKnown bytes n readings x w t
  parts x w t l k e = go (shown x w t l e)
    where
      go : {t : Term} → ShownAs bytes n readings x w t → PartsKnown bytes n readings x w t
      go (shows_atom f) = absurd (omega arith)
      go (shows_pk f a g) = absurd (omega arith)
      go (shows_sk f a g) = absurd (omega arith)
      go (shows_shared f) = absurd (omega arith)
      go (shows_pair f a b g h) = pair_parts f a b g h
      go (shows_encrypted f a b g h) = encrypted_parts f a b g h

  -- rows of kinds 1 to 7 are the atoms
  atom-kind : (x : ℕ) → x < n → ((kind_at bytes x < 8) × There (atom_at (rows_of bytes) x)) ⊎ ((8 ≤ kind_at bytes x) × (atom_at (rows_of bytes) x ≡ none))
  atom-kind x l = let row = row-there bytes n runs shape x l in rw row.1 (go (row-decodes bytes n runs shape x l))
    where
      go : {k a b : ℕ} {row : Row} → RowBytes k a b row → ((k < 8) × There (atom_of (some row))) ⊎ ((8 ≤ k) × (atom_of (some row) ≡ none))
      go (trusted_bytes {n = i}) = inl (omega arith, (_, refl))
      go untrusted_bytes = inl (omega arith, (_, refl))
      go global_bytes = inl (omega arith, (_, refl))
      go intruder_bytes = inl (omega arith, (_, refl))
      go (role_bytes i) = inl (omega arith, (_, refl))
      go agent_variable_bytes = inl (omega arith, (_, refl))
      go fresh_variable_bytes = inl (omega arith, (_, refl))
      go local_bytes = inl (omega arith, (_, refl))
      go public_bytes = inr (omega arith, refl)
      go secret_bytes = inr (omega arith, refl)
      go shared_bytes = inr (omega arith, refl)
      go pair_bytes = inr (omega arith, refl)
      go encrypted_bytes = inr (omega arith, refl)

-- A cell that stands for a value: an atom's row for an atom, or a row of another kind with that value.
pub data StandingCell (bytes : List ℕ) (n : ℕ) (readings : Readings) (x w : ℕ) : Term → Type 0 where
  stands_atom : {a : Atom} → kind_at bytes x < 8 → StandingCell bytes n readings x w (atom a)
  stands_row : {t : Term} → 8 ≤ kind_at bytes x → Has bytes readings x w t → ShownAs bytes n readings x w t → StandingCell bytes n readings x w t

module _ (bytes : List ℕ) (n runs : ℕ) (shape : Shape bytes n runs) (readings : Readings) (classes : List ℕ)
    (right : Classes (rows_of bytes) runs (cell_value readings (rows_of bytes)) classes) where
  -- a row below n in one of the runs is in the table
  pub inside : {r u : ℕ} → Inside n runs r u → Within (rows_of bytes) runs r u
  inside i = record { row = omega (arith, i.0, shape.count); run = i.1 }

  -- two terms for which one cell stands are equal
  stands_one : {x w : ℕ} {t s : Term} → Stands (rows_of bytes) (cell_value readings (rows_of bytes)) x w t → Stands (rows_of bytes) (cell_value readings (rows_of bytes)) x w s → t ≡ s
  stands_one {w = w} (by_name {a} e c q) (by_name {a = b} f d p) = let g : a ≡ b = cc in rw (q, p, g)
  stands_one (by_name e c q) (by_cell f v) = absurd (none-ne-some _ (sym f ∙ e))
  stands_one (by_cell f v) (by_name e c q) = absurd (none-ne-some _ (sym f ∙ e))
  stands_one (by_cell e p) (by_cell f q) = cc

  -- cells of one class have one value
  pub one_value : {r u x w : ℕ} {t s : Term} → Inside n runs r u → Inside n runs x w → Has bytes readings r u t → Has bytes readings x w s → class_at classes r u ≡ class_at classes x w → t ≡ s
  one_value {r} {u} {x} {w} {t} {s} i j e f q =
      let a = right.stands r u t (inside i) e in
      let b = right.stands x w s (inside j) f in
      let few = shape.few in
      let p = cells-apart a.0 a.1 b.0 b.1 (omega (arith, a.3.row, shape.count)) (omega (arith, b.3.row, shape.count)) (sym a.2 ∙ q ∙ b.2) in
      stands_one (rw (p.0, p.1) at a.4) b.4

  -- a cell with a class has a value
  pub has_value : {r u : ℕ} → Inside n runs r u → class_at classes r u < absent → (t : Term) × Has bytes readings r u t
  has_value {r} {u} i l = go (cell_value readings (rows_of bytes) r u) refl
    where
      go : (o : Option Term) → cell_value readings (rows_of bytes) r u ≡ o → (t : Term) × Has bytes readings r u t
      go none e = absurd (omega (arith, right.none r u (inside i) e))
      go (some t) e = (t, e)

  -- and a cell with a value has a class, that of a cell that stands for the value
  pub stand : {r u : ℕ} {t : Term} → Inside n runs r u → Has bytes readings r u t
      → (x : ℕ) × (w : ℕ) × Inside n runs x w × (class_at classes r u ≡ cell_of x w) × StandingCell bytes n readings x w t
  stand {r} {u} {t} i e =
      let a = right.stands r u t (inside i) e in
      let j : Inside n runs a.0 a.1 = (omega (arith, a.3.row, shape.count), a.3.run) in
      (a.0, a.1, j, a.2, go a.0 a.1 j.0 a.4)
    where
      go : (x w : ℕ) → x < n → Stands (rows_of bytes) (cell_value readings (rows_of bytes)) x w t → StandingCell bytes n readings x w t
      go x w l (by_name f c q) = rw q (stands_atom (⊎_elim (λ k. k.0) (λ k. absurd (none-ne-some _ (sym k.1 ∙ f))) (atom-kind bytes n runs shape readings x l)))
      go x w l (by_cell f v) =
          stands_row (⊎_elim (λ k. absurd (none-ne-some _ (sym f ∙ k.1.1))) (λ k. k.0) (atom-kind bytes n runs shape readings x l)) v (shown bytes n runs shape readings x w t l v)

  pub has-class : {r u : ℕ} {t : Term} → Inside n runs r u → Has bytes readings r u t → class_at classes r u < absent
  has-class i e = let a = stand i e in let few = shape.few in let few_runs = shape.few_runs in omega (arith, a.2.0, a.2.1, a.3)

  -- equal values have one class
  pub one_class : {r u x w : ℕ} {t : Term} → Inside n runs r u → Inside n runs x w → Has bytes readings r u t → Has bytes readings x w t → class_at classes r u ≡ class_at classes x w
  one_class {r} {u} {x} {w} {t} i j = right.same r u x w t (inside i) (inside j)
