-- Old values beside new ones: every value stays, and what is mixed of both is made of what is mixed. Assumes nothing.
use Rattle.std.specs.Prelude.{ℕ, ◌+◌, ◌*◌, ◌<◌, ◌≤◌, ◌≡◌, refl, get_or}
use Rattle.std.proofs.Common.{arith, sym, ap, ◌∙◌, lt-ltb, le-ltb}
use Rattle.std.proofs.Math.Decide.{ℕ_discrete, dec_lt}
use Rattle.std.proofs.Math.Path.{fun_ext}
use mathlib.Core.List.Memᴰ.{head as here}
use mathlib.Core.List.Memᴰ.{tail as later}
use mathlib.Core.List.{List, Memᴰ}
use Rattle.std.proofs.Math.Option.{Option, some}
use Rattle.semantics.specs.Term.{Atom, Term, pk, sk, shared, pair, encrypted}
use Rattle.semantics.specs.Table.{Row, atomic, pk_of, sk_of, shared_of, pair_of, encrypted_of}
use Rattle.semantics.specs.Value.{Reading, value_of}
use Rattle.semantics.specs.Guarantee.{refers_to, GoodTable}
use Rattle.semantics.proofs.laws.Test.{mapped-some}
use Rattle.semantics.proofs.laws.Value.{row_value, value-unfolds, value-within, row-induction}
use Rattle.rows.specs.Rows.{rows_of, Shape, second_of}
use Rattle.cells.specs.Cells.{Readings, cell_value}
use Rattle.cells.specs.laws.Cells.{left-lower, second-lower}
use Rattle.classes.specs.Classes.{Grows}
use Rattle.classes.specs.Filled.{mixed}
use Rattle.semantics.proofs.laws.Test.{mapped₂-some}
use Rattle.classes.specs.laws.Kinds.{MadeAt, good-rows, value_made}

module _ {reading reading' : Reading} (stays : (a : Atom) (t : Term) → reading a ≡ some t → reading' a ≡ some t) where
  -- a row keeps its value where its atom and the rows that it refers to do
  row_kept : (value value' : ℕ → Option Term) (row : Row) {t : Term} → ((r : ℕ) → Memᴰ r (refers_to row) → (s : Term) → value r ≡ some s → value' r ≡ some s)
      → row_value reading value row ≡ some t → row_value reading' value' row ≡ some t
  row_kept value value' (atomic a) {t} h e = stays a t e
  row_kept value value' (pk_of a) h e = let w = (mapped-some pk (value a)).0 e in rw (h a (here refl) w.0 w.1) (ap some (sym w.2))
  row_kept value value' (sk_of a) h e = let w = (mapped-some sk (value a)).0 e in rw (h a (here refl) w.0 w.1) (ap some (sym w.2))
  row_kept value value' (shared_of a b) h e =
      let w = (mapped₂-some shared (value a) (value b)).0 e in rw (h a (here refl) w.0 w.2, h b (later (here refl)) w.1 w.3) (ap some (sym w.4))
  row_kept value value' (pair_of l r) h e =
      let w = (mapped₂-some pair (value l) (value r)).0 e in rw (h l (here refl) w.0 w.2, h r (later (here refl)) w.1 w.3) (ap some (sym w.4))
  row_kept value value' (encrypted_of l r) h e =
      let w = (mapped₂-some encrypted (value l) (value r)).0 e in rw (h l (here refl) w.0 w.2, h r (later (here refl)) w.1 w.3) (ap some (sym w.4))

  -- so every row keeps its value
  value-kept : {rows : List Row} → GoodTable rows → (i : ℕ) (t : Term) → value_of reading rows i ≡ some t → value_of reading' rows i ≡ some t
  value-kept {rows} good i t e =
      row-induction good (λ j. (s : Term) → value_of reading rows j ≡ some s → value_of reading' rows j ≡ some s)
      (λ j row f below s g.
      value-unfolds good reading' j f ∙ row_kept (value_of reading rows) (value_of reading' rows) row below (sym (value-unfolds good reading j f) ∙ g))
      i (value-within reading rows i (t, e)) t e

-- what an atom stands for stays
reading-kept : {u : ℕ} {old new : Readings} → Grows u old new → (w : ℕ) (a : Atom) (t : Term) → old w a ≡ some t → new w a ≡ some t
reading-kept {u} {old} {new} grows w a t e = go (ℕ_discrete w u)
  where
    go : Dec (w ≡ u) → new w a ≡ some t
    go (yes p) = rw p (grows.more a t (rw p at e))
    go (no n) = grows.elsewhere w n a ∙ e

module _ (old new : ℕ → ℕ → Option Term) where
  -- the new values below a row, the old ones from it on
  pub mixed-new : (r x w : ℕ) → x < r → mixed r old new x w ≡ new x w
  mixed-new r x w l = rw (lt-ltb x r l)

  pub mixed-old : (r x w : ℕ) → r ≤ x → mixed r old new x w ≡ old x w
  mixed-old r x w l = rw (le-ltb x r l)

  -- with one row more the values of all others are the same
  pub mixed-next : (x r w : ℕ) → (r ≡ x → old r w ≡ new r w) → mixed x old new r w ≡ mixed (x + 1) old new r w
  mixed-next x r w same = go (dec_lt r x) (ℕ_discrete r x)
    where
      go : Dec (r < x) → Dec (r ≡ x) → mixed x old new r w ≡ mixed (x + 1) old new r w
      go (yes l) d = mixed-new x r w l ∙ sym (mixed-new (x + 1) r w (omega arith))
      go (no n) (yes e) = mixed-old x r w (omega arith) ∙ same e ∙ sym (mixed-new (x + 1) r w (omega arith))
      go (no n) (no d) = mixed-old x r w (omega arith) ∙ sym (mixed-old (x + 1) r w (omega arith))

  module _ (stays : (r w : ℕ) (t : Term) → old r w ≡ some t → new r w ≡ some t) where
    -- an old value stays
    mixed-kept : (x r w : ℕ) {t : Term} → old r w ≡ some t → mixed x old new r w ≡ some t
    mixed-kept x r w {t} e = go (dec_lt r x)
      where
        go : Dec (r < x) → mixed x old new r w ≡ some t
        go (yes l) = mixed-new x r w l ∙ stays r w t e
        go (no n) = mixed-old x r w (omega arith) ∙ e

    -- and so does a mixed one
    pub mixed-more : (x r w : ℕ) {t : Term} → mixed x old new r w ≡ some t → mixed (x + 1) old new r w ≡ some t
    mixed-more x r w {t} e = go (dec_lt r x)
      where
        go : Dec (r < x) → mixed (x + 1) old new r w ≡ some t
        go (yes l) = mixed-new (x + 1) r w (omega arith) ∙ sym (mixed-new x r w l) ∙ e
        go (no n) = mixed-kept (x + 1) r w (sym (mixed-old x r w (omega arith)) ∙ e)

module _ {bytes : List ℕ} {n runs u : ℕ} (shape : Shape bytes n runs) {old new : Readings} (grows : Grows u old new) where
  -- the value of a cell stays
  pub cell-kept : (r w : ℕ) (t : Term) → cell_value old (rows_of bytes) r w ≡ some t → cell_value new (rows_of bytes) r w ≡ some t
  cell-kept r w t e = value-kept (reading-kept grows w) (good-rows shape) r t e

  -- in other runs values are the same
  pub cell-elsewhere : (r w : ℕ) → (w ≡ u → ⊥) → cell_value old (rows_of bytes) r w ≡ cell_value new (rows_of bytes) r w
  cell-elsewhere r w d = ap (λ (reading : Reading). value_of reading (rows_of bytes) r) (sym (fun_ext (grows.elsewhere w d)))

  -- a mixed value is made of mixed values
  pub mixed-made : (x r w : ℕ) {t : Term} → r < n → 8 ≤ get_or bytes (3 * r) 0 → mixed x (cell_value old (rows_of bytes)) (cell_value new (rows_of bytes)) r w ≡ some t
      → MadeAt bytes (λ s. mixed x (cell_value old (rows_of bytes)) (cell_value new (rows_of bytes)) s w) r t
  mixed-made x r w {t} l m e = go (dec_lt r x)
    where
      O : ℕ → ℕ → Option Term
      O = cell_value old (rows_of bytes)

      N : ℕ → ℕ → Option Term
      N = cell_value new (rows_of bytes)

      go : Dec (r < x) → MadeAt bytes (λ s. mixed x O N s w) r t
      go (yes k) =
          let d = value_made shape l (new w) m (sym (mixed-new O N x r w k) ∙ e) in
          let a = left-lower bytes n runs shape r l m in
          let b = second-lower bytes n runs shape r l m in
          record { kind = d.kind; first = mixed-new O N x (get_or bytes (3 * r + 1) 0) w (omega arith) ∙ d.first; second = mixed-new O N x (second_of bytes r) w (omega arith) ∙ d.second }
      go (no k) =
          let d = value_made shape l (old w) m (sym (mixed-old O N x r w (omega arith)) ∙ e) in
          record { kind = d.kind; first = mixed-kept O N cell-kept x (get_or bytes (3 * r + 1) 0) w d.first; second = mixed-kept O N cell-kept x (second_of bytes r) w d.second }
