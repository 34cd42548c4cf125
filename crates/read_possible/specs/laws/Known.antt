-- Derivable terms: values of cells, and pairs and encryptions of derivable terms. Assumes nothing.
use Rattle.std.specs.Prelude.{ℕ, ◌<◌, ◌≤◌, ◌≡◌, Bool, List}
use Rattle.std.proofs.Common.{arith, sym, ◌∙◌}
use Rattle.semantics.specs.Term.{Term, pair, encrypted, inverse}
use Rattle.semantics.specs.Inference.{Derives, member, pairs, first, second, encrypts, decrypts}
use Rattle.semantics.proofs.laws.Inference.{Carried, derives-keeps}
use Rattle.rows.specs.Rows.{rows_of, second_of}
use Rattle.cells.specs.Cells.{cell_of, Readings}
use Rattle.cells.specs.laws.Cells.{left-lower, second-lower}
use Rattle.classes.specs.laws.Kinds.{kind_of, first_part, second_part, value_made}
use Rattle.knowledge.specs.Marks.{Marked, Exact, Celled}
use Rattle.knowledge.specs.Steps.{class_at, kind_at, left_at, Inside}
use Rattle.knowledge.specs.laws.Values.{Has, StandingCell, stands_atom, stands_row, stand, one_class, inside}
use Rattle.read_fits.specs.Fits.{Extension, Gets}

-- What is derivable: the value of a cell, or a pair or an encryption of what is derivable.
data Known (bytes : List ℕ) (n runs : ℕ) (old : Readings) (known : List Term) : Term → Type 0 where
  of_cell : {t : Term} (r w : ℕ) → Inside n runs r w → Has bytes old r w t → Derives known t → Known bytes n runs old known t
  of_pair : {t u : Term} → Known bytes n runs old known t → Known bytes n runs old known u → Known bytes n runs old known (pair t u)
  of_encryption : {t k : Term} → Known bytes n runs old known t → Known bytes n runs old known k → Known bytes n runs old known (encrypted t k)

-- which derives indeed
known-derives : {bytes : List ℕ} {n runs : ℕ} {old : Readings} {known : List Term} {t : Term} → Known bytes n runs old known t → Derives known t
known-derives (of_cell r w i h d) = d
known-derives (of_pair a b) = pairs (known-derives a) (known-derives b)
known-derives (of_encryption a b) = encrypts (known-derives a) (known-derives b)

module _ {bytes : List ℕ} {n runs : ℕ} {classes : List ℕ} {u : ℕ} (s : Extension bytes n runs classes u) where
  -- a cell of its own kind that stands for the value of a cell, if that is no atom
  standing : {t : Term} (r w : ℕ) → Inside n runs r w → Has bytes s.old r w t → 8 ≤ kind_of t
      → (y : ℕ) × (v : ℕ) × Inside n runs y v × (class_at classes r w ≡ cell_of y v) × (8 ≤ kind_at bytes y) × Has bytes s.old y v t
  standing r w i h k =
      let z = stand bytes n runs s.shape s.old classes s.right i h in
      let g = go z.4 k in
      (z.0, z.1, z.2, z.3, g.0, g.1)
    where
      go : {x v : ℕ} {t : Term} → StandingCell bytes n s.old x v t → 8 ≤ kind_of t → (8 ≤ kind_at bytes x) × Has bytes s.old x v t
      go (stands_atom l) k = absurd (omega arith)
      go (stands_row l h e) k = (l, h)

  -- cells with the values of the parts
  parted : {t : Term} (r w : ℕ) → Inside n runs r w → Has bytes s.old r w t → 8 ≤ kind_of t
      → (x : ℕ) × (y : ℕ) × (v : ℕ) × Inside n runs x v × Inside n runs y v × Has bytes s.old x v (first_part t) × Has bytes s.old y v (second_part t)
  parted r w i h k =
      let z = standing r w i h k in
      let d = value_made s.shape z.2.0 (s.old z.1) z.4 z.5 in
      let a = left-lower bytes n runs s.shape z.0 z.2.0 z.4 in
      let b = second-lower bytes n runs s.shape z.0 z.2.0 z.4 in
      (left_at bytes z.0, second_of bytes z.0, z.1, (omega (arith, z.2.0), z.2.1), (omega (arith, z.2.0), z.2.1), d.first, d.second)

  module _ (known : List Term) where
    -- the parts of a pair, and the content of an encryption that opens
    known-pair : (t k : Term) → Known bytes n runs s.old known (pair t k) → Known bytes n runs s.old known t × Known bytes n runs s.old known k
    known-pair t k (of_cell r w i h d) = let p = parted r w i h (omega arith) in (of_cell p.0 p.2 p.3 p.5 (first d), of_cell p.1 p.2 p.4 p.6 (second d))
    known-pair t k (of_pair a b) = (a, b)

    known-content : (t k : Term) → Known bytes n runs s.old known (encrypted t k) → Known bytes n runs s.old known (inverse k) → Known bytes n runs s.old known t
    known-content t k (of_cell r w i h d) e = let p = parted r w i h (omega arith) in of_cell p.0 p.2 p.3 p.5 (decrypts d (known-derives e))
    known-content t k (of_encryption a b) e = a

    known_carried : Carried (Known bytes n runs s.old known)
    known_carried = record {
      joins = λ t u. of_pair;
      left = λ t u p. (known-pair t u p).0;
      right = λ t u p. (known-pair t u p).1;
      seals = λ t k. of_encryption;
      content = known-content;
    }

    -- so whatever derives is known so, if the known terms are values of cells
    derives-known : Celled (rows_of bytes) runs s.old known → {t : Term} → Derives known t → Known bytes n runs s.old known t
    derives-known celled d = derives-keeps known_carried (λ t m. let c = celled t m in of_cell c.0 c.1 (omega (arith, c.2.row, s.shape.count), c.2.run) c.3 (member m)) d

    -- How the value of a row that is no atom derives: as the value of a marked cell, or from its parts.
    pub data Way (marks : List Bool) (r : ℕ) (t : Term) : Type 0 where
      by_mark : (y w : ℕ) → Inside n runs y w → kind_at bytes y ≡ kind_at bytes r → Marked marks y w → class_at classes y w ≡ cell_of y w → Gets s r (cell_of y w) → Way marks r t
      by_parts : 11 ≤ kind_of t → Derives known (first_part t) → Derives known (second_part t) → Way marks r t

    pub way : {marks : List Bool} → Exact (rows_of bytes) runs s.old known marks → Celled (rows_of bytes) runs s.old known → (r : ℕ) → r < n → 8 ≤ kind_at bytes r
        → {t : Term} → Has bytes s.new r u t → Derives known t → Way marks r t
    way {marks} exact celled r low high {t} h d = let m = value_made s.shape low (s.new u) high h in go m.kind h (derives-known celled d)
      where
        go : {t : Term} → kind_of t ≡ kind_at bytes r → Has bytes s.new r u t → Known bytes n runs s.old known t → Way marks r t
        go {t} k h (of_cell x w i e d) =
            let z = standing x w i e (omega arith) in
            let m = value_made s.shape z.2.0 (s.old z.1) z.4 z.5 in
            let mark = (exact z.0 z.1 (inside bytes n runs s.shape s.old classes s.right z.2)).1 (t, z.5, d) in
            let own = one_class bytes n runs s.shape s.old classes s.right z.2 i z.5 e ∙ z.3 in
            by_mark z.0 z.1 z.2 (sym m.kind ∙ k) mark own (t, h, (x, w, i, e, sym z.3))
        go k h (of_pair a b) = by_parts (omega arith) (known-derives a) (known-derives b)
        go k h (of_encryption a b) = by_parts (omega arith) (known-derives a) (known-derives b)
