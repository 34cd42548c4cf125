-- The test of a row keeps its promise, if the tests of its parts do. Assumes nothing.
use Rattle.std.specs.Prelude.{ℕ, ◌<◌, ◌≤◌, ◌≡◌, Bool, true, false, ◌&&◌, List, [], get_or, replicate}
use Rattle.std.proofs.Common.{arith, sym, ◌∙◌}
use Rattle.std.proofs.lemmas.Bool.{false≢true}
use Rattle.std.proofs.Math.Option.{some-injective}
use Rattle.std.proofs.lemmas.List.{length-replicate, get_or-replicate}
use Rattle.semantics.specs.Term.{Term, atom, pk, sk, shared, pair, encrypted}
use Rattle.semantics.specs.Inference.{Derives, first, second}
use Rattle.rows.specs.Rows.{rows_of, Shape, second_of}
use Rattle.cells.specs.Cells.{cell_of, absent, Readings, cell_value}
use Rattle.cells.specs.laws.Cells.{left-lower, second-lower, left-small, second-small}
use Rattle.classes.specs.Classes.{Classes, Grows}
use Rattle.classes.specs.laws.Kinds.{kind_of, first_part, second_part, value_made}
use Rattle.classes.specs.laws.Values.{cell-kept}
use Rattle.knowledge.specs.Marks.{Exact, Celled}
use Rattle.knowledge.specs.Steps.{class_at, kind_at, left_at, Inside}
use Rattle.knowledge.specs.laws.Values.{Has, has_value, inside}
use Rattle.read_possible.specs.Possible.{Possible}
use Rattle.read_fits.specs.Fits.{Extension, CanTake}
use Rattle.read_possible.specs.Tests.{TestedRows}
use Rattle.read_possible.specs.laws.Known.{Way, by_mark, by_parts, way}

-- what a kind tells: none is higher than that of an encryption, and the parts of a pair derive if it does
by_kind : {known : List Term} (t : Term) → (kind_of t ≤ 12) × (kind_of t ≡ 11 → Derives known t → Derives known (first_part t) × Derives known (second_part t))
by_kind (atom a) = (omega arith, λ e d. absurd (omega arith))
by_kind (pk t) = (omega arith, λ e d. absurd (omega arith))
by_kind (sk t) = (omega arith, λ e d. absurd (omega arith))
by_kind (shared t k) = (omega arith, λ e d. absurd (omega arith))
by_kind (pair t k) = (omega arith, λ e d. (first d, second d))
by_kind (encrypted t k) = (omega arith, λ e d. absurd (omega arith))

pub kind-most : (t : Term) → kind_of t ≤ 12
kind-most t = (by_kind {known = []} t).0

pub pair-parts : {known : List Term} (t : Term) → kind_of t ≡ 11 → Derives known t → Derives known (first_part t) × Derives known (second_part t)
pair-parts t = (by_kind t).1

-- the parts of a row that is no atom have cells
pub parts-small : (bytes : List ℕ) (n runs : ℕ) → Shape bytes n runs → (r : ℕ) → r < n → {k l s : ℕ} → k ≡ kind_at bytes r → 8 ≤ k → l ≡ left_at bytes r → s ≡ second_of bytes r
    → (l < 96) × (s < 96)
parts-small bytes n runs shape r low e h el es =
    (left-small bytes n runs shape r low (rw e at h) el, second-small bytes n runs shape r low (rw e at h) es)

-- two tests that both pass
both-pass : {a b : Bool} → a ≡ true → b ≡ true → (a && b) ≡ true
both-pass e f = rw (e, f)

-- the tests of two rows, as they were read
pub both_read : (bytes : List ℕ) (r : ℕ) (can : List Bool) {l k : ℕ} {b : Bool} → l ≡ left_at bytes r → k ≡ second_of bytes r → b ≡ (get_or can l false && get_or can k false) → b ≡ false
    → (get_or can (left_at bytes r) false && get_or can (second_of bytes r) false) ≡ false
both_read bytes r can el ek eb e = sym (rw (el, ek) at eb) ∙ e

-- tests that all pass keep it
pub tested-start : (bytes : List ℕ) (runs : ℕ) (classes : List ℕ) (marks : List Bool) (u : ℕ) → TestedRows bytes runs classes marks u (replicate 96 true)
tested-start bytes runs classes marks u =
    record { size = length-replicate {A = Bool} 96 true; each = λ y l old new known right exact celled grows t h d. get_or-replicate {A = Bool} 96 y true false l }

module _ (bytes : List ℕ) (n runs : ℕ) (shape : Shape bytes n runs) (classes : List ℕ) (marks : List Bool) (u r : ℕ) (run : u ≤ runs) (low : r < n) where
  -- a value stays, and so does its mark
  pub possible-set : {class c : ℕ} → class ≡ class_at classes r u → class < absent → c ≡ cell_of r u → Possible (rows_of bytes) runs classes marks u r (get_or marks c false)
  possible-set e l ec old new known right exact celled grows t h d =
      let v = has_value bytes n runs shape old classes right (low, run) (rw e at l) in
      let same = some-injective v.0 t (sym (cell-kept shape grows r u v.0 v.1) ∙ h) in
      rw ec ((exact r u (inside bytes n runs shape old classes right (low, run))).1 (t, rw (← same) v.1, d))

  module _ (can : List Bool) (tested : TestedRows bytes runs classes marks u can) (high : 8 ≤ kind_at bytes r) where
    -- the tests of both parts pass if both derive
    parts-pass : (old new : Readings) (known : List Term) → Classes (rows_of bytes) runs (cell_value old (rows_of bytes)) classes → Exact (rows_of bytes) runs old known marks → Celled (rows_of bytes) runs old known
        → Grows u old new → (t : Term) → Has bytes new r u t → Derives known (first_part t) → Derives known (second_part t)
        → (get_or can (left_at bytes r) false && get_or can (second_of bytes r) false) ≡ true
    parts-pass old new known right exact celled grows t h a b =
        let m = value_made shape low (new u) high h in
        let few = shape.few in
        both-pass (tested.each (left_at bytes r) (omega (arith, left-lower bytes n runs shape r low high)) old new known right exact celled grows (first_part t) m.first a)
        (tested.each (second_of bytes r) (omega (arith, second-lower bytes n runs shape r low high)) old new known right exact celled grows (second_part t) m.second b)

    -- a pair, by its parts
    pub possible-pair : {l k : ℕ} {b : Bool} → kind_at bytes r ≡ 11 → l ≡ left_at bytes r → k ≡ second_of bytes r → b ≡ (get_or can l false && get_or can k false)
        → Possible (rows_of bytes) runs classes marks u r b
    possible-pair {l} {k} {b} e el ek eb old new known right exact celled grows t h d =
        let m = value_made shape low (new u) high h in
        let p = pair-parts t (m.kind ∙ e) d in
        rw (el, ek) at eb ∙ parts-pass old new known right exact celled grows t h p.0 p.1

    -- any other row, by its parts if it is an encryption, and by the marked cells of its kind
    pub possible-other : {b : Bool} → (kind_at bytes r ≡ 11 → ⊥) → (kind_at bytes r ≡ 12 → (get_or can (left_at bytes r) false && get_or can (second_of bytes r) false) ≡ false)
        → ((y w : ℕ) → Inside n runs y w → kind_at bytes y ≡ kind_at bytes r → CanTake bytes n runs classes u marks r y w → b ≡ true)
        → Possible (rows_of bytes) runs classes marks u r b
    possible-other {b} other fails takes old new known right exact celled grows t h d = go (way s known exact celled r low high h d)
      where
        s : Extension bytes n runs classes u
        s = record { shape = shape; run = run; old = old; new = new; right = right; grows = grows }

        go : Way s known marks r t → b ≡ true
        go (by_mark y w i k m o g) = takes y w i k (m, o, (s, g))
        go (by_parts k x y) =
            let m = value_made shape low (new u) high h in
            let e : kind_at bytes r ≡ 12 = omega (arith, m.kind, kind-most t) in
            absurd (false≢true (sym (fails e) ∙ parts-pass old new known right exact celled grows t h x y))
