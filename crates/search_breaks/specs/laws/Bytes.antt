-- Bytes written over others, and the bytes of values. Assumes nothing.
use Rattle.std.specs.Prelude.{ℕ, suc, ◌+◌, ◌*◌, ◌<◌, ◌≤◌, ◌≡◌, refl, List, [], ◌∷◌, ◌++◌, length, take, drop, set}
use Rattle.std.proofs.Common.{arith, sym, ap, ◌∙◌, append_assoc, length-append, length-drop, length-set, take-append-drop, take-suc-set, length-take-le, drop_at, take-take}
use Rattle.std.proofs.lemmas.List.{take-append-le}
use Rattle.semantics.specs.State.{Value}
use Rattle.semantics.specs.Verdict.{value_bytes}
use Rattle.search_breaks.specs.declared.Values.{Values}
use Rattle.search_breaks.specs.Walk.{over, ValuesAre}

-- nothing is written at first
pub over_none : (b : List ℕ) (at : ℕ) → over b at [] ≡ b
over_none b at = let z : at + 0 ≡ at = omega arith in ap (λ (m : ℕ). take at b ++ drop m b) z ∙ take-append-drop at b

-- what is written over others has as many bytes
pub over-length : (b : List ℕ) (at : ℕ) (xs : List ℕ) → at + length xs ≤ length b → length (over b at xs) ≡ length b
over-length b at xs l =
    length-append (take at b) (xs ++ drop (at + length xs) b) ∙ omega (arith, length-take-le at b (omega arith), length-append xs (drop (at + length xs) b), length-drop (at + length xs) b)

-- written in front of what is written
pub over-over : (b : List ℕ) (at : ℕ) (xs ys : List ℕ) {end : ℕ} → end ≡ at + length xs → end ≤ length b → over (over b end ys) at xs ≡ over b at (xs ++ ys)
over-over b at xs ys {end} e l =
    let front : length (take end b) ≡ end = length-take-le end b l in
    let rest : at + length xs ≡ end = sym e in
    let behind : end + length ys ≡ at + length (xs ++ ys) = omega (arith, length-append xs ys) in
    let low : take at (over b end ys) ≡ take at b = take-append-le at (take end b) (ys ++ drop (end + length ys) b) (omega arith) ∙ take-take at end b (omega arith) in
    let high : drop (at + length xs) (over b end ys) ≡ ys ++ drop (end + length ys) b = ap (λ (m : ℕ). drop m (over b end ys)) rest ∙ drop_at (take end b) (ys ++ drop (end + length ys) b) end front in
    (λ i. low i ++ (xs ++ high i)) ∙ ap (λ (m : List ℕ). take at b ++ m) (sym (append_assoc xs ys (drop (end + length ys) b))) ∙ ap (λ (m : ℕ). take at b ++ ((xs ++ ys) ++ drop m b)) behind

-- the bytes of one more value
value-bytes-more : (vs : List Value) (v : Value) → value_bytes (vs ++ (v ∷ [])) ≡ value_bytes vs ++ (v.row ∷ v.run ∷ [])
value-bytes-more [] v = refl
value-bytes-more (w ∷ vs) v = ap (λ (l : List ℕ). w.row ∷ w.run ∷ l) (value-bytes-more vs v)

pub values-more : (vs : List Value) (values : Values) (r w : ℕ) {end : ℕ} → end ≡ 2 * values.count → end + 1 < length values.bytes → ValuesAre vs values
    → ValuesAre (vs ++ (record { row = r; run = w } ∷ [])) (record { bytes = set (set values.bytes end r) (end + 1) w; count = values.count + 1 })
values-more vs values r w {end} e l are = record {
  many = (λ i. are.many i + 1) ∙ sym (length-append vs (record { row = r; run = w } ∷ []));
  written =
      let size : 2 * (values.count + 1) ≡ suc (end + 1) = omega arith in
      let one : suc end ≡ end + 1 = omega arith in
      ap (λ (m : ℕ). take m (set (set values.bytes end r) (end + 1) w)) size ∙ take-suc-set (set values.bytes end r) (end + 1) w (omega (arith, length-set values.bytes end r))
      ∙ ap (λ (l : List ℕ). l ++ (w ∷ [])) (ap (λ (m : ℕ). take m (set values.bytes end r)) (sym one) ∙ take-suc-set values.bytes end r (omega arith))
      ∙ append_assoc (take end values.bytes) (r ∷ []) (w ∷ []) ∙ ap (λ (l : List ℕ). l ++ (r ∷ w ∷ [])) (ap (λ (m : ℕ). take m values.bytes) e ∙ are.written)
      ∙ sym (value-bytes-more vs (record { row = r; run = w }));
}
