-- Marks to which nothing can be added have every derivable value: so they are exact. Assumes nothing.
use Rattle.std.specs.Prelude.{ℕ, ◌<◌, ◌≤◌, ◌≡◌, refl, Bool, false, T, eqb}
use Rattle.std.proofs.Common.{arith, sym, ◌∙◌, ⊎_elim}
use Rattle.std.proofs.lemmas.Bool.{false≢true}
use mathlib.Core.List.{List, Memᴰ}
use Rattle.std.proofs.Math.Dec.{eqb_refl}
use Rattle.semantics.specs.Term.{Term, pair, encrypted, inverse}
use Rattle.semantics.specs.Inference.{Derives}
use Rattle.semantics.proofs.laws.Test.{both}
use Rattle.semantics.proofs.laws.Inference.{Carried, derives-keeps}
use Rattle.rows.specs.Rows.{rows_of, Shape, second_of}
use Rattle.cells.specs.Cells.{cell_of, absent, Readings, cell_value, Found, is_found, not_found}
use Rattle.cells.specs.laws.Cells.{second-left}
use Rattle.classes.specs.Classes.{Classes}
use Rattle.knowledge.specs.Marks.{Derivable, Settled}
use Rattle.knowledge.specs.Steps.{class_at, On, kind_at, left_at, right_at, Inside, Gathered, Spread, Opening, by_other, by_itself, by_none, IdleAt, Reaches, stays, grows, Finished}
use Rattle.knowledge.specs.laws.Filled.{set_keeps}
use Rattle.knowledge.specs.laws.Values.{Has, shows_atom, shows_pk, shows_sk, shows_pair, shows_encrypted, StandingCell, stands_row, cells-apart, one_value, has-class, stand, one_class, inside}
use Rattle.knowledge.specs.laws.Sound.{KeyOf, pk_key, sk_key, inverse-keys, own-inverse, standing-key, Sound, stands-there, on_value, found-key, reaches-sound}

-- What can be built from terms that are there: pairs and encryptions of such terms.
data Built (P : Term → Type 0) : Term → Type 0 where
  there : {t : Term} → P t → Built P t
  pairs : {t u : Term} → Built P t → Built P u → Built P (pair t u)
  seals : {t k : Term} → Built P t → Built P k → Built P (encrypted t k)

-- a key that is built is there
built-key : {P : Term → Type 0} {kind : ℕ} {mk : Term → Term} (a : Term) → KeyOf kind mk → Built P (mk a) → P (mk a)
built-key a (pk_key e) (there p) = p
built-key a (sk_key e) (there p) = p

-- no atom is a key, and a key's row is of its kind
key_row : {bytes : List ℕ} {n : ℕ} {readings : Readings} {kind x w : ℕ} {mk : Term → Term} (a : Term) → KeyOf kind mk → StandingCell bytes n readings x w (mk a)
    → (kind_at bytes x ≡ kind) × (left_at bytes x < n) × Has bytes readings (left_at bytes x) w a × Has bytes readings x w (mk a)
key_row a (pk_key e) (stands_row l v (shows_atom f)) = absurd (omega arith)
key_row a (pk_key e) (stands_row l v (shows_pk f b h)) = (f ∙ sym e, b, h, v)
key_row a (sk_key e) (stands_row l v (shows_atom f)) = absurd (omega arith)
key_row a (sk_key e) (stands_row l v (shows_sk f b h)) = (f ∙ sym e, b, h, v)

-- a key has its agent twice
key-second : (bytes : List ℕ) (x : ℕ) {kind : ℕ} {mk : Term → Term} → KeyOf kind mk → kind_at bytes x ≡ kind → left_at bytes x ≡ second_of bytes x
key-second bytes x (pk_key e) f = second-left bytes x refl (omega arith) refl
key-second bytes x (sk_key e) f = second-left bytes x refl (omega arith) refl

-- a row that stands for a pair or an encryption has that value, and its parts are those of the term
pair_row : {bytes : List ℕ} {n : ℕ} {readings : Readings} {x w : ℕ} {a b : Term} → StandingCell bytes n readings x w (pair a b)
    → (kind_at bytes x ≡ 11) × (left_at bytes x < n) × (right_at bytes x < n) × Has bytes readings (left_at bytes x) w a × Has bytes readings (right_at bytes x) w b × Has bytes readings x w (pair a b)
pair_row (stands_row l v (shows_atom f)) = absurd (omega arith)
pair_row (stands_row l v (shows_pair f c d g h)) = (f, c, d, g, h, v)

encrypted-row : {bytes : List ℕ} {n : ℕ} {readings : Readings} {x w : ℕ} {a b : Term} → StandingCell bytes n readings x w (encrypted a b)
    → (kind_at bytes x ≡ 12) × (left_at bytes x < n) × (right_at bytes x < n) × Has bytes readings (left_at bytes x) w a × Has bytes readings (right_at bytes x) w b × Has bytes readings x w (encrypted a b)
encrypted-row (stands_row l v (shows_atom f)) = absurd (omega arith)
encrypted-row (stands_row l v (shows_encrypted f c d g h)) = (f, c, d, g, h, v)

-- a term is the value of a marked cell
abbrev OnTerm : List ℕ → ℕ → ℕ → Readings → List ℕ → List Bool → Term → Type 0
OnTerm bytes n runs readings classes marks t = (r : ℕ) × (u : ℕ) × Inside n runs r u × Has bytes readings r u t × On marks (class_at classes r u)

module _ (bytes : List ℕ) (n runs : ℕ) (shape : Shape bytes n runs) (readings : Readings) (classes : List ℕ)
    (right : Classes (rows_of bytes) runs (cell_value readings (rows_of bytes)) classes) (marks : List Bool)
    (idle : (x : ℕ) → x < n → (u : ℕ) → u ≤ runs → IdleAt bytes n runs classes marks x u) where
  -- every cell with the value is marked, if one is
  same-on : {t : Term} {r u : ℕ} → OnTerm bytes n runs readings classes marks t → Inside n runs r u → Has bytes readings r u t → On marks (class_at classes r u)
  same-on o i h = rw (one_class bytes n runs shape readings classes right i o.2 h o.3) o.4

  class-below : {r u : ℕ} {t : Term} → Inside n runs r u → Has bytes readings r u t → class_at classes r u < absent
  class-below i h = has-class bytes n runs shape readings classes right i h

  -- a cell whose value is built from values of marked cells is marked
  built-on : {t : Term} {r u : ℕ} → Built (OnTerm bytes n runs readings classes marks) t → Inside n runs r u → Has bytes readings r u t → On marks (class_at classes r u)
  built-on (there o) i h = same-on o i h
  built-on (pairs d e) i h =
      let s = stand bytes n runs shape readings classes right i h in
      let p = pair_row s.4 in
      let j = s.2 in
      let o = (idle s.0 j.0 s.1 j.1).has_whole (omega (arith, p.0)) (built-on d (p.1, j.1) p.3) (built-on e (p.2, j.1) p.4) (class-below j p.5) in
      same-on (s.0, s.1, j, p.5, o) i h
  built-on (seals d e) i h =
      let s = stand bytes n runs shape readings classes right i h in
      let p = encrypted-row s.4 in
      let j = s.2 in
      let o = (idle s.0 j.0 s.1 j.1).has_whole (omega (arith, p.0)) (built-on d (p.1, j.1) p.3) (built-on e (p.2, j.1) p.4) (class-below j p.5) in
      same-on (s.0, s.1, j, p.5, o) i h

  -- the parts of a marked pair are marked
  pair-on : {t u : Term} → OnTerm bytes n runs readings classes marks (pair t u) → OnTerm bytes n runs readings classes marks t × OnTerm bytes n runs readings classes marks u
  pair-on o =
      let s = stand bytes n runs shape readings classes right o.2 o.3 in
      let p = pair_row s.4 in
      let j = s.2 in
      let all = idle s.0 j.0 s.1 j.1 in
      let whole = same-on o j p.5 in
      let left = all.has_first p.0 whole (class-below (p.1, j.1) p.3) in
      let second = all.has_second p.0 whole left (class-below (p.2, j.1) p.4) in
      ((left_at bytes s.0, s.1, (p.1, j.1), p.3, left), (right_at bytes s.0, s.1, (p.2, j.1), p.4, second))

  -- a key that is looked for is found, if one like it is marked
  found-on : {kind r u found : ℕ} {mk : Term → Term} {a : Term} → KeyOf kind mk → Inside n runs r u → Has bytes readings r u a → OnTerm bytes n runs readings classes marks (mk a)
      → Found bytes n runs classes kind (class_at classes r u) (class_at classes r u) found → On marks found
  found-on k i h o (is_found y v l b e m q) =
      let f = found-key bytes n runs shape readings classes right k i h (is_found y v l b e m q) (rw q m.there) in
      rw f.4 (same-on o f.2 f.3)
  found-on {r = r} {u} {a = a} k i h o (not_found none q) =
      let s = stand bytes n runs shape readings classes right o.2 o.3 in
      let p = key_row a k s.4 in
      let j = s.2 in
      let same = one_class bytes n runs shape readings classes right i (p.1, j.1) h p.2 in
      let agent : T (eqb (class_at classes r u) (class_at classes (left_at bytes s.0) s.1)) = rw (← same) (eqb_refl (class_at classes r u)) in
      let again : T (eqb (class_at classes r u) (class_at classes (second_of bytes s.0) s.1)) = rw (← key-second bytes s.0 k p.0) agent in
      absurd (none s.0 s.1 j.0 j.1 p.0 (record {
        there = class-below j p.3;
        parts = both (eqb (class_at classes r u) (class_at classes (left_at bytes s.0) s.1)) (eqb (class_at classes r u) (class_at classes (second_of bytes s.0) s.1)) agent again;
      }))

  -- an encryption opens if the inverse of its key is built
  opens-built : {r u : ℕ} {t : Term} → Inside n runs r u → Has bytes readings r u t → Built (OnTerm bytes n runs readings classes marks) (inverse t)
      → Opening bytes n runs classes marks (class_at classes r u) false → ⊥
  opens-built i h b (by_other x w f e j p k found q) =
      let keys = inverse-keys p in
      let s = standing-key keys.2 k (stands-there bytes n runs shape readings classes right i h j e) in
      let o = built-key s.0 keys.3 (rw (s.1, keys.4 s.0) at b) in
      false≢true (q ∙ found-on keys.3 (s.2, j.1) s.3 o found)
  opens-built i h b (by_itself x w e j p s q) =
      false≢true (q ∙ built-on (rw (own-inverse (stands-there bytes n runs shape readings classes right i h j e) p s) at b) i h)
  opens-built i h b (by_none f q) = let s = stand bytes n runs shape readings classes right i h in f s.0 s.1 s.2 s.3

  -- the content of a marked encryption is marked, if the inverse of its key is built
  content-on : {t k : Term} → OnTerm bytes n runs readings classes marks (encrypted t k) → Built (OnTerm bytes n runs readings classes marks) (inverse k) → OnTerm bytes n runs readings classes marks t
  content-on o b =
      let s = stand bytes n runs shape readings classes right o.2 o.3 in
      let p = encrypted-row s.4 in
      let j = s.2 in
      let got = (idle s.0 j.0 s.1 j.1).has_content (omega (arith, p.0)) (same-on o j p.5) (class-below (p.1, j.1) p.3) in
      (left_at bytes s.0, s.1, (p.1, j.1), p.3, ⊎_elim (λ l. l) (λ c. absurd (opens-built (p.2, j.1) p.4 b c)) got)

  built-left : (t u : Term) → Built (OnTerm bytes n runs readings classes marks) (pair t u) → Built (OnTerm bytes n runs readings classes marks) t
  built-left t u (there o) = there (pair-on o).0
  built-left t u (pairs d e) = d

  built-right : (t u : Term) → Built (OnTerm bytes n runs readings classes marks) (pair t u) → Built (OnTerm bytes n runs readings classes marks) u
  built-right t u (there o) = there (pair-on o).1
  built-right t u (pairs d e) = e

  built-content : (t k : Term) → Built (OnTerm bytes n runs readings classes marks) (encrypted t k) → Built (OnTerm bytes n runs readings classes marks) (inverse k)
      → Built (OnTerm bytes n runs readings classes marks) t
  built-content t k (there o) b = there (content-on o b)
  built-content t k (seals d e) b = d

  -- so what can be built from the values of marked cells is carried by inference
  built-carried : Carried (Built (OnTerm bytes n runs readings classes marks))
  built-carried = record { joins = λ t u. pairs; left = built-left; right = built-right; seals = λ t k. seals; content = built-content }

  -- and a cell with a derivable value is marked, if the known terms are values of marked cells
  derived-on : (known : List Term) → ((t : Term) → Memᴰ t known → OnTerm bytes n runs readings classes marks t)
      → {r u : ℕ} {t : Term} → Inside n runs r u → Has bytes readings r u t → Derives known t → On marks (class_at classes r u)
  derived-on known cover i h d = built-on (derives-keeps built-carried (λ t m. there (cover t m)) d) i h

-- a mark that stood still stands
reaches-keeps : {bytes : List ℕ} {n runs : ℕ} {classes : List ℕ} {start marks : List Bool} → Reaches bytes n runs classes start marks → (k : ℕ) → On start k → On marks k
reaches-keeps stays k o = o
reaches-keeps (grows {marks = marks} {class = class} r i g b) k o = set_keeps marks class k (reaches-keeps r k o)

-- Marks gathered, worked on until nothing can be added, and spread, are exact.
pub settled : (bytes : List ℕ) (n runs : ℕ) → Shape bytes n runs → (classes : List ℕ) (start gathered done out : List Bool) → Gathered n runs classes start gathered
    → Finished bytes n runs classes gathered done → Spread n runs classes done out → Settled (rows_of bytes) runs classes start out
settled bytes n runs shape classes start gathered done out g f s readings known right covers r u within =
    (λ m. derivable (s.from (cell_of r u) m), λ d. s.onto r u i (derived-on bytes n runs shape readings classes right done f.idle known cover i d.1 d.2) (omega (arith, i.0, i.1, shape.few, shape.few_runs)))
  where
    i : Inside n runs r u
    i = (omega (arith, within.row, shape.count), within.run)

    start-sound : Sound bytes n runs readings classes known gathered
    start-sound = record {
      size = g.size;
      derives = λ {r = x} {u = w} {t} j h o.
          let c = g.from (class_at classes x w) o in
          let d = covers.sound c.0 c.1 (inside bytes n runs shape readings classes right c.2) c.3 in
          rw (one_value bytes n runs shape readings classes right j c.2 h d.1 c.4) d.2;
    }

    sound : Sound bytes n runs readings classes known done
    sound = reaches-sound bytes n runs shape readings classes right known start-sound f.reached

    cover : (t : Term) → Memᴰ t known → OnTerm bytes n runs readings classes done t
    cover t m =
        let c = covers.covers t m in
        let j : Inside n runs c.0 c.1 = (omega (arith, c.2.row, shape.count), c.2.run) in
        (c.0, c.1, j, c.3, reaches-keeps f.reached (class_at classes c.0 c.1) (g.onto c.0 c.1 j c.4 (has-class bytes n runs shape readings classes right j c.3)))

    derivable : (x : ℕ) × (w : ℕ) × Inside n runs x w × On done (class_at classes x w) × (cell_of r u ≡ cell_of x w) → Derivable (rows_of bytes) readings known r u
    derivable c =
        let few = shape.few in
        let p = cells-apart r u c.0 c.1 (omega (arith, i.0)) (omega (arith, c.2.0)) c.4 in
        let o : On done (class_at classes r u) = rw (p.0, p.1) c.3 in
        let v = on_value bytes n runs shape readings classes right done sound.size i o in
        (v.0, v.1, sound.derives i v.1 o)
