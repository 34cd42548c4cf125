-- Marks that are sound stay so as they grow: every marked cell's value is derivable. Assumes nothing.
use Rattle.std.specs.Prelude.{ℕ, ◌<◌, ◌≡◌, refl, Bool, List, eqb, length, set}
use Rattle.std.proofs.Common.{arith, sym, ◌∙◌, eqb→eq}
use Rattle.std.proofs.Math.Logic.{⊎_elim}
use Rattle.std.proofs.Math.Bool.{true}
use Rattle.std.proofs.Math.ListN.{length-set}
use Rattle.semantics.specs.Term.{Term, pk, sk, inverse}
use Rattle.semantics.specs.Inference.{Derives, pairs, first, second, encrypts, decrypts}
use Rattle.semantics.proofs.laws.Test.{both_left}
use Rattle.rows.specs.Rows.{rows_of, Shape, second_of}
use Rattle.cells.specs.Cells.{cell_of, cell_count, absent, Readings, cell_value, Found, is_found, not_found}
use Rattle.classes.specs.Classes.{Classes}
use Rattle.knowledge.specs.Steps.{class_at, On, kind_at, left_at, right_at, Inside, InverseKinds, pk_sk, sk_pk, Opening, by_other, by_itself, by_none, gives_whole, gives_first, gives_second, gives_content, GivesAt, Reaches, stays, grows}
use Rattle.knowledge.specs.laws.Filled.{on_below, set_on}
use Rattle.knowledge.specs.laws.Values.{Has, ShownAs, shows_atom, shows_pk, shows_sk, shows_shared, shows_pair, shows_encrypted, shown, PartsKnown, pair_parts, encrypted_parts, parts, StandingCell, stands_atom, stands_row, cells-apart, one_value, has_value, stand}

-- the keys of a kind, and the value of their agent
pub data KeyOf (kind : ℕ) : (Term → Term) → Type 0 where
  pk_key : kind ≡ 8 → KeyOf kind pk
  sk_key : kind ≡ 9 → KeyOf kind sk

module _ (bytes : List ℕ) (n : ℕ) (readings : Readings) where
  -- a row of a key's kind has a key of its left row's value
  key-parts : {kind x w : ℕ} {mk : Term → Term} {t : Term} → KeyOf kind mk → kind_at bytes x ≡ kind → ShownAs bytes n readings x w t
      → (a : Term) × (t ≡ mk a) × (left_at bytes x < n) × Has bytes readings (left_at bytes x) w a
  key-parts (pk_key q) e (shows_atom l) = absurd (omega arith)
  key-parts (sk_key q) e (shows_atom l) = absurd (omega arith)
  key-parts (pk_key q) e (shows_pk {a} f l h) = (a, refl, l, h)
  key-parts (sk_key q) e (shows_pk {a} f l h) = absurd (omega arith)
  key-parts (pk_key q) e (shows_sk {a} f l h) = absurd (omega arith)
  key-parts (sk_key q) e (shows_sk {a} f l h) = (a, refl, l, h)
  key-parts (pk_key q) e (shows_shared f) = absurd (omega arith)
  key-parts (sk_key q) e (shows_shared f) = absurd (omega arith)
  key-parts (pk_key q) e (shows_pair f l k g h) = absurd (omega arith)
  key-parts (sk_key q) e (shows_pair f l k g h) = absurd (omega arith)
  key-parts (pk_key q) e (shows_encrypted f l k g h) = absurd (omega arith)
  key-parts (sk_key q) e (shows_encrypted f l k g h) = absurd (omega arith)

-- keys of inverse kinds
pub inverse-keys : {kind other : ℕ} → InverseKinds kind other
    → (mk : Term → Term) × (mk' : Term → Term) × KeyOf kind mk × KeyOf other mk' × ((a : Term) → inverse (mk a) ≡ mk' a)
inverse-keys pk_sk = (pk, sk, pk_key refl, sk_key refl, λ a. refl)
inverse-keys sk_pk = (sk, pk, sk_key refl, pk_key refl, λ a. refl)

-- a row of another kind stands for a term that is its own inverse
pub own-inverse : {bytes : List ℕ} {n : ℕ} {readings : Readings} {x w : ℕ} {t : Term} → StandingCell bytes n readings x w t → (kind_at bytes x ≡ 8 → ⊥) → (kind_at bytes x ≡ 9 → ⊥) → inverse t ≡ t
own-inverse (stands_atom l) p s = refl
own-inverse (stands_row l v (shows_atom k)) p s = absurd (omega arith)
own-inverse (stands_row l v (shows_pk e b h)) p s = absurd (p e)
own-inverse (stands_row l v (shows_sk e b h)) p s = absurd (s e)
own-inverse (stands_row l v (shows_shared e)) p s = refl
own-inverse (stands_row l v (shows_pair e b c g h)) p s = refl
own-inverse (stands_row l v (shows_encrypted e b c g h)) p s = refl

-- a row of a key's kind stands for a key of its left row's value
pub standing-key : {bytes : List ℕ} {n : ℕ} {readings : Readings} {kind x w : ℕ} {mk : Term → Term} {t : Term} → KeyOf kind mk → kind_at bytes x ≡ kind
    → StandingCell bytes n readings x w t → (a : Term) × (t ≡ mk a) × (left_at bytes x < n) × Has bytes readings (left_at bytes x) w a
standing-key (pk_key q) e (stands_atom l) = absurd (omega arith)
standing-key (sk_key q) e (stands_atom l) = absurd (omega arith)
standing-key {bytes} {n} {readings} k e (stands_row l v s) = key-parts bytes n readings k e s

-- as many marks as cells, and each marked cell's value is derivable
pub record Sound (bytes : List ℕ) (n runs : ℕ) (readings : Readings) (classes : List ℕ) (known : List Term) (marks : List Bool) : Type 0 where
  pub size : length marks ≡ cell_count
  pub derives : {r u : ℕ} {t : Term} → Inside n runs r u → Has bytes readings r u t → On marks (class_at classes r u) → Derives known t

module _ (bytes : List ℕ) (n runs : ℕ) (shape : Shape bytes n runs) (readings : Readings) (classes : List ℕ)
    (right : Classes (rows_of bytes) runs (cell_value readings (rows_of bytes)) classes) where
  -- the cell that gives a class is the one that stands for the values of that class
  pub stands-there : {r u x w : ℕ} {t : Term} → Inside n runs r u → Has bytes readings r u t → Inside n runs x w → class_at classes r u ≡ cell_of x w → StandingCell bytes n readings x w t
  stands-there {x = x} {w} i h j e =
      let s = stand bytes n runs shape readings classes right i h in
      let few = shape.few in
      let p = cells-apart s.0 s.1 x w (omega (arith, s.2.0)) (omega (arith, j.0)) (sym s.3 ∙ e) in
      rw (p.0, p.1) at s.4

  -- a marked cell has a value
  pub on_value : (marks : List Bool) → length marks ≡ cell_count → {r u : ℕ} → Inside n runs r u → On marks (class_at classes r u) → (t : Term) × Has bytes readings r u t
  on_value marks sized {r} {u} i o = has_value bytes n runs shape readings classes right i (omega (arith, on_below marks (class_at classes r u) o))

  -- a key that is found has the agent that was asked for
  pub found-key : {kind r u found : ℕ} {mk : Term → Term} {a : Term} → KeyOf kind mk → Inside n runs r u → Has bytes readings r u a
      → Found bytes n runs classes kind (class_at classes r u) (class_at classes r u) found → found < absent
      → (x : ℕ) × (w : ℕ) × Inside n runs x w × Has bytes readings x w (mk a) × (found ≡ class_at classes x w)
  found-key {r = r} {u} k i h (is_found y v l b e m q) below =
      let s = has_value bytes n runs shape readings classes right (l, b) m.there in
      let p = key-parts bytes n readings k e (shown bytes n runs shape readings y v s.0 l s.1) in
      let same = eqb→eq (class_at classes r u) (class_at classes (left_at bytes y) v) (both_left (eqb (class_at classes r u) (class_at classes (left_at bytes y) v)) (eqb (class_at classes r u) (class_at classes (second_of bytes y) v)) m.parts) in
      let one = one_value bytes n runs shape readings classes right i (p.2, b) h p.3 same in
      (y, v, (l, b), rw one (rw p.1 at s.1), q)
  found-key k i h (not_found f q) below = absurd (omega arith)

  module _ (known : List Term) {marks : List Bool} (sound : Sound bytes n runs readings classes known marks) where
    -- an encryption opens only by a derivable key
    opening-sound : {r u : ℕ} {t : Term} → Inside n runs r u → Has bytes readings r u t → Opening bytes n runs classes marks (class_at classes r u) true → Derives known (inverse t)
    opening-sound i h (by_other x w f e j p k found q) =
        let keys = inverse-keys p in
        let s = standing-key keys.2 k (stands-there i h j e) in
        let y = found-key keys.3 (s.2, j.1) s.3 found (omega (arith, on_below marks f (sym q), sound.size)) in
        rw (s.1, keys.4 s.0) (sound.derives y.2 y.3 (rw y.4 at (sym q)))
    opening-sound i h (by_itself x w e j p s q) = rw (own-inverse (stands-there i h j e) p s) (sound.derives i h (sym q))
    opening-sound i h (by_none f q) = let s = stand bytes n runs shape readings classes right i h in absurd (f s.0 s.1 s.2 s.3)

    -- the class of a cell whose value is derivable
    Derived : ℕ → Type 0
    Derived class = (r : ℕ) × (u : ℕ) × (t : Term) × Inside n runs r u × Has bytes readings r u t × Derives known t × (class ≡ class_at classes r u)

    -- what a row gives is such a class
    gives-sound : {x u class : ℕ} → Inside n runs x u → GivesAt bytes n runs classes marks x u class → class < absent → Derived class
    unfolding Derived
    gives-sound {x} {u} i (gives_whole k l s e) b =
        let v = has_value bytes n runs shape readings classes right i (rw e at b) in
        (x, u, v.0, i, v.1, go (parts bytes n runs shape readings x u v.0 i.0 k v.1), e)
      where
        go : {t : Term} → PartsKnown bytes n readings x u t → Derives known t
        go (pair_parts f c d g h) = pairs (sound.derives (c, i.1) g l) (sound.derives (d, i.1) h s)
        go (encrypted_parts f c d g h) = encrypts (sound.derives (c, i.1) g l) (sound.derives (d, i.1) h s)
    gives-sound {x} {u} {class} i (gives_first k o e) b =
        let v = on_value marks sound.size i o in
        go (parts bytes n runs shape readings x u v.0 i.0 (omega arith) v.1) (sound.derives i v.1 o)
      where
        go : {t : Term} → PartsKnown bytes n readings x u t → Derives known t → Derived class
        go (pair_parts {a = a} f c c' g h) d = (left_at bytes x, u, a, (c, i.1), g, first d, e)
        go (encrypted_parts f c c' g h) d = absurd (omega arith)
    gives-sound {x} {u} {class} i (gives_second k o e) b =
        let v = on_value marks sound.size i o in
        go (parts bytes n runs shape readings x u v.0 i.0 (omega arith) v.1) (sound.derives i v.1 o)
      where
        go : {t : Term} → PartsKnown bytes n readings x u t → Derives known t → Derived class
        go (pair_parts {b = b} f c c' g h) d = (right_at bytes x, u, b, (c', i.1), h, second d, e)
        go (encrypted_parts f c c' g h) d = absurd (omega arith)
    gives-sound {x} {u} {class} i (gives_content k o q e) b =
        let v = on_value marks sound.size i o in
        go (parts bytes n runs shape readings x u v.0 i.0 (omega arith) v.1) (sound.derives i v.1 o)
      where
        go : {t : Term} → PartsKnown bytes n readings x u t → Derives known t → Derived class
        go (pair_parts f c c' g h) d = absurd (omega arith)
        go (encrypted_parts {a = a} f c c' g h) d = (left_at bytes x, u, a, (c, i.1), g, decrypts d (opening-sound (c', i.1) h q), e)

    -- so one more mark is sound
    grows-sound : {x u class : ℕ} → Inside n runs x u → GivesAt bytes n runs classes marks x u class → class < absent → Sound bytes n runs readings classes known (set marks class true)
    unfolding Derived
    grows-sound {class = class} i g b =
        let c = gives-sound i g b in record {
          size = length-set marks class true ∙ sound.size;
          derives = λ {r} {u} j h o. ⊎_elim
              (λ e. rw (one_value bytes n runs shape readings classes right j c.3 h c.4 (e ∙ c.6)) c.5)
              (λ p. sound.derives j h p)
              (set_on marks class (class_at classes r u) o);
        }

  -- marks that are reached from sound ones are sound
  pub reaches-sound : (known : List Term) {start marks : List Bool} → Sound bytes n runs readings classes known start → Reaches bytes n runs classes start marks → Sound bytes n runs readings classes known marks
  reaches-sound known s stays = s
  reaches-sound known s (grows r i g b) = grows-sound known (reaches-sound known s r) i g b
