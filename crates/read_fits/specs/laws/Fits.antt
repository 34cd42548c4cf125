-- Needs of rows: one that is noted is met, and one that is refused cannot be. Assumes nothing.
use Rattle.std.specs.Prelude.{ℕ, ◌/◌, ◌%◌, ◌<◌, ◌≤◌, ◌≡◌, refl, Bool, true, false, List, eqb, get_or, set, replicate, None}
use Rattle.std.proofs.Math.Decide.{ℕ_discrete}
use Rattle.std.proofs.Common.{arith, sym, ◌∙◌, eq-eqb, length-set, get_or-set_same, get_or-set_other}
use Rattle.std.proofs.lemmas.Bool.{false≢true}
use Rattle.std.proofs.Math.Option.{Option, some, some-injective}
use Rattle.std.proofs.lemmas.List.{length-replicate, get_or-replicate}
use Rattle.semantics.specs.Term.{Term}
use Rattle.semantics.proofs.laws.Value.{value-within}
use Rattle.rows.specs.Rows.{rows_of, second_of}
use Rattle.cells.specs.Cells.{cell_of, absent}
use Rattle.cells.specs.laws.Cells.{left-lower, second-lower}
use Rattle.classes.specs.laws.Kinds.{first_part, second_part, value_made}
use Rattle.classes.specs.laws.Values.{cell-kept}
use Rattle.knowledge.specs.Steps.{class_at, kind_at, left_at, Inside}
use Rattle.knowledge.specs.laws.Values.{Has, StandingCell, stands_atom, stands_row, has_value, stand, one_class}
use Rattle.read_fits.specs.Fits.{Extension, ValueClass, Gets, Needed, Asked, PartsAsked, PassedDown, CanGet, CanTake, NeedsMet}

-- a row has one value
one-term : {o : Option Term} {t s : Term} → o ≡ some t → o ≡ some s → t ≡ s
one-term {t = t} {s} e f = some-injective t s (sym e ∙ f)

module _ {bytes : List ℕ} {n runs : ℕ} {classes : List ℕ} {u : ℕ} (s : Extension bytes n runs classes u) where
  -- a value has one class
  class-one : {t : Term} {c d : ℕ} → ValueClass s t c → ValueClass s t d → c ≡ d
  class-one a b = a.4 ∙ one_class bytes n runs s.shape s.old classes s.right a.2 b.2 a.3 b.3 ∙ sym b.4

  -- so a row gets the value of one class only
  pub gets-one : (q : ℕ) {c d : ℕ} → Gets s q c → Gets s q d → c ≡ d
  gets-one q a b = class-one (rw (one-term a.1 b.1) at a.2) b.2

  -- a row with a class keeps it
  gets-own : (q : ℕ) {c : ℕ} → class_at classes q u < absent → Gets s q c → class_at classes q u ≡ c
  gets-own q l g =
      let within = value-within (s.new u) (rows_of bytes) q (g.0, g.1) in
      let i : Inside n runs q u = (omega (arith, s.shape.count), s.run) in
      let v = has_value bytes n runs s.shape s.old classes s.right i l in
      gets-one q (v.0, cell-kept s.shape s.grows q u v.0 v.1, (q, u, i, v.1, refl)) g

  -- one need more, that is met
  needed-set : {need : List ℕ} {q class : ℕ} → q < 96 → Needed s need → Gets s q class → Needed s (set need q class)
  needed-set {need} {q} {class} l nd g = record { size = length-set need q class ∙ nd.size; each = λ p k. go p k (ℕ_discrete p q) }
    where
      go : (p : ℕ) → p < 96 → Dec (p ≡ q) → get_or (set need q class) p 0 < absent → Gets s p (get_or (set need q class) p 0)
      go p k (yes e) h = rw (e, get_or-set_same need q class 0 (omega (arith, nd.size))) g
      go p k (no d) h = let same = get_or-set_other need q p class 0 d in rw same (nd.each p k (rw same at h))

  -- the need of one row
  pub needed-start : {r class : ℕ} → r < 96 → Gets s r class → Needed s (set (replicate 96 absent) r class)
  needed-start {r} {class} l g = needed-set {need = replicate 96 absent} l (record { size = length-replicate {A = ℕ} 96 absent; each = none }) g
    where
      none : (q : ℕ) → q < 96 → get_or (replicate 96 absent) q 0 < absent → Gets s q (get_or (replicate 96 absent) q 0)
      none q k h = absurd (omega (arith, get_or-replicate {A = ℕ} 96 q absent 0 k))

module _ (classes : List ℕ) (u : ℕ) (need : List ℕ) (q class : ℕ) where
  -- a row that has a class already
  pub asked-own : {own : ℕ} → own ≡ class_at classes q u → own < absent → Asked classes u need need q class (eqb own class)
  asked-own {own} e l bytes n runs s nd g = (eq-eqb own class (e ∙ gets-own s q (rw e at l) g), nd)

module _ (bytes : List ℕ) (n runs : ℕ) (classes : List ℕ) (u q y w : ℕ) {l p first : ℕ} (el : l ≡ left_at bytes y) (ef : first ≡ class_at classes l w) (ep : p ≡ left_at bytes q) where
  -- the need of the first part
  first-asked : {before middle : List ℕ} {o : Bool} → Asked classes u before middle p first o → (s : Extension bytes n runs classes u) → Needed s before
      → Gets s (left_at bytes q) (class_at classes (left_at bytes y) w) → (o ≡ true) × Needed s middle
  first-asked asked s nd g = asked bytes n runs s nd (rw (ep, ef, el) g)

  -- both parts are asked
  pub shared-both : {before middle after : List ℕ} {o answer : Bool} {k z second : ℕ} → Asked classes u before middle p first o → k ≡ second_of bytes y → second ≡ class_at classes k w
      → z ≡ second_of bytes q → Asked classes u middle after z second answer → PartsAsked bytes n runs classes u before after q y w answer
  shared-both one ek es ez two s nd g h = two bytes n runs s (first-asked one s nd g).1 (rw (ez, es, ek) h)

  -- the first part is refused
  pub shared-refused : {before middle : List ℕ} {o : Bool} → Asked classes u before middle p first o → o ≡ false → (after : List ℕ) (answer : Bool)
      → PartsAsked bytes n runs classes u before after q y w answer
  shared-refused one e after answer s nd g h = absurd (false≢true (sym e ∙ (first-asked one s nd g).0))

module _ (bytes : List ℕ) (n runs : ℕ) (classes : List ℕ) (u q : ℕ) (need : List ℕ) where
  module _ (few : n ≤ 96) (low : q < n) (class : ℕ) (ec : class ≡ get_or need q 0) (there : class < absent) where
    gets-need : (s : Extension bytes n runs classes u) → Needed s need → Gets s q class
    gets-need s nd = rw ec (nd.each q (omega arith) (rw ec at there))

    -- the cell that stands for what is needed
    needed-cell : (s : Extension bytes n runs classes u) → Needed s need
        → (t : Term) × Has bytes s.new q u t × (x : ℕ) × (w : ℕ) × Inside n runs x w × (class ≡ cell_of x w) × StandingCell bytes n s.old x w t
    needed-cell s nd =
        let g = gets-need s nd in
        let c = g.2 in
        let z = stand bytes n runs s.shape s.old classes s.right c.2 c.3 in
        (g.0, g.1, z.0, z.1, z.2, c.4 ∙ z.3, z.4)

    needed-there : (s : Extension bytes n runs classes u) → Needed s need → (class % 96 < n) × (class / 96 ≤ runs)
    needed-there s nd = let z = needed-cell s nd in (omega (arith, z.4.0, z.5), omega (arith, z.4.0, z.4.1, z.5))

    -- a class that is no cell of the table is refused
    pub followed-row : (after : List ℕ) (answer : Bool) → n ≤ class % 96 → PassedDown bytes n runs classes u need after answer
    followed-row after answer h s nd = absurd (omega (arith, (needed-there s nd).0))

    pub followed-run : (after : List ℕ) (answer : Bool) → runs < class / 96 → PassedDown bytes n runs classes u need after answer
    followed-run after answer h s nd = absurd (omega (arith, (needed-there s nd).1))

    module _ (high : 8 ≤ kind_at bytes q) where
      -- what the parts of the row and those of the cell have in common
      needed-parts : (s : Extension bytes n runs classes u) → Needed s need
          → (kind_at bytes (class % 96) ≡ kind_at bytes q) × Gets s (left_at bytes q) (class_at classes (left_at bytes (class % 96)) (class / 96))
          × Gets s (second_of bytes q) (class_at classes (second_of bytes (class % 96)) (class / 96))
      needed-parts s nd =
          let z = needed-cell s nd in
          let x : z.2 ≡ class % 96 = omega (arith, z.4.0, z.5) in
          let w : z.3 ≡ class / 96 = omega (arith, z.4.0, z.5) in
          go (class % 96) (class / 96) (rw (x, w) at z.4) z.1 (rw (x, w) at z.6)
        where
          go : (y w : ℕ) → Inside n runs y w → {t : Term} → Has bytes s.new q u t → StandingCell bytes n s.old y w t
              → (kind_at bytes y ≡ kind_at bytes q) × Gets s (left_at bytes q) (class_at classes (left_at bytes y) w) × Gets s (second_of bytes q) (class_at classes (second_of bytes y) w)
          go y w i h (stands_atom l) = let d = value_made s.shape low (s.new u) high h in absurd (omega (arith, d.kind))
          go y w i {t} h (stands_row l v k) =
              let d = value_made s.shape low (s.new u) high h in
              let e = value_made s.shape i.0 (s.old w) l v in
              let a = left-lower bytes n runs s.shape y i.0 l in
              let b = second-lower bytes n runs s.shape y i.0 l in (
                sym e.kind ∙ d.kind,
                (first_part t, d.first, (left_at bytes y, w, (omega (arith, i.0), i.1), e.first, refl)),
                (second_part t, d.second, (second_of bytes y, w, (omega (arith, i.0), i.1), e.second, refl)),
              )

      -- a class of another kind is refused
      pub followed-kind : (after : List ℕ) (answer : Bool) → (kind_at bytes (class % 96) ≡ kind_at bytes q → ⊥) → PassedDown bytes n runs classes u need after answer
      followed-kind after answer d s nd = absurd (d (needed-parts s nd).0)

      -- the parts need the classes of the parts
      pub followed-parts : {after : List ℕ} {answer : Bool} → PartsAsked bytes n runs classes u need after q (class % 96) (class / 96) answer → PassedDown bytes n runs classes u need after answer
      followed-parts shared s nd = let p = needed-parts s nd in shared s nd p.1 p.2

module _ (bytes : List ℕ) (n runs : ℕ) (classes : List ℕ) (u r class : ℕ) where
  -- what rows need, if one of them gets the value of a class
  abbrev pub Needs : List ℕ → Type 0
  Needs need = (s : Extension bytes n runs classes u) → Gets s r class → Needed s need

  -- one row more
  pub needs-more : {need after : List ℕ} {o : Bool} → Needs need → PassedDown bytes n runs classes u need after o → Needs after
  needs-more needs followed s g = (followed s (needs s g)).1

  -- a row that is refused what it needs
  pub needs-refused : {need after : List ℕ} {o : Bool} → Needs need → PassedDown bytes n runs classes u need after o → o ≡ false → NeedsMet bytes n runs classes u r class None
  needs-refused needs followed e s g = false≢true (sym e ∙ (followed s (needs s g)).0)

module _ (bytes : List ℕ) (n runs : ℕ) (classes : List ℕ) (marks : List Bool) (u r y w : ℕ) {c : ℕ} (ec : c ≡ cell_of y w) where
  -- a marked cell that stands for its own value
  pub take-fits : {class : ℕ} {answer : Bool} → class ≡ c → (CanGet bytes n runs classes u r class → answer ≡ true) → CanTake bytes n runs classes u marks r y w → answer ≡ true
  take-fits e f k = f (rw (e ∙ ec) k.2)

-- a row can get the value of a marked cell in another row of its kind
abbrev pub TakesIn : List ℕ → ℕ → ℕ → List ℕ → ℕ → List Bool → ℕ → ℕ → Type 0
TakesIn bytes n runs classes u marks r y = (w : ℕ) × (w ≤ runs) × (kind_at bytes y ≡ kind_at bytes r) × CanTake bytes n runs classes u marks r y w
