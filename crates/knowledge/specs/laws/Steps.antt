-- The laws of steps, as the functions take them: what is read, what is given, and what is reached. Assumes nothing.
use Rattle.std.specs.Option.{unwrap_or}
use Rattle.std.specs.Bool.{then_some}
use Rattle.std.specs.Prelude.{ℕ, Option, Some, None, MatchOption, ◌<◌, ◌≤◌, ◌≡◌, refl, Bool, true, false, List, length, get_or, set}
use Rattle.std.proofs.Common.{arith, sym, ◌∙◌, inr, length-set}
use Rattle.std.proofs.Math.Decide.{dec_lt}
use Rattle.std.proofs.Math.ListN.{get_or-eq_default}
use Rattle.rows.specs.Rows.{Shape}
use Rattle.cells.specs.Cells.{cell_of, cell_count, absent, Found}
use Rattle.cells.specs.laws.Cells.{left-lower, second-lower, second-right}
use Rattle.knowledge.specs.Steps.{class_at, On, kind_at, left_at, right_at, Inside, InverseKinds, pk_sk, sk_pk, Opening, by_other, by_itself, Gives, gives_whole, gives_first, gives_content, Idle, Gained, gains, idles, IdleAt, GainedAt, RowGained, row_gains, row_idles, AllIdle, SomeGained, Reaches, stays, grows, missing}
use Rattle.knowledge.specs.laws.Filled.{marked, missing-set, missing-falls}

-- a class that is absent has no mark
pub off : (marks : List Bool) → length marks ≡ cell_count → {class : ℕ} → absent ≤ class → false ≡ get_or marks class false
off marks sized l = sym (get_or-eq_default marks false (omega arith))

module _ (bytes : List ℕ) (n runs : ℕ) (shape : Shape bytes n runs) (x : ℕ) (low : x < n) {k : ℕ} (ek : k ≡ kind_at bytes x) where
  -- the agent of a key has cells, and so have the parts of a pair or an encryption
  pub left_below : 8 ≤ k → {l : ℕ} → l ≡ left_at bytes x → l < 96
  left_below h e = omega (arith, left-lower bytes n runs shape x low (omega arith), shape.few)

  pub parts_below : 11 ≤ k → {l s : ℕ} → l ≡ left_at bytes x → s ≡ right_at bytes x → (l < 96) × (s < 96)
  parts_below h el es =
      let q = second-right bytes x ek (omega arith) es in
      let r = second-lower bytes n runs shape x low (omega arith) in
      (left_below (omega arith) el, omega (arith, shape.few))

module _ {bytes : List ℕ} {n runs : ℕ} {classes : List ℕ} where
  -- what is reached from what is reached is reached
  pub reaches-on : {a b c : List Bool} → Reaches bytes n runs classes a b → Reaches bytes n runs classes b c → Reaches bytes n runs classes a c
  reaches-on p stays = p
  reaches-on p (grows q i g l) = grows (reaches-on p q) i g l

  -- no more marks are missing than before
  reaches-missing : {a b : List Bool} → Reaches bytes n runs classes a b → missing b ≤ missing a
  reaches-missing stays = omega arith
  reaches-missing (grows {marks = marks} {class = class} q i g l) = omega (arith, missing-set marks class, reaches-missing q)

  -- a pair or an encryption whose parts are marked is marked
  pub reaches_whole : {start marks next : List Bool} {x u k l s class first second : ℕ} {b d : Bool} → Reaches bytes n runs classes start marks → Inside n runs x u
      → k ≡ kind_at bytes x → 11 ≤ k → l ≡ left_at bytes x → s ≡ right_at bytes x → class ≡ class_at classes x u → class < absent
      → first ≡ class_at classes l u → b ≡ get_or marks first false → b ≡ true → second ≡ class_at classes s u → d ≡ get_or marks second false → d ≡ true
      → next ≡ set marks class true → Reaches bytes n runs classes start next
  reaches_whole {marks = marks} {u = u} p i ek k el es ec c ef eb tb eg ed td q =
      rw q (grows p i (gives_whole (omega arith) (marked marks eb tb (rw el at ef)) (marked marks ed td (rw es at eg)) ec) c)

-- both are kinds of keys
pub inverse-key : {kind other : ℕ} → InverseKinds kind other → (8 ≤ kind) × (8 ≤ other)
inverse-key pk_sk = (omega arith, omega arith)
inverse-key sk_pk = (omega arith, omega arith)

module _ {bytes : List ℕ} {n runs : ℕ} {classes : List ℕ} {marks : List Bool} {key x u : ℕ} (own : key ≡ cell_of x u) (inside : Inside n runs x u) {k : ℕ} (ek : k ≡ kind_at bytes x) where
  -- a public or secret key opens by the other key of its agent
  pub opening-other : length marks ≡ cell_count → {other l a : ℕ} {r : Bool} → InverseKinds k other → l ≡ left_at bytes x → a ≡ class_at classes l u
      → (o : Option ℕ) → MatchOption o (Found bytes n runs classes other a a absent) (λ f. (f < absent) × Found bytes n runs classes other a a f) → MatchOption o (r ≡ false) (λ f. r ≡ get_or marks f false)
      → Opening bytes n runs classes marks key r
  opening-other sized p el ea None f er = by_other x u absent own inside p (sym ek) (rw (rw el at ea) at f) (er ∙ off marks sized (omega arith))
  opening-other sized p el ea (Some found) f er = by_other x u found own inside p (sym ek) (rw (rw el at ea) at f.1) er

  -- every other key opens by itself
  pub opening-itself : {r : Bool} → (k ≡ 8 → ⊥) → (k ≡ 9 → ⊥) → r ≡ get_or marks key false → Opening bytes n runs classes marks key r
  opening-itself f g er = by_itself x u own inside (λ e. f (ek ∙ e)) (λ e. g (ek ∙ e)) er

module _ {bytes : List ℕ} {n runs : ℕ} {classes : List ℕ} {marks : List Bool} {kind whole left right : ℕ} where
  -- a class that is given and not marked is gained, unless it is absent
  gained : {class : ℕ} → Gives bytes n runs classes marks kind whole left right class → (On marks class → ⊥)
      → (absent ≤ class → Idle bytes n runs classes marks kind whole left right) → Gained bytes n runs classes marks kind whole left right class
  gained {class} g f i = go (dec_lt class absent)
    where
      go : Dec (class < absent) → Gained bytes n runs classes marks kind whole left right class
      go (yes l) = gains g l f
      go (no m) = let l : absent ≤ class = omega arith in idles l (i l)

  -- a marked pair gives its first part
  pub pair_left : kind ≡ 11 → On marks whole → (On marks left → ⊥) → Gained bytes n runs classes marks kind whole left right left
  pair_left k o f =
      gained (gives_first k o refl) f (λ m. record { has_whole = λ h a b c. o; has_first = λ e a c. absurd (omega arith); has_second = λ e a b c. absurd (f b); has_content = λ h. absurd (omega arith) })

  -- a marked encryption gives its content, if it opens
  pub content-left : 11 ≤ kind → (kind ≡ 11 → ⊥) → On marks whole → (On marks left → ⊥) → {b : Bool} → Opening bytes n runs classes marks right b → b ≡ true
      → Gained bytes n runs classes marks kind whole left right left
  content-left k f o l p e =
      gained (gives_content (omega arith) o (rw e at p) refl) l
      (λ m. record { has_whole = λ h a b c. o; has_first = λ q. absurd (f q); has_second = λ q. absurd (f q); has_content = λ h a c. absurd (omega arith) })

  pub content-shut : (kind ≡ 11 → ⊥) → On marks whole → {b : Bool} → Opening bytes n runs classes marks right b → b ≡ false → Gained bytes n runs classes marks kind whole left right 480
  content-shut f o p e =
      idles (omega arith) (record { has_whole = λ h a b c. o; has_first = λ q. absurd (f q); has_second = λ q. absurd (f q); has_content = λ h a c. inr (rw e at p) })

  pub content-either : 11 ≤ kind → (kind ≡ 11 → ⊥) → On marks whole → (On marks left → ⊥) → {b : Bool} → Opening bytes n runs classes marks right b
      → Gained bytes n runs classes marks kind whole left right (unwrap_or (then_some b left) 480)
  content-either k f o l {b = true} p = content-left k f o l p refl
  content-either k f o l {b = false} p = content-shut f o p refl

module _ {bytes : List ℕ} {n runs : ℕ} {classes : List ℕ} {marks : List Bool} (x u : ℕ) where
  -- what is gained by the kind and the classes that were read is gained by the row
  pub gained-at : {k whole l left s right class : ℕ} → k ≡ kind_at bytes x → whole ≡ class_at classes x u → l ≡ left_at bytes x → left ≡ class_at classes l u
      → s ≡ right_at bytes x → right ≡ class_at classes s u → Gained bytes n runs classes marks k whole left right class → GainedAt bytes n runs classes marks x u class
  gained-at ek ew el ef es eg g = rw (ek, ew, rw el at ef, rw es at eg) at g

  -- what is given is gained if it has a class
  pub class-kept : (o r : Option ℕ) → GainedAt bytes n runs classes marks x u (unwrap_or o 480) → MatchOption o (r ≡ None) (λ class. MatchOption r (absent ≤ class) (λ found. (found < absent) × (found ≡ class)))
      → MatchOption r (GainedAt bytes n runs classes marks x u absent) (λ class. (class < absent) × GainedAt bytes n runs classes marks x u class)
  class-kept None r g e = rw e g
  class-kept (Some class) None g l = none g l
    where
      none : GainedAt bytes n runs classes marks x u class → absent ≤ class → GainedAt bytes n runs classes marks x u absent
      none (gains g b f) l = absurd (omega arith)
      none (idles a i) l = idles (omega arith) i
  class-kept (Some class) (Some found) g (l, e) = (l, rw e g)

  -- a class that is gained in a run is gained by the row
  pub row-gains : {class : ℕ} → u ≤ runs → GainedAt bytes n runs classes marks x u class → class < absent → RowGained bytes n runs classes marks x class
  row-gains l (gains g b f) h = row_gains u l g b f
  row-gains l (idles a i) h = absurd (omega arith)

module _ {bytes : List ℕ} {n runs : ℕ} {classes : List ℕ} {marks : List Bool} where
  -- where nothing is gained in any run, the row gains nothing
  pub row-idles : {x : ℕ} → ((u : ℕ) → u ≤ runs → GainedAt bytes n runs classes marks x u absent) → RowGained bytes n runs classes marks x absent
  row-idles {x} none = row_idles (omega arith) (λ u l. idle u (none u l))
    where
      idle : (u : ℕ) → GainedAt bytes n runs classes marks x u absent → IdleAt bytes n runs classes marks x u
      idle u (gains g b f) = absurd (omega arith)
      idle u (idles a i) = i

  -- and where no row gains anything, all are idle
  pub rows-idle : ((x : ℕ) → x < n → RowGained bytes n runs classes marks x absent) → AllIdle bytes n runs classes marks
  rows-idle none x l = idle (none x l)
    where
      idle : {x : ℕ} → RowGained bytes n runs classes marks x absent → (u : ℕ) → u ≤ runs → IdleAt bytes n runs classes marks x u
      idle (row_gains u k g b f) = absurd (omega arith)
      idle (row_idles a i) = i

module _ {bytes : List ℕ} {n runs : ℕ} {classes : List ℕ} {marks : List Bool} {class : ℕ} where
  -- a class that a row gains is reached, and fewer are missing
  pub gained-reached : {start : List Bool} → SomeGained bytes n runs classes marks class → Reaches bytes n runs classes start marks → class < absent → Reaches bytes n runs classes start (set marks class true)
  gained-reached {start} (x, l, g) r b = go g
    where
      go : RowGained bytes n runs classes marks x class → Reaches bytes n runs classes start (set marks class true)
      go (row_gains u k h c f) = grows r (l, k) h c
      go (row_idles a i) = absurd (omega arith)

  pub gained-falls : {before : List Bool} → SomeGained bytes n runs classes marks class → Reaches bytes n runs classes before marks → length marks ≡ cell_count → class < absent
      → missing (set marks class true) < missing before
  gained-falls {before} (x, l, g) r sized b = go g
    where
      go : RowGained bytes n runs classes marks x class → missing (set marks class true) < missing before
      go (row_gains u k h c f) = omega (arith, missing-falls marks class (omega arith) f, reaches-missing r)
      go (row_idles a i) = absurd (omega arith)

-- marks that are reached are as many as those at the start
pub reached-length : {bytes : List ℕ} {n runs : ℕ} {classes : List ℕ} {start marks : List Bool} → Reaches bytes n runs classes start marks → length marks ≡ length start
reached-length stays = refl
reached-length (grows {marks} {class = class} before within gives low) = length-set marks class true ∙ reached-length before
