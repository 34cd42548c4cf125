-- The laws of sure rows: readable wherever marks hold, by a row's kind; marks that gain a row; and what an answer says. Assumes nothing.
use Rattle.std.specs.Prelude.{Option, Some, ℕ, zero, suc, ◌+◌, ◌<◌, ◌≡◌, refl, Bool, true, false, cond, length, get_or, set, replicate}
use Rattle.std.proofs.Common.{eq-or-lt_of_le, zero-add, arith, sym, ◌∙◌, ⊎_elim, true≢false, get_or-set_same, get_or-set_other}
use Rattle.std.proofs.lemmas.Bool.{false≢true}
use mathlib.Core.List.Memᴰ
use mathlib.Core.List.Memᴰ.{head as here}
use mathlib.Core.List.Memᴰ.{tail as later}
use mathlib.Core.List.{List, [], ◌∷◌, map, Memᴰ}
use Rattle.std.proofs.Math.Decide.{ℕ_discrete}
use Rattle.std.proofs.Math.Option.{some-injective}
use Rattle.semantics.specs.Term.{Term}
use Rattle.semantics.specs.Inference.{Derives, member}
use Rattle.semantics.specs.Table.{Row}
use Rattle.semantics.specs.Value.{value_of, as_atoms}
use Rattle.semantics.specs.WellFormed.{readable}
use Rattle.semantics.specs.Allowed.{Readable, reads_variable, reads_pair, reads_content}
use Rattle.semantics.proofs.laws.Test.{same_test}
use Rattle.semantics.proofs.laws.List.{mem-map, mem-present}
use Rattle.semantics.proofs.laws.Inference.{derives-cut, derives-monotone}
use Rattle.semantics.proofs.laws.WellFormed.{readable-exact}
use Rattle.rows.specs.Rows.{rows_of, Shape}
use Rattle.knowledge.specs.Marks.{Settled, Learnt, was_marked, is_worked}
use Rattle.knowledge.specs.Steps.{On, kind_at, left_at, right_at, InverseKinds}
use Rattle.knowledge.specs.laws.Filled.{none-on, set_on, set_keeps}
use Rattle.role_level.specs.RoleLevel.{role_readings, listed_terms, RoleClasses, RoleExact}
use Rattle.role_level.specs.laws.RoleLevel.{listed-cover}
use Rattle.open_marks.specs.Marks.{RowMarked, is_marked, none_marked, ReadableRow}
use Rattle.open_marks.specs.Sure.{MarksHold, Sure, SureRows, Gains, Opens, InBoth, Shared, Added, Answers}
use Rattle.open_marks.specs.laws.Rows.{HasTerm, RowTerm, a_variable, own-inverse, term-below, row-term}
use Rattle.open_marks.specs.laws.Marks.{has-term, marked-derives, other-inverse}
use Rattle.open_marks.specs.laws.Readable.{derives-readable, pair-term, encrypted-term}

-- the marked rows below a number
rows_on : ℕ → List Bool → List ℕ
rows_on zero marks = []
rows_on (suc n) marks = cond (get_or marks n false) (n ∷ rows_on n marks) (rows_on n marks)

-- a row below the number is one of them if it is marked
on-listed : (n : ℕ) (marks : List Bool) (r : ℕ) → r < n → On marks r → Memᴰ r (rows_on n marks)
unfolding rows_on
on-listed zero marks r l o = absurd (omega arith)
on-listed (suc n) marks r l o = go (get_or marks n false) refl (on-listed n marks r)
  where
    go : (b : Bool) → get_or marks n false ≡ b → (r < n → On marks r → Memᴰ r (rows_on n marks)) → Memᴰ r (cond b (n ∷ rows_on n marks) (rows_on n marks))
    go true e f = ⊎_elim (λ (q : r ≡ n). here q) (λ (m : r < n). later (f m o)) (eq-or-lt_of_le (omega arith))
    go false e f = ⊎_elim (λ (q : r ≡ n). absurd (false≢true (sym e ∙ rw q at o))) (λ (m : r < n). f m o) (eq-or-lt_of_le (omega arith))

-- and only if
listed-on : (n : ℕ) (marks : List Bool) (r : ℕ) → Memᴰ r (rows_on n marks) → (r < n) × On marks r
unfolding rows_on
listed-on zero marks r m = absurd (Memᴰ.not-nil m)
listed-on (suc n) marks r m = go (get_or marks n false) refl m (listed-on n marks r)
  where
    below : (r < n) × On marks r → (r < suc n) × On marks r
    below w = (omega (arith, w.0), w.1)

    go : (b : Bool) → get_or marks n false ≡ b → Memᴰ r (cond b (n ∷ rows_on n marks) (rows_on n marks)) → (Memᴰ r (rows_on n marks) → (r < n) × On marks r)
        → (r < suc n) × On marks r
    go true e k f = ⊎_elim (λ (q : r ≡ n). (omega arith, rw q e)) (λ h. below (f h)) (Memᴰ.cases_cons k)
    go false e k f = below (f k)

-- what is sure with fewer marks is sure with more
pub sure-more : (rows : List Row) (marks more : List Bool) → ((known : List Term) → MarksHold rows more known → MarksHold rows marks known) → (x : ℕ) → Sure rows marks x → Sure rows more x
sure-more rows marks more f x s known t h = s known t (f known h)

-- marks that nothing was added to
gains-none : (rows : List Row) (x : ℕ) (marks : List Bool) → Gains rows x marks marks
gains-none rows x marks = record { holds = λ known t h e d. h; keeps = λ y u o v. o }

module _ (bytes : List ℕ) (n : ℕ) (shape : Shape bytes n 0) where
  -- marks worked on after one more was set
  gains-settled : (marks : List Bool) (x : ℕ) {classes : List ℕ} (more : List Bool) → RoleClasses (rows_of bytes) classes
      → Settled (rows_of bytes) 0 classes (set marks x true) more → Gains (rows_of bytes) x marks more
  gains-settled marks x more right settled = record { holds = holds; keeps = keeps }
    where
      list : List ℕ
      list = rows_on n (set marks x true)

      exact : RoleExact (rows_of bytes) (listed_terms (rows_of bytes) list) more
      exact = settled role_readings (listed_terms (rows_of bytes) list) right
          (listed-cover bytes n shape list (λ r m. (listed-on n (set marks x true) r m).0) (set marks x true)
          (record { listed = λ r l. (on-listed n (set marks x true) r l, λ m. (listed-on n (set marks x true) r m).1) }))

      holds : (known : List Term) (t : Term) → MarksHold (rows_of bytes) marks known → HasTerm bytes x t → Derives known t → MarksHold (rows_of bytes) more known
      holds known t h e d y u o v = derives-cut start ((marked-derives bytes n shape more exact y v).0 o)
        where
          start : (z : Term) → Memᴰ z (listed_terms (rows_of bytes) list) → Derives known z
          start z m =
              let w = (mem-map (value_of as_atoms (rows_of bytes)) list).0 ((mem-present (map (value_of as_atoms (rows_of bytes)) list)).0 m) in
              let f : HasTerm bytes w.0 z = sym w.2 in
              ⊎_elim (λ (q : w.0 ≡ x). rw (some-injective z t (sym f ∙ rw q e)) d) (λ k. h w.0 z k f) (set_on marks x w.0 (listed-on n (set marks x true) w.0 w.1).1)

      keeps : (y : ℕ) (u : Term) → On marks y → HasTerm bytes y u → On more y
      keeps y u o v =
          let m = on-listed n (set marks x true) y (term-below bytes n shape y v) (set_keeps marks x y o) in
          (marked-derives bytes n shape more exact y v).1 (member ((mem-present (map (value_of as_atoms (rows_of bytes)) list)).1 ((mem-map (value_of as_atoms (rows_of bytes)) list).1 (y, m, sym v))))

  -- marks with a row's term known too gain it
  pub gains-learnt : (classes : List ℕ) (x : ℕ) (marks more : List Bool) → RoleClasses (rows_of bytes) classes → Learnt (rows_of bytes) 0 classes x 0 marks more → Gains (rows_of bytes) x marks more
  gains-learnt classes x marks more right (was_marked o) = gains-none (rows_of bytes) x marks
  gains-learnt classes x marks more right (is_worked settled) = gains-settled marks x more right (rw zero-add at settled)

  -- the inverse of a key derives if the other key of its agent is marked
  pub opens-other : {marks : List Bool} (k : ℕ) {kind other left : ℕ} {r : Bool} → InverseKinds kind other → kind_at bytes k ≡ kind → left ≡ left_at bytes k
      → RowMarked bytes n marks other left r → Opens (rows_of bytes) marks k r
  opens-other k kinds e f (is_marked x l m) = λ u known t h v.
      let w = has-term bytes n shape x l in
      rw (other-inverse bytes n shape k x kinds e m.1 (m.2 ∙ f) v w.1) at (h x w.0 m.0 w.1)
  opens-other k kinds e f (none_marked none) = λ u. absurd (false≢true u)

  -- every other term is its own inverse
  pub opens-itself : (marks : List Bool) (k : ℕ) {r : Bool} → (kind_at bytes k ≡ 8 → ⊥) → (kind_at bytes k ≡ 9 → ⊥) → r ≡ get_or marks k false → Opens (rows_of bytes) marks k r
  opens-itself marks k p s e u known t h v = rw (own-inverse (row-term bytes n shape k v) p s) (h k t (sym e ∙ u) v)

  module _ (marks : List Bool) (x : ℕ) where
    -- exact marks hold, so a sure row is readable
    pub sure-readable : Sure (rows_of bytes) marks x → ReadableRow (rows_of bytes) marks x true
    sure-readable s known t celled exact h =
        same_test true (readable known t) (λ u. (readable-exact known t).1 (s known t (λ y z o v. (marked-derives bytes n shape marks exact y v).0 o) h), λ u. tt)

    -- a row that is marked is sure
    pub sure-marked : On marks x → Sure (rows_of bytes) marks x
    sure-marked o known t h v = derives-readable known t (h x t o v)

    -- a variable is
    pub sure-variable : kind_at bytes x ≡ 6 → Sure (rows_of bytes) marks x
    sure-variable k known t h v = go (rw k at (row-term bytes n shape x v))
      where
        go : {u : Term} → RowTerm bytes x 6 u → Readable known u
        go a_variable = reads_variable

    module _ {l s : ℕ} (left : l ≡ left_at bytes x) (right : s ≡ right_at bytes x) where
      -- a pair is if each part is with the other gained
      pub sure-pair : kind_at bytes x ≡ 11 → {one other : List Bool} → Gains (rows_of bytes) s marks one → Sure (rows_of bytes) one l → Gains (rows_of bytes) l marks other
          → Sure (rows_of bytes) other s → Sure (rows_of bytes) marks x
      sure-pair pairs g p g' p' known t h v =
          let w = pair-term (rw pairs at (row-term bytes n shape x v)) in
          let a = w.3 in
          let b = w.4 in
          rw w.2 (reads_pair
          (p (w.1 ∷ known) w.0 (g.holds (w.1 ∷ known) w.1 (wider w.1) (rw right b) (member (here refl))) (rw left a))
          (p' (w.0 ∷ known) w.1 (g'.holds (w.0 ∷ known) w.0 (wider w.0) (rw left a) (member (here refl))) (rw right b)))
        where
          wider : (u : Term) → MarksHold (rows_of bytes) marks (u ∷ known)
          wider u y z o k = derives-monotone (λ q m. later m) (h y z o k)

      -- an encryption is if it opens and its content is
      pub sure-content : kind_at bytes x ≡ 12 → {r : Bool} → Opens (rows_of bytes) marks s r → r ≡ true → Sure (rows_of bytes) marks l → Sure (rows_of bytes) marks x
      sure-content encrypts o e p known t h v =
          let w = encrypted-term (rw encrypts at (row-term bytes n shape x v)) in
          let a = w.3 in
          let b = w.4 in
          rw w.2 (reads_content (o e known w.1 h (rw right b)) (p known w.0 h (rw left a)))

    -- an answer that is not quick tells whether the row is readable
    pub answer-reads : (r : Bool) → Answers (rows_of bytes) marks x false r → ReadableRow (rows_of bytes) marks x r
    answer-reads true a = sure-readable (a.yes refl)
    answer-reads false a = a.no refl refl

    module _ (quick : Bool) where
      -- yes, of a row that is sure
      pub answer-yes : Sure (rows_of bytes) marks x → Answers (rows_of bytes) marks x quick true
      answer-yes s = record { yes = λ e. s; no = λ q e. absurd (true≢false e) }

      -- no, if it is not readable
      pub answer-no : (quick ≡ false → ReadableRow (rows_of bytes) marks x false) → Answers (rows_of bytes) marks x quick false
      answer-no f = record { yes = λ e. absurd (false≢true e); no = λ q e. f q }

      pub answer-quick : quick ≡ true → Answers (rows_of bytes) marks x quick false
      answer-quick e = answer-no (λ q. absurd (true≢false (sym e ∙ q)))

module _ (rows : List Row) (marks sure : List Bool) (are : SureRows rows marks sure) where
  -- sure rows are sure with more marks
  pub rows-sure : (more : List Bool) → ((known : List Term) → MarksHold rows more known → MarksHold rows marks known) → SureRows rows more sure
  rows-sure more f x o = sure-more rows marks more f x (are x o)

  -- and one more, if it was found
  pub rows-added : (more : List Bool) (found : Option ℕ) → Added found sure more → ((c : ℕ) → found ≡ Some c → Sure rows marks c) → SureRows rows marks more
  rows-added more found a f y o = ⊎_elim (are y) (f y) (a y o)

module _ (bytes : List ℕ) (n : ℕ) (shape : Shape bytes n 0) (marks : List Bool) {s l : ℕ} (one other both : List Bool) (gains : Gains (rows_of bytes) s marks one)
    (gains' : Gains (rows_of bytes) l marks other) (common : Shared n one other both) where
  -- marks that two gains have in common hold only where the marks before them do
  pub common-before : (known : List Term) → MarksHold (rows_of bytes) both known → MarksHold (rows_of bytes) marks known
  common-before known h y u o v = h y u (common.onto y (term-below bytes n shape y v) (gains.keeps y u o v) (gains'.keeps y u o v)) v

  -- and wherever one of the two does
  pub common-one : (known : List Term) → MarksHold (rows_of bytes) one known → MarksHold (rows_of bytes) both known
  common-one known h y u o = h y u (common.from y o).0

  pub common-other : (known : List Term) → MarksHold (rows_of bytes) other known → MarksHold (rows_of bytes) both known
  common-other known h y u o = h y u (common.from y o).1

-- at first none is sure
pub sure-none : (rows : List Row) (marks : List Bool) (k : ℕ) → SureRows rows marks (replicate k false)
sure-none rows marks k x o = absurd (none-on k x o)

-- no marks are those of no row in both
pub shared-none : (one other : List Bool) (k : ℕ) → Shared 0 one other (replicate k false)
shared-none one other k = record { from = λ x o. absurd (none-on k x o); onto = λ x l. absurd (omega arith) }

-- then one row more
pub shared-more : (one other both : List Bool) (x : ℕ) (v : Bool) → x < length both → InBoth one other x v → Shared x one other both → Shared (x + 1) one other (set both x v)
shared-more one other both x v l is are = record {
  from = λ y o. from y o (ℕ_discrete y x);
  onto = λ y h p q. onto y h p q (ℕ_discrete y x);
}
  where
    from : (y : ℕ) → On (set both x v) y → Dec (y ≡ x) → On one y × On other y
    from y o (yes q) = rw q (is.from (sym (get_or-set_same both x v false l) ∙ rw q at o))
    from y o (no d) = are.from y (sym (get_or-set_other both x y v false d) ∙ o)

    onto : (y : ℕ) → y < x + 1 → On one y → On other y → Dec (y ≡ x) → On (set both x v) y
    onto y h a b (yes q) = rw q (get_or-set_same both x v false l ∙ is.onto (rw q at a) (rw q at b))
    onto y h a b (no d) = get_or-set_other both x y v false d ∙ are.onto y (omega arith) a b
