-- `is_readable` tells whether a row's term is readable. The measure is the row, since its parts are lower rows. Assumes nothing.
use Prim.Native.Nat.{ℕ, ◌<◌}
use Rattle.std.proofs.Common.{arith, rules, tests}
use mathlib.Core.Path.{◌≡◌, refl, sym, ◌∙◌}
use mathlib.Core.Bool.{Bool, true, false}
use mathlib.Core.List.{List}
use Rattle.rows.specs.Kinds.{number_of}
use Rattle.rows.specs.laws.Shape.{shape-sized}
use Rattle.std.specs.Prelude.{Option, Some, IfSome}
use Rattle.std.specs.Bool.{then_some}
use Rattle.rows.specs.Rows.{rows_of, Shape}
use Rattle.knowledge.specs.Steps.{kind_at, left_at, right_at}
use Rattle.open_marks.specs.Sure.{Sure, SureRows, Gains, Shared, Added}
use Rattle.open_marks.specs.laws.Rows.{parts-lower}
use Rattle.open_marks.specs.laws.Readable.{unreadable, unreadable-first, readable-second, unreadable-closed, readable-content}
use Rattle.open_marks.specs.laws.Sure.{sure-readable, sure-marked, sure-variable, sure-pair, sure-content, answer-yes, answer-no, rows-sure, rows-added, common-before, common-one, common-other}
use Rattle.open_marks.specs.laws.Kept.{kept-sure, notes-kept}
use Rattle.open_readable.proofs.+is_readable.Goals.{After-is_kept, After-right_of, After-right_of-s}
use Rattle.open_readable.proofs.+is_readable.Goals.{then-marks-x-via-then-marks-x as is-marked, then-marks-x-via-else-marks-x+then-sure-x as is-sure}
use Rattle.open_readable.proofs.+is_readable.Goals as goal

-- the row is a pair
is-pair : (t : ℕ) (c : After-right_of-s t) → kind_at c.args.level.now.table.bytes.now c.args.x ≡ 11
is-pair t c = rw (← c.kind_of-kind.ensures) (search (rules, tests))

-- what stands at the places of the pair's parts are lower rows
low-pair : (t : ℕ) (c : After-is_kept t) → (left_at c.args.level.now.table.bytes.now c.args.x < c.args.x) × (right_at c.args.level.now.table.bytes.now c.args.x < c.args.x)
low-pair t c =
    let e : number_of c.kind_of-kind.result ≡ 11 = search (rules, tests) in
    parts-lower c.args.level.now.table.bytes.now c.args.level.now.table.rows (shape-sized c.args.level.now.table.shape) c.args.x c.requires.1.1 c.kind_of-kind.ensures (omega (arith, e))

-- the parts of the pair are lower rows
low-parts : (t : ℕ) (c : After-right_of-s t) → (c.left_of-l.result < c.args.x) × (c.right_of-s.result < c.args.x)
low-parts t c =
    let low = low-pair t (goal.at.learned-with_second-requires t c).After-is_kept in
    (omega (arith, low.0, c.left_of-l.ensures.0), omega (arith, low.1, c.right_of-s.ensures.0))

-- the row is an encryption
is-encrypted : (t : ℕ) (c : After-right_of t) → kind_at c.args.level.now.table.bytes.now c.args.x ≡ 12
is-encrypted t c = rw (← c.kind_of-kind.ensures) (search (rules, tests))

-- the content and the key of the encryption are lower rows
low-content : (t : ℕ) (c : After-right_of t) → (left_at c.args.level.now.table.bytes.now c.args.x < c.args.x) × (right_at c.args.level.now.table.bytes.now c.args.x < c.args.x)
low-content t c =
    let e : number_of c.kind_of-kind.result ≡ 12 = search (rules, tests) in
    parts-lower c.args.level.now.table.bytes.now c.args.level.now.table.rows (shape-sized c.args.level.now.table.shape) c.args.x c.requires.1.1 c.kind_of-kind.ensures (omega (arith, e))

-- a row that was tried is one of the 96, and the row of which it was found is sure
tried-fits : (found : Bool) {c : ℕ} {row : Option ℕ} → row ≡ then_some found c → c < 96 → IfSome row (λ x. x < 96)
tried-fits true e l = rw e l
tried-fits false e l = rw e tt

found-sure : (P : ℕ → Type 0) (found : Bool) (c : ℕ) {y : ℕ} → then_some found c ≡ Some y → (found ≡ true → P c) → P y
found-sure P true c {y} e f = let q : c ≡ y = cc in rw (← q) (f refl)
found-sure P false c e f = cc

module _ (bytes : List ℕ) {n : ℕ} (shape : Shape bytes n 0) {marks one other both : List Bool} {s l : ℕ} (gains : Gains (rows_of bytes) s marks one) (gains' : Gains (rows_of bytes) l marks other)
    (common : Shared n one other both) (sure : List Bool) (are : SureRows (rows_of bytes) marks sure) where
  -- the rows that were sure are sure with the common marks
  sure-both : SureRows (rows_of bytes) both sure
  sure-both = rows-sure (rows_of bytes) marks sure are both (common-before bytes n shape marks one other both gains gains' common)

  module _ (more : List Bool) (c : ℕ) {found : Bool} {row : Option ℕ} (row-is : row ≡ then_some found c) (is-added : Added row sure more) (is-found : found ≡ true → Sure (rows_of bytes) both c) where
    -- and so are these with what was found beneath the first part
    sure-more : SureRows (rows_of bytes) both more
    sure-more = rows-added (rows_of bytes) both sure sure-both more row is-added (λ y e. found-sure (Sure (rows_of bytes) both) found c (sym row-is ∙ e) is-found)

    -- with what was found beneath the second too, they are sure with the marks of either way
    sure-parts : (most : List Bool) (d : ℕ) {found_too : Bool} {row' : Option ℕ} → row' ≡ then_some found_too d → Added row' more most → (found_too ≡ true → Sure (rows_of bytes) both d)
        → SureRows (rows_of bytes) one most × SureRows (rows_of bytes) other most
    sure-parts most d {found_too} {row'} row-is' is-added' is-found' =
        let all = rows-added (rows_of bytes) both more sure-more most row' is-added' (λ y e. found-sure (Sure (rows_of bytes) both) found_too d (sym row-is' ∙ e) is-found') in (
          rows-sure (rows_of bytes) both most all one (common-one bytes n shape marks one other both gains gains' common),
          rows-sure (rows_of bytes) both most all other (common-other bytes n shape marks one other both gains gains' common),
        )

pub returns-then-marks-x : goal.returns-then-marks-x
returns-then-marks-x t c =
    let sure : Sure (rows_of c.args.level.now.table.bytes.now) c.args.marks c.args.x = elim c.then-marks-x.branch [
      | is-marked w ↦ sure-marked c.args.level.now.table.bytes.now c.args.level.now.table.rows (shape-sized c.args.level.now.table.shape) c.args.marks c.args.x w.if-marks-x.true
      | is-sure w ↦ c.requires.0 c.args.x w.if-sure-x.true
    ] in
    (answer-yes c.args.level.now.table.bytes.now c.args.level.now.table.rows (shape-sized c.args.level.now.table.shape) c.args.marks c.args.x c.args.quick sure, c.requires.1.0)

pub returns-then-eq : goal.returns-then-eq
returns-then-eq t c =
    (answer-yes c.args.level.now.table.bytes.now c.args.level.now.table.rows (shape-sized c.args.level.now.table.shape) c.args.marks c.args.x c.args.quick (sure-variable c.args.level.now.table.bytes.now c.args.level.now.table.rows (shape-sized c.args.level.now.table.shape) c.args.marks c.args.x (rw (← c.kind_of-kind.ensures) (search (rules, tests)))), c.requires.1.0)

pub returns-then-is_kept : goal.returns-then-is_kept
returns-then-is_kept t c =
    (answer-yes c.args.level.now.table.bytes.now c.args.level.now.table.rows (shape-sized c.args.level.now.table.shape) c.args.marks c.args.x c.args.quick (kept-sure c.args.level.now.table.bytes.now c.args.level.now.table.rows (shape-sized c.args.level.now.table.shape) c.args.notes.now c.requires.1.0 c.args.marks c.args.x (c.is_kept.ensures c.if-is_kept.true)), c.requires.1.0)

pub learned-with_second-requires : goal.learned-with_second-requires
learned-with_second-requires t c =
    let low = low-parts t (goal.at.learned-with_second-requires t c).After-right_of-s in
    omega (arith, low.1, c.requires.1.1)

pub learned-with_first-requires : goal.learned-with_first-requires
learned-with_first-requires t c =
    let low = low-parts t (goal.at.learned-with_first-requires t c).After-right_of-s in
    omega (arith, low.0, c.requires.1.1)

pub content_of-c-requires : goal.content_of-c-requires
content_of-c-requires t c =
    let low = low-parts t (goal.at.content_of-c-requires t c).After-right_of-s in
    omega (arith, low.0, c.requires.1.1)

pub is_readable-found-requires : goal.is_readable-found-requires
is_readable-found-requires t c =
    let low = low-parts t (goal.at.is_readable-found-requires t c).After-right_of-s in
    let both = sure-both c.args.level.now.table.bytes.now (shape-sized c.args.level.now.table.shape) c.learned-with_second.ensures.1 c.learned-with_first.ensures.1 c.shared-both.ensures c.args.sure c.requires.0 in
    (omega (arith, c.content_of-c.ensures, low.0), (both, (c.requires.1.0, omega (arith, c.content_of-c.ensures, low.0, c.requires.1.1))))

pub added-more-requires : goal.added-more-requires
added-more-requires t c =
    let low = low-parts t (goal.at.added-more-requires t c).After-right_of-s in
    tried-fits c.is_readable-found.result c.then_some.ensures (omega (arith, c.content_of-c.ensures, low.0, c.requires.1.1, c.args.level.now.table.shape.few))

pub content_of-d-requires : goal.content_of-d-requires
content_of-d-requires t c =
    let low = low-parts t (goal.at.content_of-d-requires t c).After-right_of-s in
    omega (arith, low.1, c.requires.1.1)

pub is_readable-found_too-requires : goal.is_readable-found_too-requires
is_readable-found_too-requires t c =
    let low = low-parts t (goal.at.is_readable-found_too-requires t c).After-right_of-s in
    let first = sure-more c.args.level.now.table.bytes.now (shape-sized c.args.level.now.table.shape) c.learned-with_second.ensures.1 c.learned-with_first.ensures.1 c.shared-both.ensures c.args.sure c.requires.0 c.added-more.result c.content_of-c.result c.then_some.ensures c.added-more.ensures c.is_readable-found.ensures.0.yes in
    (omega (arith, c.content_of-d.ensures, low.1), (first, (c.is_readable-found.ensures.1, omega (arith, c.content_of-d.ensures, low.1, c.requires.1.1))))

pub added-most-requires : goal.added-most-requires
added-most-requires t c =
    let low = low-parts t (goal.at.added-most-requires t c).After-right_of-s in
    tried-fits c.is_readable-found_too.result c.then_some-then-eq-2.ensures (omega (arith, c.content_of-d.ensures, low.1, c.requires.1.1, c.args.level.now.table.shape.few))

pub is_readable-requires : goal.is_readable-requires
is_readable-requires t c =
    let low = low-parts t (goal.at.is_readable-requires t c).After-right_of-s in
    let parts = sure-parts c.args.level.now.table.bytes.now (shape-sized c.args.level.now.table.shape) c.learned-with_second.ensures.1 c.learned-with_first.ensures.1 c.shared-both.ensures c.args.sure c.requires.0 c.added-more.result c.content_of-c.result c.then_some.ensures c.added-more.ensures c.is_readable-found.ensures.0.yes c.added-most.result c.content_of-d.result c.then_some-then-eq-2.ensures c.added-most.ensures c.is_readable-found_too.ensures.0.yes in
    (omega (arith, low.0), (parts.0, (c.is_readable-found_too.ensures.1, omega (arith, low.0, c.requires.1.1))))

pub returns-then-not-is_readable : goal.returns-then-not-is_readable
returns-then-not-is_readable t c =
    let pairs = is-pair t (goal.at.returns-then-not-is_readable t c).After-right_of-s in (
      answer-no c.args.level.now.table.bytes.now c.args.level.now.table.rows (shape-sized c.args.level.now.table.shape) c.args.marks c.args.x c.args.quick (λ q. unreadable-first c.args.level.now.table.bytes.now c.args.level.now.table.rows (shape-sized c.args.level.now.table.shape) c.args.marks c.args.x c.left_of-l.ensures.0 c.right_of-s.ensures.0 pairs c.learned-with_second.result c.learned-with_second.ensures.0 (c.is_readable.ensures.0.no q c.if-not-is_readable.true) refl),
      c.is_readable.ensures.1,
    )

pub is_readable-requires-then-eq-2 : goal.is_readable-requires-then-eq-2
is_readable-requires-then-eq-2 t c =
    let low = low-parts t (goal.at.is_readable-requires-then-eq-2 t c).After-right_of-s in
    let parts = sure-parts c.args.level.now.table.bytes.now (shape-sized c.args.level.now.table.shape) c.learned-with_second.ensures.1 c.learned-with_first.ensures.1 c.shared-both.ensures c.args.sure c.requires.0 c.added-more.result c.content_of-c.result c.then_some.ensures c.added-more.ensures c.is_readable-found.ensures.0.yes c.added-most.result c.content_of-d.result c.then_some-then-eq-2.ensures c.added-most.ensures c.is_readable-found_too.ensures.0.yes in
    (omega (arith, low.1), (parts.1, (c.is_readable.ensures.1, omega (arith, low.1, c.requires.1.1))))

pub returns-then-not-is_readable-2 : goal.returns-then-not-is_readable-2
returns-then-not-is_readable-2 t c =
    let pairs = is-pair t (goal.at.returns-then-not-is_readable-2 t c).After-right_of-s in (
      answer-no c.args.level.now.table.bytes.now c.args.level.now.table.rows (shape-sized c.args.level.now.table.shape) c.args.marks c.args.x c.args.quick (λ q. readable-second c.args.level.now.table.bytes.now c.args.level.now.table.rows (shape-sized c.args.level.now.table.shape) c.args.marks c.args.x c.left_of-l.ensures.0 c.right_of-s.ensures.0 pairs c.learned-with_second.result c.learned-with_second.ensures.0 (sure-readable c.args.level.now.table.bytes.now c.args.level.now.table.rows (shape-sized c.args.level.now.table.shape) c.learned-with_second.result c.left_of-l.result (c.is_readable.ensures.0.yes c.if-not-is_readable.false)) refl c.learned-with_first.result c.learned-with_first.ensures.0 (c.is_readable-then-eq-2.ensures.0.no q c.if-not-is_readable-2.true)),
      c.is_readable-then-eq-2.ensures.1,
    )

pub returns-then-eq-2 : goal.returns-then-eq-2
returns-then-eq-2 t c =
    let pairs = is-pair t (goal.at.returns-then-eq-2 t c).After-right_of-s in
    let sure : Sure (rows_of c.args.level.now.table.bytes.now) c.args.marks c.args.x = sure-pair c.args.level.now.table.bytes.now c.args.level.now.table.rows (shape-sized c.args.level.now.table.shape) c.args.marks c.args.x c.left_of-l.ensures.0 c.right_of-s.ensures.0 pairs c.learned-with_second.ensures.1 (c.is_readable.ensures.0.yes c.if-not-is_readable.false) c.learned-with_first.ensures.1 (c.is_readable-then-eq-2.ensures.0.yes c.if-not-is_readable-2.false) in
    (answer-yes c.args.level.now.table.bytes.now c.args.level.now.table.rows (shape-sized c.args.level.now.table.shape) c.args.marks c.args.x c.args.quick sure, notes-kept c.args.level.now.table.bytes.now c.args.level.now.table.rows (shape-sized c.args.level.now.table.shape) _ c.is_readable-then-eq-2.ensures.1 c.args.marks c.args.x _ sure c.keep.ensures)

pub inverse_known-requires : goal.inverse_known-requires
inverse_known-requires t c =
    let low = low-content t (goal.at.inverse_known-requires t c).After-right_of in
    omega (arith, low.1, c.right_of.ensures.0, c.requires.1.1)

pub is_readable-requires-then-inverse_known : goal.is_readable-requires-then-inverse_known
is_readable-requires-then-inverse_known t c =
    let low = low-content t (goal.at.is_readable-requires-then-inverse_known t c).After-right_of in
    (omega (arith, low.0, c.left_of.ensures.0), (c.requires.0, (c.requires.1.0, omega (arith, low.0, c.left_of.ensures.0, c.requires.1.1))))

pub returns-then-inverse_known : goal.returns-then-inverse_known
returns-then-inverse_known t c =
    let encrypts = is-encrypted t (goal.at.returns-then-inverse_known t c).After-right_of in
    let r = c.is_readable-then-inverse_known.ensures in (
      record {
        yes = λ e. sure-content c.args.level.now.table.bytes.now c.args.level.now.table.rows (shape-sized c.args.level.now.table.shape) c.args.marks c.args.x c.left_of.ensures.0 c.right_of.ensures.0 encrypts c.inverse_known.ensures.1 c.if-inverse_known.true (r.0.yes e);
        no = λ q e. readable-content c.args.level.now.table.bytes.now c.args.level.now.table.rows (shape-sized c.args.level.now.table.shape) c.args.marks c.args.x c.left_of.ensures.0 c.right_of.ensures.0 encrypts c.if-marks-x.false c.inverse_known.ensures.0 c.if-inverse_known.true (r.0.no q e);
      },
      r.1,
    )

pub returns-then-eq-3 : goal.returns-then-eq-3
returns-then-eq-3 t c =
    let encrypts = is-encrypted t (goal.at.returns-then-eq-3 t c).After-right_of in (
      answer-no c.args.level.now.table.bytes.now c.args.level.now.table.rows (shape-sized c.args.level.now.table.shape) c.args.marks c.args.x c.args.quick (λ q. unreadable-closed c.args.level.now.table.bytes.now c.args.level.now.table.rows (shape-sized c.args.level.now.table.shape) c.args.marks c.args.x refl c.right_of.ensures.0 encrypts c.if-marks-x.false c.inverse_known.ensures.0 c.if-inverse_known.false),
      c.requires.1.0,
    )

pub returns : goal.returns
returns t c =
    (answer-no c.args.level.now.table.bytes.now c.args.level.now.table.rows (shape-sized c.args.level.now.table.shape) c.args.marks c.args.x c.args.quick (λ q. unreadable c.args.level.now.table.bytes.now c.args.level.now.table.rows (shape-sized c.args.level.now.table.shape) c.args.marks c.args.x c.if-marks-x.false (rw (← c.kind_of-kind.ensures) (search (rules, tests))) (rw (← c.kind_of-kind.ensures) (search (rules, tests))) (rw (← c.kind_of-kind.ensures) (search (rules, tests)))), c.requires.1.0)
