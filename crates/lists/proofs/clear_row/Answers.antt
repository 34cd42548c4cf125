-- `lists::clear_row` meets its contract: kind by kind, the code tests what the definition asks. Assumes nothing.
use native.Mathlib.Omega.{arith}
use mathlib.Core.Path.{◌∙◌}
use Rattle.std.proofs.Common.{ℕ, ◌*◌, ◌≡◌, ◌<◌, ◌≤◌, refl, Bool, true, false, cond, length, get_or, sym, ltb-true, ltb-false}
use Rattle.std.proofs.Math.Dec.{ltb}
use Rattle.rows.specs.Rows.{rows_of}
use Rattle.rows.specs.Kinds.{number_of}
use Rattle.rows.specs.laws.Table.{left-lower, right-lower}
use Rattle.lists.specs.laws.Kinds.{kind-less}
use Rattle.lists.specs.laws.Clear.{clear-low, clear-high, clear-not, clear-parts}
use Rattle.lists.proofs.clear_row.Goals as goal

pub returns-then-lt : goal.returns-then-lt
returns-then-lt c =
    let low : ltb (number_of c.kind_of-kind.result) (number_of c.args.low) ≡ true = sym (c.lt.ensures ∙ kind-less _ _) ∙ c.if-lt.true in
    rw (← c.kind_of-kind.ensures)
    (c.if-lt.true ∙ clear-low _ _ _ _ _ (c.is_made.ensures.1 c.if-not-is_made.true) (ltb-true _ _ low))

pub returns-else-lt : goal.returns-else-lt
returns-else-lt c =
    let high : ltb (number_of c.kind_of-kind.result) (number_of c.args.low) ≡ false = sym (c.lt.ensures ∙ kind-less _ _) ∙ c.if-lt.false in
    rw (← c.kind_of-kind.ensures)
    (c.lt-else-lt.ensures ∙ kind-less _ _ ∙ clear-high _ _ _ _ _ (c.is_made.ensures.1 c.if-not-is_made.true) (ltb-false _ _ high))

pub bounds-clear-left_of : goal.bounds-clear-left_of
bounds-clear-left_of c =
    omega (arith, left-lower c.args.t.now.bytes.now c.args.t.now.shape.table c.args.r (omega (arith, c.args.t.now.shape.count)) (omega (arith, c.is_made.ensures.0 c.if-not-is_made.false, c.kind_of-kind.ensures)), c.args.t.now.shape.few)

-- the second part of a row that is made of others is below it
second-lower : (k l r i : ℕ) → l < i → (10 ≤ k → r < i) → cond (ltb k 10) l r < i
second-lower k l r i first second = go (ltb k 10) refl
  where
    go : (b : Bool) → ltb k 10 ≡ b → cond b l r < i
    go true e = first
    go false e = second (ltb-false k 10 e)

pub bounds-clear-second_of : goal.bounds-clear-second_of
bounds-clear-second_of c =
    let bytes = c.args.t.now.bytes.now in
    let shape = c.args.t.now.shape in
    let within : c.args.r < length (rows_of bytes) = omega (arith, shape.count) in
    let left = left-lower bytes shape.table c.args.r within (omega (arith, c.kind_of-kind.ensures, c.is_made.ensures.0 c.if-not-is_made.false)) in
    omega (arith, c.second_of.ensures.0, second-lower (get_or bytes (3 * c.args.r) 0) _ _ c.args.r left (right-lower bytes shape.table c.args.r within), shape.few)

pub returns-then-clear-left_of : goal.returns-then-clear-left_of
returns-then-clear-left_of c =
    rw c.second_of.ensures.0
    (clear-parts _ _ _ _ _ c.args.clear.now (omega (arith, c.kind_of-kind.ensures, c.is_made.ensures.0 c.if-not-is_made.false)) (rw (← c.left_of.ensures.0) c.if-clear-left_of.true))

pub returns-else-clear-left_of : goal.returns-else-clear-left_of
returns-else-clear-left_of c =
    rw (← c.kind_of-kind.ensures)
    (c.if-clear-left_of.false ∙ clear-not _ _ _ _ _ (c.is_made.ensures.0 c.if-not-is_made.false) (rw (← c.left_of.ensures.0) c.if-clear-left_of.false))
