-- `row_marked` tells whether a row with a kind and a left byte is marked. Assumes nothing.
use Rattle.std.proofs.Common.{arith, rules, tests, ℕ}
use Rattle.rows.specs.Kinds.{number_of}
use Rattle.rows.specs.laws.Ranges.{any-range}
use Rattle.open_marks.specs.Marks.{MarkedAs, RowMarked, is_marked, none_marked}
use Rattle.open_marks.proofs.row_marked.Goals as goal

pub returns : goal.returns
returns c =
    let As : ℕ → Type 0 = MarkedAs c.args.t.now.bytes.now c.args.marks.now (number_of c.args.kind) c.args.left in
    any-range _ (RowMarked c.args.t.now.bytes.now c.args.t.now.rows c.args.marks.now (number_of c.args.kind) c.args.left) As (λ x. As x → ⊥) (λ x y q k. search (rules, tests)) (λ x k. search (rules, tests)) (λ x k. search (rules, tests)) _ c.any.ensures.runs
    (λ x lo l h. is_marked x l h) (λ none. none_marked (λ x l. none x (omega arith) l))
