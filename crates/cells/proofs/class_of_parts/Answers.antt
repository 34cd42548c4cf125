-- `class_of_parts` looks for a cell of a kind with given parts, row by row. Assumes nothing.
use Rattle.std.proofs.Common.{rules, tests, ℕ, ◌<◌}
use Rattle.cells.specs.laws.Cells.{row-found, none_found}
use Rattle.rows.specs.laws.Ranges.{find_map-range}
use Rattle.rows.specs.Kinds.{number_of}
use Rattle.cells.specs.Cells.{absent, FoundInRow}
use Rattle.cells.proofs.class_of_parts.Goals as goal

pub returns : goal.returns
returns c =
    let Row : ℕ → ℕ → Type 0 = FoundInRow c.args.t.now.bytes.now c.args.t.now.runs c.args.classes.now (number_of c.args.kind) c.args.a c.args.b in
    find_map-range _ (λ x class. (class < absent) × Row x class) (λ x. Row x absent) (λ x y q k. search (rules, tests)) (λ x y k. search (rules, tests)) (λ x k. search (rules, tests)) _ c.find_map.ensures.runs
    (λ none. none_found (λ x l. none x (search rules) l)) (λ class x lo l h. (h.0, row-found l h.1 h.0))
