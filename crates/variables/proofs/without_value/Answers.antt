-- `variables::without_value` meets its contract: each row is asked by itself. Assumes nothing.
use Rattle.std.proofs.Common.{false, ◌&&◌, eqb, get_or, rules, tests}
use Rattle.rows.specs.laws.Made.{made-as}
use Rattle.cells.specs.Cells.{cell_of, absent}
use Rattle.variables.proofs.without_value.Goals as goal

-- the call is named `c` as well, so that a search does not read what is known of the whole array
pub returns : goal.returns
returns c = made-as (λ x y q k. search (rules, tests)) c.from_fn.ensures.items (λ k. get_or c.args.set k false && eqb (get_or c.args.values.now (cell_of k c.args.u) absent) absent) (λ x c. search (rules, tests)) (λ x c. search (rules, tests))
