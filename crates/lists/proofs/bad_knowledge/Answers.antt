-- `lists::bad_knowledge` meets its contract: the rows marked are those with a value without a run. Assumes nothing.
use mathlib.Core.Path.{ap, ◌∙◌}
use Rattle.semantics.specs.Value.{without_run}
use Rattle.rows.specs.Rows.{rows_of, place_as}
use Rattle.lists.specs.laws.Clear.{bars-run}
use Rattle.lists.specs.laws.Knowledge.{knowledge-found}
use Rattle.lists.proofs.bad_knowledge.Goals as goal

pub returns : goal.returns
returns c =
    c.unfit_row.ensures
    ∙ ap place_as (knowledge-found (rows_of c.args.t.now.bytes.now) _ _ (c.clear_rows.ensures.0 ∙ c.args.t.now.shape.count) (c.clear_rows.ensures.1 without_run bars-run) c.args.block.start c.args.block.bytes.now)
