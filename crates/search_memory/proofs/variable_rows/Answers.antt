-- `search_memory::variable_rows` meets its contract: the variables among all rows. Assumes nothing.
use Rattle.rows.specs.laws.Shape.{shape-sized}
use Rattle.search_memory.specs.laws.Variables.{among-all}
use Rattle.search_memory.proofs.variable_rows.Goals as goal

pub returns : goal.returns
returns c = among-all (shape-sized c.args.t.now.shape) c.variable_rows-found.ensures
