-- `read_completions::completes` meets its contract: the domains of all values that the variables may take miss no completion. Assumes nothing.
use Rattle.read_completions.specs.laws.Search.{completes-tested}
use Rattle.read_completions.proofs.completes.Goals as goal

pub returns : goal.returns
returns c =
    completes-tested _ c.of_variables-dom.result c.beneath-below.ensures c.unset_rows-vars.ensures c.of_variables-dom.ensures c.completable.ensures
