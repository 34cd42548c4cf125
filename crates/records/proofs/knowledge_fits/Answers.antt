-- `records::knowledge_fits` meets its contract: no row is unfit exactly if the knowledge fits. Assumes nothing.
use Rattle.lists.specs.laws.Knowledge.{knowledge-fits}
use Rattle.records.proofs.knowledge_fits.Goals as goal

pub returns : goal.returns
returns c rows e v = knowledge-fits c.args.s.now c.args.clear.now.count c.args.clear.now.clear c.from-end.result c.from-end.ensures c.unfit_row.ensures rows e v c.is_none.ensures
