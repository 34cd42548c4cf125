-- `Opened::all_trusted` meets its contract: the agents of run k are those of its record. Assumes nothing.
use Rattle.runs.specs.laws.Trusted.{agents-inside, trusted-all}
use Rattle.runs.specs.laws.Opened.{run-known}
use Rattle.runs.proofs.opened.Opened.all_trusted.Goals as goal

pub trusted_from-requires : goal.trusted_from-requires
trusted_from-requires c = run-known c.args.self.now c.requires (agents-inside c.args.self.now.file.now c.args.self.now.runs c.args.k)

pub returns : goal.returns
returns c = trusted-all c.args.self.now.file.now c.args.self.now.runs c.args.k c.args.self.now.table.bytes.now c.trusted_from.ensures
