-- `event_learned` gives the marks after an event. Assumes nothing.
use Rattle.records.specs.declared.EventKind.TheVariants.{Read}
use Rattle.records.specs.Kinds.{byte_of}
use Rattle.records.specs.laws.Kinds.{event-is}
use Rattle.rows.specs.Rows.{rows_of}
use Rattle.open_wellformed.specs.laws.IllFormed.{read-learns}
use Rattle.open_wellformed.proofs.event_learned.Goals as goal

pub returns-then-eq : goal.returns-then-eq
returns-then-eq c =
    read-learns (rows_of c.args.level.now.table.bytes.now) (byte_of c.args.event) c.args.x c.args.marks (event-is c.args.event Read c.eq.ensures c.if-eq.true) c.learned.result c.learned.ensures.0
