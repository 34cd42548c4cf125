-- `valued` says whether values suit the next event of a run. Assumes nothing.
use mathlib.Core.Path.{refl}
use Rattle.records.specs.declared.EventKind.TheVariants.{Read}
use Rattle.records.specs.laws.Kinds.{event-is, event-other}
use Rattle.replay_choices.specs.laws.Values.{suited-none}
use Rattle.replay_choices.proofs.valued.Goals as goal

pub returns-then-eq : goal.returns-then-eq
returns-then-eq c sc d a next = c.chosen.ensures _ sc d _ a next refl refl (event-is c.args.e.kind Read c.eq.ensures c.if-eq.true)

pub returns : goal.returns
returns c sc d a next = rw c.then_some.ensures (suited-none next (event-other c.args.e.kind Read c.eq.ensures c.if-eq.false) c.args.values.now)
