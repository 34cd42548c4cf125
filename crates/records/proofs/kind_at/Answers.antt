-- `records::kind_at` finds a kind, as the byte is one of an event. Assumes nothing.
use Rattle.std.specs.Prelude.{is_some}
use mathlib.Core.Path.{ap, ◌∙◌}
use Rattle.records.specs.laws.Kinds.{event-known}
use Rattle.records.proofs.kind_at.Goals as goal

pub unwrap-requires : goal.unwrap-requires
unwrap-requires c = ap is_some c.of.ensures ∙ event-known _ c.requires.1
