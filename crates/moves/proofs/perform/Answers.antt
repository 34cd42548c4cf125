-- `perform` gives the marks after a move that is allowed, by the event's kind. Assumes nothing.
use denote.Enum.Bare.{differs_true, differs_false}
use Rattle.std.proofs.Common.{rules, sym, ap, ◌∙◌}
use Rattle.records.specs.contracts.EventKind.{the_type}
use Rattle.records.specs.declared.EventKind.TheVariants.{Send}
use Rattle.records.specs.Kinds.{byte_of}
use Rattle.records.specs.laws.Kinds.{events-differ}
use Rattle.moves.specs.laws.After.{marks-kept, marks-sent}
use Rattle.moves.proofs.perform.Goals as goal

pub returns-then-ne : goal.returns-then-ne
returns-then-ne c m d' allowed = marks-kept m d' allowed (events-differ (differs_true the_type c.args.e.kind Send (sym c.ne.ensures ∙ c.if-ne.true)))

pub returns : goal.returns
returns c m d' allowed =
    marks-sent m d' allowed (ap byte_of (differs_false the_type (search rules) c.args.e.kind Send (sym c.ne.ensures ∙ c.if-ne.false))) c.learn-term.result c.learn-receiver.result c.learn.result c.learn-term.ensures.learns_cell c.learn-receiver.ensures.learns_cell c.learn.ensures.learns_cell
