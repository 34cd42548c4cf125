-- `is_well_formed` tells whether an event is well formed. Assumes nothing.
use denote.Enum.Bare.{differs_true, differs_false}
use borrow.Author.Rules.{rules}
use mathlib.Core.Path.{refl, sym, ap, ◌∙◌}
use mathlib.Core.Logic.{inl}
use Rattle.records.specs.declared.EventKind.TheVariants.{Read, Claim}
use Rattle.records.specs.contracts.EventKind.{the_type}
use Rattle.records.specs.Kinds.{byte_of}
use Rattle.records.specs.laws.Kinds.{events-differ, event-is, event-other}
use Rattle.rows.specs.laws.Shape.{shape-sized}
use Rattle.rows.specs.Rows.{rows_of}
use Rattle.open_wellformed.specs.laws.WellFormed.{own-unknown, peer-unknown, peer-found, was_read, was-other}
use Rattle.open_marks.specs.laws.Sure.{sure-none, answer-reads}
use Rattle.open_marks.specs.laws.Kept.{notes-none}
use Rattle.open_wellformed.proofs.is_well_formed.Goals as goal
use Rattle.open_wellformed.proofs.is_well_formed.Goals.{else-ne-via-then-ne+else-not-name_known-2 as peer-known, else-ne-via-else-ne as no-peer}

pub returns-then-not-name_known : goal.returns-then-not-name_known
returns-then-not-name_known c =
    own-unknown c.args.level.now.table.bytes.now c.args.level.now.table.rows (shape-sized c.args.level.now.table.shape) c.args.marks c.args.own (byte_of c.args.kind) c.args.peer c.args.x c.name_known.ensures (c.if-not-name_known.true)

pub returns-then-not-name_known-2 : goal.returns-then-not-name_known-2
returns-then-not-name_known-2 c =
    peer-unknown c.args.level.now.table.bytes.now c.args.level.now.table.rows (shape-sized c.args.level.now.table.shape) c.args.marks c.args.own (byte_of c.args.kind) c.args.peer c.args.x c.name_known.ensures (c.if-not-name_known.false) (events-differ (differs_true the_type c.args.kind Claim (sym c.ne.ensures ∙ c.if-ne.true))) c.name_known-then-ne.ensures (c.if-not-name_known-2.true)

pub is_readable-requires : goal.is_readable-requires
is_readable-requires c =
    (sure-none (rows_of c.args.level.now.table.bytes.now) c.args.marks 480, (notes-none (rows_of c.args.level.now.table.bytes.now) c.new-notes.result c.new-notes.ensures, c.requires))

pub returns-then-eq : goal.returns-then-eq
returns-then-eq c =
    was_read c.args.level.now.table.bytes.now c.args.level.now.table.rows (shape-sized c.args.level.now.table.shape) c.args.marks c.args.own (byte_of c.args.kind) c.args.peer c.args.x c.name_known.ensures (c.if-not-name_known.false)
    (elim c.else-ne.branch [ peer-known w ↦ peer-found (rows_of c.args.level.now.table.bytes.now) c.args.marks (byte_of c.args.kind) c.args.peer w.name_known-then-ne.ensures w.if-not-name_known-2.false | no-peer w ↦ inl (ap byte_of (differs_false the_type (search rules) c.args.kind Claim (sym c.ne.ensures ∙ w.if-ne.false))) ])
    (event-is c.args.kind Read c.eq.ensures c.if-eq.true) (answer-reads c.args.level.now.table.bytes.now c.args.level.now.table.rows (shape-sized c.args.level.now.table.shape) c.args.marks c.args.x c.is_readable.result c.is_readable.ensures.0)

pub returns : goal.returns
returns c =
    was-other c.args.level.now.table.bytes.now c.args.level.now.table.rows (shape-sized c.args.level.now.table.shape) c.args.marks c.args.own (byte_of c.args.kind) c.args.peer c.args.x c.name_known.ensures (c.if-not-name_known.false)
    (elim c.else-ne.branch [ peer-known w ↦ peer-found (rows_of c.args.level.now.table.bytes.now) c.args.marks (byte_of c.args.kind) c.args.peer w.name_known-then-ne.ensures w.if-not-name_known-2.false | no-peer w ↦ inl (ap byte_of (differs_false the_type (search rules) c.args.kind Claim (sym c.ne.ensures ∙ w.if-ne.false))) ])
    (event-other c.args.kind Read c.eq.ensures c.if-eq.false) refl
