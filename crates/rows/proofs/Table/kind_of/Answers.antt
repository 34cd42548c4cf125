-- `Table::kind_of` finds a kind, as each row of a table has one. Assumes nothing.
use Rattle.std.specs.Prelude.{is_some}
use Rattle.std.proofs.Common.{sym, ap, ◌∙◌}
use Rattle.rows.specs.laws.Kinds.{table-known, byte-kind}
use Rattle.rows.proofs.Table.kind_of.Goals as goal

pub unwrap-requires : goal.unwrap-requires
unwrap-requires c = ap is_some c.kind_of.ensures ∙ table-known c.args.self.now.shape c.args.r c.requires

pub returns : goal.returns
returns c = sym (byte-kind _ (sym c.kind_of.ensures ∙ c.unwrap.ensures))
