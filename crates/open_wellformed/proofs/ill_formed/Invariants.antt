-- `ill_formed` finds the first event of a role block that is not well formed. The loop's invariant: it is that of the records that are still to come. Assumes nothing.
use Rattle.rows.specs.Rows.{rows_of}
use Rattle.records.specs.RoleRecords.{ahead}
use Rattle.open_wellformed.specs.laws.IllFormed.{BlockLeft}
use Rattle.open_wellformed.proofs.ill_formed.Given as goal

abbrev pub invariant-loop-i : goal.invariant-loop-i
invariant-loop-i l = BlockLeft (rows_of l.t.bytes.now) l.block.start l.block.bytes.now l.i-iterator.count (ahead l.i-iterator.iter)
