-- `ill_formed_role` finds the first event of a role that is not well formed. The loop's invariant: it is that of the events from event j on, with what is known before it. Assumes nothing.
use Rattle.rows.specs.Rows.{rows_of}
use Rattle.open_wellformed.specs.laws.IllFormed.{RoleLeft}
use Rattle.open_wellformed.proofs.ill_formed_role.Given as goal

abbrev pub invariant-loop-j : goal.invariant-loop-j
invariant-loop-j l = RoleLeft (rows_of l.level.table.bytes.now) l.own l.s l.first l.events l.j l.marks
