-- `own_names` gives each row its own name. The loop's invariant: the rows passed have theirs. Assumes nothing.
use Rattle.role_level.specs.RoleLevel.{OwnNames}
use Rattle.role_level.proofs.own_names.Given as goal

abbrev pub invariant-loop-r : goal.invariant-loop-r
invariant-loop-r l = OwnNames l.r l.names
