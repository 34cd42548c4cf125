-- `read_domains::values_of` meets its contract. The loop's invariant: the classes of the values whose cell is below c are in the set. Assumes nothing.
use Rattle.read_domains.specs.Domains.{Counts}
use Rattle.read_domains.specs.laws.Values.{ListedTo}
use Rattle.read_domains.proofs.values_of.Given as goal

abbrev pub invariant-loop-c : goal.invariant-loop-c
invariant-loop-c l = ListedTo l.t.bytes.now l.t.rows l.t.runs l.classes (Counts l.counted l.marks) l.q l.c l.set
