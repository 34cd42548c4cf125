-- `read_domains::of_variables` meets its contract. The loop's invariant: the domains of the variables below i hold their values. Assumes nothing.
use Rattle.read_domains.specs.Domains.{Counts}
use Rattle.read_domains.specs.laws.Values.{DomainsTo}
use Rattle.read_domains.proofs.of_variables.Given as goal

abbrev pub invariant-loop-i : goal.invariant-loop-i
invariant-loop-i l = DomainsTo l.t.bytes.now l.t.rows l.t.runs l.classes (Counts l.counted l.marks) l.vars.rows l.i l.dom
