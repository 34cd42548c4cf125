-- `lists::unfit_row` meets its contract. The loop's invariant: the first unfit row is that of the bytes from byte i on. Assumes nothing.
use mathlib.Core.Path.{◌≡◌}
use Rattle.semantics.specs.Basic.{unfit_from}
use Rattle.lists.specs.Lists.{has_value}
use Rattle.lists.specs.laws.Knowledge.{unfit_left}
use Rattle.lists.proofs.unfit_row.Given as goal

abbrev pub invariant-loop-i : goal.invariant-loop-i
invariant-loop-i l = unfit_from (has_value l.rows.count l.rows.clear) l.list.start 0 l.list.bytes.now ≡ unfit_left (has_value l.rows.count l.rows.clear) l.list.start l.list.bytes.now l.least l.i
