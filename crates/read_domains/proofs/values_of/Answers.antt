-- `read_domains::values_of` meets its contract. The loop's invariant: the classes of the values whose cell is below c are in the set. Assumes nothing.
use Rattle.read_domains.specs.Domains.{Counts}
use Rattle.read_domains.specs.laws.Values.{listed_more, listed-other}
use Rattle.read_domains.proofs.values_of.Goals as goal
use Rattle.read_domains.proofs.values_of.Goals.{then-may_take, else-may_take}

pub loop-c-preserved : goal.loop-c-preserved
loop-c-preserved c = elim c.if-may_take.branch [
  | then-may_take w ↦ rw w.set-is (listed_more c.args.t.now.bytes.now c.args.t.now.rows c.args.t.now.runs c.args.classes.now (Counts c.args.counted c.args.marks.now) c.args.q c.loop-c.invariant (w.add_value.ensures c.args.t.now.bytes.now c.args.t.now.rows c.args.t.now.runs c.args.q))
  | else-may_take w ↦ rw w.set-is (listed_more c.args.t.now.bytes.now c.args.t.now.rows c.args.t.now.runs c.args.classes.now (Counts c.args.counted c.args.marks.now) c.args.q c.loop-c.invariant (listed-other c.args.t.now.bytes.now c.args.t.now.rows c.args.t.now.runs c.args.classes.now (Counts c.args.counted c.args.marks.now) c.args.q c.loop-c.c c.loop-c.set c.args.t.now.shape (rw (c.place_of-row.ensures.0, c.place_of-row.ensures.1) at c.may_take.ensures) w.if-may_take.false))
]
