-- `ill_formed_role` finds the first event of a role that is not well formed. Assumes nothing.
use Prim.Native.Nat.{ℕ, ◌+◌, ◌*◌, ◌<◌, ◌≤◌}
use native.Mathlib.Omega.{arith}
use mathlib.Core.List.{List}
use mathlib.Core.Path.{◌≡◌}
use lib.ListN.{length, get_or}
use Rattle.rows.specs.laws.Shape.{shape-sized}
use Rattle.semantics.specs.Roles.{knowledge_count, event_kinds}
use Rattle.semantics.specs.Table.{Row}
use Rattle.semantics.proofs.laws.List.{get_elem-below}
use Rattle.rows.specs.Rows.{rows_of, Shape}
use Rattle.open_wellformed.specs.WellFormed.{IsEvent}
use Rattle.open_wellformed.specs.laws.IllFormed.{listed-rows, count_of, events-are, role_start, role-none, role-ill, role-more}
use Rattle.open_wellformed.proofs.ill_formed_role.Goals.{After-from-events, In-loop-j}
use Rattle.open_wellformed.proofs.ill_formed_role.Goals as goal

-- the events begin behind the knowledge
first-is : (s : List ℕ) {k : ℕ} → k ≡ knowledge_count s → 2 + k ≡ 2 + knowledge_count s
first-is s e = omega (arith, e)

-- all events of the record lie within the bytes
whole : (c : After-from-events) → 2 + c.from-count.result + 4 * c.from-events.result ≤ length c.args.s.now
whole c =
    omega (arith, first-is c.args.s.now c.from-count.ensures, count_of c.args.s.now c.from-count.result c.from-events.result c.from-count.ensures c.from-events.ensures, c.requires.whole)

-- event j has a kind and a row
is-event : (c : In-loop-j) → IsEvent (rows_of c.args.level.now.table.bytes.now) c.args.s.now (2 + c.from-count.result + 4 * c.loop-j.j)
is-event c =
    events-are c.args.s.now (2 + c.from-count.result) c.from-events.result c.requires (first-is c.args.s.now c.from-count.ensures)
    (count_of c.args.s.now c.from-count.result c.from-events.result c.from-count.ensures c.from-events.ensures) c.loop-j.j c.loop-j-test.true

-- and its row is one of the table's
row-below : {bytes : List ℕ} {n : ℕ} (s : List ℕ) (at : ℕ) {x : ℕ} → Shape bytes n 0 → IsEvent (rows_of bytes) s at → x ≡ get_or s (at + 3) 0 → x < n
row-below s at shape is e = omega (arith, is.2, e, shape.count)

-- its kind is one of three
low-kind : (rows : List Row) (s : List ℕ) (at : ℕ) → IsEvent rows s at → get_or s at 0 ≤ 2
low-kind rows s at is = let low : get_or s at 0 < 3 = get_elem-below event_kinds (get_or s at 0) is.1 in omega (arith, low)

pub kind_at-event-requires : goal.kind_at-event-requires
kind_at-event-requires c =
    let t = (goal.at.kind_at-event-requires c).In-loop-j in
    (omega (arith, whole (goal.at.kind_at-event-requires c).After-from-events, c.loop-j-test.true), low-kind (rows_of c.args.level.now.table.bytes.now) c.args.s.now (2 + c.from-count.result + 4 * c.loop-j.j) (is-event t))

pub marks_of-marks-requires : goal.marks_of-marks-requires
marks_of-marks-requires c =
    rw (listed-rows c.args.s.now c.from-count.result c.from-count.ensures) (λ r m. omega (arith, c.requires.knows r m, c.args.level.now.table.shape.count))

pub loop-j-init : goal.loop-j-init
loop-j-init c =
    role_start (rows_of c.args.level.now.table.bytes.now) c.args.own c.args.s.now (2 + c.from-count.result) c.from-events.result (first-is c.args.s.now c.from-count.ensures)
    (count_of c.args.s.now c.from-count.result c.from-events.result c.from-count.ensures c.from-events.ensures) (rw (listed-rows c.args.s.now c.from-count.result c.from-count.ensures) at c.marks_of-marks.ensures)

pub is_well_formed-requires : goal.is_well_formed-requires
is_well_formed-requires c = row-below c.args.s.now (2 + c.from-count.result + 4 * c.loop-j.j) (shape-sized c.args.level.now.table.shape) (is-event (goal.at.is_well_formed-requires c).In-loop-j) c.from-x.ensures

pub returns-then-not-is_well_formed : goal.returns-then-not-is_well_formed
returns-then-not-is_well_formed c =
    role-ill c.args.level.now.table.bytes.now c.args.level.now.table.rows (shape-sized c.args.level.now.table.shape) c.args.own c.args.s.now (2 + c.from-count.result) c.from-events.result (whole (goal.at.returns-then-not-is_well_formed c).After-from-events)
    c.loop-j.j c.loop-j.marks c.loop-j.invariant c.loop-j-test.true c.kind_at-event.ensures c.from-peer.ensures c.from-x.ensures
    (is-event (goal.at.returns-then-not-is_well_formed c).In-loop-j) c.is_well_formed.ensures (c.if-not-is_well_formed.true) (omega arith)

pub event_learned-more-requires : goal.event_learned-more-requires
event_learned-more-requires c = row-below c.args.s.now (2 + c.from-count.result + 4 * c.loop-j.j) (shape-sized c.args.level.now.table.shape) (is-event (goal.at.event_learned-more-requires c).In-loop-j) c.from-x.ensures

pub loop-j-preserved : goal.loop-j-preserved
loop-j-preserved c =
    role-more c.args.level.now.table.bytes.now c.args.level.now.table.rows (shape-sized c.args.level.now.table.shape) c.args.own c.args.s.now (2 + c.from-count.result) c.from-events.result (whole (goal.at.loop-j-preserved c).After-from-events)
    c.loop-j.j c.loop-j.marks c.loop-j.invariant c.loop-j-test.true c.kind_at-event.ensures c.from-peer.ensures c.from-x.ensures
    (is-event (goal.at.loop-j-preserved c).In-loop-j) c.is_well_formed.ensures (c.if-not-is_well_formed.false) c.event_learned-more.result c.event_learned-more.ensures

pub returns : goal.returns
returns c =
    role-none (rows_of c.args.level.now.table.bytes.now) c.args.own c.args.s.now (2 + c.from-count.result) c.from-events.result c.loop-j.j c.loop-j.invariant (omega (arith, c.loop-j-test.false))
