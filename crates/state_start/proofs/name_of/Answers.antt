-- `name_of` gives an atom's row its name. Assumes nothing.
use Rattle.rows.specs.Kinds.{number_of}
use Rattle.rows.specs.laws.Kinds.{kinds-differ}
use Rattle.rows.specs.laws.Shape.{shape-sized}
use Rattle.std.proofs.Common.{◌<◌, ◌≤◌, ◌≡◌, rules, tests, ap, length, get_or, MatchOption}
use Rattle.state_start.specs.laws.Names.{name-itself, name-without-run, name-role, name-local, name-none}
use Rattle.state_start.proofs.name_of.Goals as goal

pub returns-then-lt : goal.returns-then-lt
returns-then-lt c =
    let low : number_of c.kind_of-kind.result < 5 = search (rules, tests) in
    name-itself c.args.t.now.bytes.now c.args.t.now.rows (shape-sized c.args.t.now.shape) c.args.r c.requires.0 c.args.u c.args.agents.now c.kind_of-kind.ensures low

pub returns-then-u-eq0 : goal.returns-then-u-eq0
returns-then-u-eq0 c =
    let high : 5 ≤ number_of c.kind_of-kind.result = search (rules, tests) in
    name-without-run c.args.t.now.bytes.now c.args.t.now.rows (shape-sized c.args.t.now.shape) c.args.r c.requires.0 c.args.u c.args.agents.now c.kind_of-kind.ensures high c.if-u-eq0.true

pub returns-in-Role : goal.returns-in-Role
returns-in-Role c =
    let found : MatchOption c.map.result (length c.args.agents.now ≤ c.left_of.result) (λ x. (c.left_of.result < length c.args.agents.now) × (x ≡ get_or c.args.agents.now c.left_of.result 0)) = search (rules, tests) in
    name-role c.args.t.now.bytes.now c.args.t.now.rows (shape-sized c.args.t.now.shape) c.args.r c.requires.0 c.args.u c.args.agents.now c.if-u-eq0.false c.requires.1.1 c.kind_of-kind.ensures (ap number_of c.in-Role.is) c.left_of.ensures.0 c.map.result found

pub returns-in-Local : goal.returns-in-Local
returns-in-Local c =
    rw c.cell.ensures.0 (name-local c.args.t.now.bytes.now c.args.t.now.rows (shape-sized c.args.t.now.shape) c.args.r c.requires.0 c.args.u c.args.agents.now c.if-u-eq0.false c.kind_of-kind.ensures (ap number_of c.in-Local.is) c.requires.1.0)

pub returns-in_default : goal.returns-in_default
returns-in_default c =
    let high : 5 ≤ number_of c.kind_of-kind.result = search (rules, tests) in
    name-none c.args.t.now.bytes.now c.args.t.now.rows (shape-sized c.args.t.now.shape) c.args.r c.requires.0 c.args.u c.args.agents.now c.kind_of-kind.ensures high (kinds-differ c.in_default.not-Role) (kinds-differ c.in_default.not-Local)
