-- `claims_derivable` answers whether an event is a claim that is broken, in a run whose agents are all trusted. Assumes nothing.
use native.Mathlib.Omega.{arith}
use Rattle.records.specs.declared.EventKind.TheVariants.{Claim}
use Rattle.records.specs.laws.Kinds.{event-is, event-other}
use Rattle.claims.specs.laws.Event.{row-below, past-none, other_none, claim-marked}
use Rattle.runs.specs.laws.Opened.{run-known}
use Rattle.claims.proofs.claims_derivable.Goals as goal

pub returns-in_default : goal.returns-in_default
returns-in_default c sc d run p at trusts = past-none at c.args.j c.in_default.ensures

pub cell-requires : goal.cell-requires
cell-requires c =
    let o = c.args.opened.now in
    let few = run-known o c.requires (λ w. w.1.few) in (
      run-known o c.requires (λ w. row-below o.file.now o.runs c.args.k c.args.j _ (w.0, (w.1, (w.2, w.3))) c.in-Some.ensures.1 c.in-Some.ensures.0),
      omega (arith, few, c.requires),
    )

pub returns-then-eq : goal.returns-then-eq
returns-then-eq c sc d run p at trusts =
    let read = c.in-Some.ensures in
    claim-marked at c.args.j c.in-Some.e read.1 read.0 trusts (event-is c.in-Some.e.kind Claim c.eq.ensures c.if-eq.true) c.cell.ensures.0

pub returns-else-eq : goal.returns-else-eq
returns-else-eq c sc d run p at trusts =
    let read = c.in-Some.ensures in
    rw c.if-eq.false (other_none at c.args.j c.in-Some.e read.1 read.0 (event-other c.in-Some.e.kind Claim c.eq.ensures c.if-eq.false))
