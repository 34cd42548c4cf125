-- `records::events_fit` meets its contract: all events fit, or there is one that does not. Assumes nothing.
use Prim.Native.Nat.{◌+◌, ◌<◌}
use native.Mathlib.Omega.{arith}
use mathlib.Core.Path.{◌≡◌, refl, ap}
use lib.ListN.{get_or}
use Rattle.std.proofs.Common.{rules}
use Rattle.std.proofs.iter.runs.Sources.{ranges, range_runs}
use Rattle.semantics.specs.Roles.{event_count}
use Rattle.rows.specs.laws.Ranges.{of_place}
use Rattle.records.specs.laws.Events.{count-read, fits-if}
use Rattle.records.proofs.events_fit.Goals as goal
use Rattle.records.proofs.events_fit.Goals.{After-from-count}

-- the number read is the number of events
counted : (c : After-from-count) → c.from-count.result ≡ event_count c.args.s.now
counted c = count-read c.args.s.now c.from.result c.from-count.result c.from.ensures c.from-count.ensures

pub returns : goal.returns
returns c =
    let counted' = counted (goal.at.returns c).After-from-count in
    fits-if c.args.s.now c.args.n c.args.roles (2 + c.from.result) c.from-count.result (omega (arith, counted')) (ap (◌+◌ 2) c.from.ensures) counted'
    (λ e j l. let z : get_or c.args.s.now j 0 ≡ get_or c.args.s.now j 0 = refl in search (rules, ranges))
    (λ e.
    let run = c.all.ensures.runs.0 in
    let end : run.from.end ≡ c.from-count.result = cc in
    let found = (rw e at c.all.ensures.runs.2) (λ a r f' z. search rules) in
    let w = of_place (run.at found.0) (λ x. (x ≡ run.from.start + found.0) × (x < run.from.end)) _ ((range_runs run run.seen).2 found.0) found.2 in
    (w.0, omega arith, λ rows place k. let h = w.2 in search rules))
