-- `records::agents_fit` meets its contract: all agent bytes are agents' rows. Assumes nothing.
use mathlib.Core.Path.{ap, ◌∙◌}
use Rattle.std.proofs.Common.{ℕ, ◌+◌, ◌-◌, Bool, take, drop, rules, tests}
use Rattle.std.proofs.lemmas.Iterator.{YieldsList-from_slice}
use Rattle.std.proofs.lemmas.Iterator.Search.{all_from_yields_List}
use Rattle.semantics.specs.Basic.{every}
use Rattle.semantics.specs.Runs.{is_agent, atom_at}
use Rattle.rows.specs.Rows.{rows_of}
use Rattle.records.specs.laws.Runs.{all-every, agents-part}
use Rattle.records.proofs.agents_fit.Goals as goal

pub returns : goal.returns
returns c =
    let agent : ℕ → Bool = λ r. is_agent (atom_at (rows_of c.args.t.now.bytes.now) r) in
    let part = take (1 + c.args.roles - 1) (drop 1 c.args.s.now) in
    all_from_yields_List {all = part} (agent) _ _ _ c.all.ensures.ran (YieldsList-from_slice part cc) (λ x b q k. search (rules, tests))
    ∙ all-every (agent) part ∙ ap (every (agent)) (agents-part c.args.roles c.args.s.now)
