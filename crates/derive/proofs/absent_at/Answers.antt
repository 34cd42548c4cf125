-- `absent_at` is refusal 11: the first listed row that is absent, or that all are there. Assumes nothing.
use Rattle.std.proofs.Common.{ℕ, ◌<◌, ◌≤◌, ◌≡◌, length, get_or, rules, tests, Some, None, MatchOption}
use Rattle.std.proofs.iter.runs.Made.{chains}
use Rattle.derive.specs.laws.Derive.{absent-told}
use Rattle.derive.proofs.absent_at.Goals as goal

pub returns : goal.returns
returns c =
    let found : MatchOption c.position.result ((k : ℕ) → k < length c.args.list.now → get_or c.args.list.now k 0 < c.args.n) (λ i. (i < length c.args.list.now) × (c.args.n ≤ get_or c.args.list.now i 0) × ((k : ℕ) → k < i → get_or c.args.list.now k 0 < c.args.n)) = search (rules, chains) in
    let given : MatchOption c.position.result ((c.args.n ≤ c.args.target → c.or_else.result ≡ Some (length c.args.list.now)) × (c.args.target < c.args.n → c.or_else.result ≡ None)) (λ i. c.or_else.result ≡ Some i) = search (rules, tests) in
    absent-told c.args.list.now c.args.n c.args.target c.position.result found given
