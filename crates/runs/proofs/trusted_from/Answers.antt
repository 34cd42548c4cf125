-- `runs::trusted_from` meets its contract: the agents stand behind the record's first byte. Assumes nothing.
use Rattle.std.proofs.Common.{ℕ, ◌≡◌, ◌+◌, get_or, length, arith, refl, rules, tests, ◌∙◌}
use Rattle.std.proofs.lemmas.Iterator.{YieldsList-from_range}
use Rattle.std.proofs.lemmas.Iterator.Search.{all_from_yields_List}
use Rattle.semantics.specs.Runs.{atom_at, is_trusted}
use Rattle.rows.specs.Rows.{rows_of}
use Rattle.runs.specs.laws.Trusted.{every-counted}
use Rattle.runs.proofs.trusted_from.Goals as goal

pub returns : goal.returns
returns c agents at =
    let agent = λ (i : ℕ). get_or c.args.file.now (c.args.start + 1 + i) 0 in
    let trusted = λ (a : ℕ). is_trusted (atom_at (rows_of c.args.t.now.bytes.now) a) in
    all_from_yields_List (λ i. trusted (agent i)) _ _ _ c.all.ensures.ran (YieldsList-from_range 0 c.args.roles (length agents) refl (omega (arith, at.count))) (λ x b q k. search (rules, tests))
    ∙ every-counted trusted agent agents 0 (λ i j l e. let same : j ≡ i = omega arith in rw same (at.each i (omega (arith, at.count))))
