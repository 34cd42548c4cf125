-- `push_with` adds a word and a number. Assumes nothing.
use Rattle.std.proofs.Common.{arith}
use Rattle.text.specs.laws.Decimal.{decimal-few}
use Rattle.std.proofs.lemmas.Grind.{common_steps}
use Rattle.text.proofs.Text.push_with.Goals as goal

pub push_number-requires : goal.push_number-requires
push_number-requires c = grind (arith, common_steps, decimal-few 19 c.args.n (omega arith))

pub returns-clause-len_bound : goal.returns-clause-len_bound
returns-clause-len_bound c = grind (arith, common_steps, decimal-few 19 c.args.n (omega arith))
