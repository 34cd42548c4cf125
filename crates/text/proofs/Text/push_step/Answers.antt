-- `push_step` adds the line of a step. Assumes nothing.
use Rattle.std.proofs.Common.{◌++◌, arith, ◌∙◌}
use Rattle.semantics.specs.Basic.{joined}
use Rattle.text.specs.Text.{word, decimal, value_text, step_text}
use Rattle.text.specs.laws.Decimal.{decimal-few}
use Rattle.text.specs.laws.Grows.{grown_length, grown_on}
use Rattle.text.proofs.Text.push_step.Goals as goal

pub push_values-requires : goal.push_values-requires
push_values-requires c = omega (arith, grown_length c.args.self.now (word "STEP " ++ decimal c.args.run) c.push_with.ensures.text, decimal-few 2 c.args.run (omega (arith, c.requires.0)), c.requires.1)

pub returns-clause-len_bound : goal.returns-clause-len_bound
returns-clause-len_bound c =
    omega (arith, grown_length c.args.self.now (word "STEP " ++ decimal c.args.run) c.push_with.ensures.text, decimal-few 2 c.args.run (omega (arith, c.requires.0)), c.push_values.ensures.len_bound, grown_length c.push_values.new.self (word "\n") c.push_word.ensures)

pub returns-clause-text : goal.returns-clause-text
unfolding step_text
returns-clause-text c m e v =
    grown_on c.args.self.now (word "STEP " ++ decimal c.args.run) (joined value_text m.values ++ word "\n") c.push_with.ensures.text (grown_on c.push_with.new.self (joined value_text m.values) (word "\n") (c.push_values.ensures.text m.values v) c.push_word.ensures)
    ∙ (λ i. c.args.self.now ++ ((word "STEP " ++ decimal (e i)) ++ (joined value_text m.values ++ word "\n")))
