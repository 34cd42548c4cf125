-- What a file as one value gives. Assumes nothing.
use Rattle.std.specs.Prelude.{◌≡◌}
use Rattle.semantics.specs.Answer.{accepted}
use Rattle.semantics.specs.Scenario.{Scenario, term_part, opened}
use Rattle.answers.specs.Answers.{scenario_in}
use Rattle.runs.specs.Given.{Given}
use Rattle.runs.specs.declared.opened.Opened.{Opened}

-- it gives a scenario
abbrev pub Gives : Opened → Scenario → Type 0
Gives o sc = Given o.file.now o.table.bytes.now o.table.rows o.runs sc

-- the file's own
abbrev pub scenario_of : Opened → Scenario
scenario_of o = scenario_in o.file.now

-- the file is accepted, and the value is what opening it gives
pub record IsOpened (o : Opened) : Type 0 where
  pub is_opened : opened o.file.now ≡ accepted (scenario_of o)
  pub its_table : o.table.bytes.now ≡ (term_part o.file.now).bytes
  pub given : Gives o (scenario_of o)
