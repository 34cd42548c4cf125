-- Open: an accepted file's scenario, or the first refusal of 1 to 9 in 01's order (document 01, 'Operations and what stops them'). Assumes nothing.
use Rattle.std.specs.Prelude.{ℕ, List, []}
use Rattle.semantics.specs.Answer.{Answer, accepted, checked, ◌>>=◌, ◌>>◌}
use Rattle.semantics.specs.Table.{Row, rows_from}
use Rattle.semantics.specs.Frame.{Part, unversioned, too_long, misframed, budget_of, block}
use Rattle.semantics.specs.Roles.{Role, role_records, roles_present, bad_role, absent_role_from, roles_from}
use Rattle.semantics.specs.WellFormed.{ill_formed}
use Rattle.semantics.specs.Runs.{Run, run_records, bad_run, runs_from, bad_knowledge_from}

pub record Scenario : Type 0 where
  -- "how many traces of the list may be judged"
  pub budget : ℕ
  pub rows : List Row
  pub roles : List Role
  pub runs : List Run
  -- rows
  pub knowledge : List ℕ

-- the four blocks
abbrev pub term_part : List ℕ → Part
term_part file = block 0 file

abbrev pub role_part : List ℕ → Part
role_part file = block 1 file

abbrev pub run_part : List ℕ → Part
run_part file = block 2 file

abbrev pub knowledge_part : List ℕ → Part
knowledge_part file = block 3 file

-- the records of roles and runs, and how many roles are present
abbrev pub role_parts : List ℕ → List Part
role_parts file = role_records (role_part file)

abbrev pub role_count : List ℕ → ℕ
role_count file = roles_present (role_parts file)

abbrev pub run_parts : List ℕ → List Part
run_parts file = run_records (role_count file) (run_part file)

unfoldable pub scenario_of : List ℕ → List Row → Scenario
scenario_of file rows =
    record {
      budget = budget_of file;
      rows = rows;
      roles = roles_from (role_parts file);
      runs = runs_from (run_parts file);
      knowledge = (knowledge_part file).bytes;
    }

-- "Open, in this order."
unfoldable pub opened : List ℕ → Answer Scenario
opened file = do
  checked 1 (unversioned file)
  checked 2 (too_long file)
  checked 3 (misframed file)
  rows ← rows_from (term_part file).start [] (term_part file).bytes
  checked 6 (bad_role rows (role_parts file))
  checked 6 (absent_role_from (role_count file) (term_part file).start rows)
  checked 7 (ill_formed rows 0 (roles_from (role_parts file)))
  checked 8 (bad_run rows (role_count file) (run_parts file))
  checked 9 (bad_knowledge_from rows (knowledge_part file).start 0 (knowledge_part file).bytes)
  accepted (scenario_of file rows)
