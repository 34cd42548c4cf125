-- Open's conditions from refusal 6 on, as the code goes through them. Assumes nothing.
use Rattle.std.specs.Prelude.{ℕ, ◌≡◌, List, [], ◌∷◌}
use Rattle.std.proofs.Math.Option.{Option, none}
use Rattle.semantics.specs.Basic.{first_of}
use Rattle.semantics.specs.Answer.{Answer, accepted, checked, ◌>>◌}
use Rattle.semantics.specs.Table.{Row}
use Rattle.semantics.specs.Roles.{bad_role, absent_role_from, roles_from}
use Rattle.semantics.specs.WellFormed.{ill_formed}
use Rattle.semantics.specs.Runs.{bad_run, bad_knowledge_from}
use Rattle.semantics.specs.Scenario.{Scenario, term_part, knowledge_part, role_parts, role_count, run_parts, scenario_of}
use Rattle.rows.specs.Rows.{rows_of}

-- no role record of a file is refused
abbrev pub GoodRoles : List ℕ → Type 0
GoodRoles file = bad_role (rows_of (term_part file).bytes) (role_parts file) ≡ none

-- refusal 6 of a file with given rows: a record, or after all records a row that names an absent role
unfoldable pub roles_refusal : List ℕ → List Row → Option ℕ
roles_refusal file rows = first_of (bad_role rows (role_parts file) ∷ absent_role_from (role_count file) (term_part file).start rows ∷ [])

-- refusals 8 and 9, and the scenario
unfoldable pub judged_runs : List ℕ → List Row → Answer Scenario
judged_runs file rows = do
  checked 8 (bad_run rows (role_count file) (run_parts file))
  checked 9 (bad_knowledge_from rows (knowledge_part file).start 0 (knowledge_part file).bytes)
  accepted (scenario_of file rows)

-- refusals 6 to 9, and the scenario
unfoldable pub judged_rows : List ℕ → List Row → Answer Scenario
judged_rows file rows = do
  checked 6 (roles_refusal file rows)
  checked 7 (ill_formed rows 0 (roles_from (role_parts file)))
  judged_runs file rows
