-- The limits of document 01, each named once: rows, variables, roles, runs, events of a role, file bytes and trace bytes. Assumes nothing.
use Rattle.std.specs.Prelude.{ℕ}

-- "A table has 0 to 96 rows"
abbrev pub most_rows : ℕ
most_rows = 96

-- "A table has at most 8 variables."
abbrev pub most_variables : ℕ
most_variables = 8

-- "Roles, 0 to 4"
abbrev pub most_roles : ℕ
most_roles = 4

-- "Runs, 0 to 4"
abbrev pub most_runs : ℕ
most_runs = 4

-- "0 to 8 events"
abbrev pub most_events : ℕ
most_events = 8

-- "longer than 4,096 bytes"
abbrev pub most_file_bytes : ℕ
most_file_bytes = 4096

-- "It needs at most 128 bytes."
abbrev pub most_trace_bytes : ℕ
most_trace_bytes = 128
