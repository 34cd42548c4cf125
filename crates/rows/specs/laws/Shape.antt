-- The bytes of a table, whatever the runs. Assumes nothing.
use Rattle.std.specs.Prelude.{ℕ, List}
use Rattle.std.proofs.Common.{arith}
use Rattle.rows.specs.Rows.{Sized, Shape}

pub shape-sized : {bytes : List ℕ} {n runs : ℕ} → Shape bytes n runs → Sized bytes n
shape-sized s = record { table = s.table; count = s.count; size = s.size; few = s.few; few_runs = omega arith }
