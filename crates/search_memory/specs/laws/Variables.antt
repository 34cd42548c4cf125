-- The rows of all variables of a table. Assumes nothing.
use Rattle.std.specs.Prelude.{ℕ, Bool, true, false, List, replicate}
use Rattle.std.proofs.Common.{arith}
use Rattle.std.proofs.lemmas.List.{get_or-replicate}
use Rattle.rows.specs.Rows.{Sized}
use Rattle.variables.specs.declared.found.VariableRows.{VariableRows}
use Rattle.variables.specs.Variables.{Among}
use Rattle.search_memory.specs.Memory.{Variables}

-- those among all rows are all
pub among-all : {t : List ℕ} {n : ℕ} {found : VariableRows} → Sized t n → Among t n (replicate 96 true) found → Variables t n found.rows
among-all sized a = record {
  size = a.size;
  all = λ x l k. let w = a.all x l k (get_or-replicate {A = Bool} 96 x true false (omega (arith, sized.few))) in (w.0, omega (arith, w.1, a.low.few), w.2);
  low = a.small;
}
