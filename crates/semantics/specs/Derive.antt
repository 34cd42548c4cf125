-- Derive: whether a row's term is derivable from those of listed rows, and refusal 11 (document 01, 'Operations and what stops them'). Assumes nothing.
use Rattle.std.specs.Prelude.{ℕ, suc, Bool, true, false, not, List, [], ◌∷◌, map, ltb, length}
use Rattle.std.proofs.Math.Option.{Option, none, some}
use Rattle.semantics.specs.Basic.{provided, present_ones}
use Rattle.semantics.specs.Answer.{Answer, accepted, checked, ◌>>=◌, ◌>>◌}
use Rattle.semantics.specs.Term.{Term}
use Rattle.semantics.specs.Inference.{derivable}
use Rattle.semantics.specs.Table.{Row, rows_from}
use Rattle.semantics.specs.Value.{value_of, as_atoms}

-- "11, a listed row absent, place in the list, or the target absent, place the list's length"
unfoldable pub absent_from : List Row → ℕ → List ℕ → ℕ → Option ℕ
absent_from rows at [] target = provided (not (ltb target (length rows))) at
absent_from rows at (r ∷ list) target =
    elim (ltb r (length rows)) [
      | true ↦ absent_from rows (suc at) list target
      | false ↦ some at
    ]

unfoldable pub derivable_row : List Row → List ℕ → Option Term → Bool
derivable_row rows list none = false
derivable_row rows list (some t) = derivable (present_ones (map (value_of as_atoms rows) list)) t

-- "Derive has a table, a list of rows .. and a target, role-level terms being atoms. 4 and 5 as Open, with places in the table; then 11"
unfoldable pub derived : List ℕ → List ℕ → ℕ → Answer Bool
derived table list target = do
  rows ← rows_from 0 [] table
  checked 11 (absent_from rows 0 list target)
  accepted (derivable_row rows list (value_of as_atoms rows target))
