-- The types of variables. Assumes nothing.
use Rattle.std.specs.Prelude.{Bool, true, false}
use Rattle.variables.specs.declared.VariableType.{VariableType}
use Rattle.variables.specs.declared.VariableType.TheVariants.{Agent, Fresh}

-- whether a variable of a type is a fresh one
abbrev pub fresh_type : VariableType → Bool
fresh_type Agent = false
fresh_type Fresh = true
