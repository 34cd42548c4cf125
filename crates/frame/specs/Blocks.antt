-- The blocks of a file, by their numbers. Assumes nothing.
use Rattle.std.specs.Prelude.{ℕ}
use Rattle.frame.specs.declared.BlockKind.{BlockKind}
use Rattle.frame.specs.declared.BlockKind.TheVariants.{Terms, Roles, Runs, Knowledge}

-- the number of a block
abbrev pub block_number : BlockKind → ℕ
block_number Terms = 0
block_number Roles = 1
block_number Runs = 2
block_number Knowledge = 3
