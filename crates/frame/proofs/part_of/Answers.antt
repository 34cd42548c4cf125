-- `frame::part_of` meets its contract: the blocks follow version and budget. Assumes nothing.
use denote.Enum.Declared.{tag_of}
use Rattle.std.specs.Prelude.{◌≡◌, refl}
use Rattle.frame.specs.contracts.BlockKind.{the_type}
use Rattle.frame.specs.declared.BlockKind.{BlockKind}
use Rattle.frame.specs.declared.BlockKind.TheVariants.{Terms, Roles, Runs, Knowledge}
use Rattle.frame.specs.Blocks.{block_number}
use Rattle.frame.specs.laws.Frame.{part-block, part-start}
use Rattle.frame.proofs.part_of.Goals as goal

-- the number of a kind in the code
number-same : (kind : BlockKind) → tag_of the_type kind ≡ block_number kind
number-same Terms = refl
number-same Roles = refl
number-same Runs = refl
number-same Knowledge = refl

pub returns : goal.returns
returns c =
    let k = tag_of the_type c.args.kind in
    rw (← number-same c.args.kind) (
      part-start c.args.file.now c.requires k c.block_from-start.ensures.0.0 c.block_from-start.ensures.0.1,
      part-block c.args.file.now k c.block_from-start.ensures.1,
    )
