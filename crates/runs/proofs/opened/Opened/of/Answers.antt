-- `Opened::of` gives what an accepted file has: its table, and where its runs stand. Assumes nothing.
use Rattle.std.proofs.Common.{◌∙◌}
use Rattle.semantics.proofs.laws.Open.{opened-guarantee}
use Rattle.runs.specs.laws.Blocks.{opened-framed}
use Rattle.runs.specs.laws.Given.{given-layout, opened-gives}
use Rattle.runs.proofs.opened.Opened.of.Goals as goal

pub part_of-requires : goal.part_of-requires
part_of-requires c = opened-framed _ _ c.requires.is_opened

pub new-table-requires : goal.new-table-requires
new-table-requires c = (given-layout _ _ c.requires.is_opened c.requires.layout c.runs_of-runs.ensures c.part_of.ensures.1).shape

pub invariant_of-result : goal.invariant_of-result
invariant_of-result c = record {
  counted = c.new-table.ensures.1.1;
  placed = ∣ (_, c.runs_of-runs.ensures, opened-guarantee _ _ c.requires.is_opened) ∣₁;
}

pub returns-clause-is_opened : goal.returns-clause-is_opened
returns-clause-is_opened c =
    let its_table = c.new-table.ensures.0 ∙ c.part_of.ensures.1 in record {
      is_opened = c.requires.is_opened;
      its_table = its_table;
      given = opened-gives c.new-table.result.shape c.requires.is_opened its_table c.runs_of-runs.ensures;
    }
