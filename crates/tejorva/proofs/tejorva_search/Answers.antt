-- `tejorva_search` is the number of Search's answer to a file and a buffer. Assumes nothing.
use mathlib.Core.Path.{ap, ◌∙◌}
use Rattle.semantics.specs.Moves.{full}
use Rattle.packing.specs.Packing.{packed_searching, search-packed}
use Rattle.tejorva.proofs.tejorva_search.Goals as goal

pub returns : goal.returns
returns c = record {
  value = c.verdict.ensures ∙ ap packed_searching c.search_in.ensures.value ∙ search-packed full c.args.file.now c.args.trace.now;
  trace_after = c.search_in.ensures.trace_after;
}
