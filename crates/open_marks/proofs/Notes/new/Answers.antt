-- `new` gives notes in which nothing is kept. Assumes nothing.
use Rattle.std.specs.Prelude.{Option, None}
use Rattle.std.proofs.lemmas.List.{get_or-replicate}
use Rattle.open_marks.specs.declared.Kept.{Kept}
use Rattle.open_marks.proofs.Notes.new.Goals as goal

pub returns : goal.returns
returns c = λ slot l. get_or-replicate {A = Option Kept} 128 slot None None l
