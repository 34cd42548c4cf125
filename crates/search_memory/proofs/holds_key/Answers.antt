-- `holds_key` compares the words of a slot's key. Assumes nothing.
use Rattle.std.proofs.Common.{arith}
use Rattle.std.proofs.lemmas.Slice.Eq.{slice_eq-Decides}
use Rattle.std.proofs.lemmas.Bool.Decides.{Decides-eqb}
use Rattle.search_memory.specs.laws.Words.{part-same}
use Rattle.search_memory.proofs.holds_key.Goals as goal

pub returns : goal.returns
returns c e j l =
    let same = (slice_eq-Decides Decides-eqb _ _ _ c.eq.ensures).0 e in
    part-same c.args.memory.now c.args.key.now _ _ same j (omega (arith, l))
