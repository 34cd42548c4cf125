-- `is_allowed` answers as the definitions do, by the event's kind. Assumes nothing.
use Rattle.std.proofs.Common.{sym, ap, ◌∙◌, true≢false}
use Rattle.records.specs.Kinds.{byte_of}
use Rattle.moves.specs.laws.Allowed.{claim-told, send-told, own-unmarked, peer-unmarked, read_told}
use Rattle.moves.proofs.is_allowed.Goals as goal
use Rattle.moves.proofs.is_allowed.Goals.{then-marks-e, else-marks-e}

pub returns-then-marks-e-2 : goal.returns-then-marks-e-2
returns-then-marks-e-2 c t n runs m = elim c.if-marks-e.branch [
  | then-marks-e w ↦ read_told m (ap byte_of c.in-Read.is) w.if-marks-e.true (sym w.value-is ∙ c.if-marks-e-2.true) c.cell-c.ensures.0
  | else-marks-e w ↦ absurd (true≢false (sym c.if-marks-e-2.true ∙ w.value-is ∙ w.if-marks-e.false))
]

pub returns-else-marks-e-2 : goal.returns-else-marks-e-2
returns-else-marks-e-2 c t n runs m = elim c.if-marks-e.branch [
  | then-marks-e w ↦ c.if-marks-e-2.false ∙ peer-unmarked m (ap byte_of c.in-Read.is) (sym w.value-is ∙ c.if-marks-e-2.false)
  | else-marks-e w ↦ c.if-marks-e-2.false ∙ own-unmarked m (ap byte_of c.in-Read.is) w.if-marks-e.false
]

pub returns-in-Send : goal.returns-in-Send
returns-in-Send c t n runs m = let at = c.cell-c.ensures in send-told m at.0 at.1 (ap byte_of c.in-Send.is)

pub returns-in-Claim : goal.returns-in-Claim
returns-in-Claim c t n runs m = claim-told m (ap byte_of c.in-Claim.is)
