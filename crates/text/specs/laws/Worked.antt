-- Texts worked out: 01's own example, a step with new values, and the limits. Assumes nothing.
use Rattle.std.specs.Prelude.{◌≡◌, refl, [], ◌∷◌}
use Rattle.semantics.specs.Roles.{secrecy}
use Rattle.semantics.specs.Answer.{accepted}
use Rattle.semantics.specs.Moves.{Move}
use Rattle.semantics.specs.Verdict.{broken_at}
use Rattle.text.specs.Text.{word, decimal_from, decimal, step_text, broken_text, verdict_text, limits_text}

-- a step of run 1 without new values
abbrev plain : Move
plain = record { run = 1; values = [] }

-- what P1 "prints, whole"
pub example-text : verdict_text (accepted (broken_at 3 (plain ∷ plain ∷ []) (record { run = 1; event = 1; kind = secrecy }))) ≡ word "BROKEN 3 RUN 1 EVENT 1\nSTEP 1\nSTEP 1\n"
unfolding verdict_text broken_text step_text decimal decimal_from
example-text = refl

pub values-text : step_text (record { run = 2; values = record { row = 12; run = 0 } ∷ record { row = 4; run = 1 } ∷ [] }) ≡ word "STEP 2 12.0 4.1\n"
unfolding step_text decimal decimal_from
values-text = refl

-- "one a line: 96, 8, 4, 4, 8, 4096, 128"
pub limits-printed : limits_text ≡ word "96\n8\n4\n4\n8\n4096\n128\n"
unfolding limits_text decimal decimal_from
limits-printed = refl
