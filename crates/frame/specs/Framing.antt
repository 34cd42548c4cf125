-- The check of a file's frame, as the code goes through it. Assumes nothing.
use Rattle.std.specs.Prelude.{ℕ, ◌≤◌, ◌≡◌, true, List, length, drop}
use Rattle.semantics.specs.Answer.{Answer, checked, ◌>>◌}
use Rattle.semantics.specs.Frame.{framed, unversioned, too_long, misframed}

-- refusals 1 to 3, in order
abbrev pub framing_of : List ℕ → Answer (Unit {0})
framing_of file = ◌>>◌ (checked 1 (unversioned file)) (◌>>◌ (checked 2 (too_long file)) (checked 3 (misframed file)))

-- a file whose frame is not refused
pub record IsFramed (file : List ℕ) : Type 0 where
  pub few : length file ≤ 4096
  pub size : 5 ≤ length file
  pub blocks : framed 4 (drop 5 file) ≡ true
