-- What a program prints of a verdict. Assumes nothing.
use Rattle.std.specs.Prelude.{ℕ, ◌≤◌, ◌≡◌, ◌⊎◌, List, [], length}
use Rattle.semantics.specs.Moves.{Listing}
use Rattle.semantics.specs.Verdict.{searched_in}
use Rattle.text.specs.declared.Text.{Text}
use Rattle.text.specs.Text.{verdict_text}

-- nothing, or the verdict on some file by a list
abbrev pub Prints : Listing → Text → Type 0
Prints which t = (t ≡ []) ⊎ ((file : List ℕ) × ((buffer : List ℕ) → 128 ≤ length buffer → t ≡ verdict_text (searched_in which file buffer)))
