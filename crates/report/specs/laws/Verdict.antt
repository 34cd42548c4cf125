-- The text of Search's answer is the same for every buffer that is long enough. Assumes nothing.
use Rattle.std.specs.Prelude.{ℕ, ◌≤◌, ◌≡◌, Bool, List, length}
use Rattle.std.proofs.Common.{sym, ap, ◌∙◌, le-ltb}
use Rattle.semantics.specs.Basic.{provided}
use Rattle.semantics.specs.Answer.{accepted, checked, ◌>>=◌, ◌>>◌}
use Rattle.semantics.specs.Scenario.{opened}
use Rattle.semantics.specs.Moves.{Listing}
use Rattle.semantics.specs.Verdict.{verdict, short_buffer, searched_in, buffer_in}
use Rattle.answers.specs.Answers.{Searched, searched_as}
use Rattle.answers.specs.laws.Numbers.{searched-known}
use Rattle.text.specs.Text.{verdict_text, Shown}
use Rattle.text.specs.laws.Verdict.{says}

-- of a buffer that is long enough nothing more is asked
long-enough : (which : Listing) (file buffer : List ℕ) → 128 ≤ length buffer → searched_in which file buffer ≡ ◌>>=◌ (opened file) (λ sc. accepted (verdict which sc))
unfolding searched_in short_buffer
long-enough which file buffer l = ap (λ (b : Bool). ◌>>=◌ (opened file) (λ sc. ◌>>◌ (checked 10 (provided b (length buffer))) (accepted (verdict which sc)))) (le-ltb (length buffer) 128 l)

-- so the text is the same for every two such buffers
pub same_text : (which : Listing) (file buffer other : List ℕ) → 128 ≤ length buffer → 128 ≤ length other → verdict_text (searched_in which file buffer) ≡ verdict_text (searched_in which file other)
same_text which file buffer other long l = ap verdict_text (long-enough which file buffer long ∙ sym (long-enough which file other l))

-- what Search answers and leaves
pub shown : (which : Listing) (file buffer : List ℕ) {answer : Searched} {after : List ℕ} → answer ≡ searched_as (searched_in which file buffer) → after ≡ buffer_in which file buffer → length after ≤ 128 → Shown (searched_in which file buffer) answer after
unfolding buffer_in
shown which file buffer e w l = record { is_answer = says (searched_in which file buffer) (searched-known which file buffer) e; buffer = buffer; is_written = w; small = l }
