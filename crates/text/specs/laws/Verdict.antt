-- The verdict's text by Search's answer. Assumes nothing.
use Rattle.std.specs.Prelude.{Err, Ok, ℕ, ◌≤◌, ◌≡◌, refl, List, ◌++◌, length, take, drop}
use Rattle.std.proofs.Common.{arith, sym, ap, ◌∙◌, length-append, length-take, take_at}
use Rattle.semantics.specs.Answer.{Answer, refused, accepted}
use Rattle.semantics.specs.Moves.{Move}
use Rattle.semantics.specs.Verdict.{Verdict, broken_at, held, stopped, trace_bytes, written}
use Rattle.answers.specs.declared.Break.{Break}
use Rattle.answers.specs.Answers.{Numbered, number_of, Searched, break_as, searched_as}
use Rattle.answers.specs.declared.Refusal.{Refusal}
use Rattle.answers.specs.declared.Verdict.TheVariants.{Broken, Held, Stopped}
use Rattle.text.specs.Text.{word, line_text, refused_text, broken_text, verdict_text, Says}

-- what the code answers says what the definitions answer, if the number of a refusal is a reason's
says-own : (a : Answer Verdict) → Numbered a → Says (searched_as a) a
says-own (refused r) known = (known, refl)
says-own (accepted v) known = refl

pub says : (a : Answer Verdict) → Numbered a → {answer : Searched} → answer ≡ searched_as a → Says answer a
says a known e = rw e (says-own a known)

-- what an answer of the code says of a text; nothing if it is a break, whose trace it does not hold
abbrev Tells : Searched → List ℕ → Type 0
Tells (Err r) text = refused_text (number_of r.reason) r.place ≡ text
Tells (Ok (Broken b)) text = Unit {0}
Tells (Ok (Held n)) text = word "HELD " ++ line_text n ≡ text
Tells (Ok (Stopped n)) text = word "STOPPED " ++ line_text n ≡ text

-- it tells the text of the answer that it says
told : (answer : Searched) (a : Answer Verdict) → Says answer a → Tells answer (verdict_text a)
unfolding verdict_text
told (Err r) (refused n) (number, place) = λ i. refused_text (number i) (place i)
told (Err r) (accepted v) s = absurd s
told (Ok w) (refused n) e = let z : ◌≡◌ {A = ℕ} 0 1 = cc in absurd (omega arith)
told (Ok w) (accepted (broken_at p ms c)) e = let same : w ≡ Broken (break_as p ms c) = cc in rw same tt
told (Ok w) (accepted (held n)) e = let same : w ≡ Held n = cc in rw same refl
told (Ok w) (accepted (stopped n)) e = let same : w ≡ Stopped n = cc in rw same refl

module _ (a : Answer Verdict) where
  pub text-refused : (x : Refusal) → Says (Err x) a → refused_text (number_of x.reason) x.place ≡ verdict_text a
  text-refused x s = told (Err x) a s

  pub text-held : {m : ℕ} → Ok (Held m) ≡ searched_as a → word "HELD " ++ line_text m ≡ verdict_text a
  text-held {m} e = told (Ok (Held m)) a e

  pub text-stopped : {m : ℕ} → Ok (Stopped m) ≡ searched_as a → word "STOPPED " ++ line_text m ≡ verdict_text a
  text-stopped {m} e = told (Ok (Stopped m)) a e

-- a break whose trace stands at the buffer's front
pub record BreakText (a : Answer Verdict) (b : Break) (after : List ℕ) : Type 0 where
  pub moves : List Move
  pub fits : b.length ≤ length after
  pub short : length (take b.length after) ≤ length after
  pub trace : take b.length after ≡ trace_bytes moves
  pub text : broken_text b.place b.claim.run b.claim.event moves ≡ verdict_text a

pub text-broken : (a : Answer Verdict) (buffer : List ℕ) {b : Break} {after : List ℕ} → Ok (Broken b) ≡ searched_as a → after ≡ written buffer a → BreakText a b after
unfolding verdict_text
text-broken (refused r) buffer e w = let z : ◌≡◌ {A = ℕ} 0 1 = cc in absurd (omega arith)
text-broken (accepted (held n)) buffer e w = let z : ◌≡◌ {A = ℕ} 0 1 = cc in absurd (omega arith)
text-broken (accepted (stopped n)) buffer e w = let z : ◌≡◌ {A = ℕ} 0 1 = cc in absurd (omega arith)
text-broken (accepted (broken_at p ms c)) buffer {b} {after} e w =
    let whole : b ≡ break_as p ms c = cc in
    let place : b.place ≡ p = cc in
    let run : b.claim.run ≡ c.run = ap (λ (x : Break). x.claim.run) whole in
    let event : b.claim.event ≡ c.event = ap (λ (x : Break). x.claim.event) whole in
    let size : b.length ≡ length (trace_bytes ms) = cc in
    record {
      moves = ms;
      fits = omega (arith, size, ap length w, length-append (trace_bytes ms) (drop (length (trace_bytes ms)) buffer));
      short = omega (arith, length-take b.length after);
      trace = ap (take b.length) w ∙ take_at (trace_bytes ms) (drop (length (trace_bytes ms)) buffer) b.length (sym size);
      text = (λ i. broken_text (place i) (run i) (event i) ms);
    }
