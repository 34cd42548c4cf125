-- Each operation's refusals have numbers of reasons. Assumes nothing.
use Rattle.std.specs.Prelude.{ℕ, ◌≤◌, ◌≡◌, List, Err}
use Rattle.std.proofs.Common.{arith, sym}
use Rattle.std.proofs.Math.Path.{subst}
use mathlib.Core.Logic.{⊎_elim}
use Rattle.semantics.specs.Answer.{Answer, accepted, refuse}
use Rattle.semantics.specs.Scenario.{opened}
use Rattle.semantics.specs.Moves.{Listing}
use Rattle.semantics.specs.Verdict.{searched_in}
use Rattle.semantics.specs.Replay.{replayed}
use Rattle.semantics.specs.Derive.{derived}
use Rattle.semantics.proofs.Theorems.{open-total, search-total, derive-total, replay-total}
use Rattle.answers.specs.declared.Refusal.{Refusal}
use Rattle.answers.specs.Answers.{number_of, Numbered, opened_as}
use Rattle.answers.specs.laws.Answers.{number-back, opened-numbered}

-- an answer that is accepted, or refused with a number from 1 to 12
accepted-known : {A : Type 0} {a : Answer A} → (x : A) → a ≡ accepted x → Numbered a
accepted-known x e = subst Numbered (sym e) tt

refused-known : {A : Type 0} {a : Answer A} → (n at : ℕ) → a ≡ refuse n at → 1 ≤ n → n ≤ 12 → Numbered a
refused-known n at e p q = subst Numbered (sym e) (number-back n p q)

pub opened-known : (file : List ℕ) → Numbered (opened file)
opened-known file = ⊎_elim (λ w. accepted-known w.0 w.1) (λ w. refused-known w.0 w.1 w.2 w.3 (omega (arith, w.4))) (open-total file)

-- so a file that Open refuses is refused with the number of the code's reason
pub opened-refuses : (file : List ℕ) {x : Refusal} → Err x ≡ opened_as file (opened file) → opened file ≡ refuse (number_of x.reason) x.place
opened-refuses file = opened-numbered file (opened file) (opened-known file)

pub searched-known : (which : Listing) (file buffer : List ℕ) → Numbered (searched_in which file buffer)
searched-known which file buffer = ⊎_elim
    (λ w. accepted-known w.0 w.1)
    (λ w. ⊎_elim (λ u. refused-known w.0 w.1 w.2 u.0 (omega (arith, u.1))) (λ u. refused-known w.0 w.1 w.2 (omega (arith, u.0)) (omega (arith, u.0))) w.3)
    (search-total which file buffer)

pub derived-known : (table list : List ℕ) (target : ℕ) → Numbered (derived table list target)
derived-known table list target = ⊎_elim
    (λ w. accepted-known w.0 w.1)
    (λ w. ⊎_elim
    (λ u. ⊎_elim (λ e. refused-known w.0 w.1 w.2 (omega (arith, e)) (omega (arith, e))) (λ e. refused-known w.0 w.1 w.2 (omega (arith, e)) (omega (arith, e))) u.0)
    (λ u. refused-known w.0 w.1 w.2 (omega (arith, u.0)) (omega (arith, u.0))) w.3)
    (derive-total table list target)

pub replayed-known : (file trace : List ℕ) → Numbered (replayed file trace)
replayed-known file trace = ⊎_elim
    (λ w. accepted-known w.0 w.1)
    (λ w. ⊎_elim (λ u. refused-known w.0 w.1 w.2 u.0 (omega (arith, u.1))) (λ u. refused-known w.0 w.1 w.2 (omega (arith, u.0)) (omega (arith, u.0))) w.3)
    (replay-total file trace)
