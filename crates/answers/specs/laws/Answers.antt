-- What a refusal of the code says of the definitions' answer, and the verdict by what a walk found. Assumes nothing.
use Rattle.std.specs.Prelude.{ℕ, zero, suc, ◌≤◌, ◌≡◌, refl, List, length, Err, Ok}
use Rattle.std.proofs.Common.{arith, sym, ◌∙◌}
use Rattle.std.proofs.Math.Path.{ap}
use Rattle.semantics.specs.Answer as definitions
use Rattle.semantics.specs.Answer.{Answer, refused, accepted, refuse}
use Rattle.semantics.specs.Scenario.{Scenario, opened}
use Rattle.semantics.specs.Verdict.{Entry, Finding, found, nothing, cut, verdict_from}
use Rattle.answers.specs.declared.Refusal.{Refusal}
use Rattle.answers.specs.declared.Layout.{Layout}
use Rattle.answers.specs.Answers.{number_of, reason_of, refusal_as, Numbered, layout_of, opened_as, scenario_or, scenario_in, Accepts, verdict_as, Walked, walked_as, answered}

-- what a walk through the whole list finds is answered with the verdict
pub answer-found : (es : List Entry) (budget : ℕ) (f : Finding) {w : Walked} → w ≡ walked_as es f → answered budget w ≡ verdict_as (verdict_from (length es) budget f)
answer-found es budget f e = ap (answered budget) e ∙ go f
  where
    go : (f : Finding) → answered budget (walked_as es f) ≡ verdict_as (verdict_from (length es) budget f)
    go (found p e c) = refl
    go nothing = refl
    go cut = refl

-- a file that Open refuses: the definition's refusal is the code's
pub opened-refused : (file : List ℕ) (a : Answer Scenario) {x : Refusal} → Err x ≡ opened_as file a → (r : definitions.Refusal) × (a ≡ refused r) × (x ≡ refusal_as r)
opened-refused file (refused r) {x} e = (r, refl, cc)
opened-refused file (accepted sc) e = let z : ◌≡◌ {A = ℕ} 0 1 = cc in absurd (omega arith)

-- where its number is a reason's, it is that of the code's reason
pub opened-numbered : (file : List ℕ) (a : Answer Scenario) {x : Refusal} → Numbered a → Err x ≡ opened_as file a → a ≡ refuse (number_of x.reason) x.place
opened-numbered file (refused r) {x} known e = let same : x ≡ refusal_as r = cc in rw same (ap (λ n. refuse n r.place) (sym known))
opened-numbered file (accepted sc) known e = let z : ◌≡◌ {A = ℕ} 0 1 = cc in absurd (omega arith)

-- a file that Open accepts
pub opened-accepts : (file : List ℕ) {l : Layout} → Ok l ≡ opened_as file (opened file) → Accepts file l
unfolding scenario_in
opened-accepts file {l} e = go (opened file) refl e
  where
    go : (a : Answer Scenario) → opened file ≡ a → Ok l ≡ opened_as file a → Accepts file l
    go (refused r) o q = let z : ◌≡◌ {A = ℕ} 0 1 = cc in absurd (omega arith)
    go (accepted sc) o q = let same : scenario_or (opened file) ≡ sc = ap scenario_or o in
        record { is_opened = o ∙ ap accepted (sym same); layout = let l' : l ≡ layout_of file sc = cc in l' ∙ ap (layout_of file) (sym same) }

-- a number from 1 to 12 is that of its reason
pub number-back : (n : ℕ) → 1 ≤ n → n ≤ 12 → number_of (reason_of n) ≡ n
number-back zero p q = absurd (omega arith)
number-back (suc zero) p q = refl
number-back (suc (suc zero)) p q = refl
number-back (suc (suc (suc zero))) p q = refl
number-back (suc (suc (suc (suc zero)))) p q = refl
number-back (suc (suc (suc (suc (suc zero))))) p q = refl
number-back (suc (suc (suc (suc (suc (suc zero)))))) p q = refl
number-back (suc (suc (suc (suc (suc (suc (suc zero))))))) p q = refl
number-back (suc (suc (suc (suc (suc (suc (suc (suc zero)))))))) p q = refl
number-back (suc (suc (suc (suc (suc (suc (suc (suc (suc zero))))))))) p q = refl
number-back (suc (suc (suc (suc (suc (suc (suc (suc (suc (suc zero)))))))))) p q = refl
number-back (suc (suc (suc (suc (suc (suc (suc (suc (suc (suc (suc zero))))))))))) p q = refl
number-back (suc (suc (suc (suc (suc (suc (suc (suc (suc (suc (suc (suc zero)))))))))))) p q = refl
number-back (suc (suc (suc (suc (suc (suc (suc (suc (suc (suc (suc (suc (suc n))))))))))))) p q = absurd (omega arith)
