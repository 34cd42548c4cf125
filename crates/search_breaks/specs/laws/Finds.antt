-- A walk in parts: what is passed so far, and what the next part adds. Assumes nothing.
use Rattle.std.specs.Prelude.{ℕ, zero, suc, ◌+◌, ◌-◌, ◌<◌, ◌≤◌, List, [], ◌∷◌, ◌++◌, length, true, false, Err, Ok, is_ok}
use Rattle.std.proofs.Common.{arith, sym, ap, subst, ◌∙◌, append_assoc, append-nil, length-append, true≢false}
use Rattle.std.proofs.Math.Path.{◌≡◌, refl}
use Rattle.std.proofs.Math.Option.{Option, none, some, none-ne-some}
use Rattle.semantics.specs.State.{Claim}
use Rattle.semantics.specs.Scenario.{Scenario}
use Rattle.semantics.specs.Verdict.{Entry, Finding, found, nothing, cut, walked}
use Rattle.answers.specs.declared.Break.{Break}
use Rattle.answers.specs.Answers.{Walked}
use Rattle.answers.specs.declared.End.{End}
use Rattle.answers.specs.declared.End.TheVariants.{Broken, Cut}
use Rattle.search_findings.specs.Findings.{placed_later, behind_as, size_of}
use Rattle.answers.specs.Answers.{break_as, walked_as}
use Rattle.search_breaks.specs.Walk.{judged, buffer_as, Finds}
use Rattle.search_breaks.specs.laws.Walked.{later_by, continued, walked-append, nothing-within, found_within}

-- what a walk answered, the other way round
abbrev which : Walked → ℕ
which (Err (Broken b)) = 0
which (Ok m) = 1
which (Err Cut) = 2

pub answer-clean : (es : List Entry) (f : Finding) {m : ℕ} → Ok m ≡ walked_as es f → (f ≡ nothing) × (m ≡ length es)
answer-clean es (found p e c) {m} q = let z : ◌≡◌ {A = ℕ} 1 0 = ap which q in absurd (omega arith)
answer-clean es nothing {m} q = (refl, ap size_of q)
answer-clean es cut {m} q = let z : ◌≡◌ {A = ℕ} 1 2 = ap which q in absurd (omega arith)

pub answer-cut : (es : List Entry) (f : Finding) → Err Cut ≡ walked_as es f → f ≡ cut
answer-cut es (found p e c) q = let z : ◌≡◌ {A = ℕ} 2 0 = ap which q in absurd (omega arith)
answer-cut es nothing q = let z : ◌≡◌ {A = ℕ} 2 1 = ap which q in absurd (omega arith)
answer-cut es cut q = refl

abbrev break-of : Break → Walked → Break
break-of d (Err (Broken b)) = b
break-of d (Ok m) = d
break-of d (Err Cut) = d

pub answer-broken : (es : List Entry) (f : Finding) {b : Break} → Err (Broken b) ≡ walked_as es f → (p : ℕ) × (e : Entry) × (c : Claim) × (f ≡ found p e c) × (b ≡ break_as p e.0 c)
answer-broken es (found p e c) {b} q = (p, e, c, refl, ap (break-of b) q)
answer-broken es nothing q = let z : ◌≡◌ {A = ℕ} 0 1 = ap which q in absurd (omega arith)
answer-broken es cut q = let z : ◌≡◌ {A = ℕ} 0 2 = ap which q in absurd (omega arith)

-- a break's place and a count are within the budget
pub finds-size : (sc : Scenario) (left : ℕ) (es : List Entry) {before after : List ℕ} {at : ℕ} (w : Walked) → Finds sc left es before at after w → size_of w ≤ left
finds-size sc left es (Err (Broken b)) finds =
    let a = answer-broken es (walked (judged sc) left es) finds.answer in
    omega (arith, ap (λ (x : Break). x.place) a.4, (found_within (judged sc) left es a.3).0)
finds-size sc left es (Ok m) finds =
    let a = answer-clean es (walked (judged sc) left es) finds.answer in
    omega (arith, nothing-within (judged sc) left es a.0, a.1)
finds-size sc left es (Err Cut) finds = omega arith

-- the entries that were walked through so far, without a break
pub record Passed (sc : Scenario) (left : ℕ) (all rest : List Entry) (count : ℕ) : Type 0 where
  pub done : List Entry
  pub split : all ≡ done ++ rest
  pub clean : walked (judged sc) left done ≡ nothing
  pub counted : count ≡ length done

module _ (sc : Scenario) (left : ℕ) where
  pub passed_none : (all : List Entry) → Passed sc left all all 0
  unfolding walked
  passed_none all = record { done = []; split = refl; clean = refl; counted = refl }

  -- an entry by itself, if the budget is not at its end
  pub passed-one : (e : Entry) (rest : List Entry) → 0 < left → judged sc e ≡ none → Passed sc left (e ∷ rest) rest 1
  unfolding walked
  passed-one e rest l j = record { done = e ∷ []; split = refl; clean = one left l; counted = refl }
    where
      go : (o : Option Claim) → o ≡ none → ◌≡◌ {A = Finding} (elim o [ some c ↦ found 1 e c | none ↦ nothing ]) nothing
      go none q = refl
      go (some c) q = absurd (none-ne-some c (sym q))

      one : (left : ℕ) → 0 < left → walked (judged sc) left (e ∷ []) ≡ nothing
      one zero l = absurd (omega arith)
      one (suc left) l = go (judged sc e) j

  module _ (all seg rest : List Entry) (count : ℕ) (passed : Passed sc left all (seg ++ rest) count) where
    budget : left - length passed.done ≡ left - count
    budget = ap (λ (m : ℕ). left - m) (sym passed.counted)

    -- the whole list, by its next part
    whole : walked (judged sc) left all ≡ later_by count (walked (judged sc) (left - count) (seg ++ rest))
    whole =
        ap (walked (judged sc) left) passed.split ∙ walked-append (judged sc) left passed.done (seg ++ rest)
        ∙ ap (λ (f : Finding). continued (length passed.done) f (walked (judged sc) (left - length passed.done) (seg ++ rest))) passed.clean
        ∙ (λ i. later_by (sym passed.counted i) (walked (judged sc) (budget i) (seg ++ rest)))

    next : walked (judged sc) (left - count) (seg ++ rest) ≡ continued (length seg) (walked (judged sc) (left - count) seg) (walked (judged sc) (left - count - length seg) rest)
    next = walked-append (judged sc) (left - count) seg rest

    module _ {before after : List ℕ} {at : ℕ} where
      -- the next part has no break
      more : {m : ℕ} → Finds sc (left - count) seg before at after (Ok m) → Passed sc left all rest (count + m) × (after ≡ before) × (count + m ≤ left)
      more {m} finds =
          let a = answer-clean seg (walked (judged sc) (left - count) seg) finds.answer in
          let clean : walked (judged sc) left (passed.done ++ seg) ≡ nothing =
          walked-append (judged sc) left passed.done seg
          ∙ ap (λ (f : Finding). continued (length passed.done) f (walked (judged sc) (left - length passed.done) seg)) passed.clean
          ∙ ap (λ (k : ℕ). later_by (length passed.done) (walked (judged sc) k seg)) budget ∙ ap (later_by (length passed.done)) a.0 in
          let counted : count + m ≡ length (passed.done ++ seg) = (λ i. passed.counted i + a.1 i) ∙ sym (length-append passed.done seg) in (
            record { done = passed.done ++ seg; split = passed.split ∙ sym (append_assoc passed.done seg rest); clean = clean; counted = counted },
            finds.buffer ∙ ap (buffer_as before at) a.0,
            omega (arith, counted, nothing-within (judged sc) left (passed.done ++ seg) clean),
          )

      -- the budget ends in it
      cuts : Finds sc (left - count) seg before at after (Err Cut) → Finds sc left all before at after (Err Cut)
      cuts finds =
          let a = answer-cut seg (walked (judged sc) (left - count) seg) finds.answer in
          let all-cut : walked (judged sc) left all ≡ cut =
          whole ∙ ap (later_by count) (next ∙ ap (λ (f : Finding). continued (length seg) f (walked (judged sc) (left - count - length seg) rest)) a) in
          record { answer = sym (ap (walked_as all) all-cut); buffer = finds.buffer ∙ ap (buffer_as before at) a ∙ sym (ap (buffer_as before at) all-cut) }

      -- or it has the first break
      breaks : {b : Break} → Finds sc (left - count) seg before at after (Err (Broken b)) → Finds sc left all before at after (Err (Broken (placed_later b count)))
      breaks {b} finds =
          let a = answer-broken seg (walked (judged sc) (left - count) seg) finds.answer in
          let all_found : walked (judged sc) left all ≡ found (count + a.0) a.1 a.2 =
          whole ∙ ap (later_by count) (next ∙ ap (λ (f : Finding). continued (length seg) f (walked (judged sc) (left - count - length seg) rest)) a.3) in
          record {
            answer = ap (λ (x : Break). Err (Broken (placed_later x count))) a.4 ∙ sym (ap (walked_as all) all_found);
            buffer = finds.buffer ∙ ap (buffer_as before at) a.3 ∙ sym (ap (buffer_as before at) all_found);
          }

      -- so the walk goes on behind it, or what it comes to is what is found
      on : (w : Walked) → Finds sc (left - count) seg before at after w → is_ok (behind_as count w) ≡ true
          → Passed sc left all rest (size_of (behind_as count w)) × (after ≡ before) × (size_of (behind_as count w) ≤ left)
      on (Err (Broken b)) finds clean = absurd (true≢false (sym clean))
      on (Ok m) finds clean = more finds
      on (Err Cut) finds clean = absurd (true≢false (sym clean))

      stops : (w : Walked) → Finds sc (left - count) seg before at after w → is_ok (behind_as count w) ≡ false → Finds sc left all before at after (behind_as count w)
      stops (Err (Broken b)) finds clean = breaks finds
      stops (Ok m) finds clean = absurd (true≢false clean)
      stops (Err Cut) finds clean = cuts finds

      module _ {w total : Walked} (finds : Finds sc (left - count) seg before at after w) (e : total ≡ behind_as count w) where
        pub passed_on : {m : ℕ} → total ≡ Ok m → Passed sc left all rest m × (after ≡ before) × (m ≤ left)
        passed_on was =
            let is = sym e ∙ was in
            subst (λ (n : ℕ). Passed sc left all rest n × (after ≡ before) × (n ≤ left)) (ap size_of is) (on w finds (ap is_ok is))

        pub passed-stops : {x : End} → total ≡ Err x → Finds sc left all before at after (Err x)
        passed-stops was =
            let is = sym e ∙ was in
            subst (λ (f : Walked). Finds sc left all before at after f) is (stops w finds (ap is_ok is))

  -- nothing is left
  pub passed-all : {all : List Entry} {count : ℕ} → Passed sc left all [] count → (before : List ℕ) (at : ℕ) → Finds sc left all before at before (Ok count)
  passed-all {all} {count} passed before at =
      let same : all ≡ passed.done = passed.split ∙ append-nil passed.done in
      let clean : walked (judged sc) left all ≡ nothing = ap (walked (judged sc) left) same ∙ passed.clean in
      record {
        answer = ap Ok (passed.counted ∙ sym (ap length same)) ∙ sym (ap (walked_as all) clean);
        buffer = sym (ap (buffer_as before at) clean);
      }
