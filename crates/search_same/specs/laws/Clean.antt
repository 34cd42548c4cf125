-- What a memory of states needs: a walk through entries of which none breaks a claim, and that they are equally many below states with equal positions and names. Assumes nothing.
use Rattle.std.specs.Prelude.{ℕ, ◌<◌, ◌≤◌, ◌≡◌, refl, length, Err, Ok}
use Rattle.std.proofs.Common.{arith, sym, ap, ◌∙◌}
use mathlib.Core.List.{List, Memᴰ}
use Rattle.std.proofs.Math.Option.{none, none-ne-some}
use Rattle.semantics.specs.Scenario.{Scenario}
use Rattle.semantics.specs.State.{State}
use Rattle.semantics.specs.Moves.{Move}
use Rattle.semantics.specs.Verdict.{Entry, Finding, nothing, cut, walked}
use Rattle.semantics.specs.Allowed.{AllowedTrace}
use Rattle.semantics.specs.Guarantee.{Guarantee}
use Rattle.semantics.proofs.laws.List.{mem-get_elem, get_elem-below}
use Rattle.semantics.proofs.laws.Tree.{listed-first}
use Rattle.semantics.proofs.laws.Verdict as walks
use Rattle.semantics.proofs.laws.Verdict.{walked_found, walked_all, walked_cut, walked-view}
use Rattle.answers.specs.declared.End.TheVariants.{Cut}
use Rattle.search_runs.specs.Runs.{list_as}
use Rattle.search_breaks.specs.declared.Plan.{Plan}
use Rattle.answers.specs.Answers.{walked_as}
use Rattle.search_breaks.specs.Walk.{judged, buffer_as, Finds, next_in, entries_from}
use Rattle.search_breaks.specs.laws.Finds.{answer-clean}
use Rattle.semantics.specs.Same.{Each, nil, cons, Same, SameEntry}
use Rattle.state.specs.State.{Placed}
use Rattle.search_same.specs.Clean.{Clean, SamePositions, SameNames}
use Rattle.semantics.proofs.laws.Each.{each-length}
use Rattle.semantics.proofs.laws.Same.{listed_same, broken-same}
use Rattle.semantics.proofs.laws.SameKnown.{same-reached}
use Rattle.search_same.specs.laws.Names.{same_names}

module _ (sc : Scenario) (left : ℕ) (es : List Entry) where
  -- a walk that finds nothing has passed every entry
  nothing-breaks : {f : Finding} → walks.Walked (judged sc) left es f → f ≡ nothing → (e : Entry) → Memᴰ e es → judged sc e ≡ none
  nothing-breaks (walked_found i l a j before) q e m = let z : ◌≡◌ {A = ℕ} 0 1 = cc in absurd (omega arith)
  nothing-breaks (walked_all l all) q e m = let w = (mem-get_elem es).0 m in all w.0 e w.1
  nothing-breaks (walked_cut l before) q e m = let z : ◌≡◌ {A = ℕ} 0 1 = cc in absurd (omega arith)

  -- where no entry breaks a claim, a walk finds nothing if the budget is enough
  unbroken-nothing : ((e : Entry) → Memᴰ e es → judged sc e ≡ none) → length es ≤ left → {f : Finding} → walks.Walked (judged sc) left es f → f ≡ nothing
  unbroken-nothing clean l (walked_found {e} {c} i b a j before) = absurd (none-ne-some c (sym (clean e ((mem-get_elem es).1 (i, a))) ∙ j))
  unbroken-nothing clean l (walked_all b all) = refl
  unbroken-nothing clean l (walked_cut b before) = absurd (omega arith)

  -- and ends before the end if it is not
  unbroken-cut : ((e : Entry) → Memᴰ e es → judged sc e ≡ none) → left < length es → {f : Finding} → walks.Walked (judged sc) left es f → f ≡ cut
  unbroken-cut clean l (walked_found {e} {c} i b a j before) = absurd (none-ne-some c (sym (clean e ((mem-get_elem es).1 (i, a))) ∙ j))
  unbroken-cut clean l (walked_all b all) = absurd (omega arith)
  unbroken-cut clean l (walked_cut b before) = refl

-- A walk that answers that so many entries break no claim is right.
pub clean_found : {sc : Scenario} {left : ℕ} {es : List Entry} {before after : List ℕ} {at m : ℕ} → Finds sc left es before at after (Ok m) → Clean sc es m
clean_found {sc} {left} {es} finds =
    let a = answer-clean es (walked (judged sc) left es) finds.answer in
    record { unbroken = nothing-breaks sc left es (walked-view (judged sc) left es) a.0; counted = sym a.1 }

-- A list has the trace of its own state first, so there is one.
pub clean-some : {sc : Scenario} (plan : Plan) (depth : ℕ) (d : State) {m : ℕ} → Clean sc (entries_from plan depth sc d) m → 1 ≤ m
clean-some {sc} plan depth d clean = omega (arith, get_elem-below (entries_from plan depth sc d) 0 (listed-first (next_in plan sc) depth d), clean.counted)

-- A walk through such entries answers how many they are, if the budget is enough.
pub clean-finds : {sc : Scenario} {left : ℕ} {es : List Entry} {m : ℕ} → Clean sc es m → m ≤ left → (before : List ℕ) (at : ℕ) → Finds sc left es before at before (Ok m)
clean-finds {sc} {left} {es} clean l before at =
    let all : walked (judged sc) left es ≡ nothing = unbroken-nothing sc left es clean.unbroken (omega (arith, clean.counted)) (walked-view (judged sc) left es) in
    record { answer = ap Ok (sym clean.counted) ∙ sym (ap (walked_as es) all); buffer = sym (ap (buffer_as before at) all) }

-- If it is not, the walk ends before the end.
pub clean-cuts : {sc : Scenario} {left : ℕ} {es : List Entry} {m : ℕ} → Clean sc es m → left < m → (before : List ℕ) (at : ℕ) → Finds sc left es before at before (Err Cut)
clean-cuts {sc} {left} {es} clean l before at =
    let ends : walked (judged sc) left es ≡ cut = unbroken-cut sc left es clean.unbroken (omega (arith, clean.counted)) (walked-view (judged sc) left es) in
    record { answer = sym (ap (walked_as es) ends); buffer = sym (ap (buffer_as before at) ends) }

module _ {sc : Scenario} (g : Guarantee sc) where
  -- the entries below equal states are the same in each place
  entries-same : (plan : Plan) (depth : ℕ) (d d' : State) → Same sc.rows d d' → Each (SameEntry sc.rows) (entries_from plan depth sc d) (entries_from plan depth sc d')
  unfolding next_in
  entries-same plan depth d d' same = listed_same sc g.table (list_as plan.list) depth d d' same

  -- entries that are the same in each place break claims alike
  unbroken-same : {es es' : List Entry} → Each (SameEntry sc.rows) es es' → ((e : Entry) → Memᴰ e es → judged sc e ≡ none) → (e : Entry) → Memᴰ e es' → judged sc e ≡ none
  unbroken-same nil h e m = elim m [ ]
  unbroken-same (cons r rs) h e (Memᴰ.head q) = ap (judged sc) q ∙ sym (broken-same sc g.table r.1) ∙ h _ (Memᴰ.head refl)
  unbroken-same (cons r rs) h e (Memᴰ.tail m) = unbroken-same rs (λ x n. h x (Memᴰ.tail n)) e m

  -- Below reached states with equal positions and names are equally many entries that break no claim.
  pub clean-same : {ms ms' : List Move} {d d' : State} {done done' names names' : List ℕ} → AllowedTrace sc ms d → AllowedTrace sc ms' d' → Placed sc d done names → Placed sc d' done' names'
      → SamePositions sc done done' → SameNames sc names names' → (plan : Plan) (depth : ℕ) {m : ℕ} → Clean sc (entries_from plan depth sc d) m → Clean sc (entries_from plan depth sc d') m
  clean-same {d = d} {d' = d'} t t' placed placed' positions names plan depth clean =
      let same = entries-same plan depth d d' (same-reached g t t' (same_names g placed placed' positions names)) in
      record { unbroken = unbroken-same same clean.unbroken; counted = sym (each-length same) ∙ clean.counted }
