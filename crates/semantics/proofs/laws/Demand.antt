-- Demand 3 for the verdict by any list: BROKEN, HELD and STOPPED each exactly as demanded. Assumes nothing.
use Rattle.std.specs.Prelude.{ℕ, zero, suc, ◌≤◌, ◌<◌, ◌≡◌, refl, ◌↔◌, ◌⊎◌, length}
use Rattle.std.proofs.Common.{arith, sym, ◌∙◌, ap, inl, inr}
use mathlib.Core.List.{List}
use Rattle.std.proofs.Math.Option.{none, some, some-injective, none-ne-some}
use Rattle.std.proofs.Math.ListN.{get_elem?}
use Rattle.semantics.specs.Scenario.{Scenario}
use Rattle.semantics.specs.State.{State, Claim}
use Rattle.semantics.specs.Moves.{Move, Listing}
use Rattle.semantics.specs.Verdict.{Entry, trace_list, broken, Finding, walked, Verdict, broken_at, held, stopped, verdict_from, verdict}
use Rattle.semantics.specs.Allowed.{Breaks}
use Rattle.semantics.specs.Demand.{entry_at, SomeBreak, FirstBreak, NoBreak}
use Rattle.semantics.proofs.laws.List.{mem-get_elem, get_elem-below}
use Rattle.semantics.proofs.laws.Traces.{traces-exact}
use Rattle.semantics.proofs.laws.Broken.{names-one, broken-named, broken-none}
use Rattle.semantics.proofs.laws.Verdict.{Walked, walked_found, walked_all, walked_cut, walked-view}

module _ (which : Listing) (sc : Scenario) where
  -- no trace up to a place breaks a claim
  abbrev Unbroken : ℕ → Type 0
  Unbroken n = (i : ℕ) (e : Entry) → i < n → get_elem? (trace_list which sc) i ≡ some e → (c : Claim) → Breaks sc e.1 c → ⊥

  -- the three verdicts, each with what it says
  data Judged : Verdict → Type 0 where
    judged_broken : {place : ℕ} {trace : List Move} {claim : Claim} → FirstBreak which sc place trace claim → Judged (broken_at place trace claim)
    judged_held : {n : ℕ} → length (trace_list which sc) ≤ sc.budget → Unbroken (length (trace_list which sc)) → n ≡ length (trace_list which sc) → Judged (held n)
    judged_stopped : {n : ℕ} → sc.budget < length (trace_list which sc) → Unbroken sc.budget → n ≡ sc.budget → Judged (stopped n)

  none-unbroken : (e : Entry) → broken sc e.1 ≡ none → (c : Claim) → Breaks sc e.1 c → ⊥
  none-unbroken e = (broken-none sc e.1).0

  first-place : (i : ℕ) → Unbroken i → (place : ℕ) (ms : List Move) (s : State) (c : Claim) → entry_at which sc place ≡ some (ms, s) → Breaks sc s c → suc i ≤ place
  first-place i before zero ms s c e b = absurd (none-ne-some (ms, s) e)
  first-place i before (suc j) ms s c e b = not-before (λ l. before j (ms, s) l e c b)
    where
      not-before : (j < i → ⊥) → suc i ≤ suc j
      not-before n = omega arith

  judged : (f : Finding) → Walked (λ e. broken sc e.1) sc.budget (trace_list which sc) f → Judged (verdict_from (length (trace_list which sc)) sc.budget f)
  judged f (walked_found {e = e} {c = c} i l at b before) =
      judged_broken
      (record {
        end = e.1;
        listed = at;
        in_budget = l;
        names = (broken-named sc e.1 c).0 b;
        first = first-place i (λ j g m at'. none-unbroken g (before j g m at'));
      })
  judged f (walked_all l all) = judged_held l (λ i e m at. none-unbroken e (all i e at)) refl
  judged f (walked_cut l all) = judged_stopped l (λ i e m at. none-unbroken e (all i e m at)) refl

  verdict-view : Judged (verdict which sc)
  unfolding verdict
  verdict-view =
      judged (walked (λ e. broken sc e.1) sc.budget (trace_list which sc))
      (walked-view (λ e. broken sc e.1) sc.budget (trace_list which sc))

  -- a first break is a break
  some-break : (place : ℕ) (ms : List Move) (c : Claim) → FirstBreak which sc place ms c → SomeBreak which sc
  some-break zero ms c f = absurd (none-ne-some (ms, f.end) f.listed)
  some-break (suc i) ms c f =
      record {
        place = suc i;
        trace = ms;
        end = f.end;
        claim = c;
        allowed = (traces-exact which sc ms f.end).0 ((mem-get_elem (trace_list which sc)).1 (i, f.listed));
        listed = f.listed;
        in_budget = f.in_budget;
        broken = f.names.is_broken;
      }

  unbroken-no-break : Unbroken (length (trace_list which sc)) → NoBreak which sc
  unbroken-no-break all ms s a c b =
      let w = (mem-get_elem (trace_list which sc)).0 ((traces-exact which sc ms s).1 a) in
      all w.0 (ms, s) (get_elem-below (trace_list which sc) w.0 w.1) w.1 c b

  pub no-break-none : NoBreak which sc → SomeBreak which sc → ⊥
  no-break-none all b = all b.trace b.end b.allowed b.claim b.broken

  some-not-unbroken : SomeBreak which sc → Unbroken sc.budget → ⊥
  some-not-unbroken b all = go b.place b.listed b.in_budget
    where
      go : (place : ℕ) → entry_at which sc place ≡ some (b.trace, b.end) → place ≤ sc.budget → ⊥
      go zero e l = none-ne-some (b.trace, b.end) e
      go (suc i) e l = all i (b.trace, b.end) l e b.claim b.broken

  -- where the budget reaches the list's end there is a break or none
  pub ends : length (trace_list which sc) ≤ sc.budget → SomeBreak which sc ⊎ NoBreak which sc
  ends enough = go (verdict which sc) verdict-view
    where
      go : (v : Verdict) → Judged v → SomeBreak which sc ⊎ NoBreak which sc
      go v (judged_broken {place = place} {trace = ms} {claim = c} f) = inl (some-break place ms c f)
      go v (judged_held l all q) = inr (unbroken-no-break all)
      go v (judged_stopped l all q) = absurd (omega arith)

  -- two first breaks are at one place, with one trace and one claim
  first_one : {place place' : ℕ} {ms ms' : List Move} {c c' : Claim} → FirstBreak which sc place ms c → FirstBreak which sc place' ms' c' → broken_at place ms c ≡ broken_at place' ms' c'
  first_one {place} {place'} {ms} {ms'} {c} {c'} f g =
      let pp : place ≡ place' = omega (arith, f.first place' ms' g.end c' g.listed g.names.is_broken, g.first place ms f.end c f.listed f.names.is_broken) in
      let ee : ◌≡◌ {A = Entry} (ms, f.end) (ms', g.end) = some-injective (ms, f.end) (ms', g.end) (sym f.listed ∙ ap (entry_at which sc) pp ∙ g.listed) in
      let mm : ms ≡ ms' = ap (λ (e : Entry). e.0) ee in
      let ss : f.end ≡ g.end = ap (λ (e : Entry). e.1) ee in
      let cs : c ≡ c' = names-one sc g.end c c' (rw ss at f.names) g.names in
      λ i. broken_at (pp i) (mm i) (cs i)

  -- BROKEN exactly as demanded
  pub verdict-broken : (place : ℕ) (ms : List Move) (c : Claim) → (verdict which sc ≡ broken_at place ms c) ↔ FirstBreak which sc place ms c
  verdict-broken place ms c = (λ e. is-first (rw e at verdict-view), λ f. go (verdict which sc) verdict-view f)
    where
      is-first : Judged (broken_at place ms c) → FirstBreak which sc place ms c
      is-first (judged_broken f) = f

      go : (v : Verdict) → Judged v → FirstBreak which sc place ms c → v ≡ broken_at place ms c
      go v (judged_broken g) f = first_one g f
      go v (judged_held l all q) f = absurd (no-break-none (unbroken-no-break all) (some-break place ms c f))
      go v (judged_stopped l all q) f = absurd (some-not-unbroken (some-break place ms c f) all)

  pub verdict-breaks : ((place : ℕ) × (ms : List Move) × (c : Claim) × (verdict which sc ≡ broken_at place ms c)) ↔ SomeBreak which sc
  verdict-breaks = (λ w. some-break w.0 w.1 w.2 ((verdict-broken w.0 w.1 w.2).0 w.3), λ b. go (verdict which sc) refl verdict-view b)
    where
      go : (v : Verdict) → verdict which sc ≡ v → Judged v → SomeBreak which sc → (place : ℕ) × (ms : List Move) × (c : Claim) × (verdict which sc ≡ broken_at place ms c)
      go v e (judged_broken {place = place} {trace = ms} {claim = c} f) b = (place, ms, c, e)
      go v e (judged_held l all q) b = absurd (no-break-none (unbroken-no-break all) b)
      go v e (judged_stopped l all q) b = absurd (some-not-unbroken b all)

  -- HELD exactly as demanded
  pub verdict-held : (n : ℕ) → (verdict which sc ≡ held n) ↔ (NoBreak which sc × (length (trace_list which sc) ≤ sc.budget) × (n ≡ length (trace_list which sc)))
  verdict-held n = (λ e. is_held (rw e at verdict-view), λ w. go (verdict which sc) verdict-view w.0 w.1 ∙ ap held (sym w.2))
    where
      is_held : Judged (held n) → NoBreak which sc × (length (trace_list which sc) ≤ sc.budget) × (n ≡ length (trace_list which sc))
      is_held (judged_held l all q) = (unbroken-no-break all, l, q)

      go : (v : Verdict) → Judged v → NoBreak which sc → length (trace_list which sc) ≤ sc.budget → v ≡ held (length (trace_list which sc))
      go v (judged_broken {place = place} {trace = ms} {claim = c} f) no-break l =
          absurd (no-break-none no-break (some-break place ms c f))
      go v (judged_held l' all q) no-break l = ap held q
      go v (judged_stopped l' all q) no-break l = absurd (omega arith)

  -- STOPPED in all other cases
  pub verdict-stopped :
      (n : ℕ) → (verdict which sc ≡ stopped n) ↔ ((n ≡ sc.budget) × (SomeBreak which sc → ⊥) × (NoBreak which sc × (length (trace_list which sc) ≤ sc.budget) → ⊥))
  verdict-stopped n = (λ e. is-stopped (rw e at verdict-view), λ w. go (verdict which sc) verdict-view w.1 w.2 ∙ ap stopped (sym w.0))
    where
      is-stopped : Judged (stopped n) → (n ≡ sc.budget) × (SomeBreak which sc → ⊥) × (NoBreak which sc × (length (trace_list which sc) ≤ sc.budget) → ⊥)
      is-stopped (judged_stopped l all q) = (q, λ b. some-not-unbroken b all, λ w. let l' = w.1 in omega arith)

      go : (v : Verdict) → Judged v → (SomeBreak which sc → ⊥) → (NoBreak which sc × (length (trace_list which sc) ≤ sc.budget) → ⊥) → v ≡ stopped sc.budget
      go v (judged_broken {place = place} {trace = ms} {claim = c} f) no-some no-held = absurd (no-some (some-break place ms c f))
      go v (judged_held l all q) no-some no-held = absurd (no-held (unbroken-no-break all, l))
      go v (judged_stopped l all q) no-some no-held = ap stopped q
