-- The walk from a state: its own trace, then those that go on with each run in order. Assumes nothing.
use Rattle.std.specs.Prelude.{ℕ, zero, suc, ◌+◌, ◌-◌, ◌<◌, ◌≤◌, ◌≡◌, true, List, [], ◌∷◌, ◌++◌, Err, Ok, is_ok}
use Rattle.std.proofs.Common.{add-one, arith, sym, ap, ◌∙◌, subst, true≢false}
use Rattle.std.proofs.Math.Path.{refl}
use Rattle.std.proofs.Math.Option.{Option, none, some, some-injective, none-ne-some}
use Rattle.semantics.specs.Scenario.{Scenario}
use Rattle.semantics.specs.State.{State}
use Rattle.semantics.specs.Basic.{numbers_from}
use Rattle.semantics.specs.Moves.{Move, runs_in}
use Rattle.semantics.specs.Tree.{listed}
use Rattle.semantics.specs.Verdict.{Entry, Finding, found, later, walked, broken, trace_bytes}
use Rattle.semantics.specs.State as states
use Rattle.semantics.proofs.laws.Tree.{listed-zero, listed_suc}
use Rattle.answers.specs.Answers.{Claimed, claimed_as, Walked, walked_as}
use Rattle.answers.specs.declared.End.{End}
use Rattle.answers.specs.declared.End.TheVariants.{Cut}
use Rattle.search_findings.specs.Findings.{own_as, size_of}
use Rattle.search_runs.specs.Runs.{list_as, Standing}
use Rattle.state.specs.declared.State.{State as CodeState}
use Rattle.search_breaks.specs.declared.Plan.{Plan}
use Rattle.search_breaks.specs.Walk.{judged, buffer_as, Finds, next_in, entries_from, below, of_run, SomeState}
use Rattle.search_breaks.specs.laws.Entries.{entries-of, runs_from, runs-all, runs-next, runs-end}
use Rattle.search_breaks.specs.laws.Finds.{Passed, passed-one, passed-all}
use Rattle.search_breaks.specs.laws.Bytes.{over_none}

-- no entries
pub finds-nil : (sc : Scenario) (left : ℕ) {es : List Entry} → es ≡ [] → (b : List ℕ) (at : ℕ) → Finds sc left es b at b (Ok 0)
unfolding walked
finds-nil sc left e b at = rw e (record { answer = refl; buffer = refl })

-- equal entries
pub finds-same : (sc : Scenario) (left : ℕ) {es es' : List Entry} {b b' : List ℕ} {at : ℕ} {w : Walked} → es ≡ es' → Finds sc left es' b at b' w → Finds sc left es b at b' w
finds-same sc left e finds = rw e finds

-- the first entry is judged first
by-judge : (sc : Scenario) (left : ℕ) (d : State) (rest : List Entry) {c : states.Claim} → broken sc d ≡ some c → walked (judged sc) (suc left) (([], d) ∷ rest) ≡ found 1 ([], d) c
unfolding walked
by-judge sc left d rest {c} e = go (broken sc d) e
  where
    go : (o : Option states.Claim) → o ≡ some c → ◌≡◌ {A = Finding} (elim o [ some c' ↦ found 1 ([], d) c' | none ↦ later (walked (judged sc) left rest) ]) (found 1 ([], d) c)
    go none q = absurd (none-ne-some c q)
    go (some c') q = ap (found 1 ([], d)) (some-injective c' c q)

module _ (next : State → List (Move × State)) (sc : Scenario) (left : ℕ) (d : State) (b : List ℕ) (at : ℕ) where
  -- every list has the state's own trace first
  first : (depth : ℕ) → (rest : List Entry) × (listed next depth d ≡ ([], d) ∷ rest)
  first zero = ([], listed-zero next d)
  first (suc n) = (_, listed_suc next n d)

  -- the budget is at its end
  pub walk-cut : (depth : ℕ) → left ≡ 0 → Finds sc left (listed next depth d) b at b (Err Cut)
  unfolding walked
  walk-cut depth z = finds-same sc left (first depth).1 (rw z (record { answer = refl; buffer = refl }))

-- what the state's own trace comes to is the whole answer: a break, the end of the budget, or no moves to look at
own-ends : (next : State → List (Move × State)) (sc : Scenario) (left : ℕ) (d : State) (b : List ℕ) (at depth : ℕ) (o : Option states.Claim) → broken sc d ≡ o → (is_ok (own_as left (claimed_as o)) ≡ true → depth ≡ 0)
    → Finds sc left (listed next depth d) b at b (own_as left (claimed_as o))
unfolding trace_bytes
own-ends next sc zero d b at depth o e ends = walk-cut next sc zero d b at depth refl
own-ends next sc (suc left) d b at depth (some c) e ends =
    let w = first next sc (suc left) d b at depth in
    let is-found = by-judge sc left d w.0 e in
    finds-same sc (suc left) w.1 (record { answer = sym (ap (walked_as (([], d) ∷ w.0)) is-found); buffer = sym (ap (buffer_as b at) is-found ∙ over_none b at) })
own-ends next sc (suc left) d b at zero none e ends = finds-same sc (suc left) (listed-zero next d) (passed-all sc (suc left) (passed-one sc (suc left) ([], d) [] (omega arith) e) b at)
own-ends next sc (suc left) d b at (suc n) none e ends = absurd (let z : suc n ≡ 0 = ends refl in omega arith)

-- otherwise it is passed, and those of the runs follow
pub record Starts (plan : Plan) (sc : Scenario) (left depth : ℕ) (d : State) (count : ℕ) : Type 0 where
  pub unbroken : broken sc d ≡ none
  pub within : count ≤ left
  pub deep : 0 < depth
  pub passed : (end k : ℕ) → runs_in (list_as plan.list) sc d ≡ numbers_from (suc k) (end - k) → Passed sc left (entries_from plan depth sc d) (runs_from plan sc (depth - 1) d end k) count

own-starts : (plan : Plan) (sc : Scenario) (left depth : ℕ) (d : State) (o : Option states.Claim) → broken sc d ≡ o → is_ok (own_as left (claimed_as o)) ≡ true → (depth ≡ 0 → ⊥) → Starts plan sc left depth d (size_of (own_as left (claimed_as o)))
own-starts plan sc zero depth d o e ok deep = absurd (true≢false (sym ok))
own-starts plan sc (suc left) depth d (some c) e ok deep = absurd (true≢false (sym ok))
own-starts plan sc (suc left) zero d none e ok deep = absurd (deep refl)
own-starts plan sc (suc left) (suc n) d none e ok deep = record {
  unbroken = e;
  within = omega arith;
  deep = omega arith;
  passed = λ end k goes. let same : suc n - 1 ≡ n = omega arith in
      rw (same, entries-of plan sc n d, runs-all plan sc n d end k goes) (passed-one sc (suc left) ([], d) (runs_from plan sc n d end k) (omega arith) e);
}

module _ (plan : Plan) (sc : Scenario) (left depth : ℕ) (d : State) {claimed : Claimed} {own : Walked} (judged : claimed ≡ claimed_as (broken sc d)) (is : own ≡ own_as left claimed) where
  by-claim : own ≡ own_as left (claimed_as (broken sc d))
  by-claim = is ∙ ap (own_as left) judged

  ends : {w : Walked} → own ≡ w → (is_ok w ≡ true → depth ≡ 0) → (b : List ℕ) (at : ℕ) → Finds sc left (entries_from plan depth sc d) b at b w
  ends {w} was over b at =
      let is = sym by-claim ∙ was in
      subst (λ (f : Walked). Finds sc left (entries_from plan depth sc d) b at b f) is (own-ends (next_in plan sc) sc left d b at depth (broken sc d) refl (λ ok. over (sym (ap is_ok is) ∙ ok)))

  -- a break or the end of the budget
  pub walk_ends : {x : End} → own ≡ Err x → (b : List ℕ) (at : ℕ) → Finds sc left (entries_from plan depth sc d) b at b (Err x)
  walk_ends was b at = ends was (λ ok. absurd (true≢false (sym ok))) b at

  -- no moves to look at
  pub walk-alone : {m : ℕ} → own ≡ Ok m → depth ≡ 0 → (b : List ℕ) (at : ℕ) → Finds sc left (entries_from plan depth sc d) b at b (Ok m)
  walk-alone was none_left b at = ends was (λ ok. none_left) b at

  pub walk-starts : {m : ℕ} → own ≡ Ok m → (depth ≡ 0 → ⊥) → Starts plan sc left depth d m
  walk-starts was deep =
      let is = sym by-claim ∙ was in
      subst (λ (m : ℕ). Starts plan sc left depth d m) (ap size_of is) (own-starts plan sc left depth d (broken sc d) refl (ap is_ok is) deep)

-- a state that the walk is at, by its positions
pub standing : {plan : Plan} {s : CodeState} {at : ℕ} (m : SomeState plan s at) → Standing plan.opened s.done m.sc m.d
standing m = record { t = _; n = _; s = _; given = m.here.reached.given; state = m.here.state; is_done = refl }

-- one run after the other
module _ (plan : Plan) (sc : Scenario) (left n : ℕ) (d : State) {all : List Entry} {end k count : ℕ} (passed : Passed sc left all (runs_from plan sc n d end k) count) where
  pub walk-next : k < end → Passed sc left all (below plan sc n (of_run sc d k) ++ runs_from plan sc n d end (k + 1)) count
  walk-next l =
      subst (λ (m : ℕ). Passed sc left all (below plan sc n (of_run sc d k) ++ runs_from plan sc n d end m) count) (sym (add-one k)) (subst (λ (es : List Entry). Passed sc left all es count) (runs-next plan sc n d end k l) passed)

  pub walk_end : end ≤ k → (b : List ℕ) (at : ℕ) → Finds sc left all b at b (Ok count)
  walk_end l b at = passed-all sc left (subst (λ (es : List Entry). Passed sc left all es count) (runs-end plan sc n d end k l) passed) b at
