-- The laws of broken claims: which claim is named of those that a trace breaks. Assumes nothing.
use Rattle.std.specs.Prelude.{ℕ, zero, suc, ◌+◌, ◌≤◌, ◌<◌, ◌≡◌, ◌↔◌, Bool, ◌&&◌, ◌∷◌, map, T, length}
use Rattle.std.proofs.Common.{eq-or-lt_of_le, arith, ◌∙◌, inl, inr, ⊎_elim}
use Rattle.std.proofs.Math.Nat.{suc_inj}
use Rattle.std.proofs.Math.Path.{refl, sym, ap, subst}
use Rattle.std.proofs.Math.Option.{Option, none, some, some-injective, none-ne-some}
use Rattle.std.proofs.Math.ListN.{get_elem?}
use Rattle.semantics.specs.Basic.{first_of, numbers_from, and_then, provided}
use Rattle.semantics.specs.Term.{Term}
use Rattle.semantics.specs.Roles.{ClaimKind, secrecy, EventKind, send, read, claim, claim_kind, Event}
use Rattle.semantics.specs.Runs.{Run, all_trusted}
use Rattle.semantics.specs.Scenario.{Scenario}
use Rattle.semantics.specs.State.{Progress, State, events_of, Claim}
use Rattle.semantics.specs.Verdict.{claimed_value, is_known, is_against, broken_event, broken_in_run, broken}
use Rattle.semantics.specs.Allowed.{Against, value_known, Breaks, breaks, Names}
use Rattle.semantics.proofs.laws.Test.{both_left, both_right, both, provided-some, and_then-some}
use Rattle.semantics.proofs.laws.List.{get_elem-below}
use Rattle.semantics.proofs.laws.Inference.{derivable-exact}

-- the first of n numbers from a on that has a result
pub data FirstIn {A : Type 0} (g : ℕ → Option A) (a n : ℕ) : Option A → Type 0 where
  found_at : {y : A} (k : ℕ) → a ≤ k → k < a + n → g k ≡ some y → ((j : ℕ) → a ≤ j → j < k → g j ≡ none) → FirstIn g a n (some y)
  not_found : ((k : ℕ) → a ≤ k → k < a + n → g k ≡ none) → FirstIn g a n none

pub first_in : {A : Type 0} (g : ℕ → Option A) (a n : ℕ) → FirstIn g a n (first_of (map g (numbers_from a n)))
first_in g a zero = not_found (λ k l h. absurd (omega arith))
first_in {A} g a (suc n) = go (g a) refl (first_in g (suc a) n)
  where
    skip : (o : Option A) → g a ≡ none → FirstIn g (suc a) n o → FirstIn g a (suc n) o
    skip o e (found_at k l h f before) =
        found_at k (omega arith) (omega arith) f (λ j m q. ⊎_elim (λ (p : a ≡ j). rw (← p) e) (λ (p : a < j). before j p q) (eq-or-lt_of_le m))
    skip o e (not_found all) =
        not_found (λ k l h. ⊎_elim (λ (p : a ≡ k). rw (← p) e) (λ (p : a < k). all k p (omega arith)) (eq-or-lt_of_le l))

    go : (v : Option A) → g a ≡ v → FirstIn g (suc a) n (first_of (map g (numbers_from (suc a) n))) → FirstIn g a (suc n) (first_of (v ∷ map g (numbers_from (suc a) n)))
    go (some y) e rest = found_at a (omega arith) (omega arith) e (λ j l q. absurd (omega arith))
    go none e rest = skip (first_of (map g (numbers_from (suc a) n))) e rest

module _ {A : Type 0} (g : ℕ → Option A) (a n : ℕ) where
  -- it is the one before which none has
  pub first_found : (k : ℕ) {y : A} → a ≤ k → k < a + n → ((i : ℕ) → a ≤ i → i < k → g i ≡ none) → g k ≡ some y → first_of (map g (numbers_from a n)) ≡ some y
  first_found k {y} from l before e = go (first_of (map g (numbers_from a n))) (first_in g a n)
    where
      go : (o : Option A) → FirstIn g a n o → o ≡ some y
      go o (found_at {y = z} j m h f lower) =
          let p : j < k → ⊥ = λ q. none-ne-some z (sym (before j m q) ∙ f) in
          let q : k < j → ⊥ = λ q. none-ne-some y (sym (lower k from q) ∙ e) in
          let same : k ≡ j = omega arith in
          sym f ∙ rw (← same) e
      go o (not_found all) = absurd (none-ne-some y (sym (all k from l) ∙ e))

  -- there is none if none has
  pub first-none : ((i : ℕ) → a ≤ i → i < a + n → g i ≡ none) → first_of (map g (numbers_from a n)) ≡ none
  first-none none_has = go (first_of (map g (numbers_from a n))) (first_in g a n)
    where
      go : (o : Option A) → FirstIn g a n o → o ≡ none
      go o (found_at {y = z} j m h f lower) = absurd (none-ne-some z (sym (none_has j m h) ∙ f))
      go o (not_found all) = refl

-- two numbers neither of which is lower are one
same_number : (a b : ℕ) → (a < b → ⊥) → (b < a → ⊥) → a ≡ b
same_number a b f g = omega arith

-- the claim of an event in a run
abbrev claim_at : ℕ → ℕ → ClaimKind → Claim
claim_at k j kind = record { run = suc k; event = j; kind = kind }

-- a kind of event that is a claim
claim-kind : (o : EventKind) {kind : ClaimKind} → claim_kind o ≡ some kind → o ≡ claim kind
claim-kind send {kind} e = absurd (none-ne-some kind e)
claim-kind read {kind} e = absurd (none-ne-some kind e)
claim-kind (claim k) {kind} e = ap claim (some-injective k kind e)

module _ (sc : Scenario) (s : State) (k : ℕ) (run : Run) (p : Progress) where
  -- what the test of a claim's kind says
  against-exact : (e : Event) (kind : ClaimKind) → T (is_against sc s (suc k) run p e kind) ↔ Against sc s (suc k) run p e kind
  against-exact e secrecy = (go (claimed_value sc (suc k) run p e) refl, of)
    where
      go : (o : Option Term) → claimed_value sc (suc k) run p e ≡ o → T (is_known s.known o) → Against sc s (suc k) run p e secrecy
      go none q h = absurd h
      go (some t) q h = value_known q ((derivable-exact s.known t).0 h)

      of : Against sc s (suc k) run p e secrecy → T (is_against sc s (suc k) run p e secrecy)
      of (value_known {t = t} q d) = rw q ((derivable-exact s.known t).1 d)

  -- what makes an event a broken claim
  record BrokenEvent (e : Event) (kind : ClaimKind) : Type 0 where
    is_one : e.kind ≡ claim kind
    trusts : T (all_trusted sc.rows run)
    against : Against sc s (suc k) run p e kind

  -- the test of an event passes exactly then
  abbrev holds : Event → ClaimKind → Bool
  holds e kind = all_trusted sc.rows run && is_against sc s (suc k) run p e kind

  event-broken : (j : ℕ) (e : Event) (c : Claim) → broken_event sc s (suc k) run p j e ≡ some c → BrokenEvent e c.kind × (c ≡ claim_at k j c.kind)
  unfolding broken_event
  event-broken j e c q =
      let w = (and_then-some (claim_kind e.kind) (λ kind. provided (holds e kind) (claim_at k j kind))).0 q in
      let v = (provided-some (holds e w.0)).0 w.2 in
      let same : w.0 ≡ c.kind = sym (ap (λ (x : Claim). x.kind) v.1) in
      let trusts = all_trusted sc.rows run in
      let against = is_against sc s (suc k) run p e w.0 in (
        record { is_one = claim-kind e.kind w.1 ∙ ap claim same; trusts = both_left trusts against v.0; against = subst (Against sc s (suc k) run p e) same ((against-exact e w.0).0 (both_right trusts against v.0)) },
        v.1 ∙ ap (claim_at k j) same,
      )

  broken-event : (j : ℕ) (e : Event) {kind : ClaimKind} → BrokenEvent e kind → broken_event sc s (suc k) run p j e ≡ some (claim_at k j kind)
  unfolding broken_event
  broken-event j e {kind} b =
      ap (λ o. and_then (claim_kind o) (λ x. provided (holds e x) (claim_at k j x))) b.is_one
      ∙ (provided-some (holds e kind)).1 (both (all_trusted sc.rows run) (is_against sc s (suc k) run p e kind) b.trusts ((against-exact e kind).1 b.against), refl)

  -- the claim of an event, if there is such an event and its claim is broken
  abbrev test : ℕ → Option Claim
  test j = and_then (get_elem? (events_of sc run) j) (broken_event sc s (suc k) run p j)

  test-broken : (j : ℕ) (c : Claim) → test j ≡ some c → (e : Event) × (get_elem? (events_of sc run) j ≡ some e) × BrokenEvent e c.kind × (c ≡ claim_at k j c.kind)
  test-broken j c q =
      let w = (and_then-some (get_elem? (events_of sc run) j) (broken_event sc s (suc k) run p j)).0 q in
      let v = event-broken j w.0 c w.2 in
      (w.0, w.1, v.0, v.1)

  broken-test : (j : ℕ) (e : Event) {kind : ClaimKind} → get_elem? (events_of sc run) j ≡ some e → BrokenEvent e kind → test j ≡ some (claim_at k j kind)
  broken-test j e at b = rw at (broken-event j e b)

  -- a broken claim of this run comes from one of its events
  breaks-in :
      get_elem? sc.runs k ≡ some run → get_elem? s.progress k ≡ some p → (d : Claim) → Breaks sc s d → d.run ≡ suc k
      → (d.event < p.done) × (test d.event ≡ some d)
  breaks-in hr hp d (breaks {k = k'} {run = run'} {p = p'} {e = e} hr' hp' at l is_one trusts against num) q =
      let kk : k' ≡ k = suc_inj (sym num ∙ q) in
      let rr : run' ≡ run = some-injective run' run (sym hr' ∙ ap (λ (n : ℕ). get_elem? sc.runs n) kk ∙ hr) in
      let pp : p' ≡ p = some-injective p' p (sym hp' ∙ ap (λ (n : ℕ). get_elem? s.progress n) kk ∙ hp) in
      let at' : get_elem? (events_of sc run) d.event ≡ some e = rw rr at at in
      let own : claim_at k d.event d.kind ≡ d = λ i. record { run = sym q i; event = d.event; kind = d.kind } in (
        rw pp at l,
        broken-test d.event e at' (record { is_one = is_one; trusts = rw rr at trusts; against = rw (kk, rr, pp) at against }) ∙ ap some own,
      )

module _ (sc : Scenario) (s : State) where
  -- the lowest broken claim of the run with an index
  data InRun (k : ℕ) : Option Claim → Type 0 where
    in_run :
        {c : Claim} → c.run ≡ suc k → Breaks sc s c → ((d : Claim) → Breaks sc s d → d.run ≡ suc k → d.event < c.event → ⊥)
        → InRun k (some c)
    none_in_run : ((d : Claim) → Breaks sc s d → d.run ≡ suc k → ⊥) → InRun k none

  module _ (k : ℕ) (run : Run) (p : Progress) (hr : get_elem? sc.runs k ≡ some run) (hp : get_elem? s.progress k ≡ some p) where
    run-view : (o : Option Claim) → FirstIn (test sc s k run p) 0 p.done o → InRun k o
    run-view o (found_at {y = c} j l h q before) =
        let w = test-broken sc s k run p j c q in
        let b = w.2 in
        let ev : c.event ≡ j = ap (λ (x : Claim). x.event) w.3 in
        in_run {c = c} (ap (λ (x : Claim). x.run) w.3)
        (breaks {e = w.0} hr hp (ap (λ (n : ℕ). get_elem? (events_of sc run) n) ev ∙ w.1) (omega arith) b.is_one b.trusts b.against (ap (λ (x : Claim). x.run) w.3))
        (λ d bd rd lt.
        let x = breaks-in sc s k run p hr hp d bd rd in
        none-ne-some d (sym (before d.event (omega arith) (omega arith)) ∙ x.1))
    run-view o (not_found all) =
        none_in_run (λ d bd rd.
        let x = breaks-in sc s k run p hr hp d bd rd in
        none-ne-some d (sym (all d.event (omega arith) (omega arith)) ∙ x.1))

  -- a run that is not there has no broken claim
  breaks-present : (k : ℕ) (d : Claim) → Breaks sc s d → d.run ≡ suc k → (run : Run) × (p : Progress) × (get_elem? sc.runs k ≡ some run) × (get_elem? s.progress k ≡ some p)
  breaks-present k d (breaks {k = k'} {run = run} {p = p} hr hp at l is_one trusts against num) q =
      let kk : k' ≡ k = suc_inj (sym num ∙ q) in
      (run, p, rw kk at hr, rw kk at hp)

  broken_in_run-view : (k : ℕ) → InRun k (broken_in_run sc s k)
  unfolding broken_in_run
  broken_in_run-view k = go (get_elem? sc.runs k) refl (get_elem? s.progress k) refl
    where
      go : (r : Option Run) → get_elem? sc.runs k ≡ r → (q : Option Progress) → get_elem? s.progress k ≡ q
          → InRun k (and_then r (λ run. and_then q (λ p. first_of (map (test sc s k run p) (numbers_from 0 p.done)))))
      go none hr q hq = none_in_run (λ d bd rd. let w = breaks-present k d bd rd in none-ne-some w.0 (sym hr ∙ w.2))
      go (some run) hr none hq = none_in_run (λ d bd rd. let w = breaks-present k d bd rd in none-ne-some w.1 (sym hq ∙ w.3))
      go (some run) hr (some p) hq = run-view k run p hr hq (first_of (map (test sc s k run p) (numbers_from 0 p.done))) (first_in (test sc s k run p) 0 p.done)

  -- of the claims that a trace breaks, the one that is named
  pub data Named : Option Claim → Type 0 where
    named : {c : Claim} → Names sc s c → Named (some c)
    unbroken : ((d : Claim) → Breaks sc s d → ⊥) → Named none

  breaks-number : (d : Claim) → Breaks sc s d → (k : ℕ) × (d.run ≡ suc k) × (k < length sc.runs)
  breaks-number d (breaks {k = k} {run = run} hr hp at l is_one trusts against num) = (k, num, get_elem-below sc.runs k hr)

  none_before : (k : ℕ) → broken_in_run sc s k ≡ none → (d : Claim) → Breaks sc s d → d.run ≡ suc k → ⊥
  none_before k e d b q = go (rw e at (broken_in_run-view k))
    where
      go : InRun k none → ⊥
      go (none_in_run all) = all d b q

  broken-found : (k : ℕ) (c : Claim) → broken_in_run sc s k ≡ some c → ((j : ℕ) → 0 ≤ j → j < k → broken_in_run sc s j ≡ none) → Names sc s c
  broken-found k c e before = go (rw e at (broken_in_run-view k))
    where
      go : InRun k (some c) → Names sc s c
      go (in_run num b lowest) =
          record {
            is_broken = b;
            lowest = λ d bd. ⊎_elim
                (λ (l : d.run < c.run). let w = breaks-number d bd in none_before w.0 (before w.0 (omega arith) (omega arith)) d bd w.1)
                (λ (l : (d.run ≡ c.run) × (d.event < c.event)). lowest d bd (l.0 ∙ num) l.1);
          }

  pub broken-view : Named (broken sc s)
  unfolding broken
  broken-view = go (first_of (map (broken_in_run sc s) (numbers_from 0 (length sc.runs)))) (first_in (broken_in_run sc s) 0 (length sc.runs))
    where
      go : (o : Option Claim) → FirstIn (broken_in_run sc s) 0 (length sc.runs) o → Named o
      go o (found_at {y = c} k l h e before) = named (broken-found k c e before)
      go o (not_found all) = unbroken (λ d b. let w = breaks-number d b in none_before w.0 (all w.0 (omega arith) (omega arith)) d b w.1)

  -- two claims that are named are one
  pub names-one : (c d : Claim) → Names sc s c → Names sc s d → c ≡ d
  names-one c d n m =
      let w = breaks-number c n.is_broken in
      let v = breaks-present w.0 c n.is_broken w.1 in
      let own = (breaks-in sc s w.0 v.0 v.1 v.2 v.3 c n.is_broken w.1).1 in
      let other = (breaks-in sc s w.0 v.0 v.1 v.2 v.3 d m.is_broken (runs ∙ w.1)).1 in
      some-injective c d (sym own ∙ ap (test sc s w.0 v.0 v.1) (sym events) ∙ other)
    where
      runs : d.run ≡ c.run
      runs = same_number d.run c.run (λ l. n.lowest d m.is_broken (inl l)) (λ l. m.lowest c n.is_broken (inl l))

      events : d.event ≡ c.event
      events = same_number d.event c.event (λ l. n.lowest d m.is_broken (inr (runs, l))) (λ l. m.lowest c n.is_broken (inr (sym runs, l)))

  -- "Of several claims broken, the lowest run, then the lowest event, is named."
  pub broken-named : (c : Claim) → (broken sc s ≡ some c) ↔ Names sc s c
  broken-named c = (λ e. is-named (rw e at broken-view), λ n. go (broken sc s) broken-view n)
    where
      is-named : Named (some c) → Names sc s c
      is-named (named n) = n

      go : (o : Option Claim) → Named o → Names sc s c → o ≡ some c
      go o (named {c = d} m) n = ap some (names-one d c m n)
      go o (unbroken all) n = absurd (all c n.is_broken)

  pub broken-none : (broken sc s ≡ none) ↔ ((c : Claim) → Breaks sc s c → ⊥)
  broken-none = (λ e. is-unbroken (rw e at broken-view), λ all. go (broken sc s) broken-view all)
    where
      is-unbroken : Named none → (c : Claim) → Breaks sc s c → ⊥
      is-unbroken (unbroken all) = all

      go : (o : Option Claim) → Named o → ((c : Claim) → Breaks sc s c → ⊥) → o ≡ none
      go o (named {c = d} m) all = absurd (all d m.is_broken)
      go o (unbroken all') all = refl
