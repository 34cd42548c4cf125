-- Whether an event is a broken claim, by its kind and its mark. Assumes nothing.
use Prim.Native.Nat.{ℕ, zero, suc, ◌+◌, ◌<◌, ◌≤◌}
use Rattle.std.proofs.Common.{arith, sym, ◌∙◌, true≢false}
use Rattle.std.specs.Prelude.{◌≡◌, refl, ◌↔◌, Bool, true, false, ◌&&◌, List, length, get_or}
use Rattle.std.proofs.Math.Path.{ap}
use Rattle.std.proofs.Math.Option.{Option, none, some, some-injective, none-ne-some}
use Rattle.std.proofs.Math.ListN.{get_elem?}
use Rattle.semantics.specs.Basic.{and_then, provided}
use Rattle.semantics.specs.Term.{Term}
use Rattle.semantics.specs.Inference.{Derives, derivable}
use Rattle.semantics.specs.Value.{Reading, value_of}
use Rattle.semantics.specs.Roles.{secrecy, EventKind, send, read, claim, claim_kind, Event, event_kinds}
use Rattle.semantics.specs.Runs.{Run, all_trusted}
use Rattle.semantics.specs.Scenario.{Scenario}
use Rattle.semantics.specs.Guarantee.{Guarantee}
use Rattle.semantics.specs.State.{Progress, State, events_of, reading_in}
use Rattle.semantics.specs.Verdict.{claimed_value, is_known, is_against, broken_event}
use Rattle.semantics.proofs.laws.List.{get_elem-below, get_elem-there}
use Rattle.semantics.proofs.laws.Inference.{derivable-exact}
use Rattle.cells.specs.Cells.{cell_of, Within, cell_value}
use Rattle.runs.specs.declared.Runs.{Runs}
use Rattle.records.specs.Kinds.{byte_of}
use Rattle.runs.specs.declared.RunEvent.{RunEvent}
use Rattle.runs.specs.Runs.{ReadsEvent, RunsAt, EventRead, run_at}
use Rattle.state.specs.Readings.{sets_in, sets_of, readings}
use Rattle.state.specs.laws.Readings.{reading-run}
use Rattle.claims.specs.AtRun.{AtRun, claim_at, event_breaks}

-- where there is no element
none-past : {A : Type 0} (xs : List A) (j : ℕ) → length xs ≤ j → get_elem? xs j ≡ none
none-past {A} xs j l = go (get_elem? xs j) refl
  where
    go : (o : Option A) → get_elem? xs j ≡ o → o ≡ none
    go none e = refl
    go (some x) e = absurd (omega (arith, get_elem-below xs j e))

-- a mark that stands exactly if a value is there and derives decides
mark-decides : (mark : Bool) (known : List Term) (o : Option Term) → (mark ≡ true) ↔ ((t : Term) × (o ≡ some t) × Derives known t) → is_known known o ≡ mark
mark-decides true known none e = let w = e.0 refl in absurd (none-ne-some w.0 w.1)
mark-decides false known none e = refl
mark-decides mark known (some t) e = go mark (derivable known t) refl e
  where
    go : (m b : Bool) → derivable known t ≡ b → (m ≡ true) ↔ ((u : Term) × (some t ≡ some u) × Derives known u) → b ≡ m
    go true true f e = refl
    go false false f e = refl
    go true false f e =
        let w = e.0 refl in
        let d : Derives known t = rw (some-injective t w.0 w.1) w.2 in
        absurd (rw f at ((derivable-exact known t).1 d))
    go false true f e = absurd (true≢false (sym (e.1 (t, refl, (derivable-exact known t).0 (rw f tt)))))

-- the kind of a claim by its byte
kind-two : (b : ℕ) (kind : EventKind) → get_elem? event_kinds b ≡ some kind → b ≡ 2 → kind ≡ claim secrecy
kind-two b kind h e = sym (some-injective (claim secrecy) kind (rw e at h))

kind-other : (b : ℕ) (kind : EventKind) → get_elem? event_kinds b ≡ some kind → (b ≡ 2 → ⊥) → claim_kind kind ≡ none
kind-other b send h n = refl
kind-other b read h n = refl
kind-other zero (claim x) h n = cc
kind-other (suc zero) (claim x) h n = cc
kind-other (suc (suc zero)) (claim x) h n = absurd (n refl)
kind-other (suc (suc (suc b))) (claim x) h n = absurd (none-ne-some (claim x) h)

-- what follows from a value is none if it always is
pub and_then-none : {A B : Type 0} (o : Option A) (f : A → Option B) → ((x : A) → f x ≡ none) → and_then o f ≡ none
and_then-none none f h = refl
and_then-none (some x) f h = h x

-- the event, where there is one
event-there : {file : List ℕ} {r : Runs} {sc : Scenario} (k j : ℕ) {run : Run} → RunsAt file sc r → get_elem? sc.runs k ≡ some run → j < (run_at r k).events
    → (ev : Event) × (get_elem? (events_of sc run) j ≡ some ev)
event-there {sc = sc} k j {run} runs is_run l = get_elem-there (events_of sc run) j (omega (arith, (runs.each k run is_run).count))

-- its row has cells
pub row-below : (file : List ℕ) (r : Runs) (k j : ℕ) (e : RunEvent) → ((sc : Scenario) × (RunsAt file sc r × (Guarantee sc × (k < r.count)))) → ReadsEvent file r k j e → j < (run_at r k).events
    → e.row < 96
row-below file r k j e w seen l =
    let runs = w.1.0 in
    let good = w.1.1.0 in
    let run = get_elem-there w.0.runs k (omega (arith, runs.count, w.1.1.1)) in
    let ev = event-there k j runs run.1 l in
    omega (arith, (seen w.0 run.0 ev.0 runs good run.1 ev.1).row_below, good.table.few)

module _ {file : List ℕ} {r : Runs} {sc : Scenario} {d : State} {marks : List Bool} {k : ℕ} {run : Run} {p : Progress} (at : AtRun file r sc d marks k run p) (j : ℕ) where
  -- past the last event there is none
  pub past-none : (run_at r k).events ≤ j → event_breaks sc d k run p j ≡ none
  past-none l = rw (none-past (events_of sc run) j (omega (arith, (at.runs.each k run at.is_run).count))) refl

  module _ (ev : Event) {kind own peer row : ℕ} (is : EventRead sc run ev kind own peer row) where
    abbrev value : Option Term
    value = claimed_value sc (suc k) run p ev

    -- an event of another kind is no claim
    other-event : (kind ≡ 2 → ⊥) → broken_event sc d (suc k) run p j ev ≡ none
    unfolding broken_event
    other-event n = ap (λ o. and_then o (λ x. provided (all_trusted sc.rows run && is_against sc d (suc k) run p ev x) (record { run = suc k; event = j; kind = x }))) (kind-other kind ev.kind is.kind n)

    -- the value of its row in the run
    same-value : cell_value (readings sc (sets_of d.progress)) sc.rows row (suc k) ≡ value
    same-value =
        let same : readings sc (sets_of d.progress) (suc k) ≡ reading_in sc.rows (suc k) run p.values = reading-run sc (sets_of d.progress) k at.is_run ∙ ap (λ l. reading_in sc.rows (suc k) run l) (ap sets_in at.is_progress) in
        ap (λ (ρ : Reading). value_of ρ sc.rows row) same ∙ ap (value_of (reading_in sc.rows (suc k) run p.values) sc.rows) is.row

    within : Within sc.rows (length sc.runs) row (suc k)
    within = record { row = is.row_below; run = get_elem-below sc.runs k at.is_run }

    -- a claim of a run whose agents are all trusted is broken exactly if its cell is marked
    claim-event : true ≡ all_trusted sc.rows run → kind ≡ 2 → broken_event sc d (suc k) run p j ev ≡ provided (get_or marks (cell_of row (suc k)) false) (claim_at k j)
    unfolding broken_event
    claim-event trusts e =
        let exact = at.exact row (suc k) within in
        ap (λ o. and_then (claim_kind o) (λ x. provided (all_trusted sc.rows run && is_against sc d (suc k) run p ev x) (record { run = suc k; event = j; kind = x }))) (kind-two kind ev.kind is.kind e)
        ∙ (λ i. provided (sym trusts i && mark-decides (get_or marks (cell_of row (suc k)) false) d.known value (rw same-value at exact) i) (claim_at k j))

  -- the same of an event as the code reads it
  module _ (e : RunEvent) (seen : ReadsEvent file r k j e) (below : j < (run_at r k).events) where
    found : (ev : Event) × (get_elem? (events_of sc run) j ≡ some ev)
    found = event-there k j at.runs at.is_run below

    is-read : EventRead sc run found.0 (byte_of e.kind) e.own e.peer e.row
    is-read = seen sc run found.0 at.runs at.good at.is_run found.1

    pub other_none : (byte_of e.kind ≡ 2 → ⊥) → event_breaks sc d k run p j ≡ none
    other_none n = rw found.1 (other-event found.0 is-read n)

    pub claim-marked : true ≡ all_trusted sc.rows run → byte_of e.kind ≡ 2 → {c : ℕ} → c ≡ cell_of e.row (k + 1) → event_breaks sc d k run p j ≡ provided (get_or marks c false) (claim_at k j)
    claim-marked trusts h {c} place =
        let same : c ≡ cell_of e.row (suc k) = omega arith in
        rw (found.1, same) (claim-event found.0 is-read trusts h)
