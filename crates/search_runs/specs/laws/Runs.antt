-- Which runs send or claim next, and the runs that a list goes on with. Assumes nothing.
use Rattle.std.specs.Prelude.{ℕ, zero, suc, ◌+◌, ◌-◌, ◌<◌, ◌≤◌, ◌≡◌, Bool, true, false, not, length, map}
use denote.Enum.Bare.{sameb}
use native.Mathlib.Omega.{arith}
use Rattle.std.proofs.Math.Path.{refl, ap}
use Rattle.std.proofs.Common.{◌∙◌}
use mathlib.Core.List.{List}
use Rattle.std.proofs.Math.Option.{none, some, none-ne-some}
use Rattle.std.proofs.Math.ListN.{get_or, get_elem?}
use Rattle.semantics.specs.Basic.{first_of, numbers_from}
use Rattle.semantics.specs.Roles.{EventKind, send, read, claim, event_kinds}
use Rattle.semantics.specs.Scenario.{Scenario}
use Rattle.semantics.specs.State.{State, events_of}
use Rattle.semantics.specs.Moves.{short, send_or_claim, ready_at, run_numbers, runs_in}
use Rattle.semantics.proofs.laws.Broken.{first_found, first-none}
use Rattle.runs.specs.declared.opened.Opened.{Opened}
use Rattle.records.specs.contracts.EventKind.{the_type}
use Rattle.records.specs.declared.EventKind.TheVariants.{Read}
use Rattle.records.specs.Kinds.{byte_of}
use Rattle.records.specs.laws.Kinds.{event-is, event-other}
use Rattle.runs.specs.declared.RunEvent.{RunEvent}
use Rattle.runs.specs.Runs.{ReadsEvent, run_at}
use Rattle.state.specs.laws.Active.{run-ended, run-coming}
use Rattle.search_runs.specs.declared.Listing.TheVariants.{Full, Short}
use Rattle.search_runs.specs.Runs.{Standing, TellsReady, NoneReady, LowestReady, GoesOn}

-- an event by its kind byte: a read is byte 1, and nothing else is
byte_one : (b : ℕ) (kind : EventKind) → get_elem? event_kinds b ≡ some kind → b ≡ 1 → send_or_claim kind ≡ false
byte_one b send h e = let z : ◌≡◌ {A = ℕ} 0 1 = cc in absurd (omega arith)
byte_one b read h e = refl
byte_one b (claim k) h e = let z : ◌≡◌ {A = ℕ} 0 1 = cc in absurd (omega arith)

byte-other : (b : ℕ) (kind : EventKind) → get_elem? event_kinds b ≡ some kind → (b ≡ 1 → ⊥) → send_or_claim kind ≡ true
byte-other b send h n = refl
byte-other zero read h n = cc
byte-other (suc zero) read h n = absurd (n refl)
byte-other (suc (suc zero)) read h n = cc
byte-other (suc (suc (suc b))) read h n = absurd (none-ne-some read h)
byte-other b (claim k) h n = refl

module _ {o : Opened} {done : List ℕ} {k : ℕ} (low : k < o.runs.count) where
  -- a run that has made all its events
  pub ready-ended : (run_at o.runs k).events ≤ get_or done k 0 → TellsReady o done k false
  unfolding ready_at
  ready-ended l sc d at = rw (run-ended at.given at.state k low (rw at.is_done at l)) refl

  module _ (more : get_or done k 0 < (run_at o.runs k).events) (e : RunEvent) (reads : ReadsEvent o.file.now o.runs k (get_or done k 0) e) where
    -- by the kind of its next event
    by_kind : (b : Bool) → ((kind : EventKind) → get_elem? event_kinds (byte_of e.kind) ≡ some kind → send_or_claim kind ≡ b) → TellsReady o done k b
    unfolding ready_at
    by_kind b kinds sc d at =
        let more' : get_or at.s.done k 0 < (run_at o.runs k).events = rw at.is_done at more in
        let w = run-coming at.given at.state k low more' in
        let there = ap (λ (l : List ℕ). get_elem? (events_of sc w.0.run) (get_or l k 0)) at.is_done ∙ w.1.of_event in
        let seen = reads sc w.0.run w.0.event at.given.runs at.given.good w.1.of_run there in
        rw (w.1.is_active, kinds w.0.event.kind seen.kind) refl

    pub ready-told : {b : Bool} → b ≡ not (sameb the_type e.kind Read) → TellsReady o done k b
    ready-told q = rw q (go (sameb the_type e.kind Read) refl)
      where
        go : (c : Bool) → sameb the_type e.kind Read ≡ c → TellsReady o done k (not c)
        go true s = by_kind false (λ kind h. byte_one (byte_of e.kind) kind h (event-is e.kind Read refl s))
        go false s = by_kind true (λ kind h. byte-other (byte_of e.kind) kind h (event-other e.kind Read refl s))

-- none of the first k runs sends or claims next
abbrev pub UnreadyTo : Opened → List ℕ → ℕ → Type 0
UnreadyTo o done k = (i : ℕ) → 0 ≤ i → i < k → TellsReady o done i false

-- of any scenario and state:
module _ (sc : Scenario) (d : State) where
  module _ {k : ℕ} (before : (i : ℕ) → 0 ≤ i → i < k → ready_at sc d (suc i) ≡ none) where
    -- none of the numbers from 1 up to k is ready
    below_none : (u : ℕ) → 1 ≤ u → u < suc k → ready_at sc d u ≡ none
    below_none zero l h = absurd (omega arith)
    below_none (suc i) l h = before i (omega arith) (omega arith)

    -- the next, if it is, is the lowest that is,
    pub lowest-at : k < length sc.runs → ready_at sc d (suc k) ≡ some (suc k) → first_of (map (ready_at sc d) (run_numbers sc)) ≡ some (suc k)
    lowest-at low here = first_found (ready_at sc d) 1 (length sc.runs) (suc k) (omega arith) (omega arith) below_none here

    -- and if there is no next, none is
    pub none-at : length sc.runs ≤ k → first_of (map (ready_at sc d) (run_numbers sc)) ≡ none
    none-at all = first-none (ready_at sc d) 1 (length sc.runs) (λ u f h. below_none u f (omega arith))

  -- the short list goes on with every run where none sends or claims,
  pub short-all : first_of (map (ready_at sc d) (run_numbers sc)) ≡ none → runs_in short sc d ≡ run_numbers sc
  unfolding runs_in
  short-all e = rw e refl

  -- else with the lowest that does
  pub short_one : {u : ℕ} → first_of (map (ready_at sc d) (run_numbers sc)) ≡ some u → runs_in short sc d ≡ numbers_from u 1
  unfolding runs_in
  short_one e = rw e refl

module _ {o : Opened} {done : List ℕ} {k : ℕ} (before : UnreadyTo o done k) where
  -- so in every state with these positions the next is the lowest,
  pub lowest-here : k < o.runs.count → TellsReady o done k true → LowestReady o done k
  lowest-here low here = record {
    below = low;
    ready = λ sc d at. lowest-at sc d (λ i l h. before i l h sc d at) (omega (arith, at.given.runs.count)) (here sc d at);
  }

  -- and with all passed there is none
  pub lowest-none : o.runs.count ≤ k → NoneReady o done
  lowest-none all sc d at = none-at sc d (λ i l h. before i l h sc d at) (omega (arith, at.given.runs.count))

module _ {o : Opened} {done : List ℕ} where
  all-runs : (sc : Scenario) (d : State) → Standing o done sc d → run_numbers sc ≡ numbers_from 1 (o.runs.count - 0)
  all-runs sc d at = let n : length sc.runs ≡ o.runs.count - 0 = omega (arith, at.given.runs.count) in ap (numbers_from 1) n

  -- the full list goes on with every run
  pub goes-full : GoesOn o done Full (record { start = 0; end = o.runs.count })
  unfolding runs_in
  goes-full = record { within = omega arith; runs = all-runs }

  -- and so does the short one where none sends or claims
  pub goes-all : NoneReady o done → GoesOn o done Short (record { start = 0; end = o.runs.count })
  goes-all unready = record { within = omega arith; runs = λ sc d at. short-all sc d (unready sc d at) ∙ all-runs sc d at }

  -- else with the lowest that does
  pub goes_one : {k : ℕ} → LowestReady o done k → GoesOn o done Short (record { start = k; end = k + 1 })
  goes_one {k} lowest = record {
    within = omega (arith, lowest.below);
    runs = λ sc d at. let one : 1 ≡ k + 1 - k = omega arith in short_one sc d (lowest.ready sc d at) ∙ ap (numbers_from (suc k)) one;
  }
