-- The short list against the full one: the same breaks, the same word, never longer, and equal where every event is a read. Assumes nothing.
use Rattle.std.specs.Prelude.{ℕ, ◌≤◌, ◌≡◌, refl, ◌↔◌, ◌⊎◌, length}
use Rattle.std.proofs.Common.{arith, inl, inr}
use Rattle.std.proofs.Math.Path.{ap, fun_ext}
use mathlib.Core.List.{List, [], map}
use Rattle.std.proofs.Math.Option.{Option, none, some}
use Rattle.std.proofs.Math.ListN.{get_elem?}
use Rattle.semantics.specs.Basic.{first_of, joined}
use Rattle.semantics.specs.Answer.{accepted}
use Rattle.semantics.specs.Roles.{read, Event, Role}
use Rattle.semantics.specs.Runs.{Run}
use Rattle.semantics.specs.Frame.{budget_of}
use Rattle.semantics.specs.Scenario.{Scenario, opened}
use Rattle.semantics.specs.State.{State, active, initial, events_of, events_left}
use Rattle.semantics.specs.Moves.{Listing, full, short, ready_at, run_numbers, alone_or, runs_in, moves_of_run, moves_in}
use Rattle.semantics.specs.Tree.{listed}
use Rattle.semantics.specs.Verdict.{trace_list, searched_in, searched}
use Rattle.semantics.specs.Packing.{packed_searched, read_word}
use Rattle.semantics.specs.Allowed.{Ready}
use Rattle.semantics.specs.Demand.{SomeBreak, NoBreak, ReadsOnly}
use Rattle.semantics.specs.Guarantee.{Guarantee}
use Rattle.semantics.proofs.laws.Test.{none-there}
use Rattle.semantics.proofs.laws.List.{mem-get_elem, Within, within-itself, within-one, within-joined}
use Rattle.semantics.proofs.laws.Tree.{listed-fewer}
use Rattle.semantics.proofs.laws.Open.{opened-guarantee}
use Rattle.semantics.proofs.laws.Active.{active-in, active-mem, Readiness, first_ready, closed, readiness}
use Rattle.semantics.proofs.laws.Traces.{trace-in}
use Rattle.semantics.proofs.laws.Demand.{ends, no-break-none}
use Rattle.semantics.proofs.laws.Operations.{budget-of, search-breaks}
use Rattle.semantics.proofs.laws.Packing.{broken-word}
use Rattle.semantics.proofs.laws.Caller.{held-read}
use Rattle.semantics.proofs.laws.Ahead.{short-breaks}

-- No trace of the short list breaks a claim exactly if no allowed trace at all does.
pub no-break-same : (sc : Scenario) → Guarantee sc → NoBreak short sc ↔ NoBreak full sc
no-break-same sc g = (
  λ all ms s f c b. let w = short-breaks g f c b in all w.0 w.1 w.2 c w.3,
  λ all ms s f c b. all ms s (trace-in short sc f) c b,
)

-- So HELD by the short list says as much as HELD by the full one.
pub short-held-read : (file buffer : List ℕ)
    → (read_word (packed_searched (searched_in short file buffer)) ≡ 1)
    ↔ ((sc : Scenario) × (opened file ≡ accepted sc) × (128 ≤ length buffer) × NoBreak full sc × (length (trace_list short sc) ≤ budget_of file))
short-held-read file buffer =
    let h = held-read short file buffer in (
      λ e. let w = h.0 e in (w.0, w.1, w.2, (no-break-same w.0 (opened-guarantee file w.0 w.1)).0 w.3, w.4),
      λ w. h.1 (w.0, w.1, w.2, (no-break-same w.0 (opened-guarantee file w.0 w.1)).1 w.3, w.4),
    )

-- With a budget that reaches the end of both lists, the two searches give the same word, BROKEN or HELD.
pub same_word : (file buffer : List ℕ) (sc : Scenario) → opened file ≡ accepted sc → 128 ≤ length buffer → length (trace_list full sc) ≤ budget_of file → length (trace_list short sc) ≤ budget_of file
    → ((read_word (packed_searched (searched file buffer)) ≡ 3) × (read_word (packed_searched (searched_in short file buffer)) ≡ 3))
    ⊎ ((read_word (packed_searched (searched file buffer)) ≡ 1) × (read_word (packed_searched (searched_in short file buffer)) ≡ 1))
same_word file buffer sc e l enough enough' =
    go (ends full sc (omega (arith, budget-of file sc e))) (ends short sc (omega (arith, budget-of file sc e)))
  where
    same : NoBreak short sc ↔ NoBreak full sc
    same = no-break-same sc (opened-guarantee file sc e)

    is-broken : (which : Listing) → SomeBreak which sc → read_word (packed_searched (searched_in which file buffer)) ≡ 3
    is-broken which b = let w = (search-breaks which file buffer).1 (sc, e, l, b) in broken-word w.3

    is_held : (which : Listing) → NoBreak which sc → length (trace_list which sc) ≤ budget_of file → read_word (packed_searched (searched_in which file buffer)) ≡ 1
    is_held which n k = (held-read which file buffer).1 (sc, e, l, n, k)

    go : SomeBreak full sc ⊎ NoBreak full sc → SomeBreak short sc ⊎ NoBreak short sc
        → ((read_word (packed_searched (searched file buffer)) ≡ 3) × (read_word (packed_searched (searched_in short file buffer)) ≡ 3))
        ⊎ ((read_word (packed_searched (searched file buffer)) ≡ 1) × (read_word (packed_searched (searched_in short file buffer)) ≡ 1))
    go (inl b) (inl b') = inl (is-broken full b, is-broken short b')
    go (inl b) (inr n') = absurd (no-break-none full sc (same.0 n') b)
    go (inr n) (inl b') = absurd (no-break-none short sc (same.1 n) b')
    go (inr n) (inr n') = inr (is_held full n enough, is_held short n' enough')

module _ (sc : Scenario) where
  -- the runs of the short list are among all
  runs-within : (s : State) → Within (runs_in short sc s) (runs_in full sc s)
  unfolding runs_in
  runs-within s = go (first_of (map (ready_at sc s) (run_numbers sc))) (readiness sc s)
    where
      go : (o : Option ℕ) → Readiness sc s o → Within (alone_or o (run_numbers sc)) (run_numbers sc)
      go (some u) (first_ready r low) = within-one (active-mem sc s u r.1)
      go none (closed n) = within-itself (run_numbers sc)

  -- The short list is never longer.
  pub short-shorter : length (trace_list short sc) ≤ length (trace_list full sc)
  unfolding trace_list moves_in
  short-shorter = listed-fewer (moves_in short sc) (moves_in full sc) (λ s. within-joined (λ u. moves_of_run sc s u (active sc s u)) (runs-within s)) (events_left sc (initial sc)) (initial sc)

  -- "For a scenario of reads only, both lists are equal."
  pub reads-equal : ReadsOnly sc → trace_list short sc ≡ trace_list full sc
  unfolding trace_list moves_in runs_in events_of
  reads-equal only =
      ap (λ (next : State → List ℕ). listed (λ s. joined (λ u. moves_of_run sc s u (active sc s u)) (next s)) (events_left sc (initial sc)) (initial sc)) (fun_ext same)
    where
      in-role : (run : Run) (o : Option Role) → get_elem? sc.roles run.role ≡ o → (j : ℕ) (e : Event) → get_elem? (elim o [ none ↦ [] | some r ↦ r.events ]) j ≡ some e → e.kind ≡ read
      in-role run none z j e f = none-there (e, f)
      in-role run (some r) z j e f = only r ((mem-get_elem sc.roles).1 (run.role, z)) e ((mem-get_elem r.events).1 (j, f))

      no-ready : (s : State) (u : ℕ) → ¬ Ready sc s u
      no-ready s u r = let i = active-in sc s u r.1 in r.2 (in-role r.0.run (get_elem? sc.roles r.0.run.role) refl r.0.progress.done r.0.event i.of_event)

      same : (s : State) → runs_in short sc s ≡ runs_in full sc s
      same s = go (first_of (map (ready_at sc s) (run_numbers sc))) (readiness sc s)
        where
          go : (o : Option ℕ) → Readiness sc s o → alone_or o (run_numbers sc) ≡ run_numbers sc
          go (some u) (first_ready r low) = absurd (no-ready s u r)
          go none (closed n) = refl
