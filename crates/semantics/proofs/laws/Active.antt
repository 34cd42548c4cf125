-- The laws of runs with an event to come: which they are, which of them sends or claims first, and which a list goes on with. Assumes nothing.
use Prim.Native.Nat.{ℕ, zero, suc, ◌+◌, ◌≤◌, ◌<◌}
use native.Mathlib.Omega.{arith}
use Rattle.std.proofs.Math.Decide.{dec_lt}
use Rattle.std.specs.Prelude.{◌≡◌, refl, ◌↔◌, T, length}
use Rattle.std.proofs.Common.{sym, ◌∙◌, subst}
use Rattle.std.proofs.Math.Option.{Option, none, some, none-ne-some}
use mathlib.Core.List.Memᴰ
use mathlib.Core.List.{map, Memᴰ}
use Rattle.std.proofs.Math.ListN.{get_elem?}
use Rattle.semantics.specs.Basic.{first_of, provided, Ordered}
use Rattle.semantics.specs.Roles.{EventKind, send, read, claim}
use Rattle.semantics.specs.Scenario.{Scenario}
use Rattle.semantics.specs.State.{State, Active, active, events_of}
use Rattle.semantics.specs.Moves.{Listing, full, short, send_or_claim, ready_at, run_numbers, alone_or, runs_in}
use Rattle.semantics.specs.Allowed.{Ready, InShort, lowest_ready, none_ready}
use Rattle.semantics.specs.Meaning.{ActiveIn}
use Rattle.semantics.proofs.laws.Test.{provided-some, and_then-some, mapped-some}
use Rattle.semantics.proofs.laws.List.{mem-cases, mem-numbers_from, get_elem-below, ordered-one, ordered-numbers_from}
use Rattle.semantics.proofs.laws.Broken.{FirstIn, found_at, not_found, first_in}

-- an event that sends or claims is no read
pub no_read : (kind : EventKind) → T (send_or_claim kind) → ¬ (kind ≡ read)
no_read kind t e = rw e at t

-- and the other way round
not-read : (kind : EventKind) → ¬ (kind ≡ read) → T (send_or_claim kind)
not-read send n = tt
not-read read n = n refl
not-read (claim kind) n = tt

module _ (sc : Scenario) (s : State) where
  -- an active run is so
  pub active-in : (u : ℕ) {a : Active} → active sc s u ≡ some a → ActiveIn sc s u a
  unfolding active
  active-in zero {a} e = absurd (none-ne-some a e)
  active-in (suc k) e =
      let r = (and_then-some (get_elem? sc.runs k) _).0 e in
      let p = (and_then-some (get_elem? s.progress k) _).0 r.2 in
      let v = (mapped-some _ (get_elem? (events_of sc r.0) p.0.done)).0 p.2 in
      rw v.2 (record { numbered = refl; of_run = r.1; of_progress = p.1; of_event = v.1 })

  -- and a run that is so is active
  pub active-at : (u : ℕ) {a : Active} → ActiveIn sc s u a → active sc s u ≡ some a
  unfolding active
  active-at u h = rw h.numbered (rw h.of_run (rw h.of_progress (rw h.of_event)))

  -- it is a run of the scenario
  pub active-mem : (u : ℕ) {a : Active} → active sc s u ≡ some a → Memᴰ u (run_numbers sc)
  active-mem u {a} e = let w = active-in u e in (mem-numbers_from 1 (length sc.runs)).1 (omega (arith, get_elem-below sc.runs a.index w.of_run, w.numbered))

  -- a run that sends or claims next
  ready-some : (u : ℕ) {v : ℕ} → ready_at sc s u ≡ some v → Ready sc s u × (v ≡ u)
  unfolding ready_at
  ready-some u e =
      let w = (and_then-some (active sc s u) (λ a. provided (send_or_claim a.event.kind) u)).0 e in
      let p = (provided-some (send_or_claim w.0.event.kind)).0 w.2 in
      ((w.0, w.1, no_read w.0.event.kind p.0), p.1)

  ready-at : (u : ℕ) → Ready sc s u → ready_at sc s u ≡ some u
  unfolding ready_at
  ready-at u r =
      (and_then-some (active sc s u) (λ a. provided (send_or_claim a.event.kind) u)).1
      (r.0, r.1, (provided-some (send_or_claim r.0.event.kind)).1 (not-read r.0.event.kind r.2, refl))

  -- it is a run of the scenario
  ready-within : (u : ℕ) → Ready sc s u → (1 ≤ u) × (u < 1 + length sc.runs)
  ready-within u r = (mem-numbers_from 1 (length sc.runs)).0 (active-mem u r.1)

  -- The lowest run that sends or claims next, or that there is none.
  pub data Readiness : Option ℕ → Type 0 where
    first_ready : {u : ℕ} → Ready sc s u → ((v : ℕ) → v < u → ¬ Ready sc s v) → Readiness (some u)
    closed : ((v : ℕ) → ¬ Ready sc s v) → Readiness none

  pub readiness : Readiness (first_of (map (ready_at sc s) (run_numbers sc)))
  readiness = go (first_of (map (ready_at sc s) (run_numbers sc))) (first_in (ready_at sc s) 1 (length sc.runs))
    where
      go : (o : Option ℕ) → FirstIn (ready_at sc s) 1 (length sc.runs) o → Readiness o
      go o (found_at {y = y} k l h e before) =
          let w = ready-some k e in
          subst (λ (u : ℕ). Readiness (some u)) (sym w.1)
          (first_ready w.0 (λ v b r. none-ne-some v (sym (before v (ready-within v r).0 b) ∙ ready-at v r)))
      go o (not_found all) = closed (λ v r. let w = ready-within v r in none-ne-some v (sym (all v w.0 w.1) ∙ ready-at v r))

  -- the runs that the short list goes on with
  pub runs-short : (u : ℕ) → Memᴰ u (runs_in short sc s) ↔ (Memᴰ u (run_numbers sc) × InShort sc s u)
  unfolding runs_in
  runs-short u = go (first_of (map (ready_at sc s) (run_numbers sc))) readiness
    where
      go : (o : Option ℕ) → Readiness o → Memᴰ u (alone_or o (run_numbers sc)) ↔ (Memᴰ u (run_numbers sc) × InShort sc s u)
      go (some v) (first_ready r low) = (
        λ m. mem-cases m (λ e. rw e ((mem-numbers_from 1 (length sc.runs)).1 (ready-within v r), lowest_ready r low)) (λ n. absurd (Memᴰ.not-nil n)),
        λ w. Memᴰ.head (lowest w.1),
      )
        where
          lowest : InShort sc s u → u ≡ v
          lowest (lowest_ready q below) = same (dec_lt u v) (dec_lt v u)
            where
              same : Dec (u < v) → Dec (v < u) → u ≡ v
              same (yes l) d = absurd (low u l q)
              same (no n) (yes l) = absurd (below v l r)
              same (no n) (no n') = omega arith
          lowest (none_ready no-ready) = absurd (no-ready v r)
      go none (closed no-ready) = (λ m. (m, none_ready no-ready), λ w. w.0)

  -- the runs of a list are in order
  pub runs-ordered : (which : Listing) → Ordered ◌<◌ (runs_in which sc s)
  unfolding runs_in
  runs-ordered full = ordered-numbers_from 1 (length sc.runs)
  runs-ordered short = go (first_of (map (ready_at sc s) (run_numbers sc)))
    where
      go : (o : Option ℕ) → Ordered ◌<◌ (alone_or o (run_numbers sc))
      go (some u) = ordered-one
      go none = ordered-numbers_from 1 (length sc.runs)
