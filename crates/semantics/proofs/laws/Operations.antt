-- The laws of Search and Replay on bytes: what each answer says, and what is left in the buffer. Assumes nothing.
use Rattle.std.specs.Prelude.{ℕ, zero, suc, ◌+◌, ◌≤◌, ◌<◌, ◌≡◌, ◌↔◌, ◌⊎◌, List, ◌++◌, ltb, length, take, drop}
use Rattle.std.proofs.Math.Decide.{dec_lt}
use Rattle.std.proofs.Common.{arith, sym, ◌∙◌, inl, inr, ⊎_elim, length-append, length-drop}
use Rattle.std.proofs.Math.Path.{refl, ap}
use Rattle.std.proofs.Math.Option.{Option, none, some, none-ne-some}
use Rattle.std.proofs.Math.Seq.{take-append_seam, drop-append_seam}
use Rattle.semantics.specs.Answer.{Answer, refused, accepted, refuse, checked, ◌>>=◌, ◌>>◌}
use Rattle.semantics.specs.Frame.{budget_of}
use Rattle.semantics.specs.Scenario.{Scenario, scenario_of, opened}
use Rattle.semantics.specs.State.{State, initial, Claim}
use Rattle.semantics.specs.Moves.{Move, Listing}
use Rattle.semantics.specs.Verdict.{trace_list, broken, Verdict, broken_at, held, stopped, verdict, trace_bytes, short_buffer, searched_in, written, buffer_in}
use Rattle.semantics.specs.Replay.{replayed_from, replayed}
use Rattle.semantics.specs.Allowed.{AllowedTrace}
use Rattle.semantics.specs.Demand.{SomeBreak, FirstBreak, NoBreak}
use Rattle.semantics.specs.Refusals.{SearchRefuses, open_refuses, too_short, ReplayRefuses, file_refused, step_refused}
use Rattle.semantics.proofs.laws.Test.{provided-some, ltb_iff}
use Rattle.semantics.proofs.laws.List.{mem-get_elem}
use Rattle.semantics.proofs.laws.Answer.{refused-not-accepted, refused-same, accepted-same, checked-passed, bound-refused, bound-accepted}
use Rattle.semantics.proofs.laws.Refusals.{open-refuses, open-accepts}
use Rattle.semantics.proofs.laws.Traces.{trace-in, traces-exact}
use Rattle.semantics.proofs.laws.Bytes.{trace-bytes}
use Rattle.semantics.proofs.laws.Open.{opened-guarantee}
use Rattle.semantics.proofs.laws.Broken.{broken-named}
use Rattle.semantics.proofs.laws.Demand.{verdict-broken, verdict-held, verdict-stopped, verdict-breaks}
use Rattle.semantics.proofs.laws.Replay.{replay-reaches, replay-breaks-off}

-- the scenario of an accepted file has the file's budget
pub budget-of : (file : List ℕ) (sc : Scenario) → opened file ≡ accepted sc → sc.budget ≡ budget_of file
unfolding scenario_of
budget-of file sc e = ap (λ x. x.budget) ((open-accepts file sc).0 e).1.3

-- the trace of the first break is allowed
first-allowed : (which : Listing) (sc : Scenario) (place : ℕ) (ms : List Move) {c : Claim} (f : FirstBreak which sc place ms c) → AllowedTrace sc ms f.end
first-allowed which sc zero ms f = absurd (none-ne-some (ms, f.end) f.listed)
first-allowed which sc (suc i) ms f = trace-in which sc ((traces-exact which sc ms f.end).0 ((mem-get_elem (trace_list which sc)).1 (i, f.listed)))

module _ (which : Listing) (file buffer : List ℕ) where
  -- what Search goes on with
  abbrev after_open : Scenario → Answer Verdict
  after_open sc = ◌>>◌ (checked 10 (short_buffer buffer)) (accepted (verdict which sc))

  searched-bound : searched_in which file buffer ≡ ◌>>=◌ (opened file) after_open
  unfolding searched_in
  searched-bound = refl

  -- a buffer is too short exactly if it has fewer than 128 bytes
  short-exactly : (at : ℕ) → (short_buffer buffer ≡ some at) ↔ ((length buffer < 128) × (at ≡ length buffer))
  unfolding short_buffer
  short-exactly at = (
    λ e. let w = (provided-some (ltb (length buffer) 128)).0 e in ((ltb_iff (length buffer) 128).0 w.0, w.1),
    λ w. (provided-some (ltb (length buffer) 128)).1 ((ltb_iff (length buffer) 128).1 w.0, w.1),
  )

  -- and else it is long enough
  short-or-long : (128 ≤ length buffer) ⊎ (length buffer < 128)
  short-or-long = go (dec_lt (length buffer) 128)
    where
      go : Dec (length buffer < 128) → (128 ≤ length buffer) ⊎ (length buffer < 128)
      go (yes l) = inr l
      go (no n) = inl (omega arith)

  long-enough : 128 ≤ length buffer → short_buffer buffer ≡ none
  long-enough l = go (short_buffer buffer) refl
    where
      go : (o : Option ℕ) → short_buffer buffer ≡ o → o ≡ none
      go none e = refl
      go (some at) e = let h = ((short-exactly at).0 e).0 in absurd (omega arith)

  enough-long : short_buffer buffer ≡ none → 128 ≤ length buffer
  enough-long e = ⊎_elim (λ l. l) (λ l. absurd (none-ne-some (length buffer) (sym e ∙ (short-exactly (length buffer)).1 (l, refl)))) short-or-long

  -- Search gives a verdict exactly if the file is accepted and the buffer is long enough: the scenario's verdict.
  pub search-answers : (v : Verdict) → (searched_in which file buffer ≡ accepted v) ↔ ((sc : Scenario) × (opened file ≡ accepted sc) × (128 ≤ length buffer) × (verdict which sc ≡ v))
  search-answers v = (
    λ e.
        let w = (bound-accepted (opened file) after_open).0 (sym searched-bound ∙ e) in
        let c = checked-passed 10 (short_buffer buffer) (accepted (verdict which w.0)) w.2 in
        (w.0, w.1, enough-long c.0, accepted-same c.1),
    λ w. searched-bound ∙ (bound-accepted (opened file) after_open).1 (w.0, w.1, ap (λ o. ◌>>◌ (checked 10 o) (accepted (verdict which w.0))) (long-enough w.2) ∙ ap accepted w.3),
  )

  -- Search refuses as Open, then 10.
  pub search-refuses : (n at : ℕ) → (searched_in which file buffer ≡ refuse n at) ↔ SearchRefuses file buffer n at
  search-refuses n at = (λ e. ⊎_elim (λ r. open_refuses ((open-refuses file n at).0 r)) by-buffer ((bound-refused (opened file) after_open).0 (sym searched-bound ∙ e)), refuses)
    where
      by-buffer : (sc : Scenario) × (opened file ≡ accepted sc) × (after_open sc ≡ refuse n at) → SearchRefuses file buffer n at
      by-buffer w = go (short_buffer buffer) refl w.2
        where
          go : (o : Option ℕ) → short_buffer buffer ≡ o → ◌>>◌ (checked 10 o) (accepted (verdict which w.0)) ≡ refuse n at → SearchRefuses file buffer n at
          go none q e = absurd (refused-not-accepted (sym e))
          go (some p) q e = let v = refused-same e in let x = (short-exactly p).0 q in too_short w.1 x.0 (sym v.0) (sym v.1 ∙ x.1)

      refuses : SearchRefuses file buffer n at → searched_in which file buffer ≡ refuse n at
      refuses (open_refuses h) = searched-bound ∙ (bound-refused (opened file) after_open).1 (inl ((open-refuses file n at).1 h))
      refuses (too_short {sc} e l q p) =
          searched-bound
          ∙ (bound-refused (opened file) after_open).1 (inr (sc, e, ap (λ o. ◌>>◌ (checked 10 o) (accepted (verdict which sc))) ((short-exactly at).1 (l, p)) ∙ (λ i. refuse (sym q i) at)))

  -- HELD on bytes
  pub search-held : (n : ℕ) → (searched_in which file buffer ≡ accepted (held n))
      ↔ ((sc : Scenario) × (opened file ≡ accepted sc) × (128 ≤ length buffer) × NoBreak which sc × (length (trace_list which sc) ≤ budget_of file) × (n ≡ length (trace_list which sc)))
  search-held n = (
    λ e.
        let w = (search-answers (held n)).0 e in
        let h = (verdict-held which w.0 n).0 w.3 in
        let l = h.1 in
        (w.0, w.1, w.2, h.0, omega (arith, budget-of file w.0 w.1), h.2),
    λ w. (search-answers (held n)).1 (w.0, w.1, w.2, (verdict-held which w.0 n).1 (w.3, (let l = w.4 in omega (arith, budget-of file w.0 w.1)), w.5)),
  )

  -- BROKEN on bytes
  pub search-broken : (place : ℕ) (ms : List Move) (c : Claim) → (searched_in which file buffer ≡ accepted (broken_at place ms c))
      ↔ ((sc : Scenario) × (opened file ≡ accepted sc) × (128 ≤ length buffer) × FirstBreak which sc place ms c)
  search-broken place ms c = (
    λ e. let w = (search-answers (broken_at place ms c)).0 e in (w.0, w.1, w.2, (verdict-broken which w.0 place ms c).0 w.3),
    λ w. (search-answers (broken_at place ms c)).1 (w.0, w.1, w.2, (verdict-broken which w.0 place ms c).1 w.3),
  )

  pub search-breaks : ((place : ℕ) × (ms : List Move) × (c : Claim) × (searched_in which file buffer ≡ accepted (broken_at place ms c)))
      ↔ ((sc : Scenario) × (opened file ≡ accepted sc) × (128 ≤ length buffer) × SomeBreak which sc)
  search-breaks = (
    λ w. let v = (search-answers (broken_at w.0 w.1 w.2)).0 w.3 in (v.0, v.1, v.2, (verdict-breaks which v.0).0 (w.0, w.1, w.2, v.3)),
    λ w. let v = (verdict-breaks which w.0).1 w.3 in (v.0, v.1, v.2, (search-answers (broken_at v.0 v.1 v.2)).1 (w.0, w.1, w.2, v.3)),
  )

  -- STOPPED on bytes
  pub search-stopped : (n : ℕ) → (searched_in which file buffer ≡ accepted (stopped n))
      ↔ ((sc : Scenario) × (opened file ≡ accepted sc) × (128 ≤ length buffer) × (n ≡ budget_of file) × (¬ SomeBreak which sc) × (¬ (NoBreak which sc × (length (trace_list which sc) ≤ budget_of file))))
  search-stopped n = (
    λ e.
        let w = (search-answers (stopped n)).0 e in
        let h = (verdict-stopped which w.0 n).0 w.3 in
        let b = budget-of file w.0 w.1 in
        (w.0, w.1, w.2, h.0 ∙ b, h.1, λ x. h.2 (x.0, (let l = x.1 in omega arith))),
    λ w.
        let b = budget-of file w.0 w.1 in
        (search-answers (stopped n)).1 (w.0, w.1, w.2, (verdict-stopped which w.0 n).1 (w.3 ∙ sym b, w.4, λ x. w.5 (x.0, (let l = x.1 in omega arith)))),
  )

  -- A refusal, HELD and STOPPED leave the buffer as it was.
  pub search-keeps : (a : Answer Verdict) → searched_in which file buffer ≡ a → ((place : ℕ) (ms : List Move) (c : Claim) → ¬ (a ≡ accepted (broken_at place ms c))) → buffer_in which file buffer ≡ buffer
  unfolding buffer_in
  search-keeps (refused r) e n = rw e
  search-keeps (accepted (broken_at place ms c)) e n = absurd (n place ms c refl)
  search-keeps (accepted (held k)) e n = rw e
  search-keeps (accepted (stopped k)) e n = rw e

  -- BROKEN leaves the trace at the buffer's front, the rest and the length as they were.
  pub search-writes : (place : ℕ) (ms : List Move) (c : Claim) → searched_in which file buffer ≡ accepted (broken_at place ms c)
      → (take (length (trace_bytes ms)) (buffer_in which file buffer) ≡ trace_bytes ms)
      × (drop (length (trace_bytes ms)) (buffer_in which file buffer) ≡ drop (length (trace_bytes ms)) buffer)
      × (length (buffer_in which file buffer) ≡ length buffer)
  search-writes place ms c e = (
    ap (take (length (trace_bytes ms))) after ∙ take-append_seam (trace_bytes ms) rest,
    ap (drop (length (trace_bytes ms))) after ∙ drop-append_seam (trace_bytes ms) rest,
    ap length after ∙ length-append (trace_bytes ms) rest ∙ whole,
  )
    where
      rest : List ℕ
      rest = drop (length (trace_bytes ms)) buffer

      after : buffer_in which file buffer ≡ trace_bytes ms ++ rest
      after = unfold buffer_in in ap (written buffer) e

      found : (sc : Scenario) × (opened file ≡ accepted sc) × (128 ≤ length buffer) × FirstBreak which sc place ms c
      found = (search-broken place ms c).0 e

      fits : length (trace_bytes ms) ≤ 128
      fits = trace-bytes found.0 (opened-guarantee file found.0 found.1) ms found.3.end (first-allowed which found.0 place ms found.3)

      whole : length (trace_bytes ms) + length rest ≡ length buffer
      whole = let l = found.2 in let k = length-drop (length (trace_bytes ms)) buffer in omega (arith, fits)

module _ (file trace : List ℕ) where
  -- what Replay goes on with
  abbrev after_file : Scenario → Answer (Option Claim)
  after_file sc = ◌>>=◌ (replayed_from (length trace) sc 0 (initial sc) trace) (λ s. accepted (broken sc s))

  replayed-bound : replayed file trace ≡ ◌>>=◌ (opened file) after_file
  unfolding replayed
  replayed-bound = refl

  -- Replay refuses as Open, then 12.
  pub replay-refuses : (n at : ℕ) → (replayed file trace ≡ refuse n at) ↔ ReplayRefuses file trace n at
  replay-refuses n at = (λ e. ⊎_elim (λ r. file_refused ((open-refuses file n at).0 r)) by-step ((bound-refused (opened file) after_file).0 (sym replayed-bound ∙ e)), refuses)
    where
      by-step : (sc : Scenario) × (opened file ≡ accepted sc) × (after_file sc ≡ refuse n at) → ReplayRefuses file trace n at
      by-step w = ⊎_elim
          (λ r. let v = (replay-breaks-off w.0 (initial w.0) trace n at).0 r in step_refused w.1 v.3 v.4 v.5 v.6 v.7 v.8)
          (λ v. absurd (refused-not-accepted (sym v.2)))
          ((bound-refused (replayed_from (length trace) w.0 0 (initial w.0) trace) (λ s. accepted (broken w.0 s))).0 w.2)

      refuses : ReplayRefuses file trace n at → replayed file trace ≡ refuse n at
      refuses (file_refused h) = replayed-bound ∙ (bound-refused (opened file) after_file).1 (inl ((open-refuses file n at).1 h))
      refuses (step_refused {sc} {ms} {s} {rest} e a q l k m p) =
          replayed-bound
          ∙ (bound-refused (opened file) after_file).1
          (inr
          (sc, e, (bound-refused (replayed_from (length trace) sc 0 (initial sc) trace) (λ s. accepted (broken sc s))).1 (inl ((replay-breaks-off sc (initial sc) trace n at).1 (ms, s, rest, a, q, l, k, m, p)))))

  -- Otherwise it gives the claim broken, or none: exactly of the bytes of an allowed trace.
  pub replay-answers : (c : Option Claim) → (replayed file trace ≡ accepted c)
      ↔ ((sc : Scenario) × (ms : List Move) × (s : State) × (opened file ≡ accepted sc) × AllowedTrace sc ms s × (trace ≡ trace_bytes ms) × (broken sc s ≡ c))
  replay-answers c = (
    λ e.
        let w = (bound-accepted (opened file) after_file).0 (sym replayed-bound ∙ e) in
        let v = (bound-accepted (replayed_from (length trace) w.0 0 (initial w.0) trace) (λ s. accepted (broken w.0 s))).0 w.2 in
        let r = (replay-reaches w.0 (initial w.0) trace v.0).0 v.1 in
        (w.0, r.0, v.0, w.1, r.1, r.2, accepted-same v.2),
    λ w.
        replayed-bound
        ∙ (bound-accepted (opened file) after_file).1
        (w.0, w.3, (bound-accepted (replayed_from (length trace) w.0 0 (initial w.0) trace) (λ s. accepted (broken w.0 s))).1 (w.2, (replay-reaches w.0 (initial w.0) trace w.2).1 (w.1, w.4, w.5), ap accepted w.6)),
  )

-- The trace of a BROKEN verdict is replayed to its claim.
pub search-replays : (which : Listing) (file buffer : List ℕ) (place : ℕ) (ms : List Move) (c : Claim) → searched_in which file buffer ≡ accepted (broken_at place ms c) → replayed file (trace_bytes ms) ≡ accepted (some c)
search-replays which file buffer place ms c e =
    let w = (search-broken which file buffer place ms c).0 e in
    let f = w.3 in
    (replay-answers file (trace_bytes ms) (some c)).1 (w.0, ms, f.end, w.1, first-allowed which w.0 place ms f, refl, (broken-named w.0 f.end c).1 f.names)
