-- The lists of traces below states of equal positions, values and derivable terms are equally long and break claims alike. Assumes nothing.
use Prim.Native.Nat.{ℕ, zero, suc}
use Rattle.std.specs.Prelude.{◌≡◌, Bool, true, false, ◌&&◌, T, length}
use Rattle.std.proofs.Math.Path.{refl, ap, subst, fun_ext}
use Rattle.std.proofs.Common.{sym, ◌∙◌, true≢false}
use mathlib.Core.List.{List, ◌∷◌, ◌++◌, map, Memᴰ}
use Rattle.std.proofs.Math.Option.{Option, none, some, some-injective, none-ne-some}
use Rattle.std.proofs.Math.ListN.{get_elem?}
use Rattle.semantics.specs.Basic.{and_then, mapped, provided, present_ones, joined, numbers_from, first_of}
use Rattle.semantics.specs.Term.{Atom, Term}
use Rattle.semantics.specs.Inference.{Derives, member, derivable}
use Rattle.semantics.specs.Value.{value_of}
use Rattle.semantics.specs.Roles.{ClaimKind, secrecy, EventKind, send, read, claim, claim_kind, Event}
use Rattle.semantics.specs.Runs.{Run, all_trusted}
use Rattle.semantics.specs.Scenario.{Scenario}
use Rattle.semantics.specs.State.{Value, Progress, State, Active, reading_in, new_variables, paired, active, events_of, Message, Claim}
use Rattle.semantics.specs.Moves.{message_after, to_set, set_after, known_after, advanced, performed, branch, choices, moves_of_run, Listing, full, short, send_or_claim, ready_at, run_numbers, alone_or, runs_in, moves_in}
use Rattle.semantics.specs.Tree.{listed}
use Rattle.semantics.specs.Verdict.{claimed_value, is_known, is_against, broken_event, broken_in_run, broken}
use Rattle.semantics.specs.Guarantee.{GoodTable}
use Rattle.semantics.proofs.laws.Test.{same_test}
use Rattle.semantics.proofs.laws.Inference.{derives-cut, derives-monotone, derivable-exact}
use Rattle.semantics.specs.Same.{Both, none_of, some_of, Each, nil, cons, SameSets, SameRun, Same, SameMove, SameEntry}
use Rattle.semantics.proofs.laws.Each.{each_at, each_set, each-joined, each-present, each-joined-by, each_map, both-mapped}
use Rattle.semantics.proofs.laws.SameValues.{value_same, reading-same, message-same, new-same, sets-append}

-- more terms known on both sides
derivable-more : (m : Term) (known other : List Term) → ((t : Term) → derivable known t ≡ derivable other t) → (t : Term) → derivable (m ∷ known) t ≡ derivable (m ∷ other) t
derivable-more m known other h t = same_test (derivable (m ∷ known) t) (derivable (m ∷ other) t) (over known other (λ x. h x), over other known (λ x. sym (h x)))
  where
    over : (ls ms : List Term) → ((x : Term) → derivable ls x ≡ derivable ms x) → T (derivable (m ∷ ls) t) → T (derivable (m ∷ ms) t)
    over ls ms g y =
        (derivable-exact (m ∷ ms) t).1
        (derives-cut each ((derivable-exact (m ∷ ls) t).0 y))
      where
        each : (x : Term) → Memᴰ x (m ∷ ls) → Derives (m ∷ ms) x
        each x (Memᴰ.head e) = member (Memᴰ.head e)
        each x (Memᴰ.tail q) = derives-monotone (λ y n. Memᴰ.tail n) ((derivable-exact ms x).0 (subst (λ (b : Bool). T b) (g x) ((derivable-exact ls x).1 (member q))))

-- knowledge from which the same terms derive
abbrev KnownSame : List Term → List Term → Type 0
KnownSame known other = (t : Term) → derivable known t ≡ derivable other t

-- an event is allowed with both or with neither, and the same derives after it
known_same : (kind : EventKind) (known other : List Term) (m : Option Message) → KnownSame known other → Both KnownSame (known_after kind known m) (known_after kind other m)
unfolding known_after
known_same send known other none h = none_of
known_same send known other (some m) h =
    some_of (derivable-more m.sender (m.receiver ∷ m.term ∷ known) (m.receiver ∷ m.term ∷ other) (derivable-more m.receiver (m.term ∷ known) (m.term ∷ other) (derivable-more m.term known other h)))
known_same read known other none h = none_of
known_same read known other (some m) h = go (derivable known m.sender && derivable known m.receiver && derivable known m.term) (derivable other m.sender && derivable other m.receiver && derivable other m.term) same
  where
    same : (derivable known m.sender && derivable known m.receiver && derivable known m.term) ≡ (derivable other m.sender && derivable other m.receiver && derivable other m.term)
    same = λ i. h m.sender i && h m.receiver i && h m.term i

    go : (b c : Bool) → b ≡ c → Both KnownSame (provided b known) (provided c other)
    go true true e = some_of h
    go true false e = absurd (true≢false e)
    go false true e = absurd (true≢false (sym e))
    go false false e = none_of
known_same (claim kind) known other m h = some_of h

module _ (sc : Scenario) where
  -- the next event of a run in two states
  data SameActive : Active → Active → Type 0 where
    same_active : {k : ℕ} {run : Run} {ev : Event} {p q : Progress} → SameRun sc.rows p q → SameActive (record { index = k; run = run; progress = p; event = ev }) (record { index = k; run = run; progress = q; event = ev })

  -- a run has the same event to come, or none
  active-same : (d e : State) → Each (SameRun sc.rows) d.progress e.progress → (u : ℕ) → Both SameActive (active sc d u) (active sc e u)
  unfolding active
  active-same d e h zero = none_of
  active-same d e h (suc k) = at-run (get_elem? sc.runs k)
    where
      at-event : (run : Run) {p q : Progress} → SameRun sc.rows p q → (o o' : Option Event) → o ≡ o'
          → Both SameActive (mapped (λ ev. record { index = k; run = run; progress = p; event = ev }) o) (mapped (λ ev. record { index = k; run = run; progress = q; event = ev }) o')
      at-event run same none none z = none_of
      at-event run same none (some x) z = absurd (none-ne-some x z)
      at-event run same (some x) none z = absurd (none-ne-some x (sym z))
      at-event run {p} {q} same (some x) (some y) z =
          subst (λ (ev : Event). Both SameActive (some (record { index = k; run = run; progress = p; event = x })) (some (record { index = k; run = run; progress = q; event = ev }))) (some-injective x y z) (some_of (same_active same))

      at-progress : (run : Run) (o o' : Option Progress) → Both (SameRun sc.rows) o o'
          → Both SameActive (and_then o (λ p. mapped (λ ev. record { index = k; run = run; progress = p; event = ev }) (get_elem? (events_of sc run) p.done)))
          (and_then o' (λ p. mapped (λ ev. record { index = k; run = run; progress = p; event = ev }) (get_elem? (events_of sc run) p.done)))
      at-progress run none none none_of = none_of
      at-progress run (some p) (some q) (some_of same) = at-event run same (get_elem? (events_of sc run) p.done) (get_elem? (events_of sc run) q.done) (ap (get_elem? (events_of sc run)) same.done)
      at-progress run none (some q) x'' = elim x'' [ ]
      at-progress run (some p) none x3 = elim x3 [ ]

      at-run : (o : Option Run) → Both SameActive
          (and_then o (λ run. and_then (get_elem? d.progress k) (λ p. mapped (λ ev. record { index = k; run = run; progress = p; event = ev }) (get_elem? (events_of sc run) p.done))))
          (and_then o (λ run. and_then (get_elem? e.progress k) (λ p. mapped (λ ev. record { index = k; run = run; progress = p; event = ev }) (get_elem? (events_of sc run) p.done))))
      at-run none = none_of
      at-run (some run) = at-progress run (get_elem? d.progress k) (get_elem? e.progress k) (each_at h k)

  -- an event leaves equal values
  set_same : {p q : Progress} → SameRun sc.rows p q → (k : ℕ) (run : Run) (ev : Event) (vs : List Value)
      → SameSets sc.rows (set_after sc (record { index = k; run = run; progress = p; event = ev }) vs) (set_after sc (record { index = k; run = run; progress = q; event = ev }) vs)
  unfolding set_after
  set_same {p} {q} same k run ev vs =
      subst (λ (xs : List Atom). SameSets sc.rows (p.values ++ paired (new_variables sc.rows p.values ev.kind ev.row) vs) (q.values ++ paired xs vs))
      (new-same sc.rows p.values q.values same.sets ev.kind ev.row)
      (sets-append sc.rows p.values q.values same.sets (paired (new_variables sc.rows p.values ev.kind ev.row) vs))

  module _ (good : GoodTable sc.rows) where
    -- a row has one value in both
    pub row_same : (u : ℕ) (run : Run) (sets sets' : List (Atom × Value)) → SameSets sc.rows sets sets' → (row : ℕ)
        → value_of (reading_in sc.rows u run sets) sc.rows row ≡ value_of (reading_in sc.rows u run sets') sc.rows row
    row_same u run sets sets' same = value_same good (reading_in sc.rows u run sets) (reading_in sc.rows u run sets') (reading-same sc.rows u run sets sets' same)

    -- it is allowed in both or in neither, and the states after it are the same
    performed-same : {d e : State} → Same sc.rows d e → {a b : Active} → SameActive a b → (vs : List Value) → Both (Same sc.rows) (performed sc d a vs) (performed sc e b vs)
    unfolding performed message_after advanced
    performed-same {d} {e} same (same_active {k} {run} {ev} {p} {q} runs) vs =
        both-mapped (advanced sc d a vs) (advanced sc e b vs) (λ x y h. record { progress = each_set same.progress k (record { done = ap suc runs.done; sets = set_same runs k run ev vs }); derives = h })
        (subst (λ (m : Option Message). Both KnownSame (known_after ev.kind d.known (message_after sc a vs)) (known_after ev.kind e.known m)) messages (known_same ev.kind d.known e.known (message_after sc a vs) same.derives))
      where
        a : Active
        a = record { index = k; run = run; progress = p; event = ev }

        b : Active
        b = record { index = k; run = run; progress = q; event = ev }

        messages : message_after sc a vs ≡ message_after sc b vs
        messages = message-same sc.rows (suc k) run (set_after sc a vs) (set_after sc b vs) ev (row_same (suc k) run (set_after sc a vs) (set_after sc b vs) (set_same runs k run ev vs) ev.row)

    -- a run has the same moves
    moves-of-run : {d e : State} → Same sc.rows d e → (u : ℕ) {o o' : Option Active} → Both SameActive o o' → Each (SameMove sc.rows) (moves_of_run sc d u o) (moves_of_run sc e u o')
    unfolding moves_of_run
    moves-of-run same u none_of = nil
    moves-of-run {d} {e} same u (some_of {a} {b} active) =
        subst (λ (xs : List Atom). Each (SameMove sc.rows) (present_ones (map (λ vs. mapped (branch u vs) (performed sc d a vs)) (choices sc.rows (length sc.runs) (to_set sc a)))) (present_ones (map (λ vs. mapped (branch u vs) (performed sc e b vs)) (choices sc.rows (length sc.runs) xs)))) (to-set active)
        (each-present (λ vs. mapped (branch u vs) (performed sc d a vs)) (λ vs. mapped (branch u vs) (performed sc e b vs)) (λ vs. both-mapped (branch u vs) (branch u vs) (λ x y h. (refl, h)) (performed-same same active vs)) (choices sc.rows (length sc.runs) (to_set sc a)))
      where
        to-set : {a b : Active} → SameActive a b → to_set sc a ≡ to_set sc b
        to-set (same_active {k} {run} {ev} {p} {q} runs) = new-same sc.rows p.values q.values runs.sets ev.kind ev.row

    -- a run sends or claims next in both or in neither
    ready-same : {d e : State} → Same sc.rows d e → (u : ℕ) → ready_at sc d u ≡ ready_at sc e u
    unfolding ready_at
    ready-same {d} {e} same u = go (active-same d e same.progress u)
      where
        at_next : Option Active → Option ℕ
        at_next o = and_then o (λ a. provided (send_or_claim a.event.kind) u)

        go : {o o' : Option Active} → Both SameActive o o' → at_next o ≡ at_next o'
        go none_of = refl
        go (some_of (same_active runs)) = refl

    -- a list goes on with the same runs
    runs_same : (which : Listing) {d e : State} → Same sc.rows d e → runs_in which sc d ≡ runs_in which sc e
    unfolding runs_in
    runs_same full same = refl
    runs_same short same = ap (λ (at : ℕ → Option ℕ). alone_or (first_of (map at (run_numbers sc))) (run_numbers sc)) (fun_ext (ready-same same))

    -- The moves of both are the same, in each place.
    pub moves-same : (which : Listing) {d e : State} → Same sc.rows d e → Each (SameMove sc.rows) (moves_in which sc d) (moves_in which sc e)
    unfolding moves_in
    moves-same which {d} {e} same =
        subst (λ (us : List ℕ). Each (SameMove sc.rows) (joined (λ u. moves_of_run sc d u (active sc d u)) (runs_in which sc d)) (joined (λ u. moves_of_run sc e u (active sc e u)) us)) (runs_same which same)
        (each-joined (λ u. moves_of_run sc d u (active sc d u)) (λ u. moves_of_run sc e u (active sc e u)) (λ u. moves-of-run same u (active-same d e same.progress u)) (runs_in which sc d))

    -- So are the traces below them.
    pub listed_same : (which : Listing) (n : ℕ) (d e : State) → Same sc.rows d e → Each (SameEntry sc.rows) (listed (moves_in which sc) n d) (listed (moves_in which sc) n e)
    unfolding listed
    listed_same which zero d e same = cons (refl, same) nil
    listed_same which (suc n) d e same =
        cons (refl, same)
        (each-joined-by (λ branch. map (λ e. (branch.0 ∷ e.0, e.1)) (listed (moves_in which sc) n branch.1)) (λ branch. map (λ e. (branch.0 ∷ e.0, e.1)) (listed (moves_in which sc) n branch.1))
        (λ m m' r. each_map (λ e. (m.0 ∷ e.0, e.1)) (λ e. (m'.0 ∷ e.0, e.1)) (λ x y h. ((λ i. r.0 i ∷ h.0 i), h.1)) (listed_same which n m.1 m'.1 r.1)) (moves-same which same))

    -- a term is derivable in both or in neither
    known_both : {d e : State} → Same sc.rows d e → (o : Option Term) → is_known d.known o ≡ is_known e.known o
    known_both same none = refl
    known_both same (some t) = same.derives t

    -- a claim of a kind holds in both or in neither
    against-same : {d e : State} → Same sc.rows d e → (u : ℕ) (run : Run) {p q : Progress} → SameRun sc.rows p q → (ev : Event) (kind : ClaimKind) → is_against sc d u run p ev kind ≡ is_against sc e u run q ev kind
    against-same {d} {e} same u run {p} {q} runs ev secrecy =
        known_both same (claimed_value sc u run p ev) ∙ ap (is_known e.known) (row_same u run p.values q.values runs.sets ev.row)

    -- an event that is passed is a broken claim in both or in neither
    broken-event : {d e : State} → Same sc.rows d e → (u : ℕ) (run : Run) {p q : Progress} → SameRun sc.rows p q → (j : ℕ) (ev : Event) → broken_event sc d u run p j ev ≡ broken_event sc e u run q j ev
    unfolding broken_event
    broken-event {d} {e} same u run {p} {q} runs j ev = (λ i. and_then (claim_kind ev.kind) (λ kind. provided (all_trusted sc.rows run && against-same same u run runs ev kind i) (record { run = u; event = j; kind = kind })))

    -- the first broken claim of a run with such a position
    abbrev judged_in : State → ℕ → Run → Progress → Option Claim
    judged_in s k run p = first_of (map (λ j. and_then (get_elem? (events_of sc run) j) (broken_event sc s (suc k) run p j)) (numbers_from 0 p.done))

    -- the first broken claim of a run is the same
    broken-in-run : {d e : State} → Same sc.rows d e → (k : ℕ) → broken_in_run sc d k ≡ broken_in_run sc e k
    unfolding broken_in_run
    broken-in-run {d} {e} same k = at-run (get_elem? sc.runs k)
      where
        at-progress : (run : Run) (o o' : Option Progress) → Both (SameRun sc.rows) o o' → and_then o (judged_in d k run) ≡ and_then o' (judged_in e k run)
        at-progress run none none none_of = refl
        at-progress run (some p) (some q) (some_of runs) =
            (λ i. first_of (map (λ j. and_then (get_elem? (events_of sc run) j) (λ ev. broken-event same (suc k) run runs j ev i)) (numbers_from 0 (runs.done i))))
        at-progress run none (some q) x'' = elim x'' [ ]
        at-progress run (some p) none x3 = elim x3 [ ]

        at-run : (o : Option Run) → and_then o (λ run. and_then (get_elem? d.progress k) (judged_in d k run)) ≡ and_then o (λ run. and_then (get_elem? e.progress k) (judged_in e k run))
        at-run none = refl
        at-run (some run) = at-progress run (get_elem? d.progress k) (get_elem? e.progress k) (each_at same.progress k)

    -- Both break the same claim, or none.
    pub broken-same : {d e : State} → Same sc.rows d e → broken sc d ≡ broken sc e
    unfolding broken
    broken-same {d} {e} same = ap (λ (f : ℕ → Option Claim). first_of (map f (numbers_from 0 (length sc.runs)))) (fun_ext (λ k. broken-in-run same k))
