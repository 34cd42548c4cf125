-- The laws of Replay: it follows exactly the bytes of allowed traces, and refuses at the first step that is none. Assumes nothing.
use Rattle.std.specs.Prelude.{ℕ, zero, suc, ◌+◌, ◌*◌, ◌≤◌, ◌<◌, ◌≡◌, ◌↔◌, ◌⊎◌, List, [], ◌∷◌, ◌++◌, leb, take, drop}
use Rattle.std.proofs.Common.{add-zero, zero-add, le_refl, arith, sym, ◌∙◌, inl, inr, append_assoc, append-nil, length-append, take-append-drop, length-take-le, take_at}
use Rattle.std.proofs.Math.Path.{refl, ap}
use Rattle.std.proofs.Math.Option.{Option, none, some, none-ne-some, some-injective}
use Rattle.std.proofs.Math.ListN.{length}
use Rattle.std.proofs.Math.Seq.{drop-append_seam}
use Rattle.semantics.specs.Basic.{joined}
use Rattle.semantics.specs.Answer.{Answer, accepted, refuse}
use Rattle.semantics.specs.Scenario.{Scenario}
use Rattle.semantics.specs.State.{Value, State}
use Rattle.semantics.specs.Moves.{Move}
use Rattle.semantics.specs.Tree.{Follows, stays, moves}
use Rattle.semantics.specs.Verdict.{value_bytes, move_bytes, trace_bytes}
use Rattle.semantics.specs.Replay.{after, values_in, first_step, replayed_from}
use Rattle.semantics.specs.Allowed.{Step}
use Rattle.semantics.specs.Refusals.{NoStep}
use Rattle.semantics.proofs.laws.Test.{provided-some, leb-iff}
use Rattle.semantics.proofs.laws.Answer.{refused-not-accepted, refused-same, accepted-same}
use Rattle.semantics.proofs.laws.Moves.{after-exact}
use Rattle.semantics.proofs.laws.Bytes.{value-bytes}

-- values read back from their bytes
values-read : (vs : List Value) → values_in (value_bytes vs) ≡ vs
values-read [] = refl
values-read (v ∷ vs) = ap (λ r. record { row = v.row; run = v.run } ∷ r) (values-read vs)

-- an even number of bytes are those of the values read from them
bytes_read : (count : ℕ) (bytes : List ℕ) → length bytes ≡ 2 * count → (value_bytes (values_in bytes) ≡ bytes) × (length (values_in bytes) ≡ count)
bytes_read zero [] e = (refl, refl)
bytes_read zero (r ∷ []) e = absurd (omega arith)
bytes_read zero (r ∷ u ∷ bytes) e = absurd (omega arith)
bytes_read (suc count) [] e = absurd (omega arith)
bytes_read (suc count) (r ∷ []) e = absurd (omega arith)
bytes_read (suc count) (r ∷ u ∷ bytes) e = let w = bytes_read count bytes (omega arith) in (ap (λ x. r ∷ u ∷ x) w.0, ap suc w.1)

-- the first step of some bytes is a move written at their front
first-step : (bytes : List ℕ) (m : Move) (size : ℕ) → first_step bytes ≡ some (m, size) → (rest : List ℕ) × (bytes ≡ move_bytes m ++ rest) × (size ≡ length (move_bytes m))
unfolding first_step
first-step [] m size e = absurd (none-ne-some (m, size) e)
first-step (u ∷ []) m size e = absurd (none-ne-some (m, size) e)
first-step (u ∷ count ∷ bytes) m size e =
    let w = (provided-some (leb (2 * count) (length bytes))).0 e in
    let l = (leb-iff (2 * count) (length bytes)).0 w.0 in
    let r = bytes_read count (take (2 * count) bytes) (length-take-le (2 * count) bytes l) in
    let same : m ≡ record { run = u; values = values_in (take (2 * count) bytes) } = ap (λ x. x.0) w.1 in
    let sized : size ≡ 2 + 2 * count = ap (λ x. x.1) w.1 in
    let length-same = value-bytes (values_in (take (2 * count) bytes)) in
    let counted = r.1 in
    (drop (2 * count) bytes, sym (rw same (written r.0 r.1)), rw same (omega arith))
  where
    written : value_bytes (values_in (take (2 * count) bytes)) ≡ take (2 * count) bytes → length (values_in (take (2 * count) bytes)) ≡ count
        → u ∷ length (values_in (take (2 * count) bytes)) ∷ (value_bytes (values_in (take (2 * count) bytes)) ++ drop (2 * count) bytes) ≡ u ∷ count ∷ bytes
    written e f = ap (λ x. u ∷ length (values_in (take (2 * count) bytes)) ∷ (x ++ drop (2 * count) bytes)) e ∙ (λ i. u ∷ f i ∷ take-append-drop (2 * count) bytes i)

-- and a move written at the front is the first step
step-first : (m : Move) (rest : List ℕ) → first_step (move_bytes m ++ rest) ≡ some (m, length (move_bytes m))
unfolding first_step
step-first m rest =
    (provided-some (leb (2 * length m.values) (length (value_bytes m.values ++ rest)))).1
    ((leb-iff (2 * length m.values) (length (value_bytes m.values ++ rest))).1 (rw length-append (omega (arith, value-bytes m.values))), same)
  where
    front : take (2 * length m.values) (value_bytes m.values ++ rest) ≡ value_bytes m.values
    front = take_at (value_bytes m.values) rest (2 * length m.values) (value-bytes m.values)

    read : m.values ≡ values_in (take (2 * length m.values) (value_bytes m.values ++ rest))
    read = sym (ap values_in front ∙ values-read m.values)

    sized : length (move_bytes m) ≡ 2 + 2 * length m.values
    sized = omega (arith, value-bytes m.values)

    same : ◌≡◌ {A = Move × ℕ} (m, length (move_bytes m)) (record { run = m.run; values = values_in (take (2 * length m.values) (value_bytes m.values ++ rest)) }, 2 + 2 * length m.values)
    same i = (record { run = m.run; values = read i }, sized i)

-- Replay after the first step of some bytes is read, and after its move is made
abbrev moved_then : ℕ → Scenario → ℕ → List ℕ → ℕ → Option State → Answer State
moved_then n sc at bytes size o = elim o [ none ↦ refuse 12 at | some s' ↦ replayed_from n sc (at + size) s' (drop size bytes) ]

abbrev read_then : ℕ → Scenario → ℕ → State → List ℕ → Option (Move × ℕ) → Answer State
read_then n sc at s bytes o = elim o [ none ↦ refuse 12 at | some step ↦ moved_then n sc at bytes step.1 (after sc s step.0) ]

module _ (n : ℕ) (sc : Scenario) (at : ℕ) (s : State) where
  -- an allowed move at the front is made
  replay-step : (m : Move) (s' : State) (rest : List ℕ) → Step sc s m s' → replayed_from (suc n) sc at s (move_bytes m ++ rest) ≡ replayed_from n sc (at + length (move_bytes m)) s' rest
  unfolding replayed_from
  replay-step m s' rest p =
      ap (read_then n sc at s (move_bytes m ++ rest)) (step-first m rest)
      ∙ ap (moved_then n sc at (move_bytes m ++ rest) (length (move_bytes m))) ((after-exact sc s m s').1 p)
      ∙ ap (replayed_from n sc (at + length (move_bytes m)) s') (drop-append_seam (move_bytes m) rest)

  -- where no allowed move stands at the front, there is the refusal
  replay-stops : (b : ℕ) (bytes : List ℕ) → NoStep sc s (b ∷ bytes) → replayed_from (suc n) sc at s (b ∷ bytes) ≡ refuse 12 at
  unfolding replayed_from
  replay-stops b bytes none-there = go (first_step (b ∷ bytes)) refl
    where
      go : (o : Option (Move × ℕ)) → first_step (b ∷ bytes) ≡ o → read_then n sc at s (b ∷ bytes) o ≡ refuse 12 at
      go none e = refl
      go (some step) e = made (after sc s step.0) refl
        where
          made : (o : Option State) → after sc s step.0 ≡ o → moved_then n sc at (b ∷ bytes) step.1 o ≡ refuse 12 at
          made none q = refl
          made (some s') q = let w = first-step (b ∷ bytes) step.0 step.1 e in absurd (none-there step.0 s' w.0 ((after-exact sc s step.0 s').0 q) w.1)

  -- one of the two is so
  step-or-none : (b : ℕ) (bytes : List ℕ) → ((m : Move) × (s' : State) × (rest : List ℕ) × Step sc s m s' × (b ∷ bytes ≡ move_bytes m ++ rest)) ⊎ NoStep sc s (b ∷ bytes)
  step-or-none b bytes = go (first_step (b ∷ bytes)) refl
    where
      go : (o : Option (Move × ℕ)) → first_step (b ∷ bytes) ≡ o → ((m : Move) × (s' : State) × (rest : List ℕ) × Step sc s m s' × (b ∷ bytes ≡ move_bytes m ++ rest)) ⊎ NoStep sc s (b ∷ bytes)
      go none e = inr (λ m s' rest p q. none-ne-some _ (sym e ∙ ap first_step q ∙ step-first m rest))
      go (some step) e = made (after sc s step.0) refl
        where
          found : (rest : List ℕ) × (b ∷ bytes ≡ move_bytes step.0 ++ rest) × (step.1 ≡ length (move_bytes step.0))
          found = first-step (b ∷ bytes) step.0 step.1 e

          made : (o : Option State) → after sc s step.0 ≡ o → ((m : Move) × (s' : State) × (rest : List ℕ) × Step sc s m s' × (b ∷ bytes ≡ move_bytes m ++ rest)) ⊎ NoStep sc s (b ∷ bytes)
          made (some s') q = inl (step.0, s', found.0, (after-exact sc s step.0 s').0 q, found.1)
          made none q = inr (λ m s' rest p r.
              let same : step.0 ≡ m = ap (λ x. x.0) (some-injective step (m, length (move_bytes m)) (sym e ∙ ap first_step r ∙ step-first m rest)) in
              none-ne-some s' (sym q ∙ ap (after sc s) same ∙ (after-exact sc s m s').1 p))

-- the bytes of an allowed sequence of moves are followed to its end
replay-follows : {sc : Scenario} {s e : State} {ms : List Move} → Follows (Step sc) s ms e → (n at : ℕ) (rest : List ℕ) → length (trace_bytes ms ++ rest) ≤ n
    → (k : ℕ) × (length rest ≤ k) × (replayed_from n sc at s (trace_bytes ms ++ rest) ≡ replayed_from k sc (at + length (trace_bytes ms)) e rest)
unfolding trace_bytes
replay-follows {sc} {s} stays n at rest l = (n, l, ap (λ x. replayed_from n sc x s rest) (sym (add-zero at)))
replay-follows (moves {m = m} {ms = ms} p h) zero at rest l = absurd (let k : 2 ≤ length (trace_bytes (m ∷ ms) ++ rest) = longer in omega arith)
  where
    longer : 2 ≤ length ((move_bytes m ++ joined move_bytes ms) ++ rest)
    longer = omega arith
replay-follows {sc} {s} {e} (moves {s' = s'} {m = m} {ms = ms} p h) (suc n) at rest l =
    let w = replay-follows h n (at + length (move_bytes m)) rest fewer in
    (w.0, w.1, ap (replayed_from (suc n) sc at s) split ∙ replay-step n sc at s m s' (joined move_bytes ms ++ rest) p ∙ w.2 ∙ ap (λ x. replayed_from w.0 sc x e rest) sum)
  where
    split : (move_bytes m ++ joined move_bytes ms) ++ rest ≡ move_bytes m ++ (joined move_bytes ms ++ rest)
    split = append_assoc (move_bytes m) (joined move_bytes ms) rest

    fewer : length (joined move_bytes ms ++ rest) ≤ n
    fewer = let q = ap length split ∙ length-append (move_bytes m) (joined move_bytes ms ++ rest) in let k = value-bytes m.values in omega arith

    sum : at + length (move_bytes m) + length (joined move_bytes ms) ≡ at + length (move_bytes m ++ joined move_bytes ms)
    sum = rw (length-append (move_bytes m) (joined move_bytes ms)) (omega arith)

-- nothing more to follow
replay-ends : (n : ℕ) (sc : Scenario) (at : ℕ) (s : State) → replayed_from n sc at s [] ≡ accepted s
unfolding replayed_from
replay-ends zero sc at s = refl
replay-ends (suc n) sc at s = refl

-- no allowed move at the front of what is left
replay-refuses : (n : ℕ) (sc : Scenario) (at : ℕ) (s : State) (bytes : List ℕ) → 0 < length bytes → length bytes ≤ n → NoStep sc s bytes → replayed_from n sc at s bytes ≡ refuse 12 at
replay-refuses n sc at s [] l k h = absurd (omega arith)
replay-refuses zero sc at s (b ∷ bytes) l k h = absurd (omega arith)
replay-refuses (suc n) sc at s (b ∷ bytes) l k h = replay-stops n sc at s b bytes h

-- Some bytes are those of an allowed sequence of moves, or those of one and then of no allowed move.
pub data Followed (sc : Scenario) (s : State) (bytes : List ℕ) : Type 0 where
  to_the_end : {ms : List Move} {e : State} → Follows (Step sc) s ms e → bytes ≡ trace_bytes ms → Followed sc s bytes
  up_to : {ms : List Move} {e : State} {rest : List ℕ} → Follows (Step sc) s ms e → bytes ≡ trace_bytes ms ++ rest → 0 < length rest → NoStep sc e rest → Followed sc s bytes

followed : (n : ℕ) (sc : Scenario) (s : State) (bytes : List ℕ) → length bytes ≤ n → Followed sc s bytes
unfolding trace_bytes
followed zero sc s [] l = to_the_end stays refl
followed zero sc s (b ∷ bytes) l = absurd (omega arith)
followed (suc n) sc s [] l = to_the_end stays refl
followed (suc n) sc s (b ∷ bytes) l = go (step-or-none (suc n) sc 0 s b bytes) (λ s bytes l. followed n sc s bytes l)
  where
    go : ((m : Move) × (s' : State) × (rest : List ℕ) × Step sc s m s' × (b ∷ bytes ≡ move_bytes m ++ rest)) ⊎ NoStep sc s (b ∷ bytes)
        → ((s : State) (bytes : List ℕ) → length bytes ≤ n → Followed sc s bytes) → Followed sc s (b ∷ bytes)
    go (inr none-there) rec = up_to stays refl (omega arith) none-there
    go (inl w) rec =
        let fewer : length w.2 ≤ n = let q = ap length w.4 ∙ length-append (move_bytes w.0) w.2 in omega arith in
        more w.0 w.3 w.4 (rec w.1 w.2 fewer)
      where
        more : {s' : State} {rest : List ℕ} (m : Move) → Step sc s m s' → b ∷ bytes ≡ move_bytes m ++ rest → Followed sc s' rest → Followed sc s (b ∷ bytes)
        more m p q (to_the_end h e) = to_the_end (moves p h) (q ∙ ap (λ x. move_bytes m ++ x) e)
        more m p q (up_to {ms = ms} {rest = rest} h e l k) = up_to (moves p h) (q ∙ ap (λ x. move_bytes m ++ x) e ∙ sym (append_assoc (move_bytes m) (joined move_bytes ms) rest)) l k

module _ (sc : Scenario) (s : State) (bytes : List ℕ) where
  -- what an allowed sequence of moves and what is left of the bytes give
  replay-parts : {ms : List Move} {e : State} (rest : List ℕ) → Follows (Step sc) s ms e → bytes ≡ trace_bytes ms ++ rest
      → (k : ℕ) × (length rest ≤ k) × (replayed_from (length bytes) sc 0 s bytes ≡ replayed_from k sc (length (trace_bytes ms)) e rest)
  replay-parts {ms} {e} rest h q =
      let w = replay-follows h (length bytes) 0 rest (rw q (le_refl (length (trace_bytes ms ++ rest)))) in
      (w.0, w.1, ap (replayed_from (length bytes) sc 0 s) q ∙ w.2 ∙ ap (λ x. replayed_from w.0 sc x e rest) (zero-add (length (trace_bytes ms))))

  -- the end of an allowed sequence of moves
  replay-to-end : {ms : List Move} {e : State} → Follows (Step sc) s ms e → bytes ≡ trace_bytes ms → replayed_from (length bytes) sc 0 s bytes ≡ accepted e
  replay-to-end {ms} {e} h q = let w = replay-parts [] h (q ∙ sym (append-nil (trace_bytes ms))) in w.2 ∙ replay-ends w.0 sc (length (trace_bytes ms)) e

  -- a step that is none
  replay-up-to : {ms : List Move} {e : State} {rest : List ℕ} → Follows (Step sc) s ms e → bytes ≡ trace_bytes ms ++ rest → 0 < length rest → NoStep sc e rest
      → replayed_from (length bytes) sc 0 s bytes ≡ refuse 12 (length (trace_bytes ms))
  replay-up-to {ms} {e} {rest} h q l none-there = let w = replay-parts rest h q in w.2 ∙ replay-refuses w.0 sc (length (trace_bytes ms)) e rest l w.1 none-there

  -- Replay reaches a state exactly if the bytes are those of an allowed sequence of moves to it.
  pub replay-reaches : (e : State) → (replayed_from (length bytes) sc 0 s bytes ≡ accepted e) ↔ ((ms : List Move) × Follows (Step sc) s ms e × (bytes ≡ trace_bytes ms))
  replay-reaches e = (λ q. go q (followed (length bytes) sc s bytes (le_refl (length bytes))), λ w. replay-to-end w.1 w.2)
    where
      go : replayed_from (length bytes) sc 0 s bytes ≡ accepted e → Followed sc s bytes → (ms : List Move) × Follows (Step sc) s ms e × (bytes ≡ trace_bytes ms)
      go q (to_the_end {ms} h r) = (ms, rw (accepted-same (sym (replay-to-end h r) ∙ q)) at h, r)
      go q (up_to h r l k) = absurd (refused-not-accepted (sym (replay-up-to h r l k) ∙ q))

  -- It refuses exactly if they are those of one and then of no allowed move: with 12, at that place.
  pub replay-breaks-off : (n at : ℕ) → (replayed_from (length bytes) sc 0 s bytes ≡ refuse n at)
      ↔ ((ms : List Move) × (e : State) × (rest : List ℕ) × Follows (Step sc) s ms e × (bytes ≡ trace_bytes ms ++ rest) × (0 < length rest) × NoStep sc e rest × (n ≡ 12) × (at ≡ length (trace_bytes ms)))
  replay-breaks-off n at = (
    λ q. go q (followed (length bytes) sc s bytes (le_refl (length bytes))),
    λ w. replay-up-to w.3 w.4 w.5 w.6 ∙ (λ i. refuse (sym w.7 i) (sym w.8 i)),
  )
    where
      go : replayed_from (length bytes) sc 0 s bytes ≡ refuse n at → Followed sc s bytes
          → (ms : List Move) × (e : State) × (rest : List ℕ) × Follows (Step sc) s ms e × (bytes ≡ trace_bytes ms ++ rest) × (0 < length rest) × NoStep sc e rest × (n ≡ 12) × (at ≡ length (trace_bytes ms))
      go q (to_the_end h r) = absurd (refused-not-accepted (sym q ∙ replay-to-end h r))
      go q (up_to {ms} {e} {rest} h r l k) = let w = refused-same (sym q ∙ replay-up-to h r l k) in (ms, e, rest, h, r, l, k, w.0, w.1)
