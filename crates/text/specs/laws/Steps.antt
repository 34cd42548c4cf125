-- The values and the steps of a trace one after the other, as its bytes have them. Assumes nothing.
use Rattle.std.specs.Prelude.{ℕ, ◌+◌, ◌*◌, ◌<◌, ◌≤◌, ◌≡◌, refl, List, [], ◌∷◌, ◌++◌, length, get_or, take, drop}
use Rattle.std.proofs.Common.{arith, sym, ap, ◌∙◌, append-nil, length-append, take_at, drop_at}
use Rattle.semantics.specs.Basic.{joined}
use Rattle.semantics.specs.State.{Value}
use Rattle.semantics.specs.Moves.{Move}
use Rattle.semantics.specs.Verdict.{value_bytes, move_bytes, trace_bytes}
use Rattle.semantics.proofs.laws.Bytes.{value-bytes}
use Rattle.text.specs.Text.{word, decimal, value_text, step_text}
use Rattle.text.specs.laws.Decimal.{decimal-few}
use Rattle.text.specs.laws.Grows.{grown_length, grown_on}

-- no values
values-none : (vs : List Value) (bytes : List ℕ) → bytes ≡ value_bytes vs → length bytes < 2 → [] ≡ joined value_text vs
values-none [] bytes e l = refl
values-none (v ∷ vs) bytes e l = absurd (omega (arith, ap length e))

-- the first value, and the others
record FirstValue (bytes : List ℕ) (vs : List Value) : Type 0 where
  value : Value
  others : List Value
  row : get_or bytes 0 0 ≡ value.row
  run : get_or bytes 1 0 ≡ value.run
  rest : drop 2 bytes ≡ value_bytes others
  texts : value_text value ++ joined value_text others ≡ joined value_text vs

first-value : (vs : List Value) (bytes : List ℕ) → bytes ≡ value_bytes vs → 2 ≤ length bytes → FirstValue bytes vs
first-value [] bytes e l = absurd (omega (arith, ap length e))
first-value (v ∷ vs) bytes e l = record {
  value = v;
  others = vs;
  row = ap (λ (b : List ℕ). get_or b 0 0) e;
  run = ap (λ (b : List ℕ). get_or b 1 0) e;
  rest = ap (drop 2) e;
  texts = refl;
}

-- a text that still lacks the values of some bytes, of those that were to be added to an old one
pub record ValuesLeft (old bytes now rest : List ℕ) : Type 0 where
  pub room : length now + 4 * length rest ≤ length old + 4 * length bytes
  pub texts : (vs : List Value) → bytes ≡ value_bytes vs → (ws : List Value) × (rest ≡ value_bytes ws) × (now ++ joined value_text ws ≡ old ++ joined value_text vs)

pub none-added : (old bytes : List ℕ) → ValuesLeft old bytes old bytes
none-added old bytes = record { room = omega arith; texts = λ vs e. (vs, e, refl) }

pub values-ended : {old bytes now rest : List ℕ} → ValuesLeft old bytes now rest → length rest < 2 → (vs : List Value) → bytes ≡ value_bytes vs → now ≡ old ++ joined value_text vs
values-ended {now = now} left short vs e = let w = left.texts vs e in sym (append-nil now) ∙ ap (λ (l : List ℕ). now ++ l) (values-none w.0 _ w.1 short) ∙ w.2

-- the next two bytes are the first of those that are left
record Pair (rest pair after : List ℕ) : Type 0 where
  first : get_or pair 0 0 ≡ get_or rest 0 0
  second : get_or pair 1 0 ≡ get_or rest 1 0
  others : after ≡ drop 2 rest

pair-of : {rest after : List ℕ} (pair : List ℕ) → rest ≡ pair ++ after → length pair ≡ 2 → Pair rest pair after
pair-of [] e two = absurd (omega (arith, two))
pair-of (a ∷ []) e two = absurd (omega (arith, two))
pair-of (a ∷ b ∷ []) e two = record { first = sym (ap (λ (l : List ℕ). get_or l 0 0) e); second = sym (ap (λ (l : List ℕ). get_or l 1 0) e); others = sym (ap (drop 2) e) }
pair-of (a ∷ b ∷ c ∷ more) e two = absurd (omega (arith, two))

pub value-added :
    {old bytes now rest : List ℕ} → ValuesLeft old bytes now rest → (pair after : List ℕ) → rest ≡ pair ++ after → length pair ≡ 2
    → {row run : ℕ} → row ≡ get_or pair 0 0 → run ≡ get_or pair 1 0 → row < 256 → run < 256
    → {mid new : List ℕ} → mid ≡ now ++ (word " " ++ decimal row) → new ≡ mid ++ (word "." ++ decimal run) → ValuesLeft old bytes new after
value-added {now = now} {rest = rest} left pair after cut two {row} {run} r w rl wl {mid} {new} first second = record {
  room = omega (arith, left.room, size, decimal-few 2 row (omega (arith, rl)), decimal-few 2 run (omega (arith, wl)), grown_length now (word " " ++ decimal row) first, grown_length mid (word "." ++ decimal run) second);
  texts = λ vs e.
      let v = left.texts vs e in
      let f = first-value v.0 _ v.1 (omega (arith, size)) in
      let p : row ≡ f.value.row = r ∙ two_bytes.first ∙ f.row in
      let q : run ≡ f.value.run = w ∙ two_bytes.second ∙ f.run in
      let one : new ++ joined value_text f.others ≡ now ++ (((word " " ++ decimal row) ++ (word "." ++ decimal run)) ++ joined value_text f.others) =
      grown_on now _ (joined value_text f.others) (grown_on now (word " " ++ decimal row) (word "." ++ decimal run) first second) refl in
      (f.others, two_bytes.others ∙ f.rest, one ∙ ap (λ (l : List ℕ). now ++ l) ((λ i. ((word " " ++ decimal (p i)) ++ (word "." ++ decimal (q i))) ++ joined value_text f.others) ∙ f.texts) ∙ v.2);
}
  where
    size : length rest ≡ 2 + length after
    size = ap length cut ∙ length-append pair after ∙ ap (λ (n : ℕ). n + length after) two

    two_bytes : Pair rest pair after
    two_bytes = pair-of pair cut two

-- no steps
pub steps-none : (ms : List Move) (bytes : List ℕ) → bytes ≡ trace_bytes ms → length bytes ≡ 0 → [] ≡ joined step_text ms
unfolding trace_bytes
steps-none [] bytes e l = refl
steps-none (m ∷ ms) bytes e l = absurd (omega (arith, ap length e, length-append (move_bytes m) (joined move_bytes ms)))

-- the first step, and the others
pub record FirstStep (bytes : List ℕ) (ms : List Move) : Type 0 where
  pub move : Move
  pub others : List Move
  pub size : 2 + 2 * get_or bytes 1 0 ≤ length bytes
  pub run : get_or bytes 0 0 ≡ move.run
  pub values : take (2 * get_or bytes 1 0) (drop 2 bytes) ≡ value_bytes move.values
  pub rest : drop (2 + 2 * get_or bytes 1 0) bytes ≡ trace_bytes others
  pub texts : step_text move ++ joined step_text others ≡ joined step_text ms

pub first-step : (ms : List Move) (bytes : List ℕ) → bytes ≡ trace_bytes ms → 1 ≤ length bytes → FirstStep bytes ms
unfolding trace_bytes
first-step [] bytes e l = absurd (omega (arith, ap length e))
first-step (m ∷ ms) bytes e l =
    let count : get_or bytes 1 0 ≡ length m.values = ap (λ (b : List ℕ). get_or b 1 0) e in
    let size : length (value_bytes m.values) ≡ 2 * get_or bytes 1 0 = value-bytes m.values ∙ ap (λ (k : ℕ). 2 * k) (sym count) in
    let two : drop 2 bytes ≡ value_bytes m.values ++ joined move_bytes ms = ap (drop 2) e in
    record {
      move = m;
      others = ms;
      size = omega (arith, ap length e, length-append (value_bytes m.values) (joined move_bytes ms));
      run = ap (λ (b : List ℕ). get_or b 0 0) e;
      values = ap (take (2 * get_or bytes 1 0)) two ∙ take_at (value_bytes m.values) (joined move_bytes ms) (2 * get_or bytes 1 0) size;
      rest = ap (drop (2 + 2 * get_or bytes 1 0)) e ∙ drop_at (move_bytes m) (joined move_bytes ms) (2 + 2 * get_or bytes 1 0) (omega (arith, size));
      texts = refl;
    }
