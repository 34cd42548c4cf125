-- Replay: a trace followed step by step, and refusal 12 (document 01, 'Operations and what stops them'). Assumes nothing.
use Rattle.std.specs.Prelude.{ℕ, zero, suc, ◌+◌, ◌*◌, Bool, true, false, ◌&&◌, ◌||◌, List, [], ◌∷◌, leb, eqb, length, take, drop}
use Rattle.std.proofs.Math.Option.{Option, none, some}
use Rattle.semantics.specs.Basic.{and_then, provided}
use Rattle.semantics.specs.Answer.{Answer, accepted, refuse, ◌>>=◌}
use Rattle.semantics.specs.Term.{Atom}
use Rattle.semantics.specs.Table.{Row}
use Rattle.semantics.specs.Scenario.{Scenario, opened}
use Rattle.semantics.specs.State.{Value, State, initial, active, Claim}
use Rattle.semantics.specs.Moves.{Move, candidates, to_set, performed}
use Rattle.semantics.specs.Verdict.{broken}

abbrev pub same_value : Value → Value → Bool
same_value v w = eqb v.row w.row && eqb v.run w.run

-- whether a value is in a list
unfoldable pub is_value_of : Value → List Value → Bool
is_value_of v [] = false
is_value_of v (w ∷ ws) = same_value v w || is_value_of v ws

-- whether some values are as many as the variables, each one that its variable may take
unfoldable pub suits : List Row → ℕ → List Atom → List Value → Bool
suits rows runs [] [] = true
suits rows runs [] (v ∷ vs) = false
suits rows runs (x ∷ xs) [] = false
suits rows runs (x ∷ xs) (v ∷ vs) = is_value_of v (candidates rows runs x) && suits rows runs xs vs

-- the state after a move, if the move is allowed
unfoldable pub after : Scenario → State → Move → Option State
after sc s m =
    and_then (active sc s m.run) λ a.
    elim (suits sc.rows (length sc.runs) (to_set sc a) m.values) [
      | true ↦ performed sc s a m.values
      | false ↦ none
    ]

abbrev pub values_in : List ℕ → List Value
values_in [] = []
values_in (r ∷ []) = []
values_in (r ∷ u ∷ bytes) = record { row = r; run = u } ∷ values_in bytes

-- the first step of some bytes, and how many it takes: none if it is cut short
unfoldable pub first_step : List ℕ → Option (Move × ℕ)
first_step [] = none
first_step (u ∷ []) = none
first_step (u ∷ count ∷ bytes) =
    provided (leb (2 * count) (length bytes)) (record { run = u; values = values_in (take (2 * count) bytes) }, 2 + 2 * count)

-- "12 exactly if a step is cut short or isn't allowed after those before it, place that step in the trace". A step has two bytes at least, so the length is fuel enough.
unfoldable pub replayed_from : ℕ → Scenario → ℕ → State → List ℕ → Answer State
replayed_from zero sc at s [] = accepted s
replayed_from zero sc at s (b ∷ bytes) = refuse 12 at
replayed_from (suc n) sc at s [] = accepted s
replayed_from (suc n) sc at s (b ∷ bytes) =
    elim (first_step (b ∷ bytes)) [
      | none ↦ refuse 12 at
      | some step ↦ elim (after sc s step.0) [
        | none ↦ refuse 12 at
        | some s' ↦ replayed_from n sc (at + step.1) s' (drop step.1 (b ∷ bytes))
      ]
    ]

-- "Replay refuses as Open, then 12 .. Otherwise it gives the claim broken, or none."
unfoldable pub replayed : List ℕ → List ℕ → Answer (Option Claim)
replayed file trace = do
  sc ← opened file
  s ← replayed_from (length trace) sc 0 (initial sc) trace
  accepted (broken sc s)
