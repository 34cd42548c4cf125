-- The list of allowed traces, which claim a trace breaks, the verdict by budget, and Search (document 01, 'Roles and moves', 'Operations'). Assumes nothing.
use Rattle.std.specs.Prelude.{ℕ, zero, suc, Bool, false, ◌&&◌, List, [], ◌∷◌, ◌++◌, map, ltb, length, drop}
use Rattle.std.proofs.Math.Option.{Option, none, some}
use Rattle.std.proofs.Math.ListN.{get_elem?}
use Rattle.semantics.specs.Basic.{and_then, provided, joined, numbers_from, first_of}
use Rattle.semantics.specs.Limits.{most_trace_bytes}
use Rattle.semantics.specs.Answer.{Answer, refused, accepted, checked, ◌>>=◌, ◌>>◌}
use Rattle.semantics.specs.Inference.{derivable}
use Rattle.semantics.specs.Term.{Term}
use Rattle.semantics.specs.Value.{value_of}
use Rattle.semantics.specs.Roles.{ClaimKind, secrecy, claim_kind, Event}
use Rattle.semantics.specs.Runs.{Run, all_trusted}
use Rattle.semantics.specs.Scenario.{Scenario, opened}
use Rattle.semantics.specs.State.{Value, Progress, State, Claim, initial, events_of, reading_in, events_left}
use Rattle.semantics.specs.Moves.{Move, Listing, full, moves_in}
use Rattle.semantics.specs.Tree.{listed}

-- a trace with the state that it ends in
abbrev pub Entry : Type 0
Entry = List Move × State

-- "The list has each of them once; the file alone fixes it"
unfoldable pub trace_list : Listing → Scenario → List Entry
trace_list l sc = listed (moves_in l sc) (events_left sc (initial sc)) (initial sc)

-- "the claimed value is the claim's term as it stands in that run"
abbrev pub claimed_value : Scenario → ℕ → Run → Progress → Event → Option Term
claimed_value sc u run p e = value_of (reading_in sc.rows u run p.values) sc.rows e.row

-- whether a term is there and derivable
abbrev pub is_known : List Term → Option Term → Bool
is_known known none = false
is_known known (some t) = derivable known t

-- whether a claim of a kind does not hold at the end of a trace: "the claimed value is derivable at the trace's end"
abbrev pub is_against : Scenario → State → ℕ → Run → Progress → Event → ClaimKind → Bool
is_against sc s u run p e secrecy = is_known s.known (claimed_value sc u run p e)

-- the claim of an event, if it is one and the trace breaks it
unfoldable pub broken_event : Scenario → State → ℕ → Run → Progress → ℕ → Event → Option Claim
broken_event sc s u run p j e =
    and_then (claim_kind e.kind) λ kind.
    provided (all_trusted sc.rows run && is_against sc s u run p e kind) (record { run = u; event = j; kind = kind })

-- "A trace passes a claim in a run if that claim is among the run's moves in it": the run's first broken claim among the events that it has made
unfoldable pub broken_in_run : Scenario → State → ℕ → Option Claim
broken_in_run sc s k =
    and_then (get_elem? sc.runs k) λ run.
    and_then (get_elem? s.progress k) λ p.
    first_of
    (map (λ j. and_then (get_elem? (events_of sc run) j) (broken_event sc s (suc k) run p j))
    (numbers_from 0 p.done))

-- "Of several claims broken, the lowest run, then the lowest event, is named."
unfoldable pub broken : Scenario → State → Option Claim
broken sc s = first_of (map (broken_in_run sc s) (numbers_from 0 (length sc.runs)))

-- What a walk through a list finds: a break at a place, counted from 1; none in the whole list; or none before the budget ended.
pub data Finding : Type 0 where
  found : ℕ → Entry → Claim → Finding
  nothing : Finding
  cut : Finding

abbrev pub later : Finding → Finding
later (found n e c) = found (suc n) e c
later nothing = nothing
later cut = cut

-- the first break in a list, judging no more entries than the budget
unfoldable pub walked : (Entry → Option Claim) → ℕ → List Entry → Finding
walked judge budget [] = nothing
walked judge zero (e ∷ es) = cut
walked judge (suc budget) (e ∷ es) = elim (judge e) [ some c ↦ found 1 e c | none ↦ later (walked judge budget es) ]

-- "A BROKEN verdict carries the record of its claim, run and event together."
pub data Verdict : Type 0 where
  -- list place, trace, claim
  broken_at : ℕ → List Move → Claim → Verdict
  held : ℕ → Verdict
  stopped : ℕ → Verdict

-- "HELD and STOPPED print one number (list length, budget)"
abbrev pub verdict_from : ℕ → ℕ → Finding → Verdict
verdict_from size budget (found n e c) = broken_at n e.0 c
verdict_from size budget nothing = held size
verdict_from size budget cut = stopped budget

-- the verdict by a list
unfoldable pub verdict : Listing → Scenario → Verdict
verdict l sc =
    verdict_from (length (trace_list l sc)) sc.budget
    (walked (λ e. broken sc e.1) sc.budget (trace_list l sc))

-- "run (1 to 4), count of new values, two bytes (row, run) for each"
abbrev pub value_bytes : List Value → List ℕ
value_bytes [] = []
value_bytes (v ∷ vs) = v.row ∷ v.run ∷ value_bytes vs

abbrev pub move_bytes : Move → List ℕ
move_bytes m = m.run ∷ length m.values ∷ value_bytes m.values

unfoldable pub trace_bytes : List Move → List ℕ
trace_bytes ms = joined move_bytes ms

-- "10 if the trace buffer is shorter than 128 bytes, place its length"
unfoldable pub short_buffer : List ℕ → Option ℕ
short_buffer buffer = provided (ltb (length buffer) most_trace_bytes) (length buffer)

-- "Search refuses as Open, then 10"
unfoldable pub searched_in : Listing → List ℕ → List ℕ → Answer Verdict
searched_in l file buffer = do
  sc ← opened file
  checked 10 (short_buffer buffer)
  accepted (verdict l sc)

-- Search, which goes through the list of all allowed traces
abbrev pub searched : List ℕ → List ℕ → Answer Verdict
searched file buffer = searched_in full file buffer

-- "BROKEN writes the trace at the buffer's front .. and keeps the rest ..; HELD and STOPPED keep all of it." A refusal changes no lent byte.
abbrev pub written : List ℕ → Answer Verdict → List ℕ
written buffer (refused r) = buffer
written buffer (accepted (broken_at n ms c)) = trace_bytes ms ++ drop (length (trace_bytes ms)) buffer
written buffer (accepted (held n)) = buffer
written buffer (accepted (stopped n)) = buffer

unfoldable pub buffer_in : Listing → List ℕ → List ℕ → List ℕ
buffer_in l file buffer = written buffer (searched_in l file buffer)

abbrev pub buffer_after : List ℕ → List ℕ → List ℕ
buffer_after file buffer = buffer_in full file buffer
