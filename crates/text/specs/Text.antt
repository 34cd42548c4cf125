-- The text that the programs print: the verdict on a file, and the limits (document 01, 'Scenarios worked out', 'Operations'). Assumes nothing.
use Rattle.std.specs.Prelude.{Err, Ok, ℕ, zero, suc, ◌+◌, ◌/◌, ◌%◌, ◌≤◌, ◌≡◌, true, false, List, [], ◌∷◌, ◌++◌, ltb, length}
use Prim.Native.Char.{code}
use Prim.Native.String as strings
use Prim.Native.String.{String}
use Rattle.semantics.specs.Basic.{joined}
use Rattle.semantics.specs.Limits.{most_rows, most_variables, most_roles, most_runs, most_events, most_file_bytes, most_trace_bytes}
use Rattle.semantics.specs.Answer.{Answer, refused, accepted}
use Rattle.semantics.specs.State.{Value}
use Rattle.semantics.specs.Moves.{Move}
use Rattle.semantics.specs.Verdict.{Verdict, broken_at, held, stopped, written}
use Rattle.answers.specs.Answers.{number_of, Searched, searched_as}

-- the bytes of a word, whose letters have one byte each
abbrev pub word : String → List ℕ
word strings.[] = []
word (strings.◌∷◌ c s) = code c ∷ word s

-- the digit of a number below 10
abbrev pub digit : ℕ → ℕ
digit n = 48 + n

-- a number in decimal digits, the last one behind those of its tenth; its own value is fuel enough
unfoldable pub decimal_from : ℕ → ℕ → List ℕ
decimal_from zero n = digit n ∷ []
decimal_from (suc fuel) n = elim (ltb n 10) [ true ↦ digit n ∷ [] | false ↦ decimal_from fuel (n / 10) ++ (digit (n % 10) ∷ []) ]

unfoldable pub decimal : ℕ → List ℕ
decimal n = decimal_from n n

-- a number at a line's end
abbrev pub line_text : ℕ → List ℕ
line_text n = decimal n ++ word "\n"

-- "any new values as `row.run`"
abbrev pub value_text : Value → List ℕ
value_text v = (word " " ++ decimal v.row) ++ (word "." ++ decimal v.run)

-- "each STEP is the run, then any new values", one a line
unfoldable pub step_text : Move → List ℕ
step_text m = (word "STEP " ++ decimal m.run) ++ (joined value_text m.values ++ word "\n")

-- "The first line is list place, run from 1, event from 0; each STEP .."
unfoldable pub broken_text : ℕ → ℕ → ℕ → List Move → List ℕ
broken_text place run event ms =
    (word "BROKEN " ++ decimal place) ++ ((word " RUN " ++ decimal run) ++ ((word " EVENT " ++ decimal event) ++ (word "\n" ++ joined step_text ms)))

-- "REFUSED prints number and place"
unfoldable pub refused_text : ℕ → ℕ → List ℕ
refused_text number place = (word "REFUSED " ++ decimal number) ++ (word " " ++ line_text place)

-- "HELD and STOPPED print one number (list length, budget)"
unfoldable pub verdict_text : Answer Verdict → List ℕ
verdict_text (refused r) = refused_text r.number r.place
verdict_text (accepted (broken_at p ms c)) = broken_text p c.run c.event ms
verdict_text (accepted (held n)) = word "HELD " ++ line_text n
verdict_text (accepted (stopped n)) = word "STOPPED " ++ line_text n

-- "one a line: 96, 8, 4, 4, 8, 4096, 128, for rows, variables, roles, runs, events of a role, file bytes and trace bytes"
abbrev pub limits : List ℕ
limits = most_rows ∷ most_variables ∷ most_roles ∷ most_runs ∷ most_events ∷ most_file_bytes ∷ most_trace_bytes ∷ []

unfoldable pub limits_text : List ℕ
limits_text = joined line_text limits

-- the code's answer says that of the definitions: a refusal its number and its place
abbrev pub Says : Searched → Answer Verdict → Type 0
Says (Err r) (refused n) = (number_of r.reason ≡ n.number) × (r.place ≡ n.place)
Says (Err r) (accepted v) = ⊥
Says (Ok v) a = Ok v ≡ searched_as a

-- an answer of Search, and the buffer that it left
pub record Shown (a : Answer Verdict) (answer : Searched) (after : List ℕ) : Type 0 where
  pub is_answer : Says answer a
  pub buffer : List ℕ
  pub is_written : after ≡ written buffer a
  pub small : length after ≤ 128
