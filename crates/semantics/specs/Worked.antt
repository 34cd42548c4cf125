-- Worked cases, each with its answer: P1 to P12 of document 01 in one table, cases on each side of limits and rules in another, and cases of the short list in a third. Assumes nothing.
use Rattle.std.specs.Prelude.{ℕ, ◌≡◌, Bool, true, false, List, [], ◌∷◌, ◌++◌, length, replicate}
use Rattle.std.proofs.Math.Option.{Option, none, some}
use Rattle.semantics.specs.Roles.{secrecy}
use Rattle.semantics.specs.Basic.{joined, numbers_from}
use Rattle.semantics.specs.Limits.{most_trace_bytes}
use Rattle.semantics.specs.Answer.{Answer, accepted, refuse}
use Rattle.semantics.specs.Term.{trusted, global, Term, atom}
use Rattle.semantics.specs.Scenario.{opened}
use Rattle.semantics.specs.State.{Claim}
use Rattle.semantics.specs.Moves.{Move, short}
use Rattle.semantics.specs.Verdict.{Verdict, broken_at, held, stopped, searched_in, searched, buffer_in, buffer_after}
use Rattle.semantics.specs.Replay.{replayed}
use Rattle.semantics.specs.Derive.{derived}

-- a block of fewer than 256 bytes, its length first
abbrev block : List ℕ → List ℕ
block bytes = 0 ∷ length bytes ∷ bytes

-- a file of a version with a budget below 256 and some blocks
abbrev file_of : ℕ → ℕ → List (List ℕ) → List ℕ
file_of version budget blocks = version ∷ 0 ∷ 0 ∷ 0 ∷ budget ∷ joined block blocks

-- "First a version byte 1 .. then four blocks"
abbrev file : ℕ → List ℕ → List ℕ → List ℕ → List ℕ → List ℕ
file budget terms roles runs knowledge = file_of 1 budget (terms ∷ roles ∷ runs ∷ knowledge ∷ [])

-- two agents, the second of kind 1 (trusted) or 2; both role names; a local constant n
abbrev names : ℕ → List ℕ
names second =
    1 ∷ 0 ∷ 0
    ∷ second ∷ 1 ∷ 0
    ∷ 5 ∷ 0 ∷ 0
    ∷ 5 ∷ 1 ∷ 0
    ∷ 7 ∷ 0 ∷ 0 ∷ []

-- role 0 knows both names and n, sends n to role 1 and claims it; role 1 does nothing
abbrev plain_roles : List ℕ
plain_roles =
    3 ∷ 2 ∷ 3 ∷ 4
    ∷ 2
    ∷ 0 ∷ 1 ∷ 1 ∷ 4
    ∷ 2 ∷ 2 ∷ 0 ∷ 4
    ∷ 0 ∷ 0 ∷ []

-- row 5 is the public key of role 1, row 6 is n under it
abbrev sealed_terms : List ℕ
sealed_terms = names 1 ++ (8 ∷ 3 ∷ 0 ∷ 12 ∷ 4 ∷ 5 ∷ [])

-- the same with {n}pk(role 1) sent instead
abbrev sealed_roles : List ℕ
sealed_roles =
    4 ∷ 2 ∷ 3 ∷ 4 ∷ 5
    ∷ 2
    ∷ 0 ∷ 1 ∷ 1 ∷ 6
    ∷ 2 ∷ 2 ∷ 0 ∷ 4
    ∷ 0 ∷ 0 ∷ []

-- a run of role 0 by the two agents
abbrev one_run : List ℕ
one_run = 0 ∷ 0 ∷ 1 ∷ []

-- two agents, an intruder constant, both role names, a fresh variable; role 0 reads the variable from role 1
abbrev read_terms : List ℕ
read_terms =
    1 ∷ 0 ∷ 0
    ∷ 1 ∷ 1 ∷ 0
    ∷ 4 ∷ 0 ∷ 0
    ∷ 5 ∷ 0 ∷ 0
    ∷ 5 ∷ 1 ∷ 0
    ∷ 6 ∷ 0 ∷ 1 ∷ []

abbrev read_roles : List ℕ
read_roles =
    2 ∷ 3 ∷ 4
    ∷ 1
    ∷ 1 ∷ 1 ∷ 1 ∷ 5
    ∷ 0 ∷ 0 ∷ []

-- an agent a, constants c and d, pk(a), sk(a), {c}pk(a), {c}sk(a), {d}d, {c}{d}d: rows 0 to 8
abbrev inference_table : List ℕ
inference_table =
    1 ∷ 0 ∷ 0
    ∷ 3 ∷ 0 ∷ 0
    ∷ 3 ∷ 1 ∷ 0
    ∷ 8 ∷ 0 ∷ 0
    ∷ 9 ∷ 0 ∷ 0
    ∷ 12 ∷ 1 ∷ 3
    ∷ 12 ∷ 1 ∷ 4
    ∷ 12 ∷ 2 ∷ 2
    ∷ 12 ∷ 1 ∷ 7 ∷ []

-- A case: a file with the answer of Search, by the full list or the short one, or with the refusal of Open, a file and a buffer with the buffer's bytes afterwards, a file and a trace with the answer of Replay, or a table, a list and a target with the answer of Derive.
pub data Case : Type 0 where
  judges : List ℕ → Answer Verdict → Case
  judges_short : List ℕ → Answer Verdict → Case
  refuses : List ℕ → ℕ → ℕ → Case
  leaves : List ℕ → List ℕ → List ℕ → Case
  leaves_short : List ℕ → List ℕ → List ℕ → Case
  replays : List ℕ → List ℕ → Answer (Option Claim) → Case
  infers : List ℕ → List ℕ → ℕ → Answer Bool → Case

abbrev pub buffer : List ℕ
buffer = replicate most_trace_bytes 0

abbrev pub Holds : Case → Type 0
Holds (judges file answer) = searched file buffer ≡ answer
Holds (judges_short file answer) = searched_in short file buffer ≡ answer
Holds (refuses file number place) = opened file ≡ refuse number place
Holds (leaves file lent left) = buffer_after file lent ≡ left
Holds (leaves_short file lent left) = buffer_in short file lent ≡ left
Holds (replays file trace answer) = replayed file trace ≡ answer
Holds (infers table list target answer) = derived table list target ≡ answer

abbrev pub AllHold : List Case → Type 0
AllHold [] = Unit {0}
AllHold (c ∷ cs) = Holds c × AllHold cs

abbrev first_move : Move
first_move = record { run = 1; values = [] }

abbrev pub p1_file : List ℕ
p1_file = file 100 (names 1) plain_roles one_run []

-- "Proved cases (P), with c, d constants and a an agent, budget 100 unless named"
abbrev pub cases : List Case
cases =
    -- P1 the file above
    judges p1_file (accepted (broken_at 3 (first_move ∷ first_move ∷ []) (record { run = 1; event = 1; kind = secrecy })))
    -- P2 send {n} under the public key of role 1 instead: HELD 3
    ∷ judges (file 100 sealed_terms sealed_roles one_run []) (accepted (held 3))
    -- P3 P2 with budget 2: STOPPED 2
    ∷ judges (file 2 sealed_terms sealed_roles one_run []) (accepted (stopped 2))
    -- P4 two runs of P2: HELD 19
    ∷ judges (file 100 sealed_terms sealed_roles (one_run ++ one_run) []) (accepted (held 19))
    -- P5 no runs: HELD 1
    ∷ judges (file 100 (names 1) plain_roles [] []) (accepted (held 1))
    -- P6 P1 with the second agent untrusted: HELD 3
    ∷ judges (file 100 (names 2) plain_roles one_run []) (accepted (held 3))
    -- P7 from {c}pk(a) and sk(a): c
    ∷ infers inference_table (5 ∷ 4 ∷ []) 1 (accepted true)
    -- P8 from {c}pk(a) and pk(a): not c
    ∷ infers inference_table (5 ∷ 3 ∷ []) 1 (accepted false)
    -- P9 from {c}sk(a) and pk(a): c
    ∷ infers inference_table (6 ∷ 3 ∷ []) 1 (accepted true)
    -- P10 from {c} under the key {d}d, and d: c
    ∷ infers inference_table (8 ∷ 2 ∷ []) 1 (accepted true)
    -- P11 from a: not pk(a)
    ∷ infers inference_table (0 ∷ []) 3 (accepted false)
    -- P12 one run whose only event reads a fresh variable, one intruder constant, both names known: HELD 2; a name unknown: HELD 1
    ∷ judges (file 100 read_terms read_roles one_run (0 ∷ 1 ∷ [])) (accepted (held 2))
    ∷ judges (file 100 read_terms read_roles one_run (0 ∷ [])) (accepted (held 1))
    -- "a budget equal to the list's length gives HELD": P2 with budget 3
    ∷ judges (file 3 sealed_terms sealed_roles one_run []) (accepted (held 3))
    ∷ []

-- "In hexadecimal": the file above, byte for byte
abbrev pub p1_bytes : List ℕ
p1_bytes =
    0x01 ∷ 0x00 ∷ 0x00 ∷ 0x00 ∷ 0x64
    ∷ 0x00 ∷ 0x0F ∷ 0x01 ∷ 0x00 ∷ 0x00 ∷ 0x01 ∷ 0x01 ∷ 0x00 ∷ 0x05 ∷ 0x00 ∷ 0x00 ∷ 0x05 ∷ 0x01 ∷ 0x00 ∷ 0x07 ∷ 0x00 ∷ 0x00
    ∷ 0x00 ∷ 0x0F ∷ 0x03 ∷ 0x02 ∷ 0x03 ∷ 0x04 ∷ 0x02 ∷ 0x00 ∷ 0x01 ∷ 0x01 ∷ 0x04 ∷ 0x02 ∷ 0x02 ∷ 0x00 ∷ 0x04 ∷ 0x00 ∷ 0x00
    ∷ 0x00 ∷ 0x03 ∷ 0x00 ∷ 0x00 ∷ 0x01
    ∷ 0x00 ∷ 0x00 ∷ []

-- so many rows of a kind, numbered from 0
abbrev many : ℕ → ℕ → ℕ → List ℕ
many kind right n = joined (λ i. kind ∷ i ∷ right ∷ []) (numbers_from 0 n)

-- so many times the same bytes
abbrev times : ℕ → List ℕ → List ℕ
times n bytes = joined (λ i. bytes) (numbers_from 0 n)

-- a role that knows nothing and does nothing, and one that knows its own name, row 0, and claims it so many times
abbrev idle : List ℕ
idle = 0 ∷ 0 ∷ []

abbrev claiming : ℕ → List ℕ
claiming n = (1 ∷ 0 ∷ n ∷ []) ++ times n (2 ∷ 0 ∷ 0 ∷ 0 ∷ [])

-- the name of role 0, and an agent
abbrev name_and_agent : List ℕ
name_and_agent = 5 ∷ 0 ∷ 0 ∷ 1 ∷ 0 ∷ 0 ∷ []

-- P1's claim
abbrev p1_claim : Claim
p1_claim = record { run = 1; event = 1; kind = secrecy }

-- two agents, an intruder constant, both role names, a fresh variable, a local constant: role 0 reads the variable from role 1 and claims it, role 1 sends its constant to role 0
abbrev exchange_terms : List ℕ
exchange_terms = read_terms ++ (7 ∷ 0 ∷ 0 ∷ [])

abbrev exchange_roles : List ℕ
exchange_roles =
    2 ∷ 3 ∷ 4
    ∷ 2
    ∷ 1 ∷ 1 ∷ 1 ∷ 5
    ∷ 2 ∷ 2 ∷ 0 ∷ 5
    ∷ 3 ∷ 3 ∷ 4 ∷ 6
    ∷ 1
    ∷ 0 ∷ 1 ∷ 0 ∷ 6 ∷ []

-- a run of each role by the two agents
abbrev two_runs : List ℕ
two_runs = 0 ∷ 0 ∷ 1 ∷ 1 ∷ 0 ∷ 1 ∷ []

abbrev exchange : List ℕ
exchange = file 100 exchange_terms exchange_roles two_runs []

-- On each side of limits and rules.
abbrev pub edges : List Case
edges =
    -- 1: an empty file, version 0, version 2
    refuses [] 1 0
    ∷ refuses (0 ∷ []) 1 0
    ∷ refuses (2 ∷ []) 1 0
    -- 2 and 3: 4,097 bytes, and 4,096 that are not framed; a byte too few and one too many
    ∷ refuses (1 ∷ replicate 4096 0) 2 4096
    ∷ refuses (1 ∷ replicate 4095 0) 3 4096
    ∷ refuses (1 ∷ 0 ∷ 0 ∷ 0 ∷ 0 ∷ 0 ∷ 0 ∷ 0 ∷ 0 ∷ 0 ∷ 0 ∷ 0 ∷ []) 3 12
    ∷ refuses (file 0 [] [] [] [] ++ (0 ∷ [])) 3 14
    -- the budget has four bytes, big-endian: 256, and 0
    ∷ judges (1 ∷ 0 ∷ 0 ∷ 1 ∷ 0 ∷ times 8 (0 ∷ [])) (accepted (held 1))
    ∷ judges (1 ∷ 0 ∷ 0 ∷ 0 ∷ 0 ∷ times 8 (0 ∷ [])) (accepted (stopped 0))
    -- 4: 96 rows and a 97th; eight variables and a ninth; a row of two bytes; a role's number, a variable's type and a right byte that there are not
    ∷ infers (many 3 0 96) [] 95 (accepted false)
    ∷ infers (many 3 0 97) [] 95 (refuse 4 288)
    ∷ infers (many 6 1 8) [] 7 (accepted false)
    ∷ infers (many 6 1 9) [] 7 (refuse 4 24)
    ∷ infers (3 ∷ 0 ∷ 0 ∷ 3 ∷ 1 ∷ []) [] 0 (refuse 4 3)
    ∷ infers (5 ∷ 3 ∷ 0 ∷ []) (0 ∷ []) 0 (accepted true)
    ∷ infers (5 ∷ 4 ∷ 0 ∷ []) [] 0 (refuse 4 0)
    ∷ infers (6 ∷ 0 ∷ 2 ∷ []) [] 0 (refuse 4 0)
    ∷ infers (7 ∷ 0 ∷ 1 ∷ []) [] 0 (refuse 4 0)
    -- a pair whose left part is a pair, a key of a constant, a row that refers to itself
    ∷ infers (3 ∷ 0 ∷ 0 ∷ 11 ∷ 0 ∷ 0 ∷ 11 ∷ 1 ∷ 0 ∷ []) [] 0 (refuse 4 6)
    ∷ infers (3 ∷ 0 ∷ 0 ∷ 8 ∷ 0 ∷ 0 ∷ []) [] 0 (refuse 4 3)
    ∷ infers (12 ∷ 0 ∷ 0 ∷ []) [] 0 (refuse 4 0)
    -- 5, after 4: a row that was there, and a ninth variable that was there
    ∷ infers (3 ∷ 0 ∷ 0 ∷ 3 ∷ 1 ∷ 0 ∷ 3 ∷ 0 ∷ 0 ∷ []) [] 0 (refuse 5 6)
    ∷ infers (many 6 1 8 ++ (6 ∷ 0 ∷ 1 ∷ [])) [] 0 (refuse 4 24)
    -- 11: a listed row that is absent, the target
    ∷ infers (3 ∷ 0 ∷ 0 ∷ []) (0 ∷ 1 ∷ []) 1 (refuse 11 1)
    ∷ infers (3 ∷ 0 ∷ 0 ∷ []) (0 ∷ 0 ∷ []) 1 (refuse 11 2)
    -- 6: four roles and a fifth; eight events and a ninth; a record that is incomplete; a row that names role 1, of two roles and of one
    ∷ judges (file 100 [] (times 4 idle) [] []) (accepted (held 1))
    ∷ refuses (file 100 [] (times 5 idle) [] []) 6 17
    ∷ judges (file 100 name_and_agent (claiming 8) [] []) (accepted (held 1))
    ∷ refuses (file 100 name_and_agent (claiming 9) [] []) 6 15
    ∷ refuses (file 100 (5 ∷ 1 ∷ 0 ∷ []) (0 ∷ 9 ∷ []) [] []) 6 12
    ∷ judges (file 100 (5 ∷ 1 ∷ 0 ∷ []) (idle ++ idle) [] []) (accepted (held 1))
    ∷ refuses (file 100 (5 ∷ 1 ∷ 0 ∷ []) idle [] []) 6 7
    -- a claim whose peer byte is 1; knowledge rows that do not rise
    ∷ refuses (file 100 name_and_agent (1 ∷ 0 ∷ 1 ∷ 2 ∷ 0 ∷ 1 ∷ 0 ∷ idle) [] []) 6 15
    ∷ refuses (file 100 name_and_agent (idle ++ (2 ∷ 1 ∷ 0 ∷ 0 ∷ [])) [] []) 6 17
    -- 7: the second event, whose term the role does not know
    ∷ refuses (file 100 name_and_agent (1 ∷ 0 ∷ 2 ∷ 2 ∷ 0 ∷ 0 ∷ 0 ∷ 2 ∷ 0 ∷ 0 ∷ 1 ∷ []) [] []) 7 22
    -- 8: four runs and a fifth; an absent role; a row that is no agent; a record cut short
    ∷ judges (file 100 name_and_agent idle (times 4 (0 ∷ 1 ∷ [])) []) (accepted (held 1))
    ∷ refuses (file 100 name_and_agent idle (times 5 (0 ∷ 1 ∷ [])) []) 8 27
    ∷ refuses (file 100 name_and_agent idle (0 ∷ 1 ∷ 1 ∷ 1 ∷ []) []) 8 21
    ∷ refuses (file 100 name_and_agent idle (0 ∷ 0 ∷ []) []) 8 19
    ∷ refuses (file 100 name_and_agent idle (0 ∷ []) []) 8 19
    -- 9: a role name; a row twice
    ∷ refuses (file 100 name_and_agent idle [] (0 ∷ [])) 9 21
    ∷ refuses (file 100 name_and_agent idle [] (1 ∷ 1 ∷ [])) 9 22
    -- the order: 6 before 7, 7 before 8, 8 before 9
    ∷ refuses (file 100 name_and_agent (1 ∷ 0 ∷ 1 ∷ 2 ∷ 0 ∷ 0 ∷ 1 ∷ 0 ∷ 9 ∷ []) [] []) 6 22
    ∷ refuses (file 100 name_and_agent (1 ∷ 0 ∷ 1 ∷ 2 ∷ 0 ∷ 0 ∷ 1 ∷ []) (7 ∷ []) (0 ∷ [])) 7 18
    ∷ refuses (file 100 name_and_agent idle (7 ∷ []) (0 ∷ [])) 8 19
    -- 10: a buffer of 127 bytes keeps them; of 128 and more, P1's trace stands at the front and the rest is kept
    ∷ leaves p1_file (replicate 127 9) (replicate 127 9)
    ∷ leaves p1_file (replicate 130 9) ((1 ∷ 0 ∷ 1 ∷ 0 ∷ []) ++ replicate 126 9)
    ∷ leaves (file 100 sealed_terms sealed_roles one_run []) (replicate 128 9) (replicate 128 9)
    ∷ leaves (file 2 sealed_terms sealed_roles one_run []) (replicate 128 9) (replicate 128 9)
    -- 12: a step cut short, a run that is not there, a finished run, a value too many; what P1's steps break
    ∷ replays p1_file [] (accepted none)
    ∷ replays p1_file (1 ∷ 0 ∷ []) (accepted none)
    ∷ replays p1_file (1 ∷ 0 ∷ 1 ∷ 0 ∷ []) (accepted (some p1_claim))
    ∷ replays p1_file (1 ∷ 0 ∷ 1 ∷ []) (refuse 12 2)
    ∷ replays p1_file (1 ∷ 0 ∷ 2 ∷ 0 ∷ []) (refuse 12 2)
    ∷ replays p1_file (1 ∷ 0 ∷ 1 ∷ 0 ∷ 1 ∷ 0 ∷ []) (refuse 12 4)
    ∷ replays p1_file (1 ∷ 1 ∷ 0 ∷ 0 ∷ []) (refuse 12 0)
    -- an exchange: run 2 sends, run 1 reads the intruder's constant, 2.0, and claims it; it may also read what was sent, 6.2, but not its own, 6.1, which is not known
    ∷ judges exchange (accepted (broken_at 4 (
    record { run = 2; values = [] } ∷ record { run = 1; values = record { row = 2; run = 0 } ∷ [] } ∷ record { run = 1; values = [] } ∷ []
    ) p1_claim))
    ∷ replays exchange (2 ∷ 0 ∷ 1 ∷ 1 ∷ 6 ∷ 2 ∷ 1 ∷ 0 ∷ []) (accepted (some p1_claim))
    ∷ replays exchange (2 ∷ 0 ∷ 1 ∷ 1 ∷ 6 ∷ 1 ∷ []) (refuse 12 2)
    -- the readings of document 01 that were open, as docs/DECISIONS.md settles them: 1, rows one after the other
    ∷ infers (1 ∷ 0 ∷ 0 ∷ 1 ∷ 0 ∷ 0 ∷ 0 ∷ 0 ∷ 0 ∷ []) [] 0 (refuse 5 3)
    -- 2, terms are free; 3, keys of a role name or variable are inverse
    ∷ infers (1 ∷ 0 ∷ 0 ∷ 3 ∷ 0 ∷ 0 ∷ 8 ∷ 0 ∷ 0 ∷ 9 ∷ 0 ∷ 0 ∷ 12 ∷ 1 ∷ 2 ∷ 12 ∷ 4 ∷ 3 ∷ []) (5 ∷ []) 1 (accepted false)
    ∷ infers (6 ∷ 0 ∷ 0 ∷ 3 ∷ 0 ∷ 0 ∷ 8 ∷ 0 ∷ 0 ∷ 12 ∷ 1 ∷ 2 ∷ 9 ∷ 0 ∷ 0 ∷ []) (3 ∷ 4 ∷ []) 1 (accepted true)
    -- 4, a key lies beneath its encryption
    ∷ refuses (1 ∷ 0 ∷ 0 ∷ 0 ∷ 100 ∷ 0 ∷ 9 ∷ 3 ∷ 0 ∷ 0 ∷ 7 ∷ 0 ∷ 0 ∷ 12 ∷ 0 ∷ 1 ∷ 0 ∷ 0 ∷ 0 ∷ 0 ∷ 0 ∷ 1 ∷ 2 ∷ []) 9 22
    -- 7, a role is present though its record is incomplete; a fifth record makes no role present
    ∷ refuses (1 ∷ 0 ∷ 0 ∷ 0 ∷ 100 ∷ 0 ∷ 3 ∷ 5 ∷ 0 ∷ 0 ∷ 0 ∷ 8 ∷ 1 ∷ 0 ∷ 1 ∷ 0 ∷ 1 ∷ 1 ∷ 0 ∷ 5 ∷ 0 ∷ 0 ∷ 0 ∷ 0 ∷ []) 6 19
    ∷ refuses (file 100 name_and_agent ((0 ∷ 1 ∷ 0 ∷ 0 ∷ 4 ∷ 0 ∷ []) ++ times 4 idle) [] []) 6 15
    -- 9, a row that names an absent role; 10, an event needs its names
    ∷ refuses (1 ∷ 0 ∷ 0 ∷ 0 ∷ 100 ∷ 0 ∷ 3 ∷ 5 ∷ 1 ∷ 0 ∷ 0 ∷ 2 ∷ 0 ∷ 0 ∷ 0 ∷ 0 ∷ 0 ∷ 0 ∷ []) 6 7
    ∷ refuses (1 ∷ 0 ∷ 0 ∷ 0 ∷ 100 ∷ 0 ∷ 3 ∷ 3 ∷ 0 ∷ 0 ∷ 0 ∷ 7 ∷ 1 ∷ 0 ∷ 1 ∷ 2 ∷ 0 ∷ 0 ∷ 0 ∷ 0 ∷ 0 ∷ 0 ∷ 0 ∷ []) 7 15
    -- 11, each part of a pair is read with the other; a variable as a key counts only if it is derivable
    ∷ judges (1 ∷ 0 ∷ 0 ∷ 0 ∷ 100 ∷ 0 ∷ 9 ∷ 5 ∷ 0 ∷ 0 ∷ 7 ∷ 0 ∷ 0 ∷ 11 ∷ 1 ∷ 1 ∷ 0 ∷ 7 ∷ 1 ∷ 0 ∷ 1 ∷ 1 ∷ 0 ∷ 0 ∷ 2 ∷ 0 ∷ 0 ∷ 0 ∷ 0 ∷ []) (accepted (held 1))
    ∷ refuses (1 ∷ 0 ∷ 0 ∷ 0 ∷ 100 ∷ 0 ∷ 9 ∷ 5 ∷ 0 ∷ 0 ∷ 6 ∷ 0 ∷ 1 ∷ 12 ∷ 0 ∷ 1 ∷ 0 ∷ 7 ∷ 1 ∷ 0 ∷ 1 ∷ 1 ∷ 0 ∷ 0 ∷ 2 ∷ 0 ∷ 0 ∷ 0 ∷ 0 ∷ []) 7 21
    -- 13, with no roles a run record is one byte
    ∷ refuses (1 ∷ 0 ∷ 0 ∷ 0 ∷ 100 ∷ 0 ∷ 0 ∷ 0 ∷ 0 ∷ 0 ∷ 1 ∷ 0 ∷ 0 ∷ 0 ∷ []) 8 11
    -- 16, a run's agents are all those of its record
    ∷ judges (1 ∷ 0 ∷ 0 ∷ 0 ∷ 100 ∷ 0 ∷ 15 ∷ 1 ∷ 0 ∷ 0 ∷ 2 ∷ 0 ∷ 0 ∷ 5 ∷ 0 ∷ 0 ∷ 5 ∷ 1 ∷ 0 ∷ 7 ∷ 0 ∷ 0 ∷ 0 ∷ 14 ∷ 2 ∷ 2 ∷ 4 ∷ 2 ∷ 0 ∷ 0 ∷ 0 ∷ 4 ∷ 2 ∷ 0 ∷ 0 ∷ 4 ∷ 0 ∷ 0 ∷ 0 ∷ 3 ∷ 0 ∷ 0 ∷ 1 ∷ 0 ∷ 0 ∷ []) (accepted (held 3))
    -- 19, a listed row is judged before the target
    ∷ infers (3 ∷ 0 ∷ 0 ∷ []) (5 ∷ []) 5 (refuse 11 0)
    ∷ []

-- By the short list.
abbrev pub short_cases : List Case
short_cases =
    -- P1, P4 and P12
    judges_short p1_file (accepted (broken_at 3 (first_move ∷ first_move ∷ []) p1_claim))
    ∷ judges_short (file 100 sealed_terms sealed_roles (one_run ++ one_run) []) (accepted (held 5))
    ∷ judges_short (file 100 read_terms read_roles one_run (0 ∷ 1 ∷ [])) (accepted (held 2))
    -- P4 with a budget of the list's length and one below it
    ∷ judges_short (file 5 sealed_terms sealed_roles (one_run ++ one_run) []) (accepted (held 5))
    ∷ judges_short (file 4 sealed_terms sealed_roles (one_run ++ one_run) []) (accepted (stopped 4))
    -- the lowest run: two runs of P1
    ∷ judges_short (file 100 (names 1) plain_roles (one_run ++ one_run) []) (accepted (broken_at 3 (first_move ∷ first_move ∷ []) p1_claim))
    -- a run that is not the first: run 2 sends before run 1 reads
    ∷ judges_short exchange (accepted (broken_at 4 (
    record { run = 2; values = [] } ∷ record { run = 1; values = record { row = 2; run = 0 } ∷ [] } ∷ record { run = 1; values = [] } ∷ []
    ) p1_claim))
    -- refusals are Search's: of a file, and of a buffer of 127 bytes, which keeps them
    ∷ judges_short [] (refuse 1 0)
    ∷ leaves_short p1_file (replicate 127 9) (replicate 127 9)
    ∷ leaves_short p1_file (replicate 130 9) ((1 ∷ 0 ∷ 1 ∷ 0 ∷ []) ++ replicate 126 9)
    ∷ []

-- an agent and two constants
abbrev pub a : Term
a = atom (trusted 0)

abbrev pub c : Term
c = atom (global 0)

abbrev pub d : Term
d = atom (global 1)
