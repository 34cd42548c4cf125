-- For each answer of the definitions its case of the code's enum. Assumes nothing.
use Rattle.std.specs.Prelude.{Option as CodeOption, Result, ℕ, ◌-◌, get_or, ◌∷◌, ◌≡◌, Bool, List, [], length, Err, None, Ok, Some}
use Rattle.std.proofs.Math.Option.{Option, none, some}
use Rattle.semantics.specs.Answer as definitions
use Rattle.semantics.specs.Answer.{Answer, refused, accepted}
use Rattle.semantics.specs.Frame.{budget_of}
use Rattle.semantics.specs.Scenario.{Scenario, term_part, role_part, run_part, knowledge_part, opened}
use Rattle.semantics.specs.Moves.{Move}
use Rattle.semantics.specs.Roles as roles
use Rattle.semantics.specs.Roles.{secrecy}
use Rattle.semantics.specs.State as states
use Rattle.semantics.specs.Verdict as verdicts
use Rattle.semantics.specs.Verdict.{broken_at, held, stopped, trace_bytes, Entry, Finding, found, nothing, cut}
use Rattle.answers.specs.declared.Reason.{Reason}
use Rattle.answers.specs.declared.Reason.TheVariants.{Version, Size, Framing, Row, RepeatedRow, Role, Event, Run, Knowledge, Buffer, AbsentRow, Step}
use Rattle.answers.specs.declared.Refusal.{Refusal}
use Rattle.answers.specs.declared.Layout.{Layout}
use Rattle.answers.specs.declared.Claim.{Claim}
use Rattle.answers.specs.declared.ClaimKind.{ClaimKind}
use Rattle.answers.specs.declared.ClaimKind.TheVariants.{Secrecy}
use Rattle.answers.specs.declared.Break.{Break}
use Rattle.answers.specs.declared.Verdict.{Verdict}
use Rattle.answers.specs.declared.Verdict.TheVariants as searching
use Rattle.answers.specs.declared.End.{End}
use Rattle.answers.specs.declared.End.TheVariants as ending

-- the number of a reason
abbrev pub number_of : Reason → ℕ
number_of Version = 1
number_of Size = 2
number_of Framing = 3
number_of Row = 4
number_of RepeatedRow = 5
number_of Role = 6
number_of Event = 7
number_of Run = 8
number_of Knowledge = 9
number_of Buffer = 10
number_of AbsentRow = 11
number_of Step = 12

-- the reason with a number from 1 to 12; no refusal has another
abbrev pub reasons : List Reason
reasons = Version ∷ Size ∷ Framing ∷ Row ∷ RepeatedRow ∷ Role ∷ Event ∷ Run ∷ Knowledge ∷ Buffer ∷ AbsentRow ∷ Step ∷ []

abbrev pub reason_of : ℕ → Reason
reason_of n = get_or reasons (n - 1) Step

-- a refusal: the reason with its number, and its place
abbrev pub numbered : ℕ → ℕ → Refusal
numbered n at = record { reason = reason_of n; place = at }

abbrev pub refusal_as : definitions.Refusal → Refusal
refusal_as r = numbered r.number r.place

-- the number of an answer's refusal is that of a reason, so that the code's answer says it
abbrev pub Numbered : {A : Type 0} → Answer A → Type 0
Numbered (refused r) = number_of (reason_of r.number) ≡ r.number
Numbered (accepted a) = Unit {0}

-- a check: refused or passed
abbrev pub Checked : Type 0
Checked = Result (Unit {0}) Refusal

-- by the place at which it is refused, if there is one
abbrev pub refused_at : Reason → CodeOption ℕ → Checked
refused_at reason (Some place) = Err (record { reason = reason; place = place })
refused_at reason None = Ok tt

abbrev pub checked_as : Answer (Unit {0}) → Checked
checked_as (refused r) = Err (refusal_as r)
checked_as (accepted u) = Ok tt

-- Derive: derivable or not, or refused
abbrev pub Derived : Type 0
Derived = Result Bool Refusal

abbrev pub derived_as : Answer Bool → Derived
derived_as (refused r) = Err (refusal_as r)
derived_as (accepted b) = Ok b

-- where the blocks of a file stand, and how many rows, roles, runs and knowledge rows its scenario has
abbrev pub layout_of : List ℕ → Scenario → Layout
layout_of file sc =
    record {
      budget = budget_of file;
      terms = record { start = (term_part file).start; count = length sc.rows };
      roles = record { start = (role_part file).start; count = length sc.roles };
      runs = record { start = (run_part file).start; count = length sc.runs };
      knowledge = record { start = (knowledge_part file).start; count = length sc.knowledge };
    }

-- Open: refused, or accepted with the layout
abbrev pub Opened : Type 0
Opened = Result Layout Refusal

abbrev pub opened_as : List ℕ → Answer Scenario → Opened
opened_as file (refused r) = Err (refusal_as r)
opened_as file (accepted sc) = Ok (layout_of file sc)

-- the scenario of an answer, and one with nothing in it of a refusal
abbrev pub scenario_or : Answer Scenario → Scenario
scenario_or (refused r) = record { budget = 0; rows = []; roles = []; runs = []; knowledge = [] }
scenario_or (accepted sc) = sc

-- the scenario of an accepted file
unfoldable pub scenario_in : List ℕ → Scenario
scenario_in file = scenario_or (opened file)

-- Open accepts a file with this layout
pub record Accepts (file : List ℕ) (l : Layout) : Type 0 where
  pub is_opened : opened file ≡ accepted (scenario_in file)
  pub layout : l ≡ layout_of file (scenario_in file)

-- the number of a claim's kind
abbrev pub claim_number : ClaimKind → ℕ
claim_number Secrecy = 2

-- the kind of a claim
abbrev pub kind_as : roles.ClaimKind → ClaimKind
kind_as secrecy = Secrecy

-- a claim: its run, its event and its kind
abbrev pub claim_as : states.Claim → Claim
claim_as c = record { run = c.run; event = c.event; kind = kind_as c.kind }

-- the claim broken, or none
abbrev pub Claimed : Type 0
Claimed = CodeOption Claim

abbrev pub claimed_as : Option states.Claim → Claimed
claimed_as none = None
claimed_as (some c) = Some (claim_as c)

-- Replay: refused, the claim broken, or none
abbrev pub Replayed : Type 0
Replayed = Result Claimed Refusal

abbrev pub replayed_as : Answer (Option states.Claim) → Replayed
replayed_as (refused r) = Err (refusal_as r)
replayed_as (accepted o) = Ok (claimed_as o)

-- a break: its place in the list, the length of its trace in bytes, and the claim
abbrev pub break_as : ℕ → List Move → states.Claim → Break
break_as p ms c = record { place = p; length = length (trace_bytes ms); claim = claim_as c }

-- a break; the list's length; or the budget
abbrev pub verdict_as : verdicts.Verdict → Verdict
verdict_as (broken_at p ms c) = searching.Broken (break_as p ms c)
verdict_as (held n) = searching.Held n
verdict_as (stopped n) = searching.Stopped n

-- Search: refused, or the verdict
abbrev pub Searched : Type 0
Searched = Result Verdict Refusal

abbrev pub searched_as : Answer verdicts.Verdict → Searched
searched_as (refused r) = Err (refusal_as r)
searched_as (accepted v) = Ok (verdict_as v)

-- what a walk finds: so many traces without a break, or what ended it
abbrev pub Walked : Type 0
Walked = Result ℕ End

-- a walk through some entries: the break, how many entries there are without one, or that the budget ended
abbrev pub walked_as : List Entry → Finding → Walked
walked_as es (found p e c) = Err (ending.Broken (break_as p e.0 c))
walked_as es nothing = Ok (length es)
walked_as es cut = Err ending.Cut

-- the verdict by what a walk through the whole list found with a budget
abbrev pub answered : ℕ → Walked → Verdict
answered budget (Err (ending.Broken b)) = searching.Broken b
answered budget (Ok m) = searching.Held m
answered budget (Err ending.Cut) = searching.Stopped budget
