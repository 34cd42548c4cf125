-- The words of demand 2 and demand 3: what Derive's answer speaks of; a break at a place of a list, the first one, and no break at all. The list that 01 speaks of is the full one. Assumes nothing.
use Rattle.std.specs.Prelude.{ℕ, zero, suc, ◌≤◌, ◌<◌, ◌≡◌, length}
use mathlib.Core.List.{List, Memᴰ}
use Rattle.std.proofs.Math.Option.{Option, none, some}
use Rattle.std.proofs.Math.ListN.{get_elem?}
use Rattle.semantics.specs.Term.{Term}
use Rattle.semantics.specs.Table.{Row}
use Rattle.semantics.specs.Value.{as_atoms}
use Rattle.semantics.specs.Roles.{read, Event, Role}
use Rattle.semantics.specs.Scenario.{Scenario}
use Rattle.semantics.specs.State.{State, Claim}
use Rattle.semantics.specs.Moves.{Move, Listing}
use Rattle.semantics.specs.Verdict.{Entry, trace_list}
use Rattle.semantics.specs.Guarantee.{GoodTable}
use Rattle.semantics.specs.Meaning.{ValueIs, TermsOf}
use Rattle.semantics.specs.Encoding.{TermBytes}
use Rattle.semantics.specs.Allowed.{TraceIn, Breaks, Names}

-- "It counts them from 1": what stands at a place of the list
abbrev pub entry_at : Listing → Scenario → ℕ → Option Entry
entry_at l sc zero = none
entry_at l sc (suc i) = get_elem? (trace_list l sc) i

-- "some allowed trace, at a place in the list up to the budget, passes a secrecy claim of a run whose agents are all trusted and ends with the claimed value derivable"
pub record SomeBreak (l : Listing) (sc : Scenario) : Type 0 where
  pub place : ℕ
  pub trace : List Move
  pub end : State
  pub claim : Claim
  pub allowed : TraceIn l sc trace end
  pub listed : entry_at l sc place ≡ some (trace, end)
  pub in_budget : place ≤ sc.budget
  pub broken : Breaks sc end claim

-- "trace, place and claim are those of the first such trace in the list"
pub record FirstBreak (l : Listing) (sc : Scenario) (place : ℕ) (trace : List Move) (claim : Claim) : Type 0 where
  pub end : State
  pub listed : entry_at l sc place ≡ some (trace, end)
  pub in_budget : place ≤ sc.budget
  pub names : Names sc end claim
  pub first : (place' : ℕ) (trace' : List Move) (end' : State) (claim' : Claim) → entry_at l sc place' ≡ some (trace', end') → Breaks sc end' claim' → place ≤ place'

-- "no allowed trace at all does so"
abbrev pub NoBreak : Listing → Scenario → Type 0
NoBreak l sc = (trace : List Move) (end : State) → TraceIn l sc trace end → (claim : Claim) → Breaks sc end claim → ⊥

-- Demand 2: what an answer of Derive speaks of, the rows of an accepted table, the terms of the listed rows and the target's term, and what it says of them
pub record DeriveAsks (table list : List ℕ) (target : ℕ) (Says : List Term → Term → Type 0) : Type 0 where
  pub rows : List Row
  pub known : List Term
  pub term : Term
  pub of_table : TermBytes rows table
  pub good : GoodTable rows
  pub listed_there : (r : ℕ) → Memᴰ r list → r < length rows
  pub target_is : ValueIs as_atoms rows target term
  pub known_are : TermsOf rows list known
  pub answer : Says known term

-- "a scenario of reads only"
abbrev pub ReadsOnly : Scenario → Type 0
ReadsOnly sc = (r : Role) → Memᴰ r sc.roles → (e : Event) → Memᴰ e r.events → e.kind ≡ read
