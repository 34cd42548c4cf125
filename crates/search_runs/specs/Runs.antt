-- The runs whose moves a list of traces goes on with, as the code answers them. Assumes nothing.
use Rattle.std.specs.Prelude.{ℕ, suc, ◌-◌, ◌<◌, ◌≤◌, ◌≡◌, Bool, List, map}
use Rattle.std.proofs.Math.Option.{none, some}
use Rattle.std.specs.declared.ops.Range.{Range}
use Rattle.semantics.specs.Basic.{first_of, provided, numbers_from}
use Rattle.semantics.specs.Scenario.{Scenario}
use Rattle.semantics.specs.State.{State}
use Rattle.semantics.specs.Moves as definitions
use Rattle.semantics.specs.Moves.{full, short, ready_at, run_numbers, runs_in}
use Rattle.runs.specs.declared.opened.Opened.{Opened}
use Rattle.runs.specs.Given.{Given}
use Rattle.state.specs.declared.State.{State as CodeState}
use Rattle.state.specs.State.{IsState}
use Rattle.search_runs.specs.declared.Listing.{Listing}
use Rattle.search_runs.specs.declared.Listing.TheVariants.{Full, Short}

-- the list of the definitions that is meant
abbrev pub list_as : Listing → definitions.Listing
list_as Full = full
list_as Short = short

-- a state of an accepted file with these positions
pub record Standing (o : Opened) (done : List ℕ) (sc : Scenario) (d : State) : Type 0 where
  pub t : List ℕ
  pub n : ℕ
  pub s : CodeState
  pub given : Given o.file.now t n o.runs sc
  pub state : IsState sc d s
  pub is_done : done ≡ s.done

-- whether the next event of run k, from 0, is a send or claim
abbrev pub TellsReady : Opened → List ℕ → ℕ → Bool → Type 0
TellsReady o done k b = (sc : Scenario) (d : State) → Standing o done sc d → ready_at sc d (suc k) ≡ provided b (suc k)

-- the lowest such run, from 0
pub record LowestReady (o : Opened) (done : List ℕ) (k : ℕ) : Type 0 where
  pub below : k < o.runs.count
  pub ready : (sc : Scenario) (d : State) → Standing o done sc d → first_of (map (ready_at sc d) (run_numbers sc)) ≡ some (suc k)

-- there is none
abbrev pub NoneReady : Opened → List ℕ → Type 0
NoneReady o done = (sc : Scenario) (d : State) → Standing o done sc d → first_of (map (ready_at sc d) (run_numbers sc)) ≡ none

-- the runs that a list goes on with, from 0
pub record GoesOn (o : Opened) (done : List ℕ) (list : Listing) (s : Range ℕ) : Type 0 where
  pub within : s.end ≤ o.runs.count
  pub runs : (sc : Scenario) (d : State) → Standing o done sc d → runs_in (list_as list) sc d ≡ numbers_from (suc s.start) (s.end - s.start)
