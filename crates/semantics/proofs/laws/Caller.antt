-- What a C caller reads back from the number of every answer that can be given. Assumes nothing.
use Rattle.std.specs.Prelude.{ℕ, ◌≤◌, ◌<◌, ◌≡◌, refl, ◌↔◌, length}
use mathlib.Core.List.{List, Memᴰ}
use Rattle.semantics.specs.Moves.{Listing}
use Rattle.semantics.specs.Answer.{accepted}
use Rattle.semantics.specs.Frame.{budget_of}
use Rattle.semantics.specs.Scenario.{Scenario, opened}
use Rattle.semantics.specs.Verdict.{trace_list, searched_in}
use Rattle.semantics.specs.Replay.{replayed}
use Rattle.semantics.specs.Derive.{derived}
use Rattle.semantics.specs.Packing.{packed_derived, packed_opened, packed_replayed, packed_searched, read_word, DeriveRead, OpenRead, ReplayRead, SearchRead}
use Rattle.semantics.specs.Demand.{NoBreak}
use Rattle.semantics.proofs.laws.Operations.{search-held}
use Rattle.semantics.proofs.laws.Places.{open-fits, derive-fits, replay-fits, search-fits}
use Rattle.semantics.proofs.laws.Packing.{held-word, derive-read, open-read, replay-read, search-read}

-- Open
pub open-read-back : (file : List ℕ) → OpenRead (packed_opened (opened file)) (opened file)
open-read-back file = open-read (opened file) (open-fits file (opened file) refl)

-- Derive, on slices that a machine can have
pub derive-read-back : (table list : List ℕ) (target : ℕ) → length table < 4503599627370496 → length list < 4503599627370496
    → DeriveRead (packed_derived (derived table list target)) (derived table list target)
derive-read-back table list target l k = derive-read (derived table list target) (derive-fits table list target l k (derived table list target) refl)

-- Replay
pub replay-read-back : (file trace : List ℕ) → ReplayRead (packed_replayed (replayed file trace)) (replayed file trace)
replay-read-back file trace = replay-read (replayed file trace) (replay-fits file trace (replayed file trace) refl)

-- Search, of a file of bytes
pub search-read-back : (which : Listing) (file buffer : List ℕ) → ((b : ℕ) → Memᴰ b file → b < 256) → SearchRead (packed_searched (searched_in which file buffer)) (searched_in which file buffer)
search-read-back which file buffer bytes = search-read (searched_in which file buffer) (search-fits which file buffer bytes (searched_in which file buffer) refl)

-- The word is HELD's exactly if the file is accepted, the buffer is long enough, no allowed trace breaks a claim and the list is no longer than the budget.
pub held-read : (which : Listing) (file buffer : List ℕ)
    → (read_word (packed_searched (searched_in which file buffer)) ≡ 1)
    ↔ ((sc : Scenario) × (opened file ≡ accepted sc) × (128 ≤ length buffer) × NoBreak which sc × (length (trace_list which sc) ≤ budget_of file))
held-read which file buffer = (
  λ e. let w = (held-word (searched_in which file buffer)).0 e in let h = (search-held which file buffer w.0).0 w.1 in (h.0, h.1, h.2, h.3, h.4),
  λ w. (held-word (searched_in which file buffer)).1 (length (trace_list which w.0), (search-held which file buffer (length (trace_list which w.0))).1 (w.0, w.1, w.2, w.3, w.4, refl)),
)
