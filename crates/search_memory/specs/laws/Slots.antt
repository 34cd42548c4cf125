-- A memory of zeros. Assumes nothing.
use Rattle.std.specs.Prelude.{ℕ, ◌+◌, ◌*◌, List, replicate}
use Rattle.std.proofs.Common.{arith}
use Rattle.search_memory.specs.Memory.{Says}
use Rattle.search_memory.specs.laws.Words.{zeros-read}

-- an array of zeros says nothing
pub zeros-say-nothing : (n : ℕ) {k : List ℕ} {c : ℕ} → Says (replicate n 0) k c → ⊥
zeros-say-nothing n s = omega (arith, s.counted, s.some, zeros-read n (40 * s.slot + 38), zeros-read n (40 * s.slot + 39))
