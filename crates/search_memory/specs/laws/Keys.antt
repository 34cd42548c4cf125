-- Keys: two states of one key agree, and a key is made run by run. Assumes nothing.
use Rattle.std.specs.Prelude.{ℕ, ◌+◌, ◌*◌, ◌<◌, ◌≡◌, List, length, get_or}
use Rattle.std.proofs.Common.{arith, sym, ◌∙◌}
use Rattle.search_memory.specs.Memory.{key_size, name_of, IsKey, Agree, SameWords}

-- two states whose keys have the same words agree
pub keys-agree : {variables done done' names names' : List ℕ} {depth depth' : ℕ} {key key' : List ℕ}
    → IsKey variables done names depth key → IsKey variables done' names' depth' key' → SameWords key key' → Agree variables done done' names names' depth depth'
keys-agree a b same = record {
  positions = λ k l. sym (a.positions k l) ∙ same k (omega arith) ∙ b.positions k l;
  moves = sym a.moves ∙ same 4 (omega arith) ∙ b.moves;
  values = λ k i l h. sym (a.values k i l h) ∙ same (6 + 8 * k + i) (omega arith) ∙ b.values k i l h;
}

-- a key that has the moves left, and of so many runs the position and the names
pub record FilledWords (variables done names : List ℕ) (depth runs : ℕ) (key : List ℕ) : Type 0 where
  pub size : length key ≡ key_size
  pub moves : get_or key 4 0 ≡ depth
  pub positions : (k : ℕ) → k < runs → get_or key k 0 ≡ get_or done k 0
  pub values : (k : ℕ) → k < runs → (i : ℕ) → i < 8 → get_or key (6 + 8 * k + i) 0 ≡ name_of variables names k i
