-- The list of all sequences of moves from a state, for any moves: each sequence with the state that it ends in (document 01, 'Roles and moves'). Assumes nothing.
use Rattle.std.specs.Prelude.{ℕ, zero, suc, List, [], ◌∷◌, map}
use Rattle.semantics.specs.Basic.{joined}

-- A sequence of moves from a state to a state, each step being allowed.
pub data Follows {State Move : Type 0} (Step : State → Move → State → Type 0) : State → List Move → State → Type 0 where
  stays : {s : State} → Follows Step s [] s
  moves : {s s' e : State} {m : Move} {ms : List Move} → Step s m s' → Follows Step s' ms e → Follows Step s (m ∷ ms) e

-- "in it a trace precedes its extensions. Two traces that first differ at a move are ordered by" the order of that move.
pub data Earlier {Move : Type 0} (Before : Move → Move → Type 0) : List Move → List Move → Type 0 where
  shorter : {m : Move} {ms : List Move} → Earlier Before [] (m ∷ ms)
  differs : {m m' : Move} {ms ms' : List Move} → Before m m' → Earlier Before (m ∷ ms) (m' ∷ ms')
  agrees : {m : Move} {ms ms' : List Move} → Earlier Before ms ms' → Earlier Before (m ∷ ms) (m ∷ ms')

module _ {State Move : Type 0} (next : State → List (Move × State)) where
  -- "An allowed trace is any sequence of allowed moves, the empty one included. The list has each of them once".
  -- `next` has the moves of a state in order, each with the state after it; the fuel is the number of moves that are left at most.
  unfoldable pub listed : ℕ → State → List (List Move × State)
  listed zero s = ([], s) ∷ []
  listed (suc n) s = ([], s) ∷ joined (λ branch. map (λ e. (branch.0 ∷ e.0, e.1)) (listed n branch.1)) (next s)
