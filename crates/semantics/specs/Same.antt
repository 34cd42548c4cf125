-- States of equal positions, values and derivable terms. Assumes nothing.
use Rattle.std.specs.Prelude.{ℕ, ◌≡◌, List, [], ◌∷◌}
use Rattle.std.proofs.Math.Option.{Option, none, some}
use Rattle.semantics.specs.Term.{VariableType, Atom, variable, Term}
use Rattle.semantics.specs.Table.{Row}
use Rattle.semantics.specs.Inference.{derivable}
use Rattle.semantics.specs.Runs.{atom_at}
use Rattle.semantics.specs.State.{Value, Progress, State, term_of, assigned}
use Rattle.semantics.specs.Moves.{Move}
use Rattle.semantics.specs.Verdict.{Entry}

-- two that are both missing, or related
pub data Both {A B : Type 0} (R : A → B → Type 0) : Option A → Option B → Type 0 where
  none_of : Both R none none
  some_of : {a : A} {b : B} → R a b → Both R (some a) (some b)

-- two lists that are related in each place
pub data Each {A B : Type 0} (R : A → B → Type 0) : List A → List B → Type 0 where
  nil : Each R [] []
  cons : {a : A} {b : B} {ls : List A} {ms : List B} → R a b → Each R ls ms → Each R (a ∷ ls) (b ∷ ms)

-- values that stand for one term
abbrev pub SameValue : List Row → Value → Value → Type 0
SameValue rows v w = term_of rows v ≡ term_of rows w

-- the variables of the table have equal values, or none
abbrev pub SameSets : List Row → List (Atom × Value) → List (Atom × Value) → Type 0
SameSets rows sets sets' =
    (x n : ℕ) (type : VariableType) → atom_at rows x ≡ some (variable n type)
    → Both (SameValue rows) (assigned (variable n type) sets) (assigned (variable n type) sets')

-- runs that have come equally far with equal values
pub record SameRun (rows : List Row) (p q : Progress) : Type 0 where
  pub done : p.done ≡ q.done
  pub sets : SameSets rows p.values q.values

-- states that differ in nothing that counts
pub record Same (rows : List Row) (d e : State) : Type 0 where
  pub progress : Each (SameRun rows) d.progress e.progress
  pub derives : (t : Term) → derivable d.known t ≡ derivable e.known t

-- a move with the state after it
abbrev pub SameMove : List Row → Move × State → Move × State → Type 0
SameMove rows m n = (m.0 ≡ n.0) × Same rows m.1 n.1

-- a trace with the state at its end
abbrev pub SameEntry : List Row → Entry → Entry → Type 0
SameEntry rows x y = (x.0 ≡ y.0) × Same rows x.1 y.1
