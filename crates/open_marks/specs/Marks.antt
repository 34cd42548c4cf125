-- Names, inverses, what is learned and Readable, for whatever is known, if the marks are exact for it and each known term is that of a row. Assumes nothing.
use Rattle.std.specs.Prelude.{ℕ, ◌<◌, ◌≡◌, Bool, true, false, List, ◌∷◌}
use Rattle.std.proofs.Math.Option.{some}
use Rattle.semantics.specs.Term.{role, Term, atom, inverse}
use Rattle.semantics.specs.Inference.{derivable}
use Rattle.semantics.specs.Table.{Row}
use Rattle.semantics.specs.Value.{value_of, as_atoms}
use Rattle.semantics.specs.WellFormed.{readable}
use Rattle.knowledge.specs.Steps.{On, kind_at, left_at}
use Rattle.role_level.specs.RoleLevel.{RoleExact, RoleCelled}

-- a row is marked and has a kind and a left byte
abbrev pub MarkedAs : List ℕ → List Bool → ℕ → ℕ → ℕ → Type 0
MarkedAs bytes marks kind left x = On marks x × (kind_at bytes x ≡ kind) × (left_at bytes x ≡ left)

-- whether there is such a row
pub data RowMarked (bytes : List ℕ) (n : ℕ) (marks : List Bool) (kind left : ℕ) : Bool → Type 0 where
  is_marked : (x : ℕ) → x < n → MarkedAs bytes marks kind left x → RowMarked bytes n marks kind left true
  none_marked : ((x : ℕ) → x < n → MarkedAs bytes marks kind left x → ⊥) → RowMarked bytes n marks kind left false

-- whether the name of a role is derivable
abbrev pub NameKnown : List Row → List Bool → ℕ → Bool → Type 0
NameKnown rows marks i r = (known : List Term) → RoleCelled rows known → RoleExact rows known marks → r ≡ derivable known (atom (role i))

-- whether the inverse of a row's term is derivable
abbrev pub InverseKnown : List Row → List Bool → ℕ → Bool → Type 0
InverseKnown rows marks k r =
    (known : List Term) (t : Term) → RoleCelled rows known → RoleExact rows known marks → value_of as_atoms rows k ≡ some t → r ≡ derivable known (inverse t)

-- marks with a row's term known too
abbrev pub Learns : List Row → ℕ → List Bool → List Bool → Type 0
Learns rows x marks more =
    (known : List Term) (t : Term) → RoleCelled rows known → RoleExact rows known marks → value_of as_atoms rows x ≡ some t
    → RoleCelled rows (t ∷ known) × RoleExact rows (t ∷ known) more

-- whether a row's term is readable
abbrev pub ReadableRow : List Row → List Bool → ℕ → Bool → Type 0
ReadableRow rows marks x r =
    (known : List Term) (t : Term) → RoleCelled rows known → RoleExact rows known marks → value_of as_atoms rows x ≡ some t → r ≡ readable known t
