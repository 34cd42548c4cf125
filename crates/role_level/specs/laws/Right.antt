-- That classes are right at role level has one proof at most: a class there is the row that stands for it. So a struct may keep it in a ghost field. Assumes nothing.
use Rattle.std.specs.Prelude.{ℕ, ◌≡◌, List}
use Rattle.std.proofs.Common.{arith, sym, ap, ◌∙◌}
use native.Mathlib.Nat.{ℕ_set}
use native.Mathlib.Bridge.{le_prop}
use mathlib.Core.HLevel.{Σ_prop_path, Unit-prop, hedberg}
use mathlib.Core.Option.{is_set}
use Rattle.std.proofs.Math.Option.{Option, none, some, some-injective, none-ne-some}
use Rattle.semantics.specs.Term.{Atom, trusted, untrusted, global, intruder, role, variable, local, atom?, Term, atom, term?}
use Rattle.semantics.specs.Table.{Row}
use Rattle.semantics.specs.Runs.{atom_at}
use Rattle.semantics.specs.State.{in_run}
use Rattle.cells.specs.Cells.{cell_of, Within, cell_value, Canonical}
use Rattle.classes.specs.Classes.{Stands, by_name, by_cell, Classes}
use Rattle.role_level.specs.RoleLevel.{role_readings, RoleClasses}

-- what holds of one thing only, and in one way, has one proof
one : {A : Type 0} {P : A → Type 0} → ((a : A) → IsProp (P a)) → ((a b : A) → P a → P b → a ≡ b) → IsProp ((a : A) × P a)
one props same u v = Σ_prop_path props (same u.0 v.0 u.1 v.1)

atoms-set : IsSet Atom
atoms-set = hedberg atom?

terms-set : IsSet Term
terms-set = hedberg term?

canonical-prop : (a : Atom) (w : ℕ) → IsProp (Canonical a w)
canonical-prop (trusted n) w = ℕ_set w 0
canonical-prop (untrusted n) w = ℕ_set w 0
canonical-prop (global n) w = ℕ_set w 0
canonical-prop (intruder n) w = ℕ_set w 0
canonical-prop (role i) w = ℕ_set w 0
canonical-prop (variable n t) w = ℕ_set w 0
canonical-prop (local n v) w = Unit-prop

module _ (rows : List Row) (value : ℕ → ℕ → Option Term) where
  -- the atom by whose name a cell stands for a term
  abbrev Named : ℕ → ℕ → Term → Atom → Type 0
  Named x w t a = (atom_at rows x ≡ some a) × Canonical a w × (t ≡ atom (in_run w a))

  named-prop : (x w : ℕ) (t : Term) (a : Atom) → IsProp (Named x w t a)
  named-prop x w t a = hlevel (is_set, atoms-set, terms-set, canonical-prop)

  by-name-prop : (x w : ℕ) (t : Term) → IsProp ((a : Atom) × Named x w t a)
  by-name-prop x w t = one (named-prop x w t) (λ a b p q. some-injective a b (sym p.0 ∙ q.0))

  by-cell-prop : (x w : ℕ) (t : Term) → IsProp ((atom_at rows x ≡ none) × (value x w ≡ some t))
  by-cell-prop x w t = hlevel (is_set, atoms-set, terms-set)

  stands-prop : (x w : ℕ) (t : Term) → IsProp (Stands rows value x w t)
  stands-prop x w t (by_name {a = a} p c q) (by_name {a = b} p' c' q') =
      ap (λ (s : (a : Atom) × Named x w t a). by_name {a = s.0} s.1.0 s.1.1 s.1.2) (by-name-prop x w t (a, (p, c, q)) (b, (p', c', q')))
  stands-prop x w t (by_name {a = a} p c q) (by_cell n v) = absurd (none-ne-some a (sym n ∙ p))
  stands-prop x w t (by_cell n v) (by_name {a = a} p c q) = absurd (none-ne-some a (sym n ∙ p))
  stands-prop x w t (by_cell n v) (by_cell n' v') =
      ap (λ (s : (atom_at rows x ≡ none) × (value x w ≡ some t)). by_cell s.0 s.1) (by-cell-prop x w t (n, v) (n', v'))

  -- in run 0, a class is the row that stands for it
  abbrev At : ℕ → Term → ℕ → ℕ → Type 0
  At class t x w = (class ≡ cell_of x w) × Within rows 0 x w × Stands rows value x w t

  at-prop : (class : ℕ) (t : Term) (x w : ℕ) → IsProp (At class t x w)
  at-prop class t x w = hlevel (ℕ_set, le_prop, stands-prop)

  at-one : (class : ℕ) (t : Term) (x : ℕ) → IsProp ((w : ℕ) × At class t x w)
  at-one class t x = one (at-prop class t x) (λ w w' p q. omega (arith, p.1.run, q.1.run))

  place-one : (class : ℕ) (t : Term) → IsProp ((x : ℕ) × ((w : ℕ) × At class t x w))
  place-one class t = one (at-one class t) (λ x y p q. omega (arith, p.1.0, q.1.0, p.1.1.run, q.1.1.run))

  standing-prop : (class : ℕ) (t : Term) → IsProp ((x : ℕ) × (w : ℕ) × (class ≡ cell_of x w) × Within rows 0 x w × Stands rows value x w t)
  standing-prop class t u v =
      ap (λ (s : (x : ℕ) × ((w : ℕ) × At class t x w)). (s.0, s.1.0, s.1.1.0, s.1.1.1, s.1.1.2)) (place-one class t (u.0, (u.1, (u.2, u.3, u.4))) (v.0, (v.1, (v.2, v.3, v.4))))

  right-prop : (classes : List ℕ) → IsProp (Classes rows 0 value classes)
  right-prop classes = hlevel (ℕ_set, standing-prop)

pub role-classes-prop : (rows : List Row) (classes : List ℕ) → IsProp (RoleClasses rows classes)
role-classes-prop rows classes = right-prop rows (cell_value role_readings rows) classes
