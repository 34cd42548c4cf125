-- The laws of marks with those of listed rows. Assumes nothing.
use Rattle.std.specs.Prelude.{ℕ, zero, suc, ◌+◌, ◌<◌, ◌≡◌, ◌⊎◌, ◌↔◌, Bool, true, false, length, get_or, take, set}
use Rattle.std.proofs.Common.{add-one, arith, sym, ◌∙◌, inl, inr, ⊎_elim, length-set, take-suc, get_or-set_same, get_or-set_other}
use Rattle.std.proofs.Math.Decide.{ℕ_discrete}
use Rattle.std.proofs.Math.Path.{refl}
use mathlib.Core.List.Memᴰ
use mathlib.Core.List.{List, [], ◌∷◌, ◌++◌, Memᴰ}
use Rattle.cells.specs.Cells.{cell_count, WithListed}

-- an element of a list is an element
pub at_mem : (list : List ℕ) (i : ℕ) → i < length list → Memᴰ (get_or list i 0) list
at_mem (x ∷ xs) zero l = Memᴰ.head refl
at_mem (x ∷ xs) (suc i) l = Memᴰ.tail (at_mem xs i (omega arith))
at_mem [] i l = absurd (omega arith)

-- no row of the list so far
pub listed-none : (marks : List Bool) → length marks ≡ cell_count → WithListed [] marks marks
listed-none marks e = record { size = e; each = λ c. (inl, ⊎_elim (λ o. o) (λ m. absurd (Memᴰ.not-nil m))) }

-- one more row of the list
pub listed_more : (list : List ℕ) (i : ℕ) (before marks : List Bool) → i < length list → get_or list i 0 < 96 → WithListed (take i list) before marks
    → WithListed (take (i + 1) list) before (set marks (get_or list i 0) true)
listed_more list i before marks l low done = rw (add-one i, take-suc list i 0 l) (record { size = length-set marks (get_or list i 0) true ∙ done.size; each = λ c. go c (ℕ_discrete c (get_or list i 0)) })
  where
    go : (c : ℕ) → Dec (c ≡ get_or list i 0) → (get_or (set marks (get_or list i 0) true) c false ≡ true) ↔ ((get_or before c false ≡ true) ⊎ Memᴰ c (take i list ++ (get_or list i 0 ∷ [])))
    go c (yes e) = (λ o. inr (Memᴰ.append_right (take i list) (Memᴰ.head e)), λ w. rw e (get_or-set_same marks (get_or list i 0) true false (omega (arith, done.size))))
    go c (no d) = (
      λ o. ⊎_elim inl (λ m. inr (Memᴰ.append_left (get_or list i 0 ∷ []) m)) ((done.each c).0 (sym (get_or-set_other marks (get_or list i 0) c true false d) ∙ o)),
      λ w. get_or-set_other marks (get_or list i 0) c true false d
          ∙ (done.each c).1 (⊎_elim inl (λ m. inr (⊎_elim (λ x. x) (λ x. absurd (d (Memᴰ.eq_of_singleton x))) (Memᴰ.append_cases (take i list) m))) w),
    )
