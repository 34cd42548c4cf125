-- The entries below a state: by run, by the values of one variable after the other, and after a move. Assumes nothing.
use Rattle.std.specs.Prelude.{ℕ, suc, ◌-◌, ◌<◌, ◌≤◌, ◌≡◌, refl, length}
use Rattle.std.proofs.Common.{arith, sym, ◌∙◌}
use Rattle.std.proofs.Math.Path.{ap, fun_ext}
use mathlib.Core.List.{List, [], ◌∷◌, ◌++◌, map, append_assoc, append-nil, Memᴰ}
use Rattle.std.proofs.Math.Option.{Option, none, some}
use Rattle.semantics.specs.Basic.{joined, present_ones, mapped, numbers_from}
use Rattle.semantics.specs.Term.{Atom}
use Rattle.semantics.specs.Scenario.{Scenario}
use Rattle.semantics.specs.State.{Value, State, Active, active}
use Rattle.semantics.specs.Moves.{Move, candidates, choices, performed, to_set, branch, moves_of_run, runs_in, moves_in}
use Rattle.semantics.specs.Verdict.{Entry}
use Rattle.semantics.specs.Allowed.{Takes, Step}
use Rattle.semantics.proofs.laws.Moves.{mem-choices, moves-exact}
use Rattle.semantics.proofs.laws.Traces.{step_in}
use Rattle.semantics.proofs.laws.Tree.{listed_suc}
use Rattle.search_runs.specs.Runs.{list_as}
use Rattle.search_breaks.specs.declared.Plan.{Plan}
use Rattle.search_breaks.specs.Walk.{next_in, entries_from, after_move, below, branches}

module _ {A B : Type 0} (f : A → List B) where
  joined-append : (xs ys : List A) → joined f (xs ++ ys) ≡ joined f xs ++ joined f ys
  joined-append [] ys = refl
  joined-append (x ∷ xs) ys = ap (λ (l : List B). f x ++ l) (joined-append xs ys) ∙ sym (append_assoc (f x) (joined f xs) (joined f ys))

joined-joined : {A B C : Type 0} (f : B → List C) (g : A → List B) (xs : List A) → joined f (joined g xs) ≡ joined (λ x. joined f (g x)) xs
joined-joined f g [] = refl
joined-joined {C = C} f g (x ∷ xs) = joined-append f (g x) (joined g xs) ∙ ap (λ (l : List C). joined f (g x) ++ l) (joined-joined f g xs)

present-append : {A : Type 0} (xs ys : List (Option A)) → present_ones (xs ++ ys) ≡ present_ones xs ++ present_ones ys
present-append [] ys = refl
present-append (none ∷ xs) ys = present-append xs ys
present-append {A} (some x ∷ xs) ys = ap (λ (l : List A). x ∷ l) (present-append xs ys)

map-append : {A B : Type 0} (f : A → B) (xs ys : List A) → map f (xs ++ ys) ≡ map f xs ++ map f ys
map-append f [] ys = refl
map-append {B = B} f (x ∷ xs) ys = ap (λ (l : List B). f x ∷ l) (map-append f xs ys)

map-map : {A B C : Type 0} (f : B → C) (g : A → B) (xs : List A) → map f (map g xs) ≡ map (λ x. f (g x)) xs
map-map f g [] = refl
map-map {C = C} f g (x ∷ xs) = ap (λ (l : List C). f (g x) ∷ l) (map-map f g xs)

-- what is there of the results of some lists
present-joined : {A B C : Type 0} (f : B → Option C) (g : A → List B) (xs : List A) → present_ones (map f (joined g xs)) ≡ joined (λ x. present_ones (map f (g x))) xs
present-joined f g [] = refl
present-joined {C = C} f g (x ∷ xs) =
    ap present_ones (map-append f (g x) (joined g xs)) ∙ present-append (map f (g x)) (map f (joined g xs)) ∙ ap (λ (l : List C). present_ones (map f (g x)) ++ l) (present-joined f g xs)

-- the moves that are walked through are allowed
pub next-step : (plan : Plan) (sc : Scenario) (s : State) (m : Move) (s' : State) → Memᴰ (m, s') (next_in plan sc s) → Step sc s m s'
unfolding next_in
next-step plan sc s m s' q = step_in (list_as plan.list) sc s m s' ((moves-exact sc s (list_as plan.list) m s').0 q)

module _ (plan : Plan) (sc : Scenario) (n : ℕ) where
  -- the entries of a state: its own, then those below it
  pub entries-of : (d : State) → entries_from plan (suc n) sc d ≡ ([], d) ∷ below plan sc n (next_in plan sc d)
  entries-of d = listed_suc (next_in plan sc) n d

  -- those of the runs from one on, from 0, up to another
  abbrev pub runs_from : State → ℕ → ℕ → List Entry
  runs_from d end k = joined (λ u. below plan sc n (moves_of_run sc d u (active sc d u))) (numbers_from (suc k) (end - k))

  pub runs-all : (d : State) (end k : ℕ) → runs_in (list_as plan.list) sc d ≡ numbers_from (suc k) (end - k) → below plan sc n (next_in plan sc d) ≡ runs_from d end k
  unfolding next_in moves_in
  runs-all d end k e =
      joined-joined (λ b. map (after_move b.0) (entries_from plan n sc b.1)) (λ u. moves_of_run sc d u (active sc d u)) (runs_in (list_as plan.list) sc d)
      ∙ ap (λ (us : List ℕ). joined (λ u. below plan sc n (moves_of_run sc d u (active sc d u))) us) e

  pub runs-next : (d : State) (end k : ℕ) → k < end → runs_from d end k ≡ below plan sc n (moves_of_run sc d (suc k) (active sc d (suc k))) ++ runs_from d end (suc k)
  runs-next d end k l =
      let z : end - k ≡ suc (end - suc k) = omega arith in
      ap (λ (m : ℕ). joined (λ u. below plan sc n (moves_of_run sc d u (active sc d u))) (numbers_from (suc k) m)) z

  pub runs-end : (d : State) (end k : ℕ) → end ≤ k → runs_from d end k ≡ []
  runs-end d end k l =
      let z : end - k ≡ 0 = omega arith in
      ap (λ (m : ℕ). joined (λ u. below plan sc n (moves_of_run sc d u (active sc d u))) (numbers_from (suc k) m)) z

  -- a run without an event to come
  pub run_none : (d : State) (u : ℕ) → active sc d u ≡ none → below plan sc n (moves_of_run sc d u (active sc d u)) ≡ []
  unfolding moves_of_run
  run_none d u e = ap (λ (o : Option Active). below plan sc n (moves_of_run sc d u o)) e

  -- and one with: every choice of values for what its event sets
  pub run-some : (d : State) (u : ℕ) {a : Active} → active sc d u ≡ some a → below plan sc n (moves_of_run sc d u (active sc d u)) ≡ below plan sc n (branches sc d u a [] (to_set sc a))
  unfolding moves_of_run
  run-some d u e = ap (λ (o : Option Active). below plan sc n (moves_of_run sc d u o)) e

  module _ (d : State) (u : ℕ) (a : Active) (vs : List Value) where
    -- the values of one more variable
    abbrev pub values_of : List Atom → List Value → List Entry
    values_of xs candidates = joined (λ v. below plan sc n (branches sc d u a (vs ++ (v ∷ [])) xs)) candidates

    one_more : (x : Atom) (xs : List Atom) → branches sc d u a vs (x ∷ xs) ≡ joined (λ v. branches sc d u a (vs ++ (v ∷ [])) xs) (candidates sc.rows (length sc.runs) x)
    unfolding choices
    one_more x xs =
        present-joined (λ ws. mapped (branch u (vs ++ ws)) (performed sc d a (vs ++ ws))) (λ v. map (λ ws. v ∷ ws) (choices sc.rows (length sc.runs) xs)) (candidates sc.rows (length sc.runs) x)
        ∙ ap (λ (g : Value → List (Move × State)). joined g (candidates sc.rows (length sc.runs) x)) (fun_ext same)
      where
        same : (v : Value) → present_ones (map (λ ws. mapped (branch u (vs ++ ws)) (performed sc d a (vs ++ ws))) (map (λ ws. v ∷ ws) (choices sc.rows (length sc.runs) xs))) ≡ branches sc d u a (vs ++ (v ∷ [])) xs
        same v =
            ap present_ones (map-map (λ ws. mapped (branch u (vs ++ ws)) (performed sc d a (vs ++ ws))) (λ ws. v ∷ ws) (choices sc.rows (length sc.runs) xs)
            ∙ ap (λ (h : List Value → Option (Move × State)). map h (choices sc.rows (length sc.runs) xs)) (fun_ext (λ ws. ap (λ (l : List Value). mapped (branch u l) (performed sc d a l)) (sym (append_assoc vs (v ∷ []) ws)))))

    pub branches-more : (x : Atom) (xs : List Atom) → below plan sc n (branches sc d u a vs (x ∷ xs)) ≡ values_of xs (candidates sc.rows (length sc.runs) x)
    branches-more x xs =
        ap (below plan sc n) (one_more x xs)
        ∙ joined-joined (λ b. map (after_move b.0) (entries_from plan n sc b.1)) (λ v. branches sc d u a (vs ++ (v ∷ [])) xs) (candidates sc.rows (length sc.runs) x)

    -- no variable is left: one branch, or none
    alone : branches sc d u a vs [] ≡ present_ones (mapped (branch u vs) (performed sc d a vs) ∷ [])
    unfolding choices
    alone = ap (λ (l : List Value). present_ones (mapped (branch u l) (performed sc d a l) ∷ [])) (append-nil vs)

    pub branches-allowed : {d' : State} → performed sc d a vs ≡ some d' → below plan sc n (branches sc d u a vs []) ≡ map (after_move (record { run = u; values = vs })) (entries_from plan n sc d')
    branches-allowed e =
        ap (below plan sc n) (alone ∙ ap (λ (o : Option State). present_ones (mapped (branch u vs) o ∷ [])) e) ∙ append-nil _

    pub branches-refused : performed sc d a vs ≡ none → below plan sc n (branches sc d u a vs []) ≡ []
    branches-refused e = ap (below plan sc n) (alone ∙ ap (λ (o : Option State). present_ones (mapped (branch u vs) o ∷ [])) e)

    -- where no completion by values that the variables may take is allowed there is no branch
    pub branches-pruned : (xs : List Atom) → ((ws : List Value) → Takes sc.rows (length sc.runs) xs ws → performed sc d a (vs ++ ws) ≡ none) → below plan sc n (branches sc d u a vs xs) ≡ []
    branches-pruned xs none_allowed = ap (below plan sc n) (go (choices sc.rows (length sc.runs) xs) (λ ws m. none_allowed ws ((mem-choices sc.rows (length sc.runs) xs).0 m)))
      where
        go : (cs : List (List Value)) → ((ws : List Value) → Memᴰ ws cs → performed sc d a (vs ++ ws) ≡ none) → present_ones (map (λ ws. mapped (branch u (vs ++ ws)) (performed sc d a (vs ++ ws))) cs) ≡ []
        go [] h = refl
        go (ws ∷ cs) h =
            ap (λ (o : Option State). present_ones (mapped (branch u (vs ++ ws)) o ∷ map (λ ws. mapped (branch u (vs ++ ws)) (performed sc d a (vs ++ ws))) cs)) (h ws (Memᴰ.head refl)) ∙ go cs (λ x m. h x (Memᴰ.tail m))
