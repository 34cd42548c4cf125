-- The runs of an accepted file, found one after the other. Assumes nothing.
use Rattle.std.specs.Prelude.{ℕ, zero, suc, ◌+◌, ◌*◌, ◌<◌, ◌≤◌, ◌≡◌, refl, List, [], ◌∷◌, length, get_or, set}
use Rattle.std.proofs.Math.Decide.{ℕ_discrete}
use Rattle.std.proofs.Common.{arith, sym, ap, ◌∙◌, length-set, get_or-set_same, get_or-set_other}
use Rattle.std.proofs.Math.Option.{some}
use Rattle.std.proofs.Math.ListN.{get_elem?}
use Rattle.semantics.specs.Answer.{accepted}
use Rattle.semantics.specs.Runs.{Run}
use Rattle.semantics.specs.Scenario.{Scenario, run_part, opened}
use Rattle.semantics.proofs.laws.List.{get_elem-below, get_elem-there}
use Rattle.semantics.proofs.laws.Open.{opened-guarantee}
use Rattle.semantics.proofs.laws.Answer.{accepted-same}
use Rattle.answers.specs.Answers.{layout_of}
use Rattle.answers.specs.declared.Layout.{Layout}
use Rattle.runs.specs.Runs.{RunAt, RunsAt, IsRun, no_place}
use Rattle.runs.specs.declared.RunPlace.{RunPlace}

-- the runs below k are found; the first begins at `start`
pub record FoundTo (file : List ℕ) (sc : Scenario) (count roles start k : ℕ) (runs : List RunPlace) : Type 0 where
  pub all_runs : count ≡ length sc.runs
  pub all_roles : roles ≡ length sc.roles
  pub begins : start ≡ (run_part file).start
  pub four : length runs ≡ 4
  pub each : (i : ℕ) (run : Run) → i < k → get_elem? sc.runs i ≡ some run → RunAt file sc run (get_or runs i no_place).start (get_or runs i no_place).first (get_or runs i no_place).events
  pub small : (i : ℕ) → i < 4 → (get_or runs i no_place).events ≤ 8

-- the layout of an accepted file
abbrev Laid : List ℕ → Layout → Type 0
Laid file l = (sc : Scenario) × (opened file ≡ accepted sc) × (l ≡ layout_of file sc)

-- the place that was set
set_here : (xs : List RunPlace) (k : ℕ) (x : RunPlace) (i : ℕ) → length xs ≡ 4 → k < 4 → i ≡ k → get_or (set xs k x) i no_place ≡ x
set_here xs k x i n l e = rw e (get_or-set_same xs k x no_place (omega arith))

-- four places of no run
abbrev zeros : List RunPlace
zeros = no_place ∷ no_place ∷ no_place ∷ no_place ∷ []

zeros-small : (i : ℕ) → (get_or zeros i no_place).events ≤ 8
zeros-small zero = omega arith
zeros-small (suc zero) = omega arith
zeros-small (suc (suc zero)) = omega arith
zeros-small (suc (suc (suc zero))) = omega arith
zeros-small (suc (suc (suc (suc i)))) = omega arith

module _ (file : List ℕ) (sc : Scenario) (accepts : opened file ≡ accepted sc) where
  -- it has at most four runs and four roles
  pub few-runs : length sc.runs ≤ 4
  few-runs = (opened-guarantee file sc accepts).few_runs

  pub few-roles : length sc.roles ≤ 4
  few-roles = (opened-guarantee file sc accepts).few_roles

  module _ {l : Layout} (laid : Laid file l) where
    -- the layout is that of the scenario
    laid_out : l ≡ layout_of file sc
    laid_out = laid.2 ∙ ap (λ (x : Scenario). layout_of file x) (accepted-same (sym laid.1 ∙ accepts))

    -- none is found at first
    pub found_none : FoundTo file sc l.runs.count l.roles.count l.runs.start 0 zeros
    found_none = record {
      all_runs = ap (λ (x : Layout). x.runs.count) laid_out;
      all_roles = ap (λ (x : Layout). x.roles.count) laid_out;
      begins = ap (λ (x : Layout). x.runs.start) laid_out;
      four = refl;
      each = λ i run l. absurd (omega arith);
      small = λ i l. zeros-small i;
    }

  module _ {count roles start k : ℕ} {runs : List RunPlace} (found : FoundTo file sc count roles start k runs) where
    -- the next run is at the place
    pub found-run : k < count → IsRun file sc k (start + k * (1 + roles))
    found-run l = record { accepts = accepts; below = omega (arith, found.all_runs); begins = rw (found.begins, found.all_roles) refl }

    -- one more
    pub found-more : k < count → {place : RunPlace} → place.start ≡ start + k * (1 + roles)
        → ((sc : Scenario) (k′ : ℕ) (run : Run) → IsRun file sc k′ (start + k * (1 + roles)) → get_elem? sc.runs k′ ≡ some run → RunAt file sc run (start + k * (1 + roles)) place.first place.events)
        → FoundTo file sc count roles start (k + 1) (set runs k place)
    found-more l {place} is_start next = record {
      all_runs = found.all_runs;
      all_roles = found.all_roles;
      begins = found.begins;
      four = length-set runs k _ ∙ found.four;
      each = λ i run m g. here-or-before i run m g (ℕ_discrete i k);
      small = λ i m. small-each i m (ℕ_discrete i k);
    }
      where
        below : k < 4
        below = omega (arith, few-runs, found.all_runs)

        more : List RunPlace
        more = set runs k place

        here-or-before : (i : ℕ) (run : Run) → i < k + 1 → get_elem? sc.runs i ≡ some run → Dec (i ≡ k) → RunAt file sc run (get_or more i no_place).start (get_or more i no_place).first (get_or more i no_place).events
        here-or-before i run m g (yes e) = rw (set_here runs k place i found.four below e, is_start) (next sc k run (found-run l) (rw e at g))
        here-or-before i run m g (no d) = rw (get_or-set_other runs k i place no_place d) (found.each i run (omega arith) g)

        small-each : (i : ℕ) → i < 4 → Dec (i ≡ k) → (get_or more i no_place).events ≤ 8
        small-each i m (yes e) =
            let w = get_elem-there sc.runs k (omega (arith, found.all_runs)) in
            rw (set_here runs k place i found.four below e) (next sc k w.0 (found-run l) w.1).few
        small-each i m (no d) = rw (get_or-set_other runs k i place no_place d) (found.small i m)

    -- all
    pub found_all : count ≤ k → RunsAt file sc (record { count = count; roles = roles; runs = runs })
    found_all l = record {
      count = found.all_runs;
      few = omega (arith, few-runs, found.all_runs);
      roles = found.all_roles;
      few_roles = omega (arith, few-roles, found.all_roles);
      each = λ i run g. found.each i run (omega (arith, get_elem-below sc.runs i g, found.all_runs)) g;
      small = found.small;
    }
