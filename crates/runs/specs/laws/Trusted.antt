-- Whether the agents of a run are all trusted. Assumes nothing.
use Rattle.std.specs.Prelude.{ℕ, suc, ◌+◌, ◌<◌, ◌≡◌, refl, Bool, List, [], ◌∷◌, length}
use Rattle.std.specs.List.{list_all, range_with_len}
use Rattle.std.proofs.Common.{arith, sym, ◌∙◌}
use Rattle.std.proofs.Math.Option.{some, some-injective}
use Rattle.std.proofs.Math.ListN.{get_elem?}
use Rattle.semantics.specs.Basic.{every}
use Rattle.semantics.specs.Runs.{Run, atom_at, is_trusted, all_trusted}
use Rattle.semantics.specs.Scenario.{Scenario}
use Rattle.semantics.specs.Guarantee.{Guarantee}
use Rattle.semantics.proofs.laws.List.{mem-get_elem, get_elem-there}
use Rattle.rows.specs.Rows.{rows_of}
use Rattle.runs.specs.Runs.{RunsAt, AgentsAt, run_at}
use Rattle.runs.specs.declared.Runs.{Runs}

-- a test of the numbers counted is that of the elements that stand there
pub every-counted : (p : ℕ → Bool) (f : ℕ → ℕ) (xs : List ℕ) (s : ℕ) → ((i j : ℕ) → i < length xs → j ≡ s + i → get_elem? xs i ≡ some (f j)) → list_all (λ i. p (f i)) (range_with_len s (length xs)) ≡ every p xs
every-counted p f [] s h = refl
every-counted p f (x ∷ xs) s h =
    let here : f s ≡ x = sym (some-injective x (f s) (h 0 s (omega arith) (omega arith))) in
    rw (here, every-counted p f xs (s + 1) (λ i j l e. h (suc i) j (omega arith) (omega arith))) refl

module _ (file : List ℕ) (r : Runs) (k : ℕ) where
  -- the agents of run k
  run-agents : (sc : Scenario) (run : Run) → RunsAt file sc r → Guarantee sc → get_elem? sc.runs k ≡ some run → AgentsAt file (run_at r k).start r.roles run.agents
  run-agents sc run at g found = record {
    count = (g.good_runs run ((mem-get_elem sc.runs).1 (k, found))).agent_for_each ∙ sym at.roles;
    each = λ i l. (at.each k run found).agents i (omega (arith, at.roles));
  }

  -- they are inside the file
  pub agents-inside : ((sc : Scenario) × RunsAt file sc r × Guarantee sc × (k < r.count)) → (run_at r k).start + r.roles < length file
  agents-inside w =
      let e = get_elem-there w.0.runs k (omega (arith, w.1.count)) in
      omega (arith, (w.1.each k e.0 e.1).agents_inside, w.1.roles)

  -- what is found of them is what is true of the run
  pub trusted-all : (t : List ℕ) {b : Bool} → ((agents : List ℕ) → AgentsAt file (run_at r k).start r.roles agents → b ≡ every (λ a. is_trusted (atom_at (rows_of t) a)) agents)
      → (sc : Scenario) (run : Run) → sc.rows ≡ rows_of t → RunsAt file sc r → Guarantee sc → get_elem? sc.runs k ≡ some run → b ≡ all_trusted sc.rows run
  unfolding all_trusted
  trusted-all t h sc run e at g found = rw e (h run.agents (run-agents sc run at g found))
