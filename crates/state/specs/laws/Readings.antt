-- Readings of runs: what a run's next event changes in them, and what its agents stand for. Assumes nothing.
use Rattle.std.specs.Prelude.{ℕ, zero, suc, ◌<◌, ◌≡◌, refl, List, ◌++◌, length, set}
use Rattle.std.proofs.Math.Decide.{ℕ_discrete}
use Rattle.std.proofs.Common.{sym, ap, ◌∙◌, subst, eq-eqb, ne_eqb}
use Rattle.std.proofs.Math.Path.{fun_ext}
use Rattle.std.proofs.Math.Option.{Option, none, some, none-ne-some}
use Rattle.std.proofs.Math.ListN.{get_elem?}
use Rattle.semantics.specs.Basic.{and_then}
use Rattle.semantics.specs.Term.{Atom, trusted, untrusted, global, intruder, role, variable, local, Term}
use Rattle.semantics.specs.Table.{Row}
use Rattle.semantics.specs.Runs.{Run}
use Rattle.semantics.specs.Scenario.{Scenario}
use Rattle.semantics.specs.State.{Value, Progress, term_of, assigned, reading_in}
use Rattle.semantics.proofs.laws.List.{set_same, set_other}
use Rattle.semantics.proofs.laws.Reached.{assigned-stays}
use Rattle.classes.specs.Classes.{Grows}
use Rattle.state.specs.Readings.{SetsOf, sets_in, sets_of, with_sets, run_reading, readings}

-- the sets of the run that is replaced, and of every other
pub with-same : (k : ℕ) (mine : List (Atom × Value)) (others : SetsOf) → with_sets k mine others k ≡ mine
with-same k mine others = rw (with_sets, eq-eqb k k refl) refl

pub with-other : (k : ℕ) (mine : List (Atom × Value)) (others : SetsOf) (j : ℕ) → (j ≡ k → ⊥) → with_sets k mine others j ≡ others j
with-other k mine others j d = rw (with_sets, ne_eqb j k d) refl

-- a state in which one run has gone on has that run's sets replaced
pub sets-advanced : (progress : List Progress) (k : ℕ) (p : Progress) → k < length progress → sets_of (set progress k p) ≡ with_sets k p.values (sets_of progress)
sets-advanced progress k p l = fun_ext at-run
  where
    at-run : (j : ℕ) → sets_of (set progress k p) j ≡ with_sets k p.values (sets_of progress) j
    at-run j = go (ℕ_discrete j k)
      where
        go : Dec (j ≡ k) → sets_of (set progress k p) j ≡ with_sets k p.values (sets_of progress) j
        go (yes e) = rw e (ap sets_in (set_same progress k p l) ∙ sym (with-same k p.values (sets_of progress)))
        go (no d) = ap sets_in (set_other progress k p j d) ∙ sym (with-other k p.values (sets_of progress) j d)

-- sets that are replaced by themselves are the same
pub with_itself : (k : ℕ) (mine : List (Atom × Value)) (others : SetsOf) → mine ≡ others k → with_sets k mine others ≡ others
with_itself k mine others e = fun_ext at-run
  where
    at-run : (j : ℕ) → with_sets k mine others j ≡ others j
    at-run j = go (ℕ_discrete j k)
      where
        go : Dec (j ≡ k) → with_sets k mine others j ≡ others j
        go (yes f) = rw f (with-same k mine others ∙ e)
        go (no d) = with-other k mine others j d

-- the reading of a run of the scenario
pub reading-run : (sc : Scenario) (sets : SetsOf) (k : ℕ) {run : Run} → get_elem? sc.runs k ≡ some run → readings sc sets (suc k) ≡ reading_in sc.rows (suc k) run (sets k)
reading-run sc sets k e = ap (λ (o : Option Run). run_reading sc.rows (suc k) o (sets k)) e

-- with more set, a run reads more
reading-more : (rows : List Row) (u : ℕ) (o : Option Run) (sets more : List (Atom × Value)) (a : Atom) (t : Term) → run_reading rows u o sets a ≡ some t → run_reading rows u o (sets ++ more) a ≡ some t
unfolding reading_in
reading-more rows u none sets more a t e = e
reading-more rows u (some run) sets more (trusted n) t e = e
reading-more rows u (some run) sets more (untrusted n) t e = e
reading-more rows u (some run) sets more (global n) t e = e
reading-more rows u (some run) sets more (intruder n) t e = e
reading-more rows u (some run) sets more (role i) t e = e
reading-more rows u (some run) sets more (local n w) t e = e
reading-more rows u (some run) sets more (variable n type) t e = go (assigned (variable n type) sets) refl e
  where
    go : (o : Option Value) → assigned (variable n type) sets ≡ o → and_then o (term_of rows) ≡ some t → and_then (assigned (variable n type) (sets ++ more)) (term_of rows) ≡ some t
    go none f h = absurd (none-ne-some t h)
    go (some v) f h = rw (assigned-stays (variable n type) sets more f) h

-- more sets of one run make its reading grow and keep the others
pub readings-grow : (sc : Scenario) (others : SetsOf) (k : ℕ) (sets more : List (Atom × Value)) → Grows (suc k) (readings sc (with_sets k sets others)) (readings sc (with_sets k (sets ++ more) others))
readings-grow sc others k sets more = record { elsewhere = elsewhere; more = grown }
  where
    elsewhere : (w : ℕ) → (w ≡ suc k → ⊥) → (a : Atom) → readings sc (with_sets k (sets ++ more) others) w a ≡ readings sc (with_sets k sets others) w a
    elsewhere zero d a = refl
    elsewhere (suc j) d a =
        let differ : j ≡ k → ⊥ = λ e. d (ap suc e) in
        ap (λ (l : List (Atom × Value)). run_reading sc.rows (suc j) (get_elem? sc.runs j) l a) (with-other k (sets ++ more) others j differ ∙ sym (with-other k sets others j differ))

    here : List (Atom × Value) → Atom → Option Term
    here l a = run_reading sc.rows (suc k) (get_elem? sc.runs k) l a

    grown : (a : Atom) (t : Term) → readings sc (with_sets k sets others) (suc k) a ≡ some t → readings sc (with_sets k (sets ++ more) others) (suc k) a ≡ some t
    grown a t e =
        ap (λ (l : List (Atom × Value)). here l a) (with-same k (sets ++ more) others)
        ∙ reading-more sc.rows (suc k) (get_elem? sc.runs k) sets more a t (ap (λ (l : List (Atom × Value)). here l a) (sym (with-same k sets others)) ∙ e)

-- the same from the sets that a run has
pub readings-grow-from : (sc : Scenario) (others : SetsOf) (k : ℕ) (sets more : List (Atom × Value)) → sets ≡ others k → Grows (suc k) (readings sc others) (readings sc (with_sets k (sets ++ more) others))
readings-grow-from sc others k sets more e =
    subst (λ (before : SetsOf). Grows (suc k) (readings sc before) (readings sc (with_sets k (sets ++ more) others))) (with_itself k sets others e) (readings-grow sc others k sets more)
