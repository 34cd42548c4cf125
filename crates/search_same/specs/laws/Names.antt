-- Equal positions and names stand for states with equal positions and values. Assumes nothing.
use Rattle.std.specs.Prelude.{ℕ, suc, ◌<◌, ◌≤◌, ◌≡◌, refl, List, length}
use Rattle.std.proofs.Common.{arith, ◌∙◌, subst}
use Rattle.std.proofs.Math.Path.{sym, ap}
use Rattle.std.proofs.Math.Option.{Option, none, some, some-injective}
use Rattle.std.proofs.Math.ListN.{get_elem?}
use Rattle.semantics.specs.Basic.{and_then}
use Rattle.semantics.specs.Term.{VariableType, variable, Term, atom}
use Rattle.semantics.specs.Table.{Row}
use Rattle.semantics.specs.Value.{Reading}
use Rattle.semantics.specs.Runs.{atom_at}
use Rattle.semantics.specs.Scenario.{Scenario}
use Rattle.semantics.specs.Guarantee.{Guarantee}
use Rattle.semantics.specs.State.{Value, Progress, State, in_run, term_of, assigned, reading_in}
use Rattle.semantics.proofs.laws.Test.{There, none-there}
use Rattle.semantics.proofs.laws.List.{get_elem-below, get_elem-there}
use Rattle.cells.specs.Cells.{cell_of}
use Rattle.classes.specs.Classes.{Named, unnamed, named}
use Rattle.state.specs.Readings.{sets_in, sets_of, readings}
use Rattle.state.specs.laws.Readings.{reading-run}
use Rattle.state.specs.laws.Start.{atom-below}
use Rattle.semantics.specs.Same.{Both, none_of, some_of, Each, SameValue, SameSets, SameRun}
use Rattle.state.specs.State.{Placed}
use Rattle.search_same.specs.Clean.{SamePositions, SameNames}
use Rattle.semantics.proofs.laws.Each.{each_from}

-- a cell fixes its row and its run
cell-run : (x x' w w' : ℕ) → x < 96 → x' < 96 → cell_of x w ≡ cell_of x' w' → (x ≡ x') × (w ≡ w')
cell-run x x' w w' l l' e = (omega arith, omega arith)

-- a name fixes the value that it says
pub named-once : {rows : List Row} {runs name name' : ℕ} {value value' : Option Term} → length rows ≤ 96 → runs ≤ 4 → Named rows runs name value → Named rows runs name' value' → name ≡ name' → value ≡ value'
named-once few runs (unnamed e v) (unnamed e' v') q = v ∙ sym v'
named-once few runs (unnamed e v) (named x w a e' i f c v') q = absurd (omega arith)
named-once few runs (named x w a e i f c v) (unnamed e' v') q = absurd (omega arith)
named-once {rows} few runs (named x w a e i f c v) (named x' w' a' e' i' f' c' v') q =
    let cells = cell-run x x' w w' (omega arith) (omega arith) (sym e ∙ q ∙ e') in
    let atoms : a ≡ a' = some-injective a a' (sym f ∙ ap (atom_at rows) cells.0 ∙ f') in
    v ∙ (λ j. some (atom (in_run (cells.1 j) (atoms j)))) ∙ sym v'

-- values that stand for terms are equal where what they stand for is
both_read : (rows : List Row) (o o' : Option Value) → ((v : Value) → o ≡ some v → There (term_of rows v)) → ((v : Value) → o' ≡ some v → There (term_of rows v))
    → and_then o (term_of rows) ≡ and_then o' (term_of rows) → Both (SameValue rows) o o'
both_read rows none none h h' e = none_of
both_read rows none (some w) h h' e = let t = h' w refl in none-there (t.0, e ∙ t.1)
both_read rows (some v) none h h' e = let t = h v refl in none-there (t.0, sym e ∙ t.1)
both_read rows (some v) (some w) h h' e = some_of e

module _ {sc : Scenario} (g : Guarantee sc) {d d' : State} {done done' names names' : List ℕ} (placed : Placed sc d done names) (placed' : Placed sc d' done' names') (positions : SamePositions sc done done') (same : SameNames sc names names') where
  -- a variable of the table stands for the same in a run
  variable-same : (k : ℕ) → k < length sc.runs → (x n : ℕ) (type : VariableType) → atom_at sc.rows x ≡ some (variable n type)
      → and_then (assigned (variable n type) (sets_of d.progress k)) (term_of sc.rows) ≡ and_then (assigned (variable n type) (sets_of d'.progress k)) (term_of sc.rows)
  unfolding reading_in
  variable-same k l x n type f =
      let run = get_elem-there sc.runs k l in
      let read : readings sc (sets_of d.progress) (suc k) (variable n type) ≡ readings sc (sets_of d'.progress) (suc k) (variable n type) =
      named-once g.table.few g.few_runs (placed.named x (suc k) (variable n type) l f) (placed'.named x (suc k) (variable n type) l f) (same x k n type l (atom-below sc.rows x f) f) in
      sym (ap (λ (ρ : Reading). ρ (variable n type)) (reading-run sc (sets_of d.progress) k run.1)) ∙ read ∙ ap (λ (ρ : Reading). ρ (variable n type)) (reading-run sc (sets_of d'.progress) k run.1)

  -- so the run's values are equal
  sets_same : (k : ℕ) → k < length sc.runs → SameSets sc.rows (sets_of d.progress k) (sets_of d'.progress k)
  sets_same k l x n type f =
      both_read sc.rows (assigned (variable n type) (sets_of d.progress k)) (assigned (variable n type) (sets_of d'.progress k)) (placed.valued k (variable n type)) (placed'.valued k (variable n type))
      (variable-same k l x n type f)

  -- and so is how far it has come
  run-same : (k : ℕ) (p q : Progress) → get_elem? d.progress k ≡ some p → get_elem? d'.progress k ≡ some q → SameRun sc.rows p q
  run-same k p q e e' =
      let l : k < length sc.runs = omega (arith, get_elem-below d.progress k e, placed.progress) in
      record {
        done = sym (placed.positions k p e) ∙ positions k l ∙ placed'.positions k q e';
        sets = subst (λ (o : Option Progress). SameSets sc.rows p.values (sets_in o)) e' (subst (λ (o : Option Progress). SameSets sc.rows (sets_in o) (sets_of d'.progress k)) e (sets_same k l));
      }

  -- Every run has come equally far with equal values.
  pub same_names : Each (SameRun sc.rows) d.progress d'.progress
  same_names = each_from d.progress d'.progress (placed.progress ∙ sym placed'.progress) run-same
