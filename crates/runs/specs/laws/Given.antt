-- What an accepted file gives: its table, where its runs stand, and what is known at the start. Assumes nothing.
use Rattle.std.specs.Prelude.{ℕ, ◌*◌, ◌≡◌, List, length}
use Rattle.std.proofs.Common.{arith, ◌∙◌}
use Rattle.std.proofs.Math.Path.{sym, ap}
use Rattle.semantics.specs.Answer.{accepted}
use Rattle.semantics.specs.Scenario.{Scenario, term_part, knowledge_part, scenario_of, opened}
use Rattle.semantics.proofs.laws.Open.{opened-inverts, opened-guarantee}
use Rattle.rows.specs.Rows.{rows_of, Shape}
use Rattle.rows.specs.laws.Table.{table-good, table-length}
use Rattle.table.specs.laws.Table.{accepted-table}
use Rattle.answers.specs.Answers.{layout_of, scenario_in}
use Rattle.answers.specs.declared.Layout.{Layout}
use Rattle.runs.specs.declared.Runs.{Runs}
use Rattle.runs.specs.Runs.{RunsAt}
use Rattle.runs.specs.laws.Blocks.{opened-framed}
use Rattle.runs.specs.Given.{Given}

module _ (file : List ℕ) (sc : Scenario) (is_opened : opened file ≡ accepted sc) where
  -- the rows are those of the first block
  opened_rows : sc.rows ≡ rows_of (term_part file).bytes
  unfolding scenario_of
  opened_rows = let o = opened-inverts file sc is_opened in ap (λ (x : Scenario). x.rows) o.scenario ∙ sym (accepted-table (term_part file).start (term_part file).bytes o.rows o.table).1

  -- what is known is the fourth block
  pub opened-knowledge : {list : List ℕ} → list ≡ (knowledge_part file).bytes → list ≡ sc.knowledge
  unfolding scenario_of
  opened-knowledge e = e ∙ sym (ap (λ (x : Scenario). x.knowledge) (opened-inverts file sc is_opened).scenario)

  pub given-accepted : (r : Runs) → RunsAt file sc r → {n : ℕ} {t : List ℕ} → n ≡ length sc.rows → t ≡ (term_part file).bytes → Given file t n r sc
  given-accepted r runs {n} {t} count bytes =
      let o = opened-inverts file sc is_opened in
      let table = (accepted-table (term_part file).start (term_part file).bytes o.rows o.table).0 in
      let rows = opened_rows in
      rw bytes (record {
        size = (opened-framed file sc is_opened).few;
        runs = runs;
        shape = record {
          table = table;
          count = count ∙ ap length rows;
          size = table-length (term_part file).bytes table ∙ ap (λ (m : ℕ). 3 * m) (sym (count ∙ ap length rows));
          few = omega (arith, (table-good (term_part file).bytes table).few, count, ap length rows);
          few_runs = runs.few;
        };
        rows = rows;
        good = opened-guarantee file sc is_opened;
      })

-- what an accepted file gives, as the code has it
pub given-layout : (file : List ℕ) (sc : Scenario) → opened file ≡ accepted sc → {l : Layout} → l ≡ layout_of file sc → {r : Runs} → RunsAt file sc r → {t : List ℕ} → t ≡ (term_part file).bytes → Given file t l.terms.count r sc
given-layout file sc o e {r} runs bytes = given-accepted file sc o r runs (ap (λ (x : Layout). x.terms.count) e) bytes

-- what the facts of an accepted file as one value come to
pub opened-gives :
    {file t : List ℕ} {n u : ℕ} {r : Runs}
    → Shape t n u → opened file ≡ accepted (scenario_in file) → t ≡ (term_part file).bytes → RunsAt file (scenario_in file) r → Given file t n r (scenario_in file)
opened-gives {file} {r = r} shape o bytes runs =
    given-accepted file (scenario_in file) o r runs (shape.count ∙ ap length (ap rows_of bytes ∙ sym (opened_rows file (scenario_in file) o))) bytes
