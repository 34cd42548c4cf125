-- The laws of Open's sequence of conditions, as the code goes through it. Assumes nothing.
use Rattle.std.specs.Prelude.{ℕ, zero, suc, ◌+◌, ◌*◌, ◌<◌, ◌≤◌, ◌≡◌, MatchOption, length, Err, None, Ok, Some}
use Rattle.std.proofs.Common.{arith, add-one, sym, ◌∙◌}
use Rattle.std.proofs.Math.Path.{refl, ap, fun_ext}
use mathlib.Core.List.{List, [], ◌∷◌}
use Rattle.std.proofs.Math.Option.{Option, none, some}
use Rattle.std.proofs.lemmas.List.{length-map}
use Rattle.std.specs.Int.{div_ceil}
use Rattle.std.proofs.lemmas.Grind.{div_ceil_times}
use Rattle.semantics.specs.Basic.{first_of}
use Rattle.semantics.specs.Answer as definitions
use Rattle.semantics.specs.Answer.{Answer, refused, checked, ◌>>=◌, ◌>>◌}
use Rattle.semantics.specs.Table.{Row, rows_from}
use Rattle.semantics.specs.Frame.{Part, records, unversioned, too_long, misframed, budget_of}
use Rattle.semantics.specs.Roles.{bad_role, absent_role_from, role_in, roles_from}
use Rattle.semantics.specs.WellFormed.{ill_formed}
use Rattle.semantics.specs.Runs.{run_length, run_in, run_records, runs_from, bad_run, bad_knowledge_from}
use Rattle.semantics.specs.Scenario.{Scenario, term_part, role_part, run_part, knowledge_part, role_parts, role_count, run_parts, scenario_of, opened}
use Rattle.semantics.proofs.laws.Open.{bad_role-present}
use Rattle.rows.specs.Rows.{rows_of, place_as, Shape}
use Rattle.rows.specs.laws.Places.{at_some, nowhere-none}
use Rattle.rows.specs.Rows.{Place}
use Rattle.frame.specs.Framing.{framing_of}
use Rattle.table.specs.Check.{judged_as}
use Rattle.table.specs.Check.{Judged}
use Rattle.table.specs.laws.Table.{judged-refused, judged-sized, table-accepted}
use Rattle.records.specs.Records.{part_at}
use Rattle.records.specs.laws.Records.{records_left, left-cons, left-none, left-all}
use Rattle.records.specs.laws.Runs.{run-bytes}
use Rattle.answers.specs.Answers.{numbered, refusal_as, checked_as, layout_of, opened_as}
use Rattle.answers.specs.declared.Refusal.{Refusal}
use Rattle.answers.specs.Answers.{Checked}
use Rattle.answers.specs.declared.Layout.{Layout}
use Rattle.answers.specs.Answers.{Opened}
use Rattle.scenario.specs.Opened.{roles_refusal, judged_runs, judged_rows}

-- two conditions with one number, one after the other
six-cases : (a b : Option ℕ) (rest : Answer Scenario) → ◌>>◌ (checked 6 a) (◌>>◌ (checked 6 b) rest) ≡ ◌>>◌ (checked 6 (first_of (a ∷ b ∷ []))) rest
six-cases none none rest = refl
six-cases none (some at) rest = refl
six-cases (some at) b rest = refl

module _ (file : List ℕ) where
  -- a refused frame
  framing-cases : (a b c : Option ℕ) (rest : Answer Scenario) {x : Refusal} → checked_as (◌>>◌ (checked 1 a) (◌>>◌ (checked 2 b) (checked 3 c))) ≡ Err x
      → (r : definitions.Refusal) × (◌>>◌ (checked 1 a) (◌>>◌ (checked 2 b) (◌>>◌ (checked 3 c) rest)) ≡ refused r) × (x ≡ refusal_as r)
  framing-cases none none none rest e = let z : ◌≡◌ {A = ℕ} 0 1 = cc in absurd (omega arith)
  framing-cases none none (some at) rest e = (_, refl, cc)
  framing-cases none (some at) c rest e = (_, refl, cc)
  framing-cases (some at) b c rest e = (_, refl, cc)

  framed-cases : (a b c : Option ℕ) (rest : Answer Scenario) → checked_as (◌>>◌ (checked 1 a) (◌>>◌ (checked 2 b) (checked 3 c))) ≡ Ok tt
      → ◌>>◌ (checked 1 a) (◌>>◌ (checked 2 b) (◌>>◌ (checked 3 c) rest)) ≡ rest
  framed-cases none none none rest e = refl
  framed-cases none none (some at) rest e = let z : ◌≡◌ {A = ℕ} 0 1 = cc in absurd (omega arith)
  framed-cases none (some at) c rest e = let z : ◌≡◌ {A = ℕ} 0 1 = cc in absurd (omega arith)
  framed-cases (some at) b c rest e = let z : ◌≡◌ {A = ℕ} 0 1 = cc in absurd (omega arith)

  -- what follows the frame: rows, then 6 to 9
  abbrev after_frame : Answer Scenario
  after_frame = ◌>>=◌ (rows_from (term_part file).start [] (term_part file).bytes) (λ rows. judged_rows file rows)

  after_same : (rows : List Row) → ◌>>◌ (checked 6 (bad_role rows (role_parts file))) (◌>>◌ (checked 6 (absent_role_from (role_count file) (term_part file).start rows)) (◌>>◌ (checked 7 (ill_formed rows 0 (roles_from (role_parts file)))) (judged_runs file rows)))
      ≡ judged_rows file rows
  unfolding judged_rows roles_refusal
  after_same rows = six-cases (bad_role rows (role_parts file)) (absent_role_from (role_count file) (term_part file).start rows) (◌>>◌ (checked 7 (ill_formed rows 0 (roles_from (role_parts file)))) (judged_runs file rows))

  opened_after : opened file ≡ ◌>>◌ (checked 1 (unversioned file)) (◌>>◌ (checked 2 (too_long file)) (◌>>◌ (checked 3 (misframed file)) after_frame))
  unfolding opened judged_runs
  opened_after =
      ap (λ (f : List Row → Answer Scenario). ◌>>◌ (checked 1 (unversioned file)) (◌>>◌ (checked 2 (too_long file)) (◌>>◌ (checked 3 (misframed file)) (◌>>=◌ (rows_from (term_part file).start [] (term_part file).bytes) f))))
      (fun_ext after_same)

  module _ {f : Checked} (check : f ≡ checked_as (framing_of file)) where
    pub frame_refused : {x : Refusal} → f ≡ Err x → Err x ≡ opened_as file (opened file)
    frame_refused e =
        let w = framing-cases (unversioned file) (too_long file) (misframed file) after_frame (sym check ∙ e) in
        rw (opened_after, w.1) (ap Err w.2)

    module _ (framed : f ≡ Ok tt) where
      pub opened-framed : opened file ≡ after_frame
      opened-framed = opened_after ∙ framed-cases (unversioned file) (too_long file) (misframed file) after_frame (sym check ∙ framed)

      module _ {j : Judged} (table : j ≡ judged_as (rows_from (term_part file).start [] (term_part file).bytes)) where
        pub table-refused : {x : Refusal} → j ≡ Err x → Err x ≡ opened_as file (opened file)
        table-refused {x} e =
            let w = judged-refused (rows_from (term_part file).start [] (term_part file).bytes) x (sym table ∙ e) in
            rw (opened-framed, w.1) (ap Err w.2)

        module _ {n : ℕ} (rows : j ≡ Ok n) where
          pub terms-shape : Shape (term_part file).bytes n 0
          terms-shape = judged-sized (term_part file).start (term_part file).bytes n (sym table ∙ rows)

          pub opened_rows : {o : Opened} → o ≡ opened_as file (judged_rows file (rows_of (term_part file).bytes)) → o ≡ opened_as file (opened file)
          opened_rows h = rw (opened-framed, table-accepted (term_part file).bytes terms-shape.table (term_part file).start) h

module _ (file : List ℕ) (rows : List Row) where
  -- refusal 6: of records, of rows, or none
  module _ {p : Place} (roles : p ≡ place_as (bad_role rows (role_parts file))) where
    records-refused : {at : ℕ} → p ≡ Some at → Some at ≡ place_as (roles_refusal file rows)
    unfolding roles_refusal
    records-refused e = rw (at_some (bad_role rows (role_parts file)) (sym e ∙ roles)) refl

    names-judged : p ≡ None → {q : Place} → q ≡ place_as (absent_role_from (role_count file) (term_part file).start rows) → q ≡ place_as (roles_refusal file rows)
    unfolding roles_refusal
    names-judged good {q} names = names ∙ rw (nowhere-none (bad_role rows (role_parts file)) (sym good ∙ roles)) (first_alone (absent_role_from (role_count file) (term_part file).start rows))
      where
        first_alone : (o : Option ℕ) → place_as o ≡ place_as (first_of (none ∷ o ∷ []))
        first_alone none = refl
        first_alone (some at) = refl

  -- refusal 6, by what is found of records and then of rows
  pub roles-told : (p q : Place) {R : Type 0} → p ≡ place_as (bad_role rows (role_parts file)) → MatchOption p R (λ at. q ≡ Some at)
      → (R → q ≡ place_as (absent_role_from (role_count file) (term_part file).start rows)) → q ≡ place_as (roles_refusal file rows)
  roles-told None q first found absent = names-judged first refl (absent found)
  roles-told (Some at) q first found absent = found ∙ records-refused first refl

  -- refusal 6, then 7, then the rest
  module _ {p : Place} (roles : p ≡ place_as (roles_refusal file rows)) where
    pub roles-refused : {at : ℕ} → p ≡ Some at → Err (numbered 6 at) ≡ opened_as file (judged_rows file rows)
    unfolding judged_rows
    roles-refused e = rw (at_some (roles_refusal file rows) (sym e ∙ roles)) refl

    module _ (good : p ≡ None) where
      no-refusal : roles_refusal file rows ≡ none
      no-refusal = nowhere-none (roles_refusal file rows) (sym good ∙ roles)

      pub no-bad-role : bad_role rows (role_parts file) ≡ none
      unfolding roles_refusal
      no-bad-role = first-none (bad_role rows (role_parts file)) (absent_role_from (role_count file) (term_part file).start rows) no-refusal
        where
          first-none : (a b : Option ℕ) → first_of (a ∷ b ∷ []) ≡ none → a ≡ none
          first-none none b e = refl
          first-none (some at) b e = e

      module _ {w : Place} (events : w ≡ place_as (ill_formed rows 0 (roles_from (role_parts file)))) where
        pub events-refused : {at : ℕ} → w ≡ Some at → Err (numbered 7 at) ≡ opened_as file (judged_rows file rows)
        unfolding judged_rows
        events-refused e = rw (no-refusal, at_some (ill_formed rows 0 (roles_from (role_parts file))) (sym e ∙ events)) refl

        pub events-passed : w ≡ None → opened_as file (judged_runs file rows) ≡ opened_as file (judged_rows file rows)
        unfolding judged_rows
        events-passed e = rw (no-refusal, nowhere-none (ill_formed rows 0 (roles_from (role_parts file))) (sym e ∙ events)) refl

  -- refusals 8 and 9, or accepted
  module _ {x : Place} (runs : x ≡ place_as (bad_run rows (role_count file) (run_parts file))) where
    pub runs-refused : {at : ℕ} → x ≡ Some at → Err (numbered 8 at) ≡ opened_as file (judged_runs file rows)
    unfolding judged_runs
    runs-refused e = rw (at_some (bad_run rows (role_count file) (run_parts file)) (sym e ∙ runs)) refl

    module _ (fit : x ≡ None) {y : Place} (known : y ≡ place_as (bad_knowledge_from rows (knowledge_part file).start 0 (knowledge_part file).bytes)) where
      no-bad-run : bad_run rows (role_count file) (run_parts file) ≡ none
      no-bad-run = nowhere-none (bad_run rows (role_count file) (run_parts file)) (sym fit ∙ runs)

      pub known-refused : {at : ℕ} → y ≡ Some at → Err (numbered 9 at) ≡ opened_as file (judged_runs file rows)
      unfolding judged_runs
      known-refused e = rw (no-bad-run, at_some (bad_knowledge_from rows (knowledge_part file).start 0 (knowledge_part file).bytes) (sym e ∙ known)) refl

      pub all-accepted : y ≡ None → {layout : Layout} → layout ≡ layout_of file (scenario_of file rows) → Ok layout ≡ opened_as file (judged_runs file rows)
      unfolding judged_runs
      all-accepted e h =
          rw (no-bad-run, nowhere-none (bad_knowledge_from rows (knowledge_part file).start 0 (knowledge_part file).bytes) (sym e ∙ known)) (ap Ok h)

-- the layout of an accepted file, from what was read of it
pub layout-right : (file : List ℕ) (rows : List Row) → bad_role rows (role_parts file) ≡ none
    → {budget terms n roles r runs u knowledge k : ℕ} → budget ≡ budget_of file → terms ≡ (term_part file).start → n ≡ length rows → roles ≡ (role_part file).start → r ≡ role_count file
    → runs ≡ (run_part file).start → u ≡ length (run_parts file) → knowledge ≡ (knowledge_part file).start → k ≡ length (knowledge_part file).bytes
    → ◌≡◌ {A = Layout} (record { budget = budget; terms = record { start = terms; count = n }; roles = record { start = roles; count = r }; runs = record { start = runs; count = u }; knowledge = record { start = knowledge; count = k } }) (layout_of file (scenario_of file rows))
unfolding scenario_of roles_from runs_from
layout-right file rows good a b c d e f g h i = λ x.
    record {
      budget = a x;
      terms = record { start = b x; count = c x };
      roles = record { start = d x; count = (e ∙ bad_role-present rows (role_parts file) good ∙ sym (length-map (role_parts file) role_in)) x };
      runs = record { start = f x; count = (g ∙ sym (length-map (run_parts file) run_in)) x };
      knowledge = record { start = h x; count = i x };
    }

-- the run records of a block, counted up to a place
abbrev CountedTo : List ℕ → ℕ → ℕ → ℕ → Type 0
CountedTo b roles i at = (base : ℕ) → length (records_left (run_length roles) base b 0) ≡ i + length (records_left (run_length roles) base b at)

counted_none : (b : List ℕ) (roles : ℕ) → CountedTo b roles 0 0
counted_none b roles base = omega arith

counted-more : (b : List ℕ) (roles i at : ℕ) → at < length b → CountedTo b roles i at → CountedTo b roles (i + 1) (at + (1 + roles))
counted-more b roles i at l counted base =
    let e : at + suc roles ≡ at + (1 + roles) = omega arith in
    let next : length (records_left (run_length roles) base b at) ≡ suc (length (records_left (run_length roles) base b (at + suc roles))) =
    ap (λ (ps : List Part). length ps) (left-cons (run_length roles) (run-bytes roles) base b at l) in
    let moved : length (records_left (run_length roles) base b (at + suc roles)) ≡ length (records_left (run_length roles) base b (at + (1 + roles))) =
    ap (λ (n : ℕ). length (records_left (run_length roles) base b n)) e in
    omega (arith, counted base, next, moved)

counted-all : (b : List ℕ) (roles i at : ℕ) → length b ≤ at → CountedTo b roles i at → (base : ℕ) → i ≡ length (run_records roles (part_at base b))
unfolding run_records
counted-all b roles i at l counted base =
    let none : length (records_left (run_length roles) base b at) ≡ 0 = ap (λ (ps : List Part). length ps) (left-none (run_length roles) base b at l) in
    let all : length (records (run_length roles) (part_at base b)) ≡ length (records_left (run_length roles) base b 0) = ap (λ (ps : List Part). length ps) (left-all (run_length roles) base b) in
    omega (arith, counted base, none, all)

-- so many whole records are passed, as long as one begins before each
counted-to : (b : List ℕ) (roles i : ℕ) → i * (1 + roles) < length b + (1 + roles) → CountedTo b roles i (i * (1 + roles))
counted-to b roles zero l = let z : 0 * (1 + roles) ≡ 0 = omega arith in rw z (counted_none b roles)
counted-to b roles (suc i) l =
    let e : suc i * (1 + roles) ≡ i * (1 + roles) + (1 + roles) = omega arith in
    rw (e, ← add-one i) (counted-more b roles i (i * (1 + roles)) (omega arith) (counted-to b roles i (omega arith)))

-- there are as many as the length divided by theirs, rounded up
pub counted-ceil : (b : List ℕ) (roles base : ℕ) → div_ceil (length b) (1 + roles) ≡ length (run_records roles (part_at base b))
counted-ceil b roles base =
    let q = div_ceil (length b) (1 + roles) in
    let t = div_ceil_times (length b) (1 + roles) (omega arith) in
    counted-all b roles q (q * (1 + roles)) t.0 (counted-to b roles q t.1) base
