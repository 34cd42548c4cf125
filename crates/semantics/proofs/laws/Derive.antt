-- The laws of Derive on bytes: demand 2, both answers. Assumes nothing.
use Rattle.std.specs.Prelude.{ℕ, suc, ◌<◌, ◌≡◌, ◌↔◌, Bool, true, false, not, T, ltb, length}
use Rattle.std.proofs.Common.{arith, sym, ◌∙◌, ltb→lt}
use Rattle.std.proofs.Math.Path.{refl, ap}
use Rattle.std.proofs.Math.Option.{Option, none, some}
use mathlib.Core.List.Memᴰ
use mathlib.Core.List.{List, [], ◌∷◌, map, Memᴰ}
use Rattle.semantics.specs.Basic.{present_ones}
use Rattle.semantics.specs.Answer.{Answer, accepted, checked, ◌>>=◌, ◌>>◌}
use Rattle.semantics.specs.Term.{Term}
use Rattle.semantics.specs.Inference.{Derives, derivable}
use Rattle.semantics.specs.Table.{Row, rows_from}
use Rattle.semantics.specs.Value.{value_of, as_atoms}
use Rattle.semantics.specs.Derive.{absent_from, derivable_row, derived}
use Rattle.semantics.specs.Meaning.{TermsOf}
use Rattle.semantics.specs.Demand.{DeriveAsks}
use Rattle.semantics.specs.Refusals.{FirstAbsent, target_absent, listed_absent, later_absent}
use Rattle.semantics.proofs.laws.Test.{same_test, not-not, passed_none, provided-none}
use Rattle.semantics.proofs.laws.List.{mem-cases}
use Rattle.semantics.proofs.laws.Answer.{accepted-same, checked-passed, bound-accepted}
use Rattle.semantics.proofs.laws.Inference.{derivable-exact, derives-monotone}
use Rattle.semantics.proofs.laws.Encoding.{table-exactly}
use Rattle.semantics.proofs.laws.Value.{as_atoms-value, value-within}
use Rattle.semantics.proofs.laws.Meaning.{value-exactly, listed-terms}
use Rattle.semantics.proofs.laws.Conditions.{absent_from-exactly}

-- where nothing is absent, every listed row and the target are there
pub all_there : (rows : List Row) (at : ℕ) (list : List ℕ) (target : ℕ) → absent_from rows at list target ≡ none → ((r : ℕ) → Memᴰ r list → r < length rows) × (target < length rows)
unfolding absent_from
all_there rows at [] target e =
    let n = provided-none (not (ltb target (length rows))) at e in
    ((λ r m. absurd (Memᴰ.not-nil m)), ltb→lt target (length rows) (not-not (ltb target (length rows)) n))
all_there rows at (r ∷ list) target e =
    let w = passed_none (ltb r (length rows)) (absent_from rows (suc at) list target) at e in
    let v = all_there rows (suc at) list target w.1 in
    ((λ q m. mem-cases m (λ s. rw s (ltb→lt r (length rows) w.0)) (v.0 q)), v.1)

-- and if they are, nothing is
none-absent : (rows : List Row) (list : List ℕ) (target : ℕ) → ((r : ℕ) → Memᴰ r list → r < length rows) → target < length rows → absent_from rows 0 list target ≡ none
none-absent rows list target h t = go (absent_from rows 0 list target) refl
  where
    found : {at p : ℕ} {list : List ℕ} → FirstAbsent (length rows) target at list p → ((r : ℕ) → Memᴰ r list → r < length rows) → ⊥
    found (target_absent l e) h = omega arith
    found (listed_absent {r = r} l e) h = let k = h r (Memᴰ.head refl) in omega arith
    found (later_absent l later) h = found later (λ r m. h r (Memᴰ.tail m))

    go : (o : Option ℕ) → absent_from rows 0 list target ≡ o → o ≡ none
    go none e = refl
    go (some p) e = absurd (found ((absent_from-exactly rows target 0 list p).0 e) h)

-- the terms of the listed rows
abbrev listed_terms : List Row → List ℕ → List Term
listed_terms rows list = present_ones (map (value_of as_atoms rows) list)

-- terms of the same rows derive the same
same-terms : {rows : List Row} {list : List ℕ} {known other : List Term} → TermsOf rows list known → TermsOf rows list other → {t : Term} → Derives known t → Derives other t
same-terms h k = derives-monotone (λ x m. (k x).1 ((h x).0 m))

asks-imply : {table list : List ℕ} {target : ℕ} {P Q : List Term → Term → Type 0} → ((known : List Term) (t : Term) → P known t → Q known t) → DeriveAsks table list target P → DeriveAsks table list target Q
asks-imply h d = record {
  rows = d.rows;
  known = d.known;
  term = d.term;
  of_table = d.of_table;
  good = d.good;
  listed_there = d.listed_there;
  target_is = d.target_is;
  known_are = d.known_are;
  answer = h d.known d.term d.answer;
}

-- What Derive's answer speaks of: a table that is accepted, listed rows that are there, the target's term, and the terms of the listed rows.
module _ (table list : List ℕ) (target : ℕ) where
  abbrev after_table : List Row → Answer Bool
  after_table rows = ◌>>◌ (checked 11 (absent_from rows 0 list target)) (accepted (derivable_row rows list (value_of as_atoms rows target)))

  derived-bound : derived table list target ≡ ◌>>=◌ (rows_from 0 [] table) after_table
  unfolding derived
  derived-bound = refl

  -- the answer is the decision of the target's term
  answer-is : (rows : List Row) (t : Term) (b : Bool) → value_of as_atoms rows target ≡ some t → derivable_row rows list (value_of as_atoms rows target) ≡ b → derivable (listed_terms rows list) t ≡ b
  unfolding derivable_row
  answer-is rows t b is e = ap (derivable_row rows list) (sym is) ∙ e

  asks_of : (b : Bool) (rows : List Row) → rows_from 0 [] table ≡ accepted rows → after_table rows ≡ accepted b → DeriveAsks table list target (λ known t. derivable known t ≡ b)
  asks_of b rows of e =
      let c = checked-passed 11 (absent_from rows 0 list target) (accepted (derivable_row rows list (value_of as_atoms rows target))) e in
      let there = all_there rows 0 list target c.0 in
      let g = (table-exactly 0 table rows).0 of in
      let v = as_atoms-value g.1 target there.1 in
      record {
        rows = rows;
        known = listed_terms rows list;
        term = v.0;
        of_table = g.0;
        good = g.1;
        listed_there = there.0;
        target_is = (value-exactly g.1 as_atoms target v.0).0 v.1;
        known_are = listed-terms g.1 list;
        answer = answer-is rows v.0 b v.1 (accepted-same c.1);
      }

  derived-asks : (b : Bool) → derived table list target ≡ accepted b → DeriveAsks table list target (λ known t. derivable known t ≡ b)
  derived-asks b e = let w = (bound-accepted (rows_from 0 [] table) after_table).0 (sym derived-bound ∙ e) in asks_of b w.0 w.1 w.2

  asks-derived : (b : Bool) → DeriveAsks table list target (λ known t. (T b → Derives known t) × (Derives known t → T b)) → derived table list target ≡ accepted b
  unfolding derivable_row
  asks-derived b d =
      let v = (value-exactly d.good as_atoms target d.term).1 d.target_is in
      let same = same_test (derivable (listed_terms d.rows list) d.term) b (
        λ t. d.answer.1 (same-terms (listed-terms d.good list) d.known_are ((derivable-exact (listed_terms d.rows list) d.term).0 t)),
        λ t. (derivable-exact (listed_terms d.rows list) d.term).1 (same-terms d.known_are (listed-terms d.good list) (d.answer.0 t)),
      ) in
      derived-bound
      ∙ (bound-accepted (rows_from 0 [] table) after_table).1 (
        d.rows,
        (table-exactly 0 table d.rows).1 (d.of_table, d.good),
        ap (λ o. ◌>>◌ (checked 11 o) (accepted (derivable_row d.rows list (value_of as_atoms d.rows target)))) (none-absent d.rows list target d.listed_there (value-within as_atoms d.rows target (d.term, v)))
            ∙ ap (λ o. accepted (derivable_row d.rows list o)) v
            ∙ ap accepted same,
      )

  -- Demand 2: DERIVABLE exactly if the rules derive the target's term from those of the listed rows,
  pub derive-yes : (derived table list target ≡ accepted true) ↔ DeriveAsks table list target Derives
  derive-yes = (
    λ e. asks-imply (λ known t q. (derivable-exact known t).0 (rw q tt)) (derived-asks true e),
    λ d. asks-derived true (asks-imply (λ known t h. ((λ x. h), λ x. tt)) d),
  )

  -- and NOT DERIVABLE exactly if they do not.
  pub derive-no : (derived table list target ≡ accepted false) ↔ DeriveAsks table list target (λ known t. ¬ Derives known t)
  derive-no = (
    λ e. asks-imply (λ known t q h. rw q at ((derivable-exact known t).1 h)) (derived-asks false e),
    λ d. asks-derived false (asks-imply (λ known t h. ((λ x. absurd x), h)) d),
  )
