-- The laws of refusals: Open and Derive refuse exactly by the first condition that holds, in the order of document 01. Assumes nothing.
use Rattle.std.specs.Prelude.{ℕ, ◌≡◌, refl, ◌↔◌, ◌⊎◌, Bool, List, [], ◌∷◌}
use Rattle.std.proofs.Common.{sym, ap, ◌∙◌, inl, inr, ⊎_elim}
use Rattle.std.proofs.Math.Option.{Option, none, some}
use Rattle.semantics.specs.Answer.{Answer, accepted, refuse, checked, ◌>>=◌, ◌>>◌}
use Rattle.semantics.specs.Table.{Row, rows_from}
use Rattle.semantics.specs.Value.{value_of, as_atoms}
use Rattle.semantics.specs.Scenario.{Scenario, term_part, scenario_of, opened}
use Rattle.semantics.specs.Derive.{absent_from, derivable_row, derived}
use Rattle.semantics.specs.Refusals.{FirstHolds, holds, passes, NoneHolds, no_conditions, passes_all, frame_conditions, table_of, record_conditions, OpenRefuses, by_framing, by_row, by_record, DeriveRefuses, row_refused, absent}
use Rattle.semantics.proofs.laws.Answer.{refused-not-accepted, refused-same, accepted-same, bound-refused, bound-accepted}
use Rattle.semantics.proofs.laws.Conditions.{rows-refused, absent_from-exactly}

-- a sequence of conditions, and the answer where none holds
abbrev sequence : {A : Type 0} → List (ℕ × Option ℕ) → Answer A → Answer A
sequence [] b = b
sequence ((n, o) ∷ cs) b = ◌>>◌ (checked n o) (sequence cs b)

module _ {A : Type 0} (b : Answer A) where
  -- it refuses by the first that holds, or as what follows does
  sequence-refuses : (cs : List (ℕ × Option ℕ)) (n at : ℕ) → sequence cs b ≡ refuse n at → FirstHolds cs n at ⊎ (NoneHolds cs × (b ≡ refuse n at))
  sequence-refuses [] n at e = inr (no_conditions, e)
  sequence-refuses ((m, none) ∷ cs) n at e = ⊎_elim (λ h. inl (passes refl h)) (λ w. inr (passes_all refl w.0, w.1)) (sequence-refuses cs n at e)
  sequence-refuses ((m, some p) ∷ cs) n at e = let w = refused-same e in inl (holds (ap some w.1) (sym w.0))

  refuses-sequence : {cs : List (ℕ × Option ℕ)} {n at : ℕ} → FirstHolds cs n at → sequence cs b ≡ refuse n at
  refuses-sequence (holds e f) = rw (e, f)
  refuses-sequence (passes e h) = rw e (refuses-sequence h)

  passes-sequence : {cs : List (ℕ × Option ℕ)} → NoneHolds cs → sequence cs b ≡ b
  passes-sequence no_conditions = refl
  passes-sequence (passes_all e h) = rw e (passes-sequence h)

  -- it accepts where none holds and what follows accepts
  sequence-accepts : (cs : List (ℕ × Option ℕ)) {a : A} → sequence cs b ≡ accepted a → NoneHolds cs × (b ≡ accepted a)
  sequence-accepts [] e = (no_conditions, e)
  sequence-accepts ((m, none) ∷ cs) e = let w = sequence-accepts cs e in (passes_all refl w.0, w.1)
  sequence-accepts ((m, some p) ∷ cs) e = absurd (refused-not-accepted e)

-- the conditions after the rows
abbrev after_rows : List ℕ → List Row → Answer Scenario
after_rows file rows = sequence (record_conditions file rows) (accepted (scenario_of file rows))

-- Open is its conditions in order
opened-sequence : (file : List ℕ) → opened file ≡ sequence (frame_conditions file) (◌>>=◌ (table_of file) (after_rows file))
unfolding opened
opened-sequence file = refl

-- Open refuses exactly by the first condition that holds.
pub open-refuses : (file : List ℕ) (n at : ℕ) → (opened file ≡ refuse n at) ↔ OpenRefuses file n at
open-refuses file n at = (λ e. ⊎_elim by_framing by-rest (sequence-refuses _ (frame_conditions file) n at (sym (opened-sequence file) ∙ e)), refuses)
  where
    by-rest : NoneHolds (frame_conditions file) × (◌>>=◌ (table_of file) (after_rows file) ≡ refuse n at) → OpenRefuses file n at
    by-rest w = ⊎_elim (λ r. by_row w.0 ((rows-refused (term_part file).start [] (term_part file).bytes n at).0 r)) by-records ((bound-refused (table_of file) (after_rows file)).0 w.1)
      where
        by-records : (rows : List Row) × (table_of file ≡ accepted rows) × (after_rows file rows ≡ refuse n at) → OpenRefuses file n at
        by-records v = ⊎_elim (by_record w.0 v.1) (λ x. absurd (refused-not-accepted (sym x.1))) (sequence-refuses (accepted (scenario_of file v.0)) (record_conditions file v.0) n at v.2)

    refuses : OpenRefuses file n at → opened file ≡ refuse n at
    refuses (by_framing h) = opened-sequence file ∙ refuses-sequence _ h
    refuses (by_row p h) = opened-sequence file ∙ passes-sequence _ p ∙ (bound-refused (table_of file) (after_rows file)).1 (inl ((rows-refused (term_part file).start [] (term_part file).bytes n at).1 h))
    refuses (by_record {rows} p e h) =
        opened-sequence file ∙ passes-sequence _ p ∙ (bound-refused (table_of file) (after_rows file)).1 (inr (rows, e, refuses-sequence (accepted (scenario_of file rows)) h))

-- and accepts exactly if none holds.
pub open-accepts : (file : List ℕ) (sc : Scenario)
    → (opened file ≡ accepted sc) ↔ (NoneHolds (frame_conditions file) × ((rows : List Row) × (table_of file ≡ accepted rows) × NoneHolds (record_conditions file rows) × (sc ≡ scenario_of file rows)))
open-accepts file sc = (
  λ e. let w = sequence-accepts _ (frame_conditions file) (sym (opened-sequence file) ∙ e) in
      let v = (bound-accepted (table_of file) (after_rows file)).0 w.1 in
      let x = sequence-accepts (accepted (scenario_of file v.0)) (record_conditions file v.0) v.2 in
      (w.0, (v.0, v.1, x.0, sym (accepted-same x.1))),
  λ w. let v = w.1 in
      opened-sequence file ∙ passes-sequence _ w.0 ∙ (bound-accepted (table_of file) (after_rows file)).1 (v.0, v.1, passes-sequence (accepted (scenario_of file v.0)) v.2 ∙ ap accepted (sym v.3)),
)

-- what Derive goes on with
abbrev after_table : List ℕ → ℕ → List Row → Answer Bool
after_table list target rows = sequence ((11, absent_from rows 0 list target) ∷ []) (accepted (derivable_row rows list (value_of as_atoms rows target)))

derived-sequence : (table list : List ℕ) (target : ℕ) → derived table list target ≡ ◌>>=◌ (rows_from 0 [] table) (after_table list target)
unfolding derived
derived-sequence table list target = refl

-- Derive refuses exactly by the first condition that holds.
pub derive-refuses : (table list : List ℕ) (target n at : ℕ) → (derived table list target ≡ refuse n at) ↔ DeriveRefuses table list target n at
derive-refuses table list target n at = (λ e. ⊎_elim (λ r. row_refused ((rows-refused 0 [] table n at).0 r)) by-list (split.0 (sym (derived-sequence table list target) ∙ e)), refuses)
  where
    split : (◌>>=◌ (rows_from 0 [] table) (after_table list target) ≡ refuse n at) ↔ ((rows_from 0 [] table ≡ refuse n at) ⊎ ((rows : List Row) × (rows_from 0 [] table ≡ accepted rows) × (after_table list target rows ≡ refuse n at)))
    split = bound-refused (rows_from 0 [] table) (after_table list target)

    by-list : (rows : List Row) × (rows_from 0 [] table ≡ accepted rows) × (after_table list target rows ≡ refuse n at) → DeriveRefuses table list target n at
    by-list w = go (absent_from w.0 0 list target) refl w.2
      where
        go : (o : Option ℕ) → absent_from w.0 0 list target ≡ o → sequence ((11, o) ∷ []) (accepted (derivable_row w.0 list (value_of as_atoms w.0 target))) ≡ refuse n at → DeriveRefuses table list target n at
        go none q e = absurd (refused-not-accepted (sym e))
        go (some p) q e = let v = refused-same e in absent w.1 ((absent_from-exactly w.0 target 0 list at).0 (q ∙ ap some v.1)) (sym v.0)

    refuses : DeriveRefuses table list target n at → derived table list target ≡ refuse n at
    refuses (row_refused h) = derived-sequence table list target ∙ split.1 (inl ((rows-refused 0 [] table n at).1 h))
    refuses (absent {rows} e h q) =
        derived-sequence table list target ∙ split.1 (inr (rows, e, refuses-sequence (accepted (derivable_row rows list (value_of as_atoms rows target))) (holds {cs = []} ((absent_from-exactly rows target 0 list at).1 h) q)))
