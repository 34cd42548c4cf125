-- In a completion of a partial choice each variable that was unset gets the value of a cell that it may take. Assumes nothing.
use Rattle.std.specs.Prelude.{ℕ, zero, suc, ◌+◌, ◌<◌, ◌≤◌, ◌≡◌, refl, Bool, true, T}
use Rattle.std.proofs.Common.{add-one, arith, ◌∙◌, ⊎_elim}
use Rattle.std.proofs.Math.Path.{sym, ap, subst}
use mathlib.Core.List.Memᴰ
use mathlib.Core.List.{List, [], ◌∷◌, ◌++◌, append_assoc, Memᴰ}
use Rattle.std.proofs.Math.Option.{Option, none, some, none-ne-some}
use Rattle.std.proofs.Math.ListN.{length, get_elem?}
use Rattle.semantics.specs.Basic.{and_then, mapped}
use Rattle.semantics.specs.Term.{Atom, trusted, untrusted, global, intruder, role, variable, local, Term, atom}
use Rattle.semantics.specs.Table.{Row, variable_atom}
use Rattle.semantics.specs.Value.{Reading, without_run}
use Rattle.semantics.specs.Roles.{EventKind, read}
use Rattle.semantics.specs.Runs.{atom_of, atom_at, is_agent}
use Rattle.semantics.specs.Scenario.{Scenario}
use Rattle.semantics.specs.State.{Value, State, Active, in_run, term_of, assigned, reading_in, new_variables, paired}
use Rattle.semantics.specs.Moves.{candidates, to_set, set_after}
use Rattle.semantics.specs.Replay.{is_value_of, suits}
use Rattle.semantics.specs.Allowed.{MayTake, an_agent, an_intruder, a_local, Takes, takes_none, takes_more}
use Rattle.semantics.proofs.laws.Test.{There, both_left, passes-true}
use Rattle.semantics.proofs.laws.List.{get_elem-there}
use Rattle.semantics.proofs.laws.Moves.{atom_at-bound, suits-exact, ActiveIn, active-in}
use Rattle.semantics.proofs.laws.Reached.{paired-set, takes-length, takes-may, assigned-append, assigned-new, or_else, unset-iff, unset-mem}
use Rattle.rows.specs.Rows.{rows_of, Shape}
use Rattle.rows.specs.laws.Decode.{six-atom}
use Rattle.cells.specs.Cells.{Readings, cell_value}
use Rattle.cells.specs.laws.Cells.{row-there, row-decodes}
use Rattle.classes.specs.Classes.{Grows}
use Rattle.classes.specs.laws.Kinds.{atom-value}
use Rattle.knowledge.specs.laws.Values.{has-class}
use Rattle.runs.specs.declared.RunEvent.{RunEvent}
use Rattle.state.specs.declared.State.{State as CodeState}
use Rattle.state.specs.Readings.{SetsOf, sets_of, with_sets, readings}
use Rattle.state.specs.State.{NextMove}
use Rattle.state.specs.laws.Readings.{with-same, reading-run}
use Rattle.variables.specs.Variables.{unset_from}
use Rattle.values.specs.Values.{part_sets, Setting, PartArrays}
use Rattle.read_fits.specs.Fits as fits
use Rattle.read_completions.specs.Completions.{AllTake}
use Rattle.values.specs.laws.Values.{variable-reads, unset-none, paired-append}

module _ {rows : List Row} {runs : ℕ} where
  -- a variable among those that take values has one that it may take
  takes-value : {xs : List Atom} {vs : List Value} → Takes rows runs xs vs → {x : Atom} → Memᴰ x xs → (v : Value) × (assigned x (paired xs vs) ≡ some v) × MayTake rows runs x v
  takes-value {xs} {vs} t {x} m = let p = paired-set xs vs (sym (takes-length t)) m in (p.0, p.1, takes-may t x p.0 p.1)

  -- the test of values passes for it
  may-value : {x : Atom} {v : Value} → MayTake rows runs x v → is_value_of v (candidates rows runs x) ≡ true
  unfolding suits
  may-value {x} {v} h = passes-true _ (both_left (is_value_of v (candidates rows runs x)) (suits rows runs [] []) ((suits-exact rows runs (x ∷ []) (v ∷ [])).1 (takes_more h takes_none)))

-- the atom of a value that a variable may take has itself for its value, in the value's run
pub record TakenCell (sc : Scenario) (sets : SetsOf) (x : Atom) (v : Value) : Type 0 where
  pub low : v.row < length sc.rows
  pub run : v.run ≤ length sc.runs
  pub atomic : Atom
  pub is_atom : atom_at sc.rows v.row ≡ some atomic
  pub reads : readings sc sets v.run atomic ≡ some (atom (in_run v.run atomic))

pub taken-cell : (sc : Scenario) (sets : SetsOf) {x : Atom} {v : Value} → MayTake sc.rows (length sc.runs) x v → TakenCell sc sets x v
unfolding reading_in
taken-cell sc sets (an_agent {v = v} t z) = go (atom_at sc.rows v.row) refl t
  where
    at_zero : {b : Atom} → atom_at sc.rows v.row ≡ some b → without_run b ≡ some (atom b) → in_run 0 b ≡ b → {x : Atom} → TakenCell sc sets x v
    at_zero {b} e w same = record {
      low = atom_at-bound sc.rows v.row e;
      run = omega arith;
      atomic = b;
      is_atom = e;
      reads = rw z (w ∙ ap (λ (c : Atom). some (atom c)) (sym same));
    }

    go : (o : Option Atom) → atom_at sc.rows v.row ≡ o → T (is_agent o) → {x : Atom} → TakenCell sc sets x v
    go none e h = absurd h
    go (some (trusted n)) e h = at_zero e refl refl
    go (some (untrusted n)) e h = at_zero e refl refl
    go (some (global n)) e h = absurd h
    go (some (intruder n)) e h = absurd h
    go (some (role i)) e h = absurd h
    go (some (variable n t)) e h = absurd h
    go (some (local n u)) e h = absurd h
taken-cell sc sets (an_intruder {c = c} {v = v} e z) = record { low = atom_at-bound sc.rows v.row e; run = omega arith; atomic = intruder c; is_atom = e; reads = rw z refl }
taken-cell sc sets (a_local {c = c} {w = w} {v = v} e l m) = record { low = atom_at-bound sc.rows v.row e; run = m; atomic = local c w; is_atom = e; reads = go v.run l m }
  where
    go : (u : ℕ) → 1 ≤ u → u ≤ length sc.runs → readings sc sets u (local c w) ≡ some (atom (local c u))
    go zero l m = absurd (omega arith)
    go (suc k) l m = let r = get_elem-there sc.runs k (omega arith) in ap (λ (ρ : Reading). ρ (local c w)) (reading-run sc sets k r.1)

module _ {t : List ℕ} {n runs k : ℕ} {e : RunEvent} {sc : Scenario} {d : State} {s : CodeState} {a : Active} (shape : Shape t n runs) (from : ℕ) (xs : List Atom) (vs ws : List Value)
    {names classes : List ℕ} {marks : List Bool} (next : NextMove t runs k e sc d s a) (kind : a.event.kind ≡ read) (setting : Setting sc d a s.names from xs vs names) (arrays : PartArrays sc d a xs vs classes marks)
    (takes : Takes sc.rows (length sc.runs) (unset_from sc.rows a.progress.values a.event.row from) ws) where
  -- the variables that have no value yet
  abbrev rest : List Atom
  rest = unset_from sc.rows a.progress.values a.event.row from

  abbrev others : SetsOf
  others = sets_of d.progress

  is : ActiveIn sc d (suc k) a
  is = active-in sc d (suc k) next.is_active

  -- a variable's reading with some values chosen
  reads-set : (sets : List (Atom × Value)) (x : Atom) → T (variable_atom x) → readings sc (with_sets a.index sets others) (suc k) x ≡ and_then (assigned x sets) (term_of sc.rows)
  reads-set sets x h =
      ap (λ (ρ : Reading). ρ x)
      (ap (readings sc (with_sets a.index sets others)) is.numbered ∙ reading-run sc (with_sets a.index sets others) a.index is.of_run ∙ ap (reading_in sc.rows (suc a.index) a.run) (with-same a.index sets others))
      ∙ variable-reads sc.rows (suc a.index) a.run sets x h

  -- one that is to be set and has no value yet is among the rest
  among-rest : {x : Atom} → Memᴰ x (to_set sc a) → assigned x (part_sets a xs vs) ≡ none → Memᴰ x rest
  among-rest {x} m z = ⊎_elim (λ before. absurd (never before)) (λ after. after) (Memᴰ.append_cases xs (subst (λ (l : List Atom). Memᴰ x l) setting.split m))
    where
      never : Memᴰ x xs → ⊥
      never before = go (assigned x a.progress.values) (sym (assigned-append x a.progress.values (paired xs vs)) ∙ z)
        where
          there : There (assigned x (paired xs vs))
          there = paired-set xs vs setting.many before

          go : (o : Option Value) → or_else o (assigned x (paired xs vs)) ≡ none → ⊥
          go none q = none-ne-some there.0 (sym q ∙ there.1)
          go (some w) q = none-ne-some w (sym q)

  -- with all values chosen it has the one of the rest
  assigned-rest : (x : Atom) {v : Value} → assigned x (part_sets a xs vs) ≡ none → assigned x (paired rest ws) ≡ some v → assigned x (set_after sc a (vs ++ ws)) ≡ some v
  unfolding set_after
  assigned-rest x z q =
      ap (assigned x)
      (ap (λ (l : List Atom). a.progress.values ++ paired l (vs ++ ws)) setting.split ∙ ap (λ (l : List (Atom × Value)). a.progress.values ++ l) (paired-append xs rest vs ws setting.many)
      ∙ sym (append_assoc a.progress.values (paired xs vs) (paired rest ws)))
      ∙ assigned-new x (part_sets a xs vs) (paired rest ws) z ∙ q

  -- the readings with the values that are chosen, and with all of a completion
  abbrev part : Readings
  part = readings sc (with_sets a.index (part_sets a xs vs) others)

  abbrev full : Readings
  full = readings sc (with_sets a.index (set_after sc a (vs ++ ws)) others)

  module _ (is_run : k < runs) (grows : Grows (k + 1) part full) where
    -- they are old and new readings of the classes
    abbrev pub completion-extension : fits.Extension t n runs classes (k + 1)
    completion-extension = record { shape = shape; run = omega arith; old = part; new = full; right = rw (← next.rows, next.count) arrays.classed; grows = grows }

    pub completion-filled : AllTake completion-extension e.row
    unfolding term_of new_variables
    completion-filled q low six under unset = record {
      row = v.row;
      run = v.run;
      inside = (omega (arith, taken.low, ap length next.rows, shape.count), omega (arith, taken.run, next.count));
      may = (x, ax, subst (λ (rs : List Row). is_value_of v (candidates rs runs x) ≡ true) next.rows (subst (λ (m : ℕ). is_value_of v (candidates sc.rows m x) ≡ true) (sym next.count) (may-value value.2)));
      term = atom (in_run v.run taken.atomic);
      gets =
          atom-value shape low (full (k + 1)) ax
          ∙ subst (λ (u : ℕ). full u x ≡ some (atom (in_run v.run taken.atomic))) (sym (add-one k))
          (reads-set (set_after sc a (vs ++ ws)) x vx ∙ ap (λ (o : Option Value). and_then o (term_of sc.rows)) (assigned-rest x z value.1) ∙ ap (mapped (λ b. atom (in_run v.run b))) taken.is_atom);
      has = atom-value shape (omega (arith, taken.low, ap length next.rows, shape.count)) (part v.run) (subst (λ (rs : List Row). atom_at rs v.row ≡ some taken.atomic) next.rows taken.is_atom) ∙ taken.reads;
    }
      where
        row : (row : Row) × (get_elem? (rows_of t) q ≡ some row)
        row = row-there t n runs shape q low

        var : (x : Atom) × (atom_of (some row.0) ≡ some x) × T (variable_atom x)
        var = six-atom (row-decodes t n runs shape q low) six

        x : Atom
        x = var.0

        vx : T (variable_atom x)
        vx = var.2

        ax : atom_at (rows_of t) q ≡ some x
        ax = rw row.1 var.1

        never : (o : Option Term) → cell_value part (rows_of t) q (k + 1) ≡ o → o ≡ none
        never none h = refl
        never (some tm) h = absurd (omega (arith, has-class t n runs shape part classes completion-extension.right (low, completion-extension.run) h))

        z : assigned x (part_sets a xs vs) ≡ none
        z =
            unset-none sc.rows (part_sets a xs vs) setting.valued x
            (sym (reads-set (part_sets a xs vs) x vx)
            ∙ subst (λ (u : ℕ). part u x ≡ none) (add-one k) (sym (atom-value shape low (part (k + 1)) ax) ∙ never (cell_value part (rows_of t) q (k + 1)) refl))

        before : (o : Option Value) → or_else o (assigned x (paired xs vs)) ≡ none → o ≡ none
        before none h = refl
        before (some w) h = h

        m : Memᴰ x (to_set sc a)
        m =
            subst (λ (l : List Atom). Memᴰ x l) (sym (ap (λ (kind : EventKind). new_variables sc.rows a.progress.values kind a.event.row) kind))
            (unset-mem sc.rows a.progress.values a.event.row q (rw next.rows ax) (rw (next.rows, ← next.is_event.row) under)
            ((unset-iff a.progress.values x).1 (vx, before _ (sym (assigned-append x a.progress.values (paired xs vs)) ∙ z))))

        value : (v : Value) × (assigned x (paired rest ws) ≡ some v) × MayTake sc.rows (length sc.runs) x v
        value = takes-value takes (among-rest m z)

        v : Value
        v = value.0

        taken : TakenCell sc (with_sets a.index (part_sets a xs vs) others) x v
        taken = taken-cell sc (with_sets a.index (part_sets a xs vs) others) value.2
