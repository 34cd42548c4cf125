-- New values of a read: which variables are unset, none set yet, one more set, and all set. Assumes nothing.
use Rattle.std.specs.Prelude.{ℕ, zero, suc, ◌+◌, ◌<◌, ◌≤◌, ◌≡◌, refl, ◌↔◌, T, length, get_or, set}
use Rattle.std.proofs.Math.Decide.{ℕ_discrete}
use Rattle.std.proofs.Common.{arith, ◌∙◌, length-set, length-append, get_or-set_same, get_or-set_other}
use Rattle.std.proofs.Math.Path.{sym, ap, subst}
use mathlib.Core.List.{List, [], ◌∷◌, ◌++◌, append-nil, append_assoc}
use Rattle.std.proofs.Math.Option.{Option, none, some, some-injective, none-ne-some}
use Rattle.std.proofs.Math.ListN.{get_elem?}
use Rattle.semantics.specs.Basic.{and_then}
use Rattle.semantics.specs.Term.{Atom, trusted, untrusted, global, intruder, role, variable, local, atom?, Term, atom}
use Rattle.semantics.specs.Table.{Row, atomic, pk_of, sk_of, shared_of, pair_of, encrypted_of, variable_atom}
use Rattle.semantics.specs.Value.{Reading}
use Rattle.semantics.specs.Roles.{EventKind, read}
use Rattle.semantics.specs.Runs.{Run, atom_of, atom_at}
use Rattle.semantics.specs.Scenario.{Scenario}
use Rattle.semantics.specs.Guarantee.{Guarantee}
use Rattle.semantics.specs.State.{Value, State, Active, active, assigned, term_of, in_run, reading_in, unset_beneath, new_variables, paired}
use Rattle.semantics.specs.Moves.{to_set, set_after}
use Rattle.semantics.proofs.laws.Test.{There}
use Rattle.semantics.proofs.laws.Reached.{Standing, standing-append, or_else, assigned-first, assigned-later, assigned-append, assigned-new}
use Rattle.semantics.proofs.laws.List.{get_elem-below, get_elem-there}
use Rattle.semantics.proofs.laws.Moves.{ActiveIn, active-in}
use Rattle.cells.specs.Cells.{cell_of, absent}
use Rattle.classes.specs.Classes.{Named, unnamed, named, NamesRight}
use Rattle.knowledge.specs.laws.Values.{cells-apart}
use Rattle.state.specs.declared.State.{State as CodeState}
use Rattle.state.specs.Readings.{SetsOf, sets_in, sets_of, with_sets, run_reading, readings}
use Rattle.state.specs.State.{IsState, Sets}
use Rattle.state.specs.laws.Readings.{with-same, with-other, with_itself, reading-run}
use Rattle.state.specs.laws.Start.{atom-below}
use Rattle.variables.specs.Variables.{unset_from, TellsUnset, NamesAtom}
use Rattle.variables.specs.laws.Unset.{unset-all}
use Rattle.values.specs.Values.{part_sets, Setting}

-- a variable's reading is its value, and what else is set does not turn on variables
atom-reads : (rows : List Row) (u : ℕ) (run : Run) (sets more : List (Atom × Value)) (a : Atom) → (T (variable_atom a) → reading_in rows u run sets a ≡ and_then (assigned a sets) (term_of rows))
    × ((T (variable_atom a) → assigned a more ≡ assigned a sets) → reading_in rows u run more a ≡ reading_in rows u run sets a)
unfolding reading_in
atom-reads rows u run sets more (trusted n) = (λ h. absurd h, λ h. refl)
atom-reads rows u run sets more (untrusted n) = (λ h. absurd h, λ h. refl)
atom-reads rows u run sets more (global n) = (λ h. absurd h, λ h. refl)
atom-reads rows u run sets more (intruder n) = (λ h. absurd h, λ h. refl)
atom-reads rows u run sets more (role i) = (λ h. absurd h, λ h. refl)
atom-reads rows u run sets more (variable n t) = (λ h. refl, λ h. ap (λ (o : Option Value). and_then o (term_of rows)) (h tt))
atom-reads rows u run sets more (local n w) = (λ h. absurd h, λ h. refl)

pub variable-reads : (rows : List Row) (u : ℕ) (run : Run) (sets : List (Atom × Value)) (a : Atom) → T (variable_atom a) → reading_in rows u run sets a ≡ and_then (assigned a sets) (term_of rows)
variable-reads rows u run sets a = (atom-reads rows u run sets sets a).0

other-reads : (rows : List Row) (u : ℕ) (run : Run) (sets more : List (Atom × Value)) (a : Atom) → ((T (variable_atom a)) → assigned a more ≡ assigned a sets) → reading_in rows u run more a ≡ reading_in rows u run sets a
other-reads rows u run sets more a = (atom-reads rows u run sets more a).1

-- a variable that stands for nothing is unset
pub unset-none : (rows : List Row) (sets : List (Atom × Value)) → Standing rows sets → (a : Atom) → and_then (assigned a sets) (term_of rows) ≡ none → assigned a sets ≡ none
unset-none rows sets standing a e = go (assigned a sets) refl
  where
    go : (o : Option Value) → assigned a sets ≡ o → assigned a sets ≡ none
    go none f = f
    go (some v) f = let t = standing a v f in absurd (none-ne-some t.0 (sym e ∙ ap (λ (o : Option Value). and_then o (term_of rows)) f ∙ t.1))

-- a name that is absent says that there is no value, and every other that there is one
named_none : {rows : List Row} {runs name : ℕ} {value : Option Term} → length rows ≤ 96 → runs ≤ 4 → Named rows runs name value → (name ≡ absent) ↔ (value ≡ none)
named_none few few_runs (unnamed e v) = (λ z. v, λ z. e)
named_none few few_runs (named x w a e h i c v) = (λ z. absurd (omega (arith, h.row, h.run)), λ z. absurd (none-ne-some _ (sym z ∙ v)))

module _ (sc : Scenario) (good : Guarantee sc) (k : ℕ) (run : Run) (is_run : get_elem? sc.runs k ≡ some run) (others : SetsOf) (names : List ℕ) where
  -- names that are right tell which variables of a run are unset
  pub names-tell : NamesRight sc.rows (length sc.runs) (readings sc others) names → Standing sc.rows (others k) → TellsUnset sc.rows names (suc k) (others k)
  names-tell right standing y a e h =
      let below = get_elem-below sc.runs k is_run in
      let w = named_none good.table.few good.few_runs (right y (suc k) a (omega arith) e) in
      let r = ap (λ (ρ : Reading). ρ a) (reading-run sc others k is_run) ∙ variable-reads sc.rows (suc k) run (others k) a h in
      (λ z. unset-none sc.rows (others k) standing a (sym r ∙ w.0 z), λ z. w.1 (r ∙ ap (λ (o : Option Value). and_then o (term_of sc.rows)) z))

-- variables with their values, in two parts
pub paired-append : (xs ys : List Atom) (vs ws : List Value) → length xs ≡ length vs → paired (xs ++ ys) (vs ++ ws) ≡ paired xs vs ++ paired ys ws
paired-append [] ys [] ws e = refl
paired-append [] ys (v ∷ vs) ws e = absurd (omega arith)
paired-append (x ∷ xs) ys [] ws e = absurd (omega arith)
paired-append (x ∷ xs) ys (v ∷ vs) ws e = ap (λ (l : List (Atom × Value)). (x, v) ∷ l) (paired-append xs ys vs ws (omega arith))

-- one value
assigned-nothing : (x : Atom) → assigned x [] ≡ none
unfolding assigned
assigned-nothing x = refl

assigned-one : (x : Atom) (v : Value) → assigned x ((x, v) ∷ []) ≡ some v
assigned-one x v = assigned-first x v []

assigned-other : (x y : Atom) (v : Value) → (x ≡ y → ⊥) → assigned x ((y, v) ∷ []) ≡ none
assigned-other x y v d = assigned-later x y v [] d ∙ assigned-nothing x

-- the term of a value whose row and run name an atom
names-term : (rows : List Row) (runs : ℕ) (v : Value) (b : Atom) → NamesAtom rows runs v.row v.run b → term_of rows v ≡ some (atom (in_run v.run b))
unfolding term_of
names-term rows runs v b names = rw names.is_atom refl

-- the row of an atom
atom-row : (rows : List Row) (r : ℕ) {a : Atom} → atom_at rows r ≡ some a → get_elem? rows r ≡ some (atomic a)
atom-row rows r {a} e = go (get_elem? rows r) refl e
  where
    go : (o : Option Row) → get_elem? rows r ≡ o → atom_of o ≡ some a → get_elem? rows r ≡ some (atomic a)
    go none f h = absurd (none-ne-some a h)
    go (some (atomic b)) f h = f ∙ ap (λ (c : Atom). some (atomic c)) (some-injective b a h)
    go (some (pk_of b)) f h = absurd (none-ne-some a h)
    go (some (sk_of b)) f h = absurd (none-ne-some a h)
    go (some (shared_of b c)) f h = absurd (none-ne-some a h)
    go (some (pair_of b c)) f h = absurd (none-ne-some a h)
    go (some (encrypted_of b c)) f h = absurd (none-ne-some a h)

module _ (sc : Scenario) (good : Guarantee sc) (d : State) (k : ℕ) (a : Active) (is_active : active sc d (suc k) ≡ some a) where
  is : ActiveIn sc d (suc k) a
  is = active-in sc d (suc k) is_active

  -- nothing is set yet
  pub setting-none : {s : CodeState} → IsState sc d s → a.event.kind ≡ read → Setting sc d a s.names 0 [] [] s.names
  unfolding new_variables
  setting-none {s} state kind = record {
    split = to_read ∙ unset-all sc.rows a.progress.values a.event.row;
    many = refl;
    size = state.placed.sized;
    named = subst (λ (sets : SetsOf). NamesRight sc.rows (length sc.runs) (readings sc sets) s.names) (sym (with_itself a.index (part_sets a [] []) (sets_of d.progress) same)) state.placed.named;
    valued = rw same (state.placed.valued a.index);
    later = λ r l h. refl;
  }
    where
      same : part_sets a [] [] ≡ sets_of d.progress a.index
      same = append-nil a.progress.values ∙ sym (ap sets_in is.of_progress)

      to_read : to_set sc a ≡ unset_beneath sc.rows a.progress.values a.event.row
      to_read = ap (λ (kind : EventKind). new_variables sc.rows a.progress.values kind a.event.row) kind

  -- all is set
  pub all_set : (before : List ℕ) (from : ℕ) (xs : List Atom) (vs : List Value) (names : List ℕ) → Setting sc d a before from xs vs names
      → unset_from sc.rows a.progress.values a.event.row from ≡ [] → part_sets a xs vs ≡ set_after sc a vs
  unfolding set_after
  all_set before from xs vs names setting e = ap (λ (l : List Atom). a.progress.values ++ paired l vs) (sym (setting.split ∙ ap (λ (l : List Atom). xs ++ l) e ∙ append-nil xs))

  pub setting-all : (before : List ℕ) (from : ℕ) (xs : List Atom) (vs : List Value) (names : List ℕ) → Setting sc d a before from xs vs names
      → unset_from sc.rows a.progress.values a.event.row from ≡ [] → Sets sc d a vs names
  setting-all before from xs vs names setting e =
      let same = all_set before from xs vs names setting e in
      record {
        size = setting.size;
        named = subst (λ (l : List (Atom × Value)). NamesRight sc.rows (length sc.runs) (readings sc (with_sets a.index l (sets_of d.progress))) names) same setting.named;
        valued = subst (λ (l : List (Atom × Value)). Standing sc.rows l) same setting.valued;
      }

  -- one more variable is set
  module _ (before : List ℕ) (from : ℕ) (xs : List Atom) (vs : List Value) (names : List ℕ) (setting : Setting sc d a before from xs vs names) (x : ℕ) (y : Atom) (low : x < length sc.rows) (after : from ≤ x)
      (is_atom : atom_at sc.rows x ≡ some y) (is_variable : T (variable_atom y)) (unset : get_or before (cell_of x (suc k)) absent ≡ absent)
      (next : unset_from sc.rows a.progress.values a.event.row from ≡ y ∷ unset_from sc.rows a.progress.values a.event.row (suc x))
      (v : Value) (b : Atom) (value : NamesAtom sc.rows (length sc.runs) v.row v.run b) where
    index : a.index ≡ k
    index = omega (arith, is.numbered)

    few : length sc.rows ≤ 96
    few = good.table.few

    abbrev others : SetsOf
    others = with_sets a.index (part_sets a xs vs) (sets_of d.progress)

    abbrev more : List (Atom × Value)
    more = part_sets a (xs ++ (y ∷ [])) (vs ++ (v ∷ []))

    grown : more ≡ part_sets a xs vs ++ ((y, v) ∷ [])
    grown = ap (λ (l : List (Atom × Value)). a.progress.values ++ l) (paired-append xs (y ∷ []) vs (v ∷ []) setting.many) ∙ sym (append_assoc a.progress.values (paired xs vs) ((y, v) ∷ []))

    unset-here : assigned y (part_sets a xs vs) ≡ none
    unset-here =
        let run = get_elem-there sc.runs k (get_elem-below sc.runs k (rw index at is.of_run)) in
        let mine : others k ≡ part_sets a xs vs = ap others (sym index) ∙ with-same a.index (part_sets a xs vs) (sets_of d.progress) in
        let tells = names-tell sc good k run.0 run.1 others names setting.named (subst (λ (l : List (Atom × Value)). Standing sc.rows l) (sym mine) setting.valued) x y is_atom is_variable in
        let kept : get_or names (cell_of x (suc k)) absent ≡ absent = rw index at (setting.later x after (omega arith)) ∙ unset in
        ap (assigned y) (sym mine) ∙ tells.0 kept

    assigned-here : assigned y more ≡ some v
    assigned-here = ap (assigned y) grown ∙ assigned-new y (part_sets a xs vs) ((y, v) ∷ []) unset-here ∙ assigned-one y v

    assigned-elsewhere : (z : Atom) → (z ≡ y → ⊥) → assigned z more ≡ assigned z (part_sets a xs vs)
    assigned-elsewhere z n = ap (assigned z) grown ∙ assigned-append z (part_sets a xs vs) ((y, v) ∷ []) ∙ ap (or_else (assigned z (part_sets a xs vs))) (assigned-other z y v n) ∙ or-none (assigned z (part_sets a xs vs))
      where
        or-none : (o : Option Value) → or_else o none ≡ o
        or-none none = refl
        or-none (some w) = refl

    own : (sets : List (Atom × Value)) (z : Atom) → readings sc (with_sets a.index sets (sets_of d.progress)) (suc k) z ≡ reading_in sc.rows (suc k) a.run sets z
    own sets z =
        ap (λ (ρ : Reading). ρ z) (reading-run sc (with_sets a.index sets (sets_of d.progress)) k (rw index at is.of_run))
        ∙ ap (λ (l : List (Atom × Value)). reading_in sc.rows (suc k) a.run l z) (ap (with_sets a.index sets (sets_of d.progress)) (sym index) ∙ with-same a.index sets (sets_of d.progress))

    names_more : NamesRight sc.rows (length sc.runs) (readings sc (with_sets a.index more (sets_of d.progress))) (set names (cell_of x (suc k)) (cell_of v.row v.run))
    names_more r w z l e = go (ℕ_discrete w (suc k)) (ℕ_discrete r x)
      where
        low-r : r < length sc.rows
        low-r = atom-below sc.rows r e

        below : k < length sc.runs
        below = get_elem-below sc.runs k (rw index at is.of_run)

        kept : ((r ≡ x) → (w ≡ suc k) → ⊥) → readings sc (with_sets a.index more (sets_of d.progress)) w z ≡ readings sc (with_sets a.index (part_sets a xs vs) (sets_of d.progress)) w z
            → Named sc.rows (length sc.runs) (get_or (set names (cell_of x (suc k)) (cell_of v.row v.run)) (cell_of r w) absent) (readings sc (with_sets a.index more (sets_of d.progress)) w z)
        kept n q =
            let name = get_or-set_other names (cell_of x (suc k)) (cell_of r w) (cell_of v.row v.run) absent (λ q. let p = cells-apart r w x (suc k) (omega (arith, low-r, few)) (omega (arith, low, few)) q in n p.0 p.1) in
            subst (λ (m : ℕ). Named sc.rows (length sc.runs) m (readings sc (with_sets a.index more (sets_of d.progress)) w z)) (sym name)
            (subst (Named sc.rows (length sc.runs) (get_or names (cell_of r w) absent)) (sym q) (setting.named r w z l e))

        elsewhere : (w ≡ suc k → ⊥) → readings sc (with_sets a.index more (sets_of d.progress)) w z ≡ readings sc (with_sets a.index (part_sets a xs vs) (sets_of d.progress)) w z
        elsewhere n = go w n
          where
            go : (w : ℕ) → (w ≡ suc k → ⊥) → readings sc (with_sets a.index more (sets_of d.progress)) w z ≡ readings sc (with_sets a.index (part_sets a xs vs) (sets_of d.progress)) w z
            go zero n = refl
            go (suc j) n =
                let differ : j ≡ a.index → ⊥ = λ q. n (ap suc (q ∙ index)) in
                ap (λ (l : List (Atom × Value)). run_reading sc.rows (suc j) (get_elem? sc.runs j) l z) (with-other a.index more (sets_of d.progress) j differ ∙ sym (with-other a.index (part_sets a xs vs) (sets_of d.progress) j differ))

        go : Dec (w ≡ suc k) → Dec (r ≡ x) → Named sc.rows (length sc.runs) (get_or (set names (cell_of x (suc k)) (cell_of v.row v.run)) (cell_of r w) absent) (readings sc (with_sets a.index more (sets_of d.progress)) w z)
        go (no n) q = kept (λ f g. n g) (elsewhere n)
        go (yes f) (no n) =
            let differ : z ≡ y → ⊥ = λ q. n (good.table.distinct r x (atomic y) (atom-row sc.rows r (e ∙ ap some q)) (atom-row sc.rows x is_atom)) in
            let here = own more z ∙ other-reads sc.rows (suc k) a.run (part_sets a xs vs) more z (λ h. assigned-elsewhere z differ) ∙ sym (own (part_sets a xs vs) z) in
            kept (λ p q. n p) (ap (λ (j : ℕ). readings sc (with_sets a.index more (sets_of d.progress)) j z) f ∙ here ∙ sym (ap (λ (j : ℕ). readings sc (with_sets a.index (part_sets a xs vs) (sets_of d.progress)) j z) f))
        go (yes f) (yes g) =
            let same : z ≡ y = some-injective z y (sym e ∙ ap (atom_at sc.rows) g ∙ is_atom) in
            let inside : cell_of x (suc k) < length names = omega (arith, low, few, below, good.few_runs, setting.size) in
            let name : get_or (set names (cell_of x (suc k)) (cell_of v.row v.run)) (cell_of r w) absent ≡ cell_of v.row v.run =
            ap (λ (c : ℕ). get_or (set names (cell_of x (suc k)) (cell_of v.row v.run)) c absent) (λ i. cell_of (g i) (f i)) ∙ get_or-set_same names (cell_of x (suc k)) (cell_of v.row v.run) absent inside in
            let reads : readings sc (with_sets a.index more (sets_of d.progress)) w z ≡ some (atom (in_run v.run b)) =
            (λ i. readings sc (with_sets a.index more (sets_of d.progress)) (f i) (same i)) ∙ own more y ∙ variable-reads sc.rows (suc k) a.run more y is_variable
            ∙ ap (λ (o : Option Value). and_then o (term_of sc.rows)) assigned-here ∙ names-term sc.rows (length sc.runs) v b value in
            named v.row v.run b name (record { row = value.below; run = value.within }) value.is_atom value.canonical reads

    standing-one : Standing sc.rows ((y, v) ∷ [])
    standing-one z u e = go (atom? z y)
      where
        go : Dec (z ≡ y) → There (term_of sc.rows u)
        go (yes p) =
            let same : v ≡ u = some-injective v u (sym (assigned-one y v) ∙ ap (λ (q : Atom). assigned q ((y, v) ∷ [])) (sym p) ∙ e) in
            (atom (in_run v.run b), ap (term_of sc.rows) (sym same) ∙ names-term sc.rows (length sc.runs) v b value)
        go (no n) = absurd (none-ne-some u (sym (assigned-other z y v n) ∙ e))

    pub setting-more : Setting sc d a before (suc x) (xs ++ (y ∷ [])) (vs ++ (v ∷ [])) (set names (cell_of x (suc k)) (cell_of v.row v.run))
    setting-more = record {
      split = setting.split ∙ ap (λ (l : List Atom). xs ++ l) next ∙ sym (append_assoc xs (y ∷ []) (unset_from sc.rows a.progress.values a.event.row (suc x)));
      many = length-append xs (y ∷ []) ∙ ap (λ (m : ℕ). m + 1) setting.many ∙ sym (length-append vs (v ∷ []));
      size = length-set names (cell_of x (suc k)) (cell_of v.row v.run) ∙ setting.size;
      named = names_more;
      valued = subst (λ (l : List (Atom × Value)). Standing sc.rows l) (sym grown) (standing-append sc.rows (part_sets a xs vs) ((y, v) ∷ []) setting.valued standing-one);
      later = λ r l h. get_or-set_other names (cell_of x (suc k)) (cell_of r (suc a.index)) (cell_of v.row v.run) absent (λ q. omega (arith, (cells-apart r (suc a.index) x (suc k) h (omega (arith, low, few)) q).0)) ∙ setting.later r (omega arith) h;
    }

  -- the names of a state tell which variables are unset
  pub state-tells : {s : CodeState} → IsState sc d s → TellsUnset sc.rows s.names (suc k) a.progress.values
  state-tells {s} state =
      let at : a.index ≡ k = omega (arith, is.numbered) in
      let run : get_elem? sc.runs k ≡ some a.run = rw at at is.of_run in
      let mine : sets_of d.progress k ≡ a.progress.values = ap sets_in (rw at at is.of_progress) in
      subst (λ (l : List (Atom × Value)). TellsUnset sc.rows s.names (suc k) l) mine (names-tell sc good k a.run run (sets_of d.progress) s.names state.placed.named (state.placed.valued k))
