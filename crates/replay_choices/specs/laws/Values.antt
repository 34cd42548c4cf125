-- New values in a trace, taken one after the other: whether they suit a read, and the names with them. Assumes nothing.
use Rattle.std.specs.Prelude.{ℕ, suc, ◌+◌, ◌<◌, ◌≤◌, ◌≡◌, refl, Bool, true, false, List, [], ◌∷◌, ◌++◌, T, length, get_or, set, Option, MatchOption, not}
use Rattle.std.proofs.Common.{add-one, arith, sym, ap, ◌∙◌, subst, true≢false, append_assoc, append-nil, ltb, ltb-true, ltb-false, Some, None}
use Rattle.std.specs.Bool.{then_some}
use Rattle.std.specs.Option.{is_some}
use Rattle.std.proofs.Math.Option.{some, some-injective}
use Rattle.semantics.specs.Term.{Atom}
use Rattle.semantics.specs.Table.{Row, variable_atom}
use Rattle.semantics.specs.Roles.{read}
use Rattle.semantics.specs.Runs.{atom_at}
use Rattle.semantics.specs.Scenario.{Scenario}
use Rattle.semantics.specs.State.{Value, State, Active}
use Rattle.semantics.specs.Moves.{to_set, candidates}
use Rattle.semantics.specs.Replay.{is_value_of, suits, values_in}
use Rattle.cells.specs.Cells.{cell_of, absent}
use Rattle.records.specs.Kinds.{byte_of}
use Rattle.runs.specs.declared.RunEvent.{RunEvent}
use Rattle.state.specs.declared.State.{State as CodeState}
use Rattle.state.specs.State.{NextMove, Sets}
use Rattle.state.specs.laws.Ready.{none-set}
use Rattle.variables.specs.Variables.{unset_from, TellsValue, takes, takes_not, NamesAtom}
use Rattle.values.specs.Values.{Setting}
use Rattle.values.specs.laws.Values.{setting-none, setting-more, setting-all}
use Rattle.values.specs.laws.Next.{nothing-set}
use Rattle.replay_choices.specs.Choices.{Suited, is_suited, not_suited}

-- the values in some bytes, by the first two
values-next : {rest : List ℕ} (pair after : List ℕ) → rest ≡ pair ++ after → length pair ≡ 2 → values_in rest ≡ record { row = get_or pair 0 0; run = get_or pair 1 0 } ∷ values_in after
values-next [] after e two = absurd (omega (arith, two))
values-next (r ∷ []) after e two = absurd (omega (arith, two))
values-next (r ∷ u ∷ []) after e two = ap values_in e
values-next (r ∷ u ∷ w ∷ more) after e two = absurd (omega (arith, two))

values-some : (rest : List ℕ) → 2 ≤ length rest → (v : Value) × (vs : List Value) × (values_in rest ≡ v ∷ vs)
values-some [] l = absurd (omega arith)
values-some (r ∷ []) l = absurd (omega arith)
values-some (r ∷ u ∷ rest) l = (record { row = r; run = u }, values_in rest, refl)

values-end : (rest : List ℕ) → length rest < 2 → values_in rest ≡ []
values-end [] h = refl
values-end (r ∷ []) h = refl
values-end (r ∷ u ∷ rest) h = absurd (omega arith)

-- whether values suit, by the first
suits-more : (rows : List Row) (runs : ℕ) (x : Atom) (xs : List Atom) (v : Value) (vs : List Value) → is_value_of v (candidates rows runs x) ≡ true → suits rows runs (x ∷ xs) (v ∷ vs) ≡ suits rows runs xs vs
unfolding suits
suits-more rows runs x xs v vs e = rw e refl

suits-not : (rows : List Row) (runs : ℕ) (x : Atom) (xs : List Atom) (v : Value) (vs : List Value) → is_value_of v (candidates rows runs x) ≡ false → suits rows runs (x ∷ xs) (v ∷ vs) ≡ false
unfolding suits
suits-not rows runs x xs v vs e = rw e refl

suits-none : (rows : List Row) (runs : ℕ) → suits rows runs [] [] ≡ true
unfolding suits
suits-none rows runs = refl

suits-short : (rows : List Row) (runs : ℕ) (x : Atom) (xs : List Atom) → suits rows runs (x ∷ xs) [] ≡ false
unfolding suits
suits-short rows runs x xs = refl

suits-long : (rows : List Row) (runs : ℕ) (v : Value) (vs : List Value) → suits rows runs [] (v ∷ vs) ≡ false
unfolding suits
suits-long rows runs v vs = refl

-- Values taken as far as the variables have rows below a number.
pub record ValuesPart (sc : Scenario) (d : State) (a : Active) (before bytes : List ℕ) (from : ℕ) (rest names : List ℕ) : Type 0 where
  pub xs : List Atom
  pub taken : List Value
  pub setting : Setting sc d a before from xs taken names
  pub all : values_in bytes ≡ taken ++ values_in rest
  pub same : suits sc.rows (length sc.runs) (to_set sc a) (values_in bytes) ≡ suits sc.rows (length sc.runs) (unset_from sc.rows a.progress.values a.event.row from) (values_in rest)

module _ {t : List ℕ} {runs k : ℕ} {e : RunEvent} {sc : Scenario} {d : State} {s : CodeState} {a : Active} (next : NextMove t runs k e sc d s a) (kind : byte_of e.kind ≡ 1) (bytes : List ℕ) where
  is-read : a.event.kind ≡ read
  is-read = sym (some-injective read a.event.kind (rw kind at next.is_event.kind))

  pub part_none : ValuesPart sc d a s.names bytes 0 bytes s.names
  part_none =
      let setting = setting-none sc next.good d k a next.is_active next.is_state is-read in
      record { xs = []; taken = []; setting = setting; all = refl; same = ap (λ (l : List Atom). suits sc.rows (length sc.runs) l (values_in bytes)) setting.split }

  module _ (from : ℕ) (rest names : List ℕ) (part : ValuesPart sc d a s.names bytes from rest names) where
    abbrev left : List Atom
    left = unset_from sc.rows a.progress.values a.event.row from

    -- no variable is left: the values suit if there is none more
    part-suits : left ≡ [] → length rest < 2 → Suited sc d a (values_in bytes) (Some names)
    part-suits none l =
        let ended = values-end rest l in
        let taken : part.taken ≡ values_in bytes = sym (part.all ∙ ap (λ (vs : List Value). part.taken ++ vs) ended ∙ append-nil part.taken) in
        is_suited refl (part.same ∙ (λ j. suits sc.rows (length sc.runs) (none j) (ended j)) ∙ suits-none sc.rows (length sc.runs))
        (subst (λ (vs : List Value). Sets sc d a vs names) taken (setting-all sc next.good d k a next.is_active s.names from part.xs part.taken names part.setting none))

    part-long : left ≡ [] → 2 ≤ length rest → Suited sc d a (values_in bytes) None
    part-long none l = let w = values-some rest l in not_suited refl (part.same ∙ (λ j. suits sc.rows (length sc.runs) (none j) (w.2 j)) ∙ suits-long sc.rows (length sc.runs) _ _)

    -- whether another two bytes come tells which of the two it is
    pub part-ended : left ≡ [] → {A : Type 0} (o : Option A) (b : Bool) → is_some o ≡ not b → MatchOption o (length rest < 2) (λ x. 2 ≤ length rest) → Suited sc d a (values_in bytes) (then_some b names)
    part-ended none None true e l = part-suits none l
    part-ended none None false e l = absurd (true≢false (sym e))
    part-ended none (Some x) true e l = absurd (true≢false e)
    part-ended none (Some x) false e l = part-long none l

    -- another variable
    module _ {y : Atom} {others : List Atom} (more : left ≡ y ∷ others) where
      pub part-short : length rest < 2 → Suited sc d a (values_in bytes) None
      part-short l = not_suited refl (part.same ∙ (λ j. suits sc.rows (length sc.runs) (more j) (values-end rest l j)) ∙ suits-short sc.rows (length sc.runs) y others)

      pub part-not : (pair after : List ℕ) → rest ≡ pair ++ after → length pair ≡ 2 → is_value_of (record { row = get_or pair 0 0; run = get_or pair 1 0 }) (candidates sc.rows (length sc.runs) y) ≡ false
          → Suited sc d a (values_in bytes) None
      part-not pair after cut two not = not_suited refl (part.same ∙ (λ j. suits sc.rows (length sc.runs) (more j) (values-next pair after cut two j)) ∙ suits-not sc.rows (length sc.runs) y others _ _ not)

    pub part-more : (x : ℕ) (y : Atom) → x < length sc.rows → from ≤ x → atom_at sc.rows x ≡ some y → T (variable_atom y) → get_or s.names (cell_of x (suc k)) absent ≡ absent
        → left ≡ y ∷ unset_from sc.rows a.progress.values a.event.row (suc x) → (pair after : List ℕ) → rest ≡ pair ++ after → length pair ≡ 2
        → is_value_of (record { row = get_or pair 0 0; run = get_or pair 1 0 }) (candidates sc.rows (length sc.runs) y) ≡ true → {b : Atom} → NamesAtom sc.rows (length sc.runs) (get_or pair 0 0) (get_or pair 1 0) b
        → ValuesPart sc d a s.names bytes (suc x) after (set names (cell_of x (suc k)) (cell_of (get_or pair 0 0) (get_or pair 1 0)))
    part-more x y low after_from is_atom is_variable unset more pair after cut two is_value {b} value =
        let v : Value = record { row = get_or pair 0 0; run = get_or pair 1 0 } in
        let first = values-next pair after cut two in
        record {
          xs = part.xs ++ (y ∷ []);
          taken = part.taken ++ (v ∷ []);
          setting = setting-more sc next.good d k a next.is_active s.names from part.xs part.taken names part.setting x y low after_from is_atom is_variable unset more v b value;
          all = part.all ∙ ap (λ (vs : List Value). part.taken ++ vs) first ∙ sym (append_assoc part.taken (v ∷ []) (values_in after));
          same = part.same ∙ (λ j. suits sc.rows (length sc.runs) (more j) (first j)) ∙ suits-more sc.rows (length sc.runs) y _ v _ is_value;
        }

-- a value that may be taken has a row and a run that fit a cell
pub value-fits : {rows : List Row} {runs r w : ℕ} {y : Atom} {answer : Bool} → length rows ≤ 96 → runs ≤ 4 → TellsValue rows runs y r w answer → answer ≡ true → (r < 96) × (w ≤ 4)
value-fits few few_runs (takes b e i names) yes-taken = (omega (arith, names.below), omega (arith, names.within))
value-fits few few_runs (takes_not e i) yes-taken = absurd (true≢false (sym yes-taken ∙ e))

pub taken-value : {rows : List Row} {runs r w : ℕ} {y : Atom} {answer : Bool} → TellsValue rows runs y r w answer → answer ≡ true → (is_value_of (record { row = r; run = w }) (candidates rows runs y) ≡ true) × ((b : Atom) × NamesAtom rows runs r w b)
taken-value (takes b e i names) h = (i, (b, names))
taken-value (takes_not e i) h = absurd (true≢false (sym h ∙ e))

pub no_value : {rows : List Row} {runs r w : ℕ} {y : Atom} {answer : Bool} → TellsValue rows runs y r w answer → answer ≡ false → is_value_of (record { row = r; run = w }) (candidates rows runs y) ≡ false
no_value (takes b e i names) h = absurd (true≢false (sym e ∙ h))
no_value (takes_not e i) h = i

-- the same of equal rows, runs and numbers
pub may-carry : {rows rows' : List Row} {runs runs' r r' w w' : ℕ} {y : Atom} {answer : Bool} → rows ≡ rows' → runs' ≡ runs → r' ≡ r → w' ≡ w → TellsValue rows' runs' y r' w' answer → TellsValue rows runs y r w answer
may-carry p q e f m = rw (p, ← q, ← e, ← f) m

-- the names as they were put
pub part-carry : {sc : Scenario} {d : State} {a : Active} {before bytes after : List ℕ} (x k r w : ℕ) (pair names more : List ℕ) → more ≡ set names (cell_of x (k + 1)) (cell_of r w) → r ≡ get_or pair 0 0 → w ≡ get_or pair 1 0
    → ValuesPart sc d a before bytes (suc x) after (set names (cell_of x (suc k)) (cell_of (get_or pair 0 0) (get_or pair 1 0))) → ValuesPart sc d a before bytes (x + 1) after more
part-carry {sc} {d} {a} {before} {bytes} {after} x k r w pair names more e f g part =
    let same : set names (cell_of x (suc k)) (cell_of (get_or pair 0 0) (get_or pair 1 0)) ≡ more = (λ j. set names (cell_of x (sym (add-one k) j)) (cell_of (sym f j) (sym g j))) ∙ sym e in
    subst (λ (m : ℕ). ValuesPart sc d a before bytes m after more) (sym (add-one x)) (subst (λ (l : List ℕ). ValuesPart sc d a before bytes (suc x) after l) same part)

-- an event that is no read sets nothing
module _ {t : List ℕ} {runs k : ℕ} {e : RunEvent} {sc : Scenario} {d : State} {s : CodeState} {a : Active} (next : NextMove t runs k e sc d s a) (kind : byte_of e.kind ≡ 1 → ⊥) (bytes : List ℕ) where
  none-suit : length bytes < 2 → Suited sc d a (values_in bytes) (Some s.names)
  none-suit l =
      let ended = values-end bytes l in
      is_suited refl ((λ j. suits sc.rows (length sc.runs) (nothing-set next kind j) (ended j)) ∙ suits-none sc.rows (length sc.runs)) (subst (λ (vs : List Value). Sets sc d a vs s.names) (sym ended) (none-set next))

  some-suit-not : 2 ≤ length bytes → Suited sc d a (values_in bytes) None
  some-suit-not l = let w = values-some bytes l in not_suited refl ((λ j. suits sc.rows (length sc.runs) (nothing-set next kind j) (w.2 j)) ∙ suits-long sc.rows (length sc.runs) _ _)

  pub suited-none : Suited sc d a (values_in bytes) (then_some (ltb (length bytes) 2) s.names)
  suited-none = go _ (ltb-true _ _) (ltb-false _ _)
    where
      go : (b : Bool) → (b ≡ true → length bytes < 2) → (b ≡ false → 2 ≤ length bytes) → Suited sc d a (values_in bytes) (then_some b s.names)
      go true few more = none-suit (few refl)
      go false few more = some-suit-not (more refl)

  pub only_none : (vs : List Value) → suits sc.rows (length sc.runs) (to_set sc a) vs ≡ true → vs ≡ []
  only_none vs h = go vs (sym (ap (λ (l : List Atom). suits sc.rows (length sc.runs) l vs) (nothing-set next kind)) ∙ h)
    where
      go : (vs : List Value) → suits sc.rows (length sc.runs) [] vs ≡ true → vs ≡ []
      go [] h = refl
      go (v ∷ vs) h = absurd (true≢false (sym h ∙ suits-long sc.rows (length sc.runs) v vs))
