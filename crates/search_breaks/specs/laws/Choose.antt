-- The walk through the values of one more variable of a read. Assumes nothing.
use Rattle.std.specs.Prelude.{Option as CodeOption, MatchOption, None, Some, ℕ, suc, ◌+◌, ◌-◌, ◌<◌, ◌≤◌, ◌≡◌, refl, Bool, T, length, set, Err, Ok}
use Rattle.std.proofs.Common.{add-one, arith, sym, ap, ◌∙◌, subst, length-append}
use mathlib.Core.List.Memᴰ
use mathlib.Core.List.Memᴰ.{head as first}
use mathlib.Core.List.{List, [], ◌∷◌, ◌++◌, append_assoc, append-nil, Memᴰ}
use Rattle.std.proofs.Math.Option.{some}
use Rattle.semantics.specs.Term.{VariableType, Atom, trusted, untrusted, global, intruder, role, variable, local}
use Rattle.semantics.specs.Table.{Row, variable_atom}
use Rattle.semantics.specs.Runs.{atom_at}
use Rattle.semantics.specs.Scenario.{Scenario}
use Rattle.semantics.specs.State.{Value, State, Active}
use Rattle.semantics.specs.Moves.{Move, candidates, to_set}
use Rattle.semantics.specs.Verdict.{Entry}
use Rattle.semantics.specs.Allowed.{MayTake, Takes, takes_none, takes_more}
use Rattle.semantics.proofs.laws.Moves.{mem-candidates}
use Rattle.semantics.proofs.laws.Bytes.{set-few}
use Rattle.rows.specs.Rows.{rows_of}
use Rattle.cells.specs.Cells.{cell_of}
use Rattle.classes.specs.Classes.{Refilled}
use Rattle.knowledge.specs.Marks.{Settled}
use Rattle.records.specs.Kinds.{byte_of}
use Rattle.runs.specs.declared.RunEvent.{RunEvent}
use Rattle.state.specs.declared.State.{State as CodeState}
use Rattle.variables.specs.Variables.{NextValue, is_value, Beneath, unset_from, NextUnset, values_from, NamesAtom, NotBefore, NextOf, has_next, has_none}
use Rattle.variables.specs.laws.Values.{values-all}
use Rattle.values.specs.Values.{Setting}
use Rattle.values.specs.laws.Values.{setting-more}
use Rattle.values.specs.laws.Arrays.{part-more, part-ready}
use Rattle.values.specs.laws.Next.{no_more, Another, another}
use Rattle.search_breaks.specs.declared.Values.{Values}
use Rattle.answers.specs.Answers.{Walked}
use Rattle.answers.specs.declared.End.{End}
use Rattle.search_findings.specs.Findings.{behind_as, size_of}
use Rattle.search_breaks.specs.declared.Choice.{Choice}
use Rattle.search_breaks.specs.declared.Course.{Course}
use Rattle.search_breaks.specs.declared.Plan.{Plan}
use Rattle.search_breaks.specs.declared.Reach.{Reach}
use Rattle.search_breaks.specs.Walk.{Finds, below, branches, ValuesAre, AtMove, Choosing, Chosen, SomeChoice, SomeMove, read_branches, FindsRead, FindsChoice, FindsMove}
use Rattle.search_breaks.specs.laws.Entries.{values_of, branches-more}
use Rattle.search_breaks.specs.laws.Finds.{Passed, passed_none, passed-all, finds-size, passed_on, passed-stops}
use Rattle.search_breaks.specs.laws.Walk.{finds-same}

-- a variable, by its number and type
variable-is : (y : Atom) → T (variable_atom y) → (num : ℕ) × (type : VariableType) × (y ≡ variable num type)
variable-is (trusted n) h = absurd h
variable-is (untrusted n) h = absurd h
variable-is (global n) h = absurd h
variable-is (intruder n) h = absurd h
variable-is (role i) h = absurd h
variable-is (variable n t) h = (n, t, refl)
variable-is (local n u) h = absurd h

-- what is known of the next value
pub record IsNext (rows : List Row) (runs : ℕ) (type : VariableType) (row run y v : ℕ) : Type 0 where
  pub atom : Atom
  pub names : NamesAtom rows runs y v atom
  pub not_before : NotBefore row run y v
  pub is_next : values_from rows runs type row run ≡ record { row = y; run = v } ∷ values_from rows runs type y (v + 1)

-- what was answered for it, the other way round
abbrev is-there : NextValue → ℕ
is-there (Some v) = 1
is-there None = 0

abbrev row_of : NextValue → ℕ
row_of (Some v) = v.row
row_of None = 0

abbrev run_of : NextValue → ℕ
run_of (Some v) = v.run
run_of None = 0

module _ {rows : List Row} {runs : ℕ} {type : VariableType} {row run : ℕ} {next : NextValue} where
  no_value : NextOf rows runs type row run next → next ≡ None → values_from rows runs type row run ≡ []
  no_value (has_next y v b e names later same) z = absurd (let w : ◌≡◌ {A = ℕ} 1 0 = ap is-there (sym e ∙ z) in omega arith)
  no_value (has_none e none_left) z = none_left

  next-value : {y v : ℕ} → NextOf rows runs type row run next → next ≡ is_value y v → IsNext rows runs type row run y v
  next-value {y} {v} (has_next y' v' b e names later same) z =
      subst (λ (w : ℕ). IsNext rows runs type row run w v) (ap row_of (sym e ∙ z))
      (subst (λ (w : ℕ). IsNext rows runs type row run y' w) (ap run_of (sym e ∙ z)) (record { atom = b; names = names; not_before = later; is_next = same ∙ ap (λ (u : ℕ). record { row = y'; run = v' } ∷ values_from rows runs type y' u) (sym (add-one v')) }))
  next-value (has_none e none_left) z = absurd (let w : ◌≡◌ {A = ℕ} 0 1 = ap is-there (sym e ∙ z) in omega arith)

takes-more : {rows : List Row} {runs : ℕ} {xs : List Atom} {vs : List Value} {y : Atom} {v : Value} → Takes rows runs xs vs → MayTake rows runs y v → Takes rows runs (xs ++ (y ∷ [])) (vs ++ (v ∷ []))
takes-more takes_none may = takes_more may takes_none
takes-more (takes_more m takes) may = takes_more m (takes-more takes may)

module _ {plan : Plan} {sc : Scenario} {d : State} {s : CodeState} {ms : List Move} {at k : ℕ} {e : RunEvent} {a : Active} (move : AtMove plan sc d s ms at k e a) (kind : byte_of e.kind ≡ 1)
    {from : ℕ} {xs : List Atom} {vs : List Value} {names classes : List ℕ} {marks : List Bool} {values : Values} (choosing : Choosing sc d s a from xs vs names classes marks values) {x : ℕ} (view : NextUnset (rows_of plan.opened.table.bytes.now) s.names (k + 1) e.row from x) where
  abbrev pub left-to-set : List Atom
  left-to-set = unset_from sc.rows a.progress.values a.event.row from

  -- no variable is left
  module _ (end : x ≡ plan.opened.table.rows) where
    none_left : left-to-set ≡ []
    none_left = no_more move.next move.clear.here.reached.given.shape.count from x view end

    choose-all : Chosen sc d a vs names classes marks values
    choose-all = record {
      ready = part-ready move.next choosing.setting choosing.arrays none_left;
      takes = subst (λ (l : List Atom). Takes sc.rows (length sc.runs) l vs) (sym (choosing.setting.split ∙ ap (λ (l : List Atom). xs ++ l) none_left ∙ append-nil xs)) choosing.takes;
      are = choosing.are;
    }

    choose-done : (left depth : ℕ) {b b' : List ℕ} {w : Walked} → Finds sc left (below plan sc depth (branches sc d (suc k) a vs [])) b at b' w → Finds sc left (below plan sc depth (branches sc d (suc k) a vs left-to-set)) b at b' w
    choose-done left depth finds = finds-same sc left (ap (λ (l : List Atom). below plan sc depth (branches sc d (suc k) a vs l)) none_left) finds

  -- another variable
  module _ (more : x ≡ plan.opened.table.rows → ⊥) where
    pub its : Another move.next from x
    its = another move.next move.clear.here.reached.given.shape.count from x view more

    abbrev pub rest : List Atom
    rest = unset_from sc.rows a.progress.values a.event.row (x + 1)

    in-front : left-to-set ≡ its.y ∷ rest
    in-front = its.first ∙ ap (λ (f : ℕ). its.y ∷ unset_from sc.rows a.progress.values a.event.row f) (sym (add-one x))

    pub var : (num : ℕ) × (type : VariableType) × (its.y ≡ variable num type)
    var = variable-is its.y its.is_variable

    -- fewer than 8 values are chosen, so there is room for its value
    few-values : values.count < 8
    few-values =
        let many : length (to_set sc a) ≡ length xs + suc (length rest) = ap length (choosing.setting.split ∙ ap (λ (l : List Atom). xs ++ l) in-front) ∙ length-append xs (its.y ∷ rest) in
        omega (arith, set-few sc move.clear.here.reached.given.good a, choosing.setting.many, choosing.are.many)

    -- the values tried so far
    pub record Trying (left depth row run count : ℕ) : Type 0 where
      pub tried : List Value
      pub split : candidates sc.rows (length sc.runs) its.y ≡ tried ++ values_from sc.rows (length sc.runs) var.1 row run
      pub passed : Passed sc left (below plan sc depth (branches sc d (suc k) a vs left-to-set)) (values_of plan sc depth d (suc k) a vs rest (values_from sc.rows (length sc.runs) var.1 row run)) count

    trying-none : (left depth : ℕ) → Trying left depth 0 0 0
    trying-none left depth =
        let all = ap (candidates sc.rows (length sc.runs)) var.2 ∙ values-all sc.rows (length sc.runs) var.0 var.1 in
        let same : below plan sc depth (branches sc d (suc k) a vs left-to-set) ≡ values_of plan sc depth d (suc k) a vs rest (values_from sc.rows (length sc.runs) var.1 0 0) =
        ap (λ (l : List Atom). below plan sc depth (branches sc d (suc k) a vs l)) in-front ∙ branches-more plan sc depth d (suc k) a vs its.y rest ∙ ap (values_of plan sc depth d (suc k) a vs rest) all in
        record { tried = []; split = all; passed = subst (λ (es : List Entry). Passed sc left (below plan sc depth (branches sc d (suc k) a vs left-to-set)) es 0) same (passed_none sc left (below plan sc depth (branches sc d (suc k) a vs left-to-set))) }

    module _ {left depth row run count : ℕ} (trying : Trying left depth row run count) where
      -- no value is left
      trying-end : values_from sc.rows (length sc.runs) var.1 row run ≡ [] → (b : List ℕ) → Finds sc left (below plan sc depth (branches sc d (suc k) a vs left-to-set)) b at b (Ok count)
      trying-end none_left b =
          passed-all sc left (subst (λ (es : List Entry). Passed sc left (below plan sc depth (branches sc d (suc k) a vs left-to-set)) es count) (ap (values_of plan sc depth d (suc k) a vs rest) none_left) trying.passed) b at

      -- the next value
      module _ (v : Value) (b : Atom) (value : NamesAtom sc.rows (length sc.runs) v.row v.run b)
          (is_next : values_from sc.rows (length sc.runs) var.1 row run ≡ v ∷ values_from sc.rows (length sc.runs) var.1 v.row (v.run + 1)) where
        may-take : MayTake sc.rows (length sc.runs) its.y v
        may-take =
            (mem-candidates sc.rows (length sc.runs) its.y).0
            (subst (λ (vs : List Value). Memᴰ v vs) (sym trying.split) (Memᴰ.append_right trying.tried (subst (λ (vs : List Value). Memᴰ v vs) (sym is_next) (first refl))))

        -- its branches come next
        trying-next : Passed sc left (below plan sc depth (branches sc d (suc k) a vs left-to-set)) (below plan sc depth (branches sc d (suc k) a (vs ++ (v ∷ [])) rest) ++ values_of plan sc depth d (suc k) a vs rest (values_from sc.rows (length sc.runs) var.1 v.row (v.run + 1))) count
        trying-next = subst (λ (es : List Entry). Passed sc left (below plan sc depth (branches sc d (suc k) a vs left-to-set)) es count) (ap (values_of plan sc depth d (suc k) a vs rest) is_next) trying.passed

        -- and when they are passed the values behind it
        trying-more : {count' : ℕ} → Passed sc left (below plan sc depth (branches sc d (suc k) a vs left-to-set)) (values_of plan sc depth d (suc k) a vs rest (values_from sc.rows (length sc.runs) var.1 v.row (v.run + 1))) count' → Trying left depth v.row (v.run + 1) count'
        trying-more passed = record {
          tried = trying.tried ++ (v ∷ []);
          split = trying.split ∙ ap (λ (l : List Value). trying.tried ++ l) is_next ∙ sym (append_assoc trying.tried (v ∷ []) (values_from sc.rows (length sc.runs) var.1 v.row (v.run + 1)));
          passed = passed;
        }

        -- the names with it
        setting-next : {more-names : List ℕ} → more-names ≡ set names (cell_of x (k + 1)) (cell_of v.row v.run) → Setting sc d a s.names (x + 1) (xs ++ (its.y ∷ [])) (vs ++ (v ∷ [])) more-names
        setting-next {more-names} put =
            subst (λ (f : ℕ). Setting sc d a s.names f (xs ++ (its.y ∷ [])) (vs ++ (v ∷ [])) more-names) (sym (add-one x))
            (subst (λ (l : List ℕ). Setting sc d a s.names (suc x) (xs ++ (its.y ∷ [])) (vs ++ (v ∷ [])) l) (sym (put ∙ ap (λ (u : ℕ). set names (cell_of x u) (cell_of v.row v.run)) (add-one k)))
            (setting-more sc move.clear.here.reached.given.good d k a move.next.is_active s.names from xs vs names choosing.setting x its.y its.low its.from_on its.is_atom its.is_variable its.unset its.first v b value))

        takes-next : Takes sc.rows (length sc.runs) (xs ++ (its.y ∷ [])) (vs ++ (v ∷ []))
        takes-next = takes-more choosing.takes may-take

    low : x < plan.opened.table.rows
    low = omega (arith, its.low, ap length move.clear.here.reached.given.rows, move.clear.here.reached.given.shape.count)

    -- its atom, in the table's bytes
    atom-read : atom_at (rows_of plan.opened.table.bytes.now) x ≡ some (variable var.0 var.1)
    atom-read = subst (λ (rows : List Row). atom_at rows x ≡ some its.y) move.clear.here.reached.given.rows its.is_atom ∙ ap some var.2

    -- the next value, as it was found
    module _ {row run : ℕ} {next : NextValue} (found : NextOf (rows_of plan.opened.table.bytes.now) plan.opened.runs.count var.1 row run next) where
      in-scenario : NextOf sc.rows (length sc.runs) var.1 row run next
      in-scenario = subst (λ (rows : List Row). NextOf rows (length sc.runs) var.1 row run next) (sym move.clear.here.reached.given.rows) (subst (λ (m : ℕ). NextOf (rows_of plan.opened.table.bytes.now) m var.1 row run next) move.clear.here.reached.given.runs.count found)

      values-end : next ≡ None → values_from sc.rows (length sc.runs) var.1 row run ≡ []
      values-end e = no_value in-scenario e

      value-next : {y v : ℕ} → next ≡ is_value y v → IsNext sc.rows (length sc.runs) var.1 row run y v
      value-next e = next-value in-scenario e

      value_low : {y v : ℕ} → next ≡ is_value y v → (y < plan.opened.table.rows) × (v ≤ 4)
      value_low e =
          let names = (value-next e).names in
          let below = ap length move.clear.here.reached.given.rows in
          (omega (arith, names.below, move.clear.here.reached.given.shape.count), omega (arith, names.within, move.clear.here.reached.given.runs.count, move.clear.here.reached.given.runs.few))

-- the next row from which a variable of the read is not set, as it was found
abbrev pub NextFor : List ℕ → List ℕ → Choice → ℕ → Type 0
NextFor t own choice x = (pattern : ℕ) → Beneath (rows_of t) pattern choice.under → NextUnset (rows_of t) own (choice.turn.run + 1) pattern choice.from x

-- what is answered: that row, or none
abbrev pub NextTold : List ℕ → List ℕ → ℕ → Choice → CodeOption ℕ → Type 0
NextTold t own n choice told =
    (pattern : ℕ) → Beneath (rows_of t) pattern choice.under
    → MatchOption told (NextUnset (rows_of t) own (choice.turn.run + 1) pattern choice.from n) (λ x. (x < n) × NextUnset (rows_of t) own (choice.turn.run + 1) pattern choice.from x)

module _ (t own : List ℕ) (n : ℕ) (choice : Choice) {told : CodeOption ℕ} (next : NextTold t own n choice told) where
  pub next-none : told ≡ None → NextFor t own choice n
  next-none e pattern under = rw e at (next pattern under)

  pub next-some : {x : ℕ} → told ≡ Some x → NextFor t own choice x
  next-some e pattern under = (rw e at (next pattern under)).1

  pub next-inside : {x pattern : ℕ} → told ≡ Some x → Beneath (rows_of t) pattern choice.under → x ≡ n → ⊥
  next-inside {pattern = pattern} e under same = let inside = (rw e at (next pattern under)).0 in omega (arith, inside, same)

-- the same of what the code is given, for the values that it chooses
module _ {plan : Plan} {course : Course} {own names classes : List ℕ} {marks : List Bool} {choice : Choice} {x : ℕ}
    (unset : NextFor plan.opened.table.bytes.now own choice x) (reach : Reach) (m : SomeChoice plan course own names classes marks reach.at choice) where
  pub view : NextUnset (rows_of plan.opened.table.bytes.now) m.read.s.names (choice.turn.run + 1) choice.turn.event.row choice.from x
  view = subst (λ (l : List ℕ). NextUnset (rows_of plan.opened.table.bytes.now) l (choice.turn.run + 1) choice.turn.event.row choice.from x) m.read.is_own (unset choice.turn.event.row m.read.under)

  -- no variable is left: one move
  module _ (end : x ≡ plan.opened.table.rows) where
    pub choice-move : SomeMove plan course names classes marks reach.at choice.turn
    choice-move = record {
      sc = m.read.sc;
      d = m.read.d;
      s = m.read.s;
      ms = m.read.ms;
      a = m.read.a;
      vs = m.vs;
      move = m.read.move;
      is_done = m.read.is_done;
      chosen = choose-all m.read.move m.read.is_read m.choosing view end;
    }

    pub choice-done : {b b' : List ℕ} {w : Walked} → FindsMove plan course names classes marks reach choice.turn b b' w → FindsRead m.read m.vs reach b b' w
    unfolding choice-move
    choice-done told = choose-done m.read.move m.read.is_read m.choosing view end reach.left reach.depth (told choice-move)

  -- another variable
  module _ (more : x ≡ plan.opened.table.rows → ⊥) where
    pub row_low : x < plan.opened.table.rows
    row_low = low m.read.move m.read.is_read m.choosing view more

    pub row_from : choice.from ≤ x
    row_from = (its m.read.move m.read.is_read m.choosing view more).from_on

    pub few-chosen : choice.turn.values.count < 8
    few-chosen = few-values m.read.move m.read.is_read m.choosing view more

    -- the values tried so far
    pub record Tried (row run count : ℕ) : Type 0 where
      pub trying : Trying m.read.move m.read.is_read m.choosing view more reach.left reach.depth row run count

    pub tried-none : Tried 0 0 0
    tried-none = record { trying = trying-none m.read.move m.read.is_read m.choosing view more reach.left reach.depth }

    module _ {row run : ℕ} {next : NextValue} (told : (num : ℕ) (type : VariableType) → atom_at (rows_of plan.opened.table.bytes.now) x ≡ some (variable num type) → NextOf (rows_of plan.opened.table.bytes.now) plan.opened.runs.count type row run next) where
      next_of : NextOf (rows_of plan.opened.table.bytes.now) plan.opened.runs.count (var m.read.move m.read.is_read m.choosing view more).1 row run next
      next_of = told (var m.read.move m.read.is_read m.choosing view more).0 (var m.read.move m.read.is_read m.choosing view more).1 (atom-read m.read.move m.read.is_read m.choosing view more)

      -- no value is left
      pub tried-end : next ≡ None → {count : ℕ} → Tried row run count → (b : List ℕ) → FindsRead m.read m.vs reach b b (Ok count)
      tried-end e tried b = trying-end m.read.move m.read.is_read m.choosing view more tried.trying (values-end m.read.move m.read.is_read m.choosing view more next_of e) b

      -- the next one
      module _ {y v : ℕ} (e : next ≡ is_value y v) where
        value-is : IsNext m.read.sc.rows (length m.read.sc.runs) (var m.read.move m.read.is_read m.choosing view more).1 row run y v
        value-is = value-next m.read.move m.read.is_read m.choosing view more next_of e

        pub value-within : (y < plan.opened.table.rows) × (v ≤ 4)
        value-within = value_low m.read.move m.read.is_read m.choosing view more next_of e

        pub value-later : NotBefore row run y v
        value-later = value-is.not_before

        module _ {count : ℕ} (tried : Tried row run count) {more-names more-classes : List ℕ} (more-marks : List Bool) {values : Values} (put : more-names ≡ set names (cell_of x (choice.turn.run + 1)) (cell_of y v))
            (refilled : Refilled (rows_of plan.opened.table.bytes.now) plan.opened.runs.count (choice.turn.run + 1) more-names classes more-classes) (settled : Settled (rows_of plan.opened.table.bytes.now) plan.opened.runs.count more-classes marks more-marks)
            (are : (vs : List Value) → ValuesAre vs choice.turn.values → ValuesAre (vs ++ (record { row = y; run = v } ∷ [])) values) where
          abbrev pub longer : Choice
          longer = record { turn = record { run = choice.turn.run; event = choice.turn.event; values = values }; under = choice.under; from = x + 1 }

          pub grown : SomeChoice plan course own more-names more-classes more-marks reach.at longer
          grown =
              let r = m.read in
              let v' : Value = record { row = y; run = v } in
              let setting = setting-next r.move r.is_read m.choosing view more tried.trying v' value-is.atom value-is.names value-is.is_next put in
              record {
                read = record { sc = r.sc; d = r.d; s = r.s; ms = r.ms; a = r.a; move = r.move; is_done = r.is_done; is_own = r.is_own; is_read = r.is_read; inside = omega (arith, row_low); under = r.under };
                xs = m.xs ++ ((its r.move r.is_read m.choosing view more).y ∷ []);
                vs = m.vs ++ (v' ∷ []);
                choosing = record {
                  setting = setting;
                  arrays = part-more r.move.next m.choosing.setting m.choosing.arrays r.move.clear.here.reached.given.shape (its r.move r.is_read m.choosing view more).y v' setting refilled settled;
                  takes = takes-next r.move r.is_read m.choosing view more tried.trying v' value-is.atom value-is.names value-is.is_next;
                  are = are m.vs m.choosing.are;
                };
              }

          module _ {b b' : List ℕ} {w total : Walked} (found : FindsChoice plan course own more-names more-classes more-marks (record { left = reach.left - count; at = reach.at; depth = reach.depth }) longer b b' w) (is : total ≡ behind_as count w) where
            passed : Passed m.read.sc reach.left (below plan m.read.sc reach.depth (read_branches m.read.sc m.read.d m.read.a choice m.vs))
                (below plan m.read.sc reach.depth (read_branches m.read.sc m.read.d m.read.a longer (m.vs ++ (record { row = y; run = v } ∷ [])))
                ++ values_of plan m.read.sc reach.depth m.read.d (suc choice.turn.run) m.read.a m.vs (rest m.read.move m.read.is_read m.choosing view more)
                (values_from m.read.sc.rows (length m.read.sc.runs) (var m.read.move m.read.is_read m.choosing view more).1 y (v + 1))) count
            passed = trying-next m.read.move m.read.is_read m.choosing view more tried.trying (record { row = y; run = v }) value-is.atom value-is.names value-is.is_next

            pub tried-size : size_of w ≤ reach.left - count
            tried-size = finds-size _ _ _ w (found grown)

            pub tried-stops : {end : End} → total ≡ Err end → FindsRead m.read m.vs reach b b' (Err end)
            unfolding grown
            tried-stops was = passed-stops m.read.sc reach.left _ _ _ _ passed (found grown) is was

            pub tried-on : {n : ℕ} → total ≡ Ok n → Tried y (v + 1) n × (b' ≡ b) × (n ≤ reach.left)
            unfolding grown
            tried-on was =
                let on = passed_on m.read.sc reach.left _ _ _ _ passed (found grown) is was in
                (record { trying = trying-more m.read.move m.read.is_read m.choosing view more tried.trying (record { row = y; run = v }) value-is.atom value-is.names value-is.is_next on.0 }, on.1, on.2)
