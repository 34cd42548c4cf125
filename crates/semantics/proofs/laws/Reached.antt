-- The laws of reached states: whatever an event needs has a value. Assumes nothing.
use Prim.Native.Nat.{ℕ, zero, suc, ◌≤◌, ◌<◌, suc-le-suc}
use Rattle.std.proofs.Common.{not-suc-le-zero, le_of_suc-le-suc, eq-or-lt_of_le, arith, sym, ap, ◌∙◌, ltb→lt, eqb→eq}
use Rattle.std.specs.Prelude.{◌≡◌, refl, ◌↔◌, Bool, ◌&&◌, not, length}
use Rattle.std.proofs.Math.Logic.{⊎_elim}
use Rattle.std.proofs.Math.Option.{Option, none, some, some-injective}
use mathlib.Core.List.Memᴰ
use mathlib.Core.List.{List, [], ◌∷◌, ◌++◌, map, Memᴰ}
use Rattle.std.proofs.Math.Dec.{T}
use Rattle.std.proofs.Math.ListN.{get_elem?, length-set}
use Rattle.std.proofs.lemmas.List.{length-map}
use Rattle.semantics.specs.Basic.{present, keep, present_ones, numbers_from}
use Rattle.semantics.specs.Term.{Atom, trusted, untrusted, global, intruder, role, variable, local, atom?, Term, atom}
use Rattle.semantics.specs.Table.{Row, atomic, pk_of, sk_of, shared_of, pair_of, encrypted_of, variable_atom}
use Rattle.semantics.specs.Value.{Reading, as_atoms, without_variables, value_of, beneath}
use Rattle.semantics.specs.Roles.{secrecy, EventKind, send, read, claim, Event, Role, peer_fits}
use Rattle.semantics.specs.WellFormed.{well_formed, learned, event_term, role_knowledge}
use Rattle.semantics.specs.Inference.{derivable}
use Rattle.semantics.specs.Runs.{Run, atom_of, atom_at, is_agent}
use Rattle.semantics.specs.Scenario.{Scenario}
use Rattle.semantics.specs.State.{Value, Progress, State, in_run, term_of, assigned, reading_in, initial, Active, events_of, active, unset_beneath, new_variables, paired, Message}
use Rattle.semantics.specs.Moves.{Move, message, to_set, set_after, message_after, advanced}
use Rattle.semantics.specs.Allowed.{MayTake, an_agent, an_intruder, a_local, Takes, takes_none, takes_more, Step, step, AllowedTrace}
use Rattle.semantics.specs.Guarantee.{HasValue, GoodRole, GoodRun, WellFormedEvents, no_events, more_events, Guarantee}
pub use Rattle.semantics.specs.State.{Standing}
use Rattle.semantics.proofs.laws.Test.{both, both_left, both_right, There, none-there, absent_none, and_then-there, and_then-some, mapped-there}
use Rattle.semantics.proofs.laws.List.{mem-cases, mem-keep, mem-present, mem-map, mem-numbers_from, mem-get_elem, get_elem-below, get_elem-there, set_cases}
use Rattle.semantics.proofs.laws.Inference.{derives-keeps, derivable-sound}
use Rattle.semantics.proofs.laws.Value.{substituted, substituted-carried, value-exact, value-term, value-imply}
use Rattle.semantics.proofs.laws.Tree.{follows-good}
use Rattle.semantics.proofs.laws.Moves.{active-in}

-- a value, or else another
abbrev pub or_else : {A : Type 0} → Option A → Option A → Option A
or_else none o = o
or_else (some a) o = some a

-- the value of a variable is the first of its values
pub assigned-first : (x : Atom) (v : Value) (sets : List (Atom × Value)) → assigned x ((x, v) ∷ sets) ≡ some v
unfolding assigned
assigned-first x v sets = go (atom? x x) refl
  where
    go : (d : Dec (x ≡ x)) → atom? x x ≡ d → assigned x ((x, v) ∷ sets) ≡ some v
    go (yes p) e = rw (e, assigned)
    go (no n) e = absurd (n refl)

-- or one of the later ones
pub assigned-later : (x y : Atom) (v : Value) (sets : List (Atom × Value)) → ¬ (x ≡ y) → assigned x ((y, v) ∷ sets) ≡ assigned x sets
unfolding assigned
assigned-later x y v sets differ = go (atom? x y) refl
  where
    go : (d : Dec (x ≡ y)) → atom? x y ≡ d → assigned x ((y, v) ∷ sets) ≡ assigned x sets
    go (yes p) e = absurd (differ p)
    go (no n) e = rw (e, assigned)

-- of two sequences of values the first goes first
pub assigned-append : (x : Atom) (sets more : List (Atom × Value)) → assigned x (sets ++ more) ≡ or_else (assigned x sets) (assigned x more)
unfolding assigned
assigned-append x [] more = refl
assigned-append x ((y, v) ∷ sets) more = go (atom? x y) (assigned-append x sets more)
  where
    go : Dec (x ≡ y) → assigned x (sets ++ more) ≡ or_else (assigned x sets) (assigned x more)
        → assigned x ((y, v) ∷ (sets ++ more)) ≡ or_else (assigned x ((y, v) ∷ sets)) (assigned x more)
    go (yes p) rest = rw (← p) (rw (assigned-first x v (sets ++ more), assigned-first x v sets))
    go (no n) rest = rw (assigned-later x y v (sets ++ more) n, assigned-later x y v sets n) rest

-- a set variable stays set
pub assigned-stays : (x : Atom) (sets more : List (Atom × Value)) {v : Value} → assigned x sets ≡ some v → assigned x (sets ++ more) ≡ some v
assigned-stays x sets more e = rw (assigned-append x sets more, e)

-- a variable that is not set has the value given later
pub assigned-new : (x : Atom) (sets more : List (Atom × Value)) → assigned x sets ≡ none → assigned x (sets ++ more) ≡ assigned x more
assigned-new x sets more e = rw (assigned-append x sets more, e)

-- values stand for terms if those before and after do
pub standing-append : (rows : List Row) (sets more : List (Atom × Value)) → Standing rows sets → Standing rows more → Standing rows (sets ++ more)
standing-append rows sets more old new x v e = go (assigned x sets) refl
  where
    go : (o : Option Value) → assigned x sets ≡ o → There (term_of rows v)
    go none f = new x v (sym (assigned-new x sets more f) ∙ e)
    go (some w) f = old x v (f ∙ sym (assigned-stays x sets more f) ∙ e)

-- a variable among those of a list has one of as many values
pub paired-set : (xs : List Atom) (vs : List Value) → length xs ≡ length vs → {x : Atom} → Memᴰ x xs → There (assigned x (paired xs vs))
paired-set [] vs e m = absurd (Memᴰ.not-nil m)
paired-set (y ∷ xs) [] e m = absurd (omega arith)
paired-set (y ∷ xs) (v ∷ vs) e {x} m = go (atom? x y) (paired-set xs vs (omega arith))
  where
    go : Dec (x ≡ y) → (Memᴰ x xs → There (assigned x (paired xs vs))) → There (assigned x ((y, v) ∷ paired xs vs))
    go (yes p) rest = (v, rw p (assigned-first y v (paired xs vs)))
    go (no n) rest = rw (assigned-later x y v (paired xs vs) n) (rest (mem-cases m (λ e. absurd (n e)) (λ k. k)))

-- an agent is there
agent-there : (o : Option Atom) → T (is_agent o) → There o
agent-there none t = absurd t
agent-there (some a) t = (a, refl)

module _ {rows : List Row} {runs : ℕ} where
  -- a value that a variable may take stands for a term
  may_take-term : {x : Atom} {v : Value} → MayTake rows runs x v → There (term_of rows v)
  unfolding term_of
  may_take-term {v = v} h = (mapped-there (λ a. atom (in_run v.run a)) (atom_at rows v.row)).1 (go h)
    where
      go : {x : Atom} {v : Value} → MayTake rows runs x v → There (atom_at rows v.row)
      go (an_agent {v = v} t z) = agent-there (atom_at rows v.row) t
      go (an_intruder {c = c} e z) = (intruder c, e)
      go (a_local {c = c} {w = w} e l m) = (local c w, e)

  -- what is given to one of several variables it may take
  pub takes-may : {xs : List Atom} {vs : List Value} → Takes rows runs xs vs → (y : Atom) (w : Value) → assigned y (paired xs vs) ≡ some w → MayTake rows runs y w
  unfolding assigned
  takes-may takes_none y w e = none-there (w, e)
  takes-may (takes_more {x = x} {v = v} {xs = xs} {vs = vs} h t) y w e = go (atom? y x) (takes-may t y w)
    where
      go : Dec (y ≡ x) → (assigned y (paired xs vs) ≡ some w → MayTake rows runs y w) → MayTake rows runs y w
      go (yes p) rest =
          let first : assigned y ((x, v) ∷ paired xs vs) ≡ some v = rw p (assigned-first x v (paired xs vs)) in
          rw (p, ← some-injective v w (sym first ∙ e)) h
      go (no n) rest = rest (sym (assigned-later y x v (paired xs vs) n) ∙ e)

  -- so the values of several variables stand for terms
  takes-standing : {xs : List Atom} {vs : List Value} → Takes rows runs xs vs → Standing rows (paired xs vs)
  takes-standing t y w e = may_take-term (takes-may t y w e)

  -- as many values as variables
  pub takes-length : {xs : List Atom} {vs : List Value} → Takes rows runs xs vs → length vs ≡ length xs
  takes-length takes_none = refl
  takes-length (takes_more h t) = ap suc (takes-length t)

  -- each of the variables is then set
  pub takes-set : {xs : List Atom} {vs : List Value} → Takes rows runs xs vs → {x : Atom} → Memᴰ x xs → There (assigned x (paired xs vs))
  takes-set {xs} {vs} t m = paired-set xs vs (sym (takes-length t)) m

-- the reading of the run with an index, with variables set
abbrev pub reading_of : Scenario → ℕ → Run → List (Atom × Value) → Reading
reading_of sc k run sets = reading_in sc.rows (suc k) run sets

-- the variables to which an event gives values in a run
abbrev pub new_at : Scenario → Progress → Event → List Atom
new_at sc p e = new_variables sc.rows p.values e.kind e.row

-- what is set after it
abbrev pub set_at : Scenario → Progress → Event → List Value → List (Atom × Value)
set_at sc p e vs = p.values ++ paired (new_at sc p e) vs

-- What holds of a run in a reached state: its values stand for terms, and the events that it has made have values.
pub record RunReached (sc : Scenario) (k : ℕ) (run : Run) (p : Progress) : Type 0 where
  pub within : p.done ≤ length (events_of sc run)
  pub standing : Standing sc.rows p.values
  pub passed : (j : ℕ) (e : Event) → get_elem? (events_of sc run) j ≡ some e → j < p.done → HasValue (reading_of sc k run p.values) sc.rows e.row

-- A reached state: it has progress for each run, and that of each run is reached.
pub record Reached (sc : Scenario) (s : State) : Type 0 where
  pub counted : length s.progress ≡ length sc.runs
  pub reached : (k : ℕ) (run : Run) (p : Progress) → get_elem? sc.runs k ≡ some run → get_elem? s.progress k ≡ some p → RunReached sc k run p

-- what is known after an event has a property that what was known and the event's term have
learned-holds : {P : Term → Type 0} (known : List Term) (kind : EventKind) (t : Term) → ((x : Term) → Memᴰ x known → P x) → P t
    → (x : Term) → Memᴰ x (learned known kind t) → P x
learned-holds known send t h p x m = h x m
learned-holds known read t h p x m = mem-cases m (λ e. rw e p) (h x)
learned-holds known (claim kind) t h p x m = h x m

-- An event that is well formed for some knowledge, each term of which has a property.
record WellFormedAt (rows : List Row) (own : ℕ) (P : Term → Type 0) (e : Event) : Type 0 where
  known : List Term
  term : Term
  is_term : event_term rows e ≡ some term
  holds : (x : Term) → Memᴰ x known → P x
  fits : T (well_formed own known e.kind e.peer term)

-- each event is so, if the initial knowledge and the terms of the events before it have the property
well_formed-at : {rows : List Row} {own : ℕ} {known : List Term} {es : List Event} (P : Term → Type 0) → WellFormedEvents rows own known es
    → ((x : Term) → Memᴰ x known → P x) → (j : ℕ) (e : Event) → get_elem? es j ≡ some e
    → ((i : ℕ) (e' : Event) (t : Term) → get_elem? es i ≡ some e' → i < j → event_term rows e' ≡ some t → P t) → WellFormedAt rows own P e
well_formed-at P no_events h j e f before = none-there (e, f)
well_formed-at P (more_events {known = known} {e = e'} {t = t} q w rest) h zero e f before =
    rw (← some-injective e' e f) (record { known = known; term = t; is_term = q; holds = h; fits = w })
well_formed-at P (more_events {known = known} {e = e'} {t = t} q w rest) h (suc j) e f before =
    well_formed-at P rest (learned-holds known e'.kind t h (before 0 e' t refl (omega arith) q)) j e f (λ i d u g l. before (suc i) d u g (suc-le-suc l))

-- a row with an atom
atom_of-row : (o : Option Row) {a : Atom} → atom_of o ≡ some a → o ≡ some (atomic a)
atom_of-row none {a} e = none-there (a, e)
atom_of-row (some (atomic b)) {a} e = ap (λ c. some (atomic c)) (some-injective b a e)
atom_of-row (some (pk_of b)) {a} e = none-there (a, e)
atom_of-row (some (sk_of b)) {a} e = none-there (a, e)
atom_of-row (some (shared_of b c)) {a} e = none-there (a, e)
atom_of-row (some (pair_of l r)) {a} e = none-there (a, e)
atom_of-row (some (encrypted_of l r)) {a} e = none-there (a, e)

-- an atom that is read without variables is no variable
plain-atom : (a : Atom) → There (without_variables a) → ¬ T (variable_atom a)
plain-atom (trusted n) w t = t
plain-atom (untrusted n) w t = t
plain-atom (global n) w t = t
plain-atom (intruder n) w t = t
plain-atom (role i) w t = t
plain-atom (variable n y) w t = none-there w
plain-atom (local n u) w t = t

-- every atom keeps its reading as variables are set
reading-grows : (rows : List Row) (u : ℕ) (run : Run) (sets more : List (Atom × Value)) (a : Atom)
    → There (reading_in rows u run sets a) → There (reading_in rows u run (sets ++ more) a)
unfolding reading_in
reading-grows rows u run sets more (trusted n) w = w
reading-grows rows u run sets more (untrusted n) w = w
reading-grows rows u run sets more (global n) w = w
reading-grows rows u run sets more (intruder n) w = w
reading-grows rows u run sets more (role i) w = w
reading-grows rows u run sets more (variable n y) w =
    let v = (and_then-some (assigned (variable n y) sets) (term_of rows)).0 w.1 in
    rw (assigned-stays (variable n y) sets more v.1) (w.0, v.2)
reading-grows rows u run sets more (local n c) w = w

-- a variable that is not set
abbrev pub is_unset : List (Atom × Value) → Atom → Bool
is_unset sets a = variable_atom a && not (present (assigned a sets))

pub unset-iff : (sets : List (Atom × Value)) (a : Atom) → T (is_unset sets a) ↔ (T (variable_atom a) × (assigned a sets ≡ none))
unset-iff sets a = (
  λ t. (both_left (variable_atom a) (not (present (assigned a sets))) t, absent_none (assigned a sets) (both_right (variable_atom a) (not (present (assigned a sets))) t)),
  λ w. both (variable_atom a) (not (present (assigned a sets))) w.0 (rw w.1 tt),
)

-- such a variable beneath a pattern is one to set
pub unset-mem : (rows : List Row) (sets : List (Atom × Value)) (pattern x : ℕ) {a : Atom} → atom_at rows x ≡ some a → T (beneath rows x pattern)
    → T (is_unset sets a) → Memᴰ a (unset_beneath rows sets pattern)
unfolding unset_beneath
unset-mem rows sets pattern x f b t =
    (mem-keep (is_unset sets) (present_ones (map (atom_at rows) places))).1 ((mem-present (map (atom_at rows) places)).1 ((mem-map (atom_at rows) places).1 (x, place, sym f)), t)
  where
    places : List ℕ
    places = keep (λ y. beneath rows y pattern) (numbers_from 0 (length rows))

    place : Memᴰ x places
    place =
        let l = get_elem-below rows x (atom_of-row (get_elem? rows x) f) in
        (mem-keep (λ y. beneath rows y pattern) (numbers_from 0 (length rows))).1 ((mem-numbers_from 0 (length rows)).1 (omega arith), b)

module _ (own peer : ℕ) (known : List Term) (t : Term) where
  -- what a role sends or claims derives from what it knows
  sent-derives : T (well_formed own known send peer t) → T (derivable known t)
  unfolding well_formed
  sent-derives w = both_right (derivable known (atom (role own)) && derivable known (atom (role peer))) (derivable known t) w

  claimed-derives : T (well_formed own known (claim secrecy) peer t) → T (derivable known t)
  unfolding well_formed
  claimed-derives w = both_right (derivable known (atom (role own))) (derivable known t) w

-- an event's peer is a role
peer-within : (roles : ℕ) (kind : EventKind) (peer : ℕ) → 0 < roles → T (peer_fits roles kind peer) → peer < roles
peer-within roles send peer l t = ltb→lt peer roles t
peer-within roles read peer l t = ltb→lt peer roles t
peer-within roles (claim secrecy) peer l t = rw (eqb→eq peer 0 t) l

module _ {sc : Scenario} (g : Guarantee sc) (k : ℕ) {run : Run} (found : get_elem? sc.runs k ≡ some run) where
  -- the run's record is good
  good-run : GoodRun sc.rows (length sc.roles) run
  good-run = g.good_runs run ((mem-get_elem sc.runs).1 (k, found))

  -- the run's role
  role-of : (r : Role) × (get_elem? sc.roles run.role ≡ some r) × (events_of sc run ≡ r.events)
  unfolding events_of
  role-of = let w = get_elem-there sc.roles run.role good-run.role_present in (w.0, w.1, rw (w.1, events_of))

  -- its record is good
  good-role : GoodRole sc.rows (length sc.roles) role-of.0
  good-role = g.good_roles role-of.0 ((mem-get_elem sc.roles).1 (run.role, role-of.1))

  module _ (sets : List (Atom × Value)) where
    -- a role name stands for an agent
    role-reads : (i : ℕ) → i < length sc.roles → There (reading_of sc k run sets (role i))
    unfolding reading_in term_of
    role-reads i l =
        and_then-there _ (get_elem? run.agents i) (get_elem-there run.agents i (rw good-run.agent_for_each l))
        (λ r e. (mapped-there _ (atom_at sc.rows r)).1 (agent-there (atom_at sc.rows r) (good-run.are_agents r ((mem-get_elem run.agents).1 (i, e)))))

    -- a row keeps its value as variables are set
    value_grows : (more : List (Atom × Value)) (row : ℕ) → HasValue (reading_of sc k run sets) sc.rows row → HasValue (reading_of sc k run (sets ++ more)) sc.rows row
    value_grows more row = value-imply g.table (reading_of sc k run sets) (reading_of sc k run (sets ++ more)) (λ x a f. reading-grows sc.rows (suc k) run sets more a) row

    module _ (standing : Standing sc.rows sets) where
      -- an atom of the table has a reading, if it is no variable or is set
      atom-reads : (x : ℕ) (a : Atom) → atom_at sc.rows x ≡ some a → (T (variable_atom a) → There (assigned a sets)) → There (reading_of sc k run sets a)
      unfolding reading_in
      atom-reads x (trusted n) f is_set = (atom (trusted n), refl)
      atom-reads x (untrusted n) f is_set = (atom (untrusted n), refl)
      atom-reads x (global n) f is_set = (atom (global n), refl)
      atom-reads x (intruder n) f is_set = (atom (intruder n), refl)
      atom-reads x (role i) f is_set = role-reads i (g.roles_named x i (atom_of-row (get_elem? sc.rows x) f))
      atom-reads x (variable n y) f is_set = and_then-there (term_of sc.rows) (assigned (variable n y) sets) (is_set tt) (standing (variable n y))
      atom-reads x (local n u) f is_set = (atom (local n (suc k)), refl)

      -- the role's initial knowledge has values
      knowledge-reads : (t : Term) → Memᴰ t (role_knowledge sc.rows role-of.0) → There (substituted (reading_of sc k run sets) t)
      unfolding role_knowledge
      knowledge-reads t m =
          let w = (mem-map (value_of as_atoms sc.rows) role-of.0.knowledge).0 ((mem-present (map (value_of as_atoms sc.rows) role-of.0.knowledge)).0 m) in
          (value-term g.table (reading_of sc k run sets) w.0 (sym w.2)).0
          (value-imply g.table without_variables (reading_of sc k run sets) (λ x a f v. atom-reads x a f (λ y. absurd (plain-atom a v y))) w.0 (good-role.knows w.0 w.1))

  -- once the variables to set are set, a pattern has a value
  pattern-reads : (sets : List (Atom × Value)) → Standing sc.rows sets → (row : ℕ) → row < length sc.rows
      → {vs : List Value} → Takes sc.rows (length sc.runs) (unset_beneath sc.rows sets row) vs
      → HasValue (reading_of sc k run (sets ++ paired (unset_beneath sc.rows sets row) vs)) sc.rows row
  pattern-reads sets standing row l {vs} h = (value-exact g.table (reading_of sc k run (sets ++ more)) row l).1 (λ x a f b. atom-reads (sets ++ more) stand x a f (is_set x a f b))
    where
      more : List (Atom × Value)
      more = paired (unset_beneath sc.rows sets row) vs

      stand : Standing sc.rows (sets ++ more)
      stand = standing-append sc.rows sets more standing (takes-standing h)

      is_set : (x : ℕ) (a : Atom) → atom_at sc.rows x ≡ some a → T (beneath sc.rows x row) → T (variable_atom a) → There (assigned a (sets ++ more))
      is_set x a f b t = go (assigned a sets) refl
        where
          go : (o : Option Value) → assigned a sets ≡ o → There (assigned a (sets ++ more))
          go none e = rw (assigned-new a sets more e) (takes-set h (unset-mem sc.rows sets row x f b ((unset-iff sets a).1 (t, e))))
          go (some v) e = (v, assigned-stays a sets more e)

  module _ (p : Progress) (r : RunReached sc k run p) (e : Event) (next : get_elem? (events_of sc run) p.done ≡ some e) where
    -- what the role knows at the run's next event has values
    known-reads : WellFormedAt sc.rows run.role (λ t. There (substituted (reading_of sc k run p.values) t)) e
    unfolding event_term
    known-reads =
        well_formed-at (λ t. There (substituted (reading_of sc k run p.values) t)) (g.well_formed_roles run.role role-of.0 role-of.1)
        (knowledge-reads p.values r.standing) p.done e (rw role-of.2 at next)
        (λ i e' t f l q. (value-term g.table (reading_of sc k run p.values) e'.row q).0 (r.passed i e' (rw role-of.2 f) l))

    -- the event is one of the role's
    event-of : Memᴰ e role-of.0.events
    event-of = (mem-get_elem role-of.0.events).1 (p.done, rw role-of.2 at next)

    -- what derives at role level has a value
    derived-reads : T (derivable known-reads.known known-reads.term) → HasValue (reading_of sc k run p.values) sc.rows e.row
    unfolding event_term
    derived-reads d =
        (value-term g.table (reading_of sc k run p.values) e.row known-reads.is_term).1
        (derives-keeps (substituted-carried (reading_of sc k run p.values)) known-reads.holds (derivable-sound known-reads.known known-reads.term d))

    -- with the new variables set, the event's row has a value
    next-reads : {vs : List Value} → Takes sc.rows (length sc.runs) (new_at sc p e) vs
        → HasValue (reading_of sc k run (set_at sc p e vs)) sc.rows e.row
    unfolding new_variables
    next-reads {vs} h = go e.kind known-reads.fits h
      where
        go : (kind : EventKind) → T (well_formed run.role known-reads.known kind e.peer known-reads.term)
            → Takes sc.rows (length sc.runs) (new_variables sc.rows p.values kind e.row) vs
            → HasValue (reading_of sc k run (p.values ++ paired (new_variables sc.rows p.values kind e.row) vs)) sc.rows e.row
        go send w t = value_grows p.values (paired [] vs) e.row (derived-reads (sent-derives run.role e.peer known-reads.known known-reads.term w))
        go read w t = pattern-reads p.values r.standing e.row (good-role.present e event-of) t
        go (claim secrecy) w t = value_grows p.values (paired [] vs) e.row (derived-reads (claimed-derives run.role e.peer known-reads.known known-reads.term w))

    -- the event leaves the run reached
    run-advances : {vs : List Value} → Takes sc.rows (length sc.runs) (new_at sc p e) vs
        → RunReached sc k run (record { done = suc p.done; values = set_at sc p e vs })
    run-advances {vs} h = record {
      within = get_elem-below (events_of sc run) p.done next;
      standing = standing-append sc.rows p.values more r.standing (takes-standing h);
      passed = λ j d f l. ⊎_elim (last j d f) (λ b. value_grows p.values more d.row (r.passed j d f (le_of_suc-le-suc b))) (eq-or-lt_of_le l);
    }
      where
        more : List (Atom × Value)
        more = paired (new_at sc p e) vs

        last : (j : ℕ) (d : Event) → get_elem? (events_of sc run) j ≡ some d → suc j ≡ suc p.done → HasValue (reading_of sc k run (p.values ++ more)) sc.rows d.row
        last j d f q =
            let same : j ≡ p.done = omega arith in
            rw (some-injective d e (sym f ∙ ap (get_elem? (events_of sc run)) same ∙ next)) (next-reads h)

    -- the event has a message
    next-message : {vs : List Value} → Takes sc.rows (length sc.runs) (new_at sc p e) vs
        → There (message sc.rows (reading_of sc k run (set_at sc p e vs)) run e)
    unfolding message
    next-message {vs} h =
        let l = good-run.role_present in
        let peer = peer-within (length sc.roles) e.kind e.peer (omega arith) (good-role.peers e event-of) in
        and_then-there _ _ (role-reads (set_at sc p e vs) run.role l) λ a q.
        and_then-there _ _ (role-reads (set_at sc p e vs) e.peer peer) λ b q'.
        (mapped-there _ _).1 (next-reads h)

-- a run that has made no event
abbrev pub unmoved : Progress
unmoved = record { done = 0; values = [] }

-- at the start every run is reached
initial-reached : (sc : Scenario) → Reached sc (initial sc)
unfolding initial assigned
initial-reached sc = record {
  counted = length-map sc.runs (λ run. unmoved);
  reached = λ k run p f h. start k run p ((mem-map (λ run. unmoved) sc.runs).0 ((mem-get_elem (map (λ run. unmoved) sc.runs)).1 (k, h))).2;
}
  where
    start : (k : ℕ) (run : Run) (p : Progress) → p ≡ unmoved → RunReached sc k run p
    start k run p e = rw e (record { within = omega arith; standing = λ x v q. none-there (v, q); passed = λ j d f l. absurd (not-suc-le-zero l) })

module _ {sc : Scenario} (g : Guarantee sc) where
  -- an allowed move leaves a reached state reached
  step-reached : (s : State) → Reached sc s → (m : Move) (s' : State) → Step sc s m s' → Reached sc s'
  unfolding advanced set_after
  step-reached s h m s' (step {a = a} act takes performs e) = rw e (record {
    counted = length-set s.progress a.index after ∙ h.counted;
    reached = λ k run p f q. ⊎_elim (λ w. moved k run p f w.0 w.1) (h.reached k run p f) (set_cases s.progress a.index after k q);
  })
    where
      after : Progress
      after = record { done = suc a.progress.done; values = set_at sc a.progress a.event m.values }

      moved : (k : ℕ) (run : Run) (p : Progress) → get_elem? sc.runs k ≡ some run → k ≡ a.index → p ≡ after → RunReached sc k run p
      moved k run p f x y =
          let i = active-in sc s m.run act in
          let same : run ≡ a.run = some-injective run a.run (sym f ∙ ap (get_elem? sc.runs) x ∙ i.of_run) in
          let before = h.reached a.index a.run a.progress i.of_run i.of_progress in
          rw (x, y, same) (run-advances g a.index i.of_run a.progress before a.event i.of_event takes)

  -- the state at the end of an allowed trace is reached
  pub trace-reached : {ms : List Move} {s : State} → AllowedTrace sc ms s → Reached sc s
  trace-reached t = follows-good (Reached sc) step-reached (initial-reached sc) t

-- In a reached state a run's next event has a message, whatever values its new variables take.
pub reached-message : (sc : Scenario) → Guarantee sc → (ms : List Move) (s : State) → AllowedTrace sc ms s → (u : ℕ) (a : Active) → active sc s u ≡ some a
    → (vs : List Value) → Takes sc.rows (length sc.runs) (to_set sc a) vs → (m : Message) × (message_after sc a vs ≡ some m)
unfolding message_after set_after
reached-message sc g ms s t u a act vs takes =
    let i = active-in sc s u act in
    let before = (trace-reached g t).reached a.index a.run a.progress i.of_run i.of_progress in
    next-message g a.index i.of_run a.progress before a.event i.of_event takes

-- Every event that a run has made has a value.
pub passed-value : (sc : Scenario) → Guarantee sc → (ms : List Move) (s : State) → AllowedTrace sc ms s → (k : ℕ) (run : Run) (p : Progress) (j : ℕ) (e : Event)
    → get_elem? sc.runs k ≡ some run → get_elem? s.progress k ≡ some p → get_elem? (events_of sc run) j ≡ some e → j < p.done
    → (t : Term) × (value_of (reading_in sc.rows (suc k) run p.values) sc.rows e.row ≡ some t)
passed-value sc g ms s t k run p j e f q n l = ((trace-reached g t).reached k run p f q).passed j e n l
