-- The walk through the traces that go on with one run: no event to come, a read whose values are to be chosen, or another event. Assumes nothing.
use Rattle.std.specs.Prelude.{ℕ, suc, ◌<◌, ◌≤◌, ◌≡◌, refl, Bool, length, get_or, Ok}
use Rattle.std.proofs.Common.{arith, sym, ◌∙◌, subst}
use Rattle.std.proofs.Math.Path.{ap}
use mathlib.Core.List.{List, []}
use Rattle.std.proofs.Math.Option.{some, some-injective}
use Rattle.std.proofs.Math.ListN.{get_elem?}
use Rattle.semantics.specs.Term.{Atom}
use Rattle.semantics.specs.Roles.{Event, read, event_kinds}
use Rattle.semantics.specs.Runs.{Run}
use Rattle.semantics.specs.Scenario.{Scenario}
use Rattle.semantics.specs.Guarantee.{Guarantee}
use Rattle.semantics.specs.State.{Active, events_of}
use Rattle.semantics.specs.Allowed.{Takes, takes_none}
use Rattle.records.specs.Kinds.{byte_of}
use Rattle.runs.specs.declared.RunEvent.{RunEvent}
use Rattle.runs.specs.declared.Runs.{Runs}
use Rattle.runs.specs.Runs.{RunsAt, EventRead, run_at}
use Rattle.runs.specs.Opened.{Gives}
use Rattle.state.specs.laws.Active.{run-ended, Coming, run-coming, coming-move, coming-due}
use Rattle.state.specs.laws.Ready.{none-ready}
use Rattle.rows.specs.Rows.{rows_of}
use Rattle.variables.specs.Variables.{Beneath}
use Rattle.values.specs.Values.{Setting}
use Rattle.values.specs.laws.Values.{setting-none}
use Rattle.values.specs.laws.Next.{nothing-set}
use Rattle.values.specs.laws.Arrays.{part_none}
use Rattle.search_breaks.specs.declared.Values.{Values}
use Rattle.answers.specs.Answers.{Walked}
use Rattle.search_breaks.specs.declared.Course.{Course}
use Rattle.search_breaks.specs.declared.Plan.{Plan}
use Rattle.search_breaks.specs.declared.Reach.{Reach}
use Rattle.search_breaks.specs.declared.Turn.{Turn}
use Rattle.search_breaks.specs.Walk.{Finds, below, of_run, branches, ValuesAre, state_of, Here, AtMove, SomeClear, SomeChoice, SomeMove, FindsChoice, FindsMove}
use Rattle.search_breaks.specs.laws.Entries.{run_none, run-some}
use Rattle.search_breaks.specs.laws.Walk.{finds-nil, finds-same}

-- an event of a run, as it was read off the file
abbrev pub ReadOff : List ℕ → Runs → ℕ → ℕ → RunEvent → Type 0
ReadOff file r k j e =
    (sc : Scenario) (run : Run) (ev : Event) → RunsAt file sc r → Guarantee sc → get_elem? sc.runs k ≡ some run → get_elem? (events_of sc run) j ≡ some ev → EventRead sc run ev (byte_of e.kind) e.own e.peer e.row

module _ {plan : Plan} (course : Course) {names classes : List ℕ} {marks : List Bool} (reach : Reach) (m : SomeClear plan (state_of course names classes marks) reach.at) (k : ℕ) (low : k < plan.opened.runs.count) where
  pub here : Here plan m.sc m.d (state_of course names classes marks) m.ms reach.at
  here = m.clear.here

  pub given : Gives plan.opened m.sc
  given = here.reached.given

  -- the run has made all its events
  pub run-over : (run_at plan.opened.runs k).events ≤ get_or course.done k 0 → (b : List ℕ) → Finds m.sc reach.left (below plan m.sc reach.depth (of_run m.sc m.d k)) b reach.at b (Ok 0)
  run-over l b = finds-nil m.sc reach.left (run_none plan m.sc reach.depth m.d (suc k) (run-ended given here.state k low l)) b reach.at

  module _ (more : get_or course.done k 0 < (run_at plan.opened.runs k).events) (e : RunEvent) (off : ReadOff plan.opened.file.now plan.opened.runs k (get_or course.done k 0) e) where
    -- its next event
    pub its : (a : Active) × Coming given here.state k low a
    its = run-coming given here.state k low more

    reads : EventRead m.sc its.0.run its.0.event (byte_of e.kind) e.own e.peer e.row
    reads = off m.sc its.0.run its.0.event given.runs given.good its.1.of_run its.1.of_event

    pub at-move : AtMove plan m.sc m.d (state_of course names classes marks) m.ms reach.at k e its.0
    at-move = record {
      clear = m.clear;
      next = coming-move given here.state k low its.0 its.1 reads;
      due = coming-due given here.state k low its.0 its.1 reads;
      few = omega (arith, given.runs.small k (omega (arith, given.runs.few, low)), more);
    }

    module _ {values : Values} (are : ValuesAre [] values) where
      abbrev turn : Turn
      turn = record { run = k; event = e; values = values }

      -- a read: no value is chosen yet
      module _ (kind : byte_of e.kind ≡ 1) where
        is-read : its.0.event.kind ≡ read
        is-read = sym (some-injective read its.0.event.kind (sym (ap (get_elem? event_kinds) kind) ∙ reads.kind))

        none-set : Setting m.sc m.d its.0 names 0 [] [] names
        none-set = setting-none m.sc given.good m.d k its.0 at-move.next.is_active here.state is-read

        module _ {under : List Bool} (beneath : Beneath (rows_of plan.opened.table.bytes.now) e.row under) where
          pub read_none : SomeChoice plan course names names classes marks reach.at (record { turn = turn; under = under; from = 0 })
          read_none = record {
            read = record { sc = m.sc; d = m.d; s = state_of course names classes marks; ms = m.ms; a = its.0; move = at-move; is_done = refl; is_own = refl; is_read = kind; inside = omega arith; under = beneath };
            xs = [];
            vs = [];
            choosing = record { setting = none-set; arrays = part_none at-move.next; takes = takes_none; are = are };
          }

          pub run-read : {b b' : List ℕ} {w : Walked} → FindsChoice plan course names names classes marks reach (record { turn = turn; under = under; from = 0 }) b b' w → Finds m.sc reach.left (below plan m.sc reach.depth (of_run m.sc m.d k)) b reach.at b' w
          unfolding read_none
          run-read told =
              finds-same m.sc reach.left (run-some plan m.sc reach.depth m.d (suc k) at-move.next.is_active ∙ ap (λ (xs : List Atom). below plan m.sc reach.depth (branches m.sc m.d (suc k) its.0 [] xs)) none-set.split) (told read_none)

      -- any other event sets nothing
      module _ (kind : byte_of e.kind ≡ 1 → ⊥) where
        pub move-none : SomeMove plan course names classes marks reach.at turn
        move-none = record {
          sc = m.sc;
          d = m.d;
          s = state_of course names classes marks;
          ms = m.ms;
          a = its.0;
          vs = [];
          move = at-move;
          is_done = refl;
          chosen = record {
            ready = none-ready at-move.next;
            takes = subst (λ (xs : List Atom). Takes m.sc.rows (length m.sc.runs) xs []) (sym (nothing-set at-move.next kind)) takes_none;
            are = are;
          };
        }

        pub run-other : {b b' : List ℕ} {w : Walked} → FindsMove plan course names classes marks reach turn b b' w → Finds m.sc reach.left (below plan m.sc reach.depth (of_run m.sc m.d k)) b reach.at b' w
        unfolding move-none
        run-other told =
            finds-same m.sc reach.left (run-some plan m.sc reach.depth m.d (suc k) at-move.next.is_active ∙ ap (λ (xs : List Atom). below plan m.sc reach.depth (branches m.sc m.d (suc k) its.0 [] xs)) (nothing-set at-move.next kind)) (told move-none)
