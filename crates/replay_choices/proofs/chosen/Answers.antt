-- `chosen` says whether values suit a read, and gives the names with them. Assumes nothing.
use native.Mathlib.Omega.{arith}
use borrow.Author.Rules.{rules}
use Prim.Native.Nat.{ℕ, ◌+◌}
use mathlib.Core.Path.{refl, sym, ap, subst, ◌∙◌}
use mathlib.Core.List.{List}
use lib.ListN.{length, get_or}
use Rattle.std.proofs.Common.{length-append}
use Rattle.std.specs.Slice.Iter.{chunks_exact_rest}
use Rattle.semantics.specs.Table.{Row}
use Rattle.semantics.specs.Runs.{atom_at}
use Rattle.rows.specs.Rows.{rows_of}
use Rattle.rows.specs.laws.Ranges.{told}
use Rattle.variables.specs.Variables.{NextUnset, TellsValue}
use Rattle.values.specs.laws.Next.{no_more, another, variable-found}
use Rattle.replay_choices.specs.laws.Values.{ValuesPart, part_none, part-ended, part-short, part-not, part-more, value-fits, taken-value, no_value, may-carry, part-carry}
use Rattle.replay_choices.proofs.chosen.Goals as goal

pub loop-x-init : goal.loop-x-init
loop-x-init c =
    let v = c.args.values.now in (
      omega arith,
      c.chunks_exact-pairs.ensures.size,
      λ e sc d s a next same row kind. rw c.chunks_exact-pairs.ensures.rest (subst (λ (m : List ℕ). ValuesPart sc d a s.names v 0 v m) (sym same) (part_none next kind v)),
      search rules,
    )

pub returns : goal.returns
returns c e sc d s a next same row kind =
    let view = rw c.in_default.is at (c.next_unset.ensures _ c.beneath-below.ensures) in
    let view' : NextUnset (rows_of c.args.t.now.bytes.now) s.names (c.args.k + 1) e.row c.loop-x.from c.args.t.now.rows = rw (← same, ← row) view in
    let rest = chunks_exact_rest c.loop-x.pairs in
    rw c.then_some.ensures
    (part-ended next kind _ c.loop-x.from rest c.loop-x.more (c.loop-x.invariant.2 e sc d s a next same row kind) (no_more next c.args.t.now.shape.count c.loop-x.from _ view' refl) c.next-2.result c.is_none.result c.is_none.ensures
    (told c.next-2.result c.next-2.ensures.steps.1 (λ p. omega (arith, p.0, c.loop-x.invariant.1)) (λ x p. omega (arith, ap length p.0, length-append x.now (chunks_exact_rest c.next-2.new.self), p.1, c.loop-x.invariant.1))))

pub returns-in_err-pair : goal.returns-in_err-pair
returns-in_err-pair c e sc d s a next same row kind =
    let v = rw c.in-Some.is at (c.next_unset.ensures _ c.beneath-below.ensures) in
    let view' : NextUnset (rows_of c.args.t.now.bytes.now) s.names (c.args.k + 1) e.row c.loop-x.from c.in-Some.x = rw (← same, ← row) v.1 in
    let more = another next c.args.t.now.shape.count c.loop-x.from _ view' (λ q. omega (arith, v.0)) in
    rw c.from_residual.ensures (part-short next kind _ c.loop-x.from _ c.loop-x.more (c.loop-x.invariant.2 e sc d s a next same row kind) more.first (omega (arith, c.in_err-pair.ensures.steps.1.0, c.loop-x.invariant.1)))

pub may_take-requires : goal.may_take-requires
may_take-requires c =
    let v = rw c.in-Some.is at (c.next_unset.ensures _ c.beneath-below.ensures) in
    let w = variable-found c.args.t.now.bytes.now c.args.t.now.rows c.args.t.now.runs c.args.t.now.shape _ _ _ _ _ v.1 (λ q. omega (arith, v.0)) in
    (w.0, w.2)

pub returns-then-not-may_take : goal.returns-then-not-may_take
returns-then-not-may_take c e sc d s a next same row kind =
    let v = rw c.in-Some.is at (c.next_unset.ensures _ c.beneath-below.ensures) in
    let view' : NextUnset (rows_of c.args.t.now.bytes.now) s.names (c.args.k + 1) e.row c.loop-x.from c.in-Some.x = rw (← same, ← row) v.1 in
    let more = another next c.args.t.now.shape.count c.loop-x.from _ view' (λ q. omega (arith, v.0)) in
    let may = c.may_take.ensures more.y (ap (λ (rs : List Row). atom_at rs c.in-Some.x) (sym next.rows) ∙ more.is_atom) in
    let may' : TellsValue sc.rows (length sc.runs) more.y (get_or c.in_ok-pair.pair.now 0 0) (get_or c.in_ok-pair.pair.now 1 0) c.may_take.result = may-carry next.rows next.count c.from.ensures c.from-in-Some.ensures may in
    part-not next kind _ c.loop-x.from _ c.loop-x.more (c.loop-x.invariant.2 e sc d s a next same row kind) more.first c.in_ok-pair.pair.now (chunks_exact_rest c.next.new.self) c.in_ok-pair.ensures.steps.1.0 (c.in_ok-pair.ensures.steps.1.1 ∙ c.loop-x.invariant.1) (no_value may' (c.if-not-may_take.true))

pub put-requires : goal.put-requires
put-requires c =
    let v = rw c.in-Some.is at (c.next_unset.ensures _ c.beneath-below.ensures) in
    let w = variable-found c.args.t.now.bytes.now c.args.t.now.rows c.args.t.now.runs c.args.t.now.shape _ _ _ _ _ v.1 (λ q. omega (arith, v.0)) in
    let may = c.may_take.ensures w.3.0 w.3.1 in
    let fits = value-fits (omega (arith, c.args.t.now.shape.count, c.args.t.now.shape.few)) c.args.t.now.shape.few_runs may (c.if-not-may_take.false) in
    (omega (arith, w.0, c.args.t.now.shape.few), (omega (arith, c.requires.0, c.args.t.now.shape.few_runs), (fits.0, fits.1)))

pub overflow_add-from : goal.overflow_add-from
overflow_add-from c =
    let v = rw c.in-Some.is at (c.next_unset.ensures _ c.beneath-below.ensures) in
    record { fits = omega (arith, v.0, c.args.t.now.shape.few) }

pub loop-x-smaller : goal.loop-x-smaller
loop-x-smaller c =
    let v = rw c.in-Some.is at (c.next_unset.ensures _ c.beneath-below.ensures) in
    let w = variable-found c.args.t.now.bytes.now c.args.t.now.rows c.args.t.now.runs c.args.t.now.shape _ _ _ _ _ v.1 (λ q. omega (arith, v.0)) in
    omega (arith, w.0, w.1)

pub loop-x-preserved : goal.loop-x-preserved
loop-x-preserved c =
    let v = rw c.in-Some.is at (c.next_unset.ensures _ c.beneath-below.ensures) in
    let w = variable-found c.args.t.now.bytes.now c.args.t.now.rows c.args.t.now.runs c.args.t.now.shape _ _ _ _ _ v.1 (λ q. omega (arith, v.0)) in (
      omega (arith, w.0),
      c.in_ok-pair.ensures.steps.0 ∙ c.loop-x.invariant.1,
      λ e sc d s a next same row kind.
          let view' : NextUnset (rows_of c.args.t.now.bytes.now) s.names (c.args.k + 1) e.row c.loop-x.from c.in-Some.x = rw (← same, ← row) v.1 in
          let more = another next c.args.t.now.shape.count c.loop-x.from _ view' (λ q. omega (arith, v.0)) in
          let may = c.may_take.ensures more.y (ap (λ (rs : List Row). atom_at rs c.in-Some.x) (sym next.rows) ∙ more.is_atom) in
          let may' : TellsValue sc.rows (length sc.runs) more.y (get_or c.in_ok-pair.pair.now 0 0) (get_or c.in_ok-pair.pair.now 1 0) c.may_take.result = may-carry next.rows next.count c.from.ensures c.from-in-Some.ensures may in
          let value = taken-value may' (c.if-not-may_take.false) in
          let part = part-more next kind _ c.loop-x.from _ c.loop-x.more (c.loop-x.invariant.2 e sc d s a next same row kind) _ more.y more.low more.from_on more.is_atom more.is_variable more.unset more.first c.in_ok-pair.pair.now (chunks_exact_rest c.next.new.self) c.in_ok-pair.ensures.steps.1.0 (c.in_ok-pair.ensures.steps.1.1 ∙ c.loop-x.invariant.1) value.0 value.1.1 in
          part-carry _ _ _ _ c.in_ok-pair.pair.now c.loop-x.more c.put.new.names c.put.ensures c.from.ensures c.from-in-Some.ensures part,
      omega (arith, c.loop-x.invariant.3),
    )
