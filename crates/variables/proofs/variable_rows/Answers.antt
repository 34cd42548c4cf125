-- `variables::variable_rows` meets its contract. The loop's invariant: the variables of the set among the first x rows are gathered. Assumes nothing.
use denote.Enum.Bare.{same_true, same_false}
use mathlib.Core.Bool.{false≢true}
use mathlib.Core.Path.{sym, ap, ◌∙◌}
use Rattle.rows.specs.contracts.Kind.{the_type}
use Rattle.rows.specs.declared.Kind.TheVariants.{Variable}
use Rattle.rows.specs.Kinds.{number_of}
use Rattle.rows.specs.laws.Kinds.{kinds-differ}
use Rattle.rows.specs.laws.Shape.{shape-sized}
use Rattle.variables.specs.laws.Rows.{gathered-other, gathered-variable, gathered-few, gathered-low, place-left}
use native.Mathlib.Omega.{arith}
use Rattle.variables.proofs.variable_rows.Goals as goal
use Rattle.variables.proofs.variable_rows.Goals.{then-set-x+then-eq, else-set-x, else-set-x-via-then-set-x+else-eq, else-set-x-via-else-set-x}

pub bounds-found-count : goal.bounds-found-count
bounds-found-count c = (place-left c.args.t.now.bytes.now c.args.t.now.rows (shape-sized c.args.t.now.shape) c.loop-x.invariant.few c.loop-x-test.true (sym c.kind_of.ensures ∙ ap number_of (same_true the_type tt _ Variable (sym c.if-eq.ensures)))).1

pub offset_bounds-found-count : goal.offset_bounds-found-count
offset_bounds-found-count c = let place = bounds-found-count c in omega arith

pub overflow_add-count : goal.overflow_add-count
overflow_add-count c = let place = bounds-found-count c in omega arith

pub loop-x-preserved : goal.loop-x-preserved
loop-x-preserved c =
    let g = c.loop-x.invariant in
    let other = gathered-other c.args.t.now.bytes.now c.args.t.now.rows (shape-sized c.args.t.now.shape) c.args.set.now g in
    elim c.if-set-x.branch [
      | then-set-x+then-eq w ↦
          rw (w.found-is, w.count-is) (gathered-variable c.args.t.now.bytes.now c.args.t.now.rows (shape-sized c.args.t.now.shape) c.args.set.now g c.loop-x-test.true (sym w.kind_of.ensures ∙ ap number_of (same_true the_type tt _ Variable (sym w.if-eq.ensures))) w.if-set-x.true)
      | else-set-x w ↦ rw (w.found-is, w.count-is) (other (elim w.else-set-x.branch [
        | else-set-x-via-then-set-x+else-eq v ↦ λ e i. kinds-differ (same_false the_type _ Variable (sym v.eq.ensures ∙ v.if-eq.false)) (v.kind_of.ensures ∙ e)
        | else-set-x-via-else-set-x v ↦ λ e i. false≢true (sym v.if-set-x.false ∙ i)
      ]))
    ]

pub invariant_of-result : goal.invariant_of-result
invariant_of-result c =
    let t = c.args.t.now in
    let sized = shape-sized t.shape in record {
      few = gathered-few t.bytes.now t.rows sized c.args.set.now c.loop-x.invariant;
      low = λ j below. gathered-low t.bytes.now t.rows sized c.args.set.now c.loop-x.invariant j;
    }
