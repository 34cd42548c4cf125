-- `read_fits::follow` meets its contract: what a row needs is a cell of its kind, and its parts need the classes of that cell's parts. Assumes nothing.
use denote.Enum.Bare.{differs_true}
use mathlib.Core.Path.{refl, sym, ◌∙◌}
use Rattle.rows.specs.contracts.Kind.{the_type}
use Rattle.rows.specs.laws.Kinds.{kinds-differ}
use Rattle.read_fits.specs.laws.Fits.{followed-row, followed-run, followed-kind, followed-parts}
use native.Mathlib.Omega.{arith}
use Rattle.read_fits.proofs.follow.Goals as goal
use Rattle.read_fits.proofs.follow.Goals.{then-t-y-via-then-t-y, then-t-y-via-else-t-y+then-t-w, then-t-y-via-else-t-y+else-t-w+then-ne}

pub returns-then-t-y : goal.returns-then-t-y
returns-then-t-y c =
    elim c.then-t-y.branch [
      | then-t-y-via-then-t-y w ↦ followed-row c.args.scope.now.table.bytes.now c.args.scope.now.table.rows c.args.scope.now.table.runs c.args.classes.now c.args.scope.now.run c.args.q c.args.need.now c.args.scope.now.table.shape.few c.requires _ refl (omega arith) _ _ (rw (c.place_of-y.ensures.0, c.from.ensures) at w.if-t-y.true)
      | then-t-y-via-else-t-y+then-t-w w ↦ followed-run c.args.scope.now.table.bytes.now c.args.scope.now.table.rows c.args.scope.now.table.runs c.args.classes.now c.args.scope.now.run c.args.q c.args.need.now c.args.scope.now.table.shape.few c.requires _ refl (omega arith) _ _ (rw (c.place_of-y.ensures.1, c.from.ensures) at w.if-t-w.true)
      | then-t-y-via-else-t-y+else-t-w+then-ne w ↦
          let k = c.kind_of-kind.ensures in
          followed-kind c.args.scope.now.table.bytes.now c.args.scope.now.table.rows c.args.scope.now.table.runs c.args.classes.now c.args.scope.now.run c.args.q c.args.need.now c.args.scope.now.table.shape.few c.requires _ refl (omega arith) (omega (arith, k, c.is_made.ensures.0 c.if-not-is_made.false)) _ _
          (λ p. kinds-differ (differs_true the_type _ _ (sym w.if-ne.ensures)) (rw (c.place_of-y.ensures.0, c.from.ensures) at w.kind_of.ensures ∙ p ∙ sym k))
    ]

pub returns : goal.returns
returns c =
    followed-parts c.args.scope.now.table.bytes.now c.args.scope.now.table.rows c.args.scope.now.table.runs c.args.classes.now c.args.scope.now.run c.args.q c.args.need.now c.args.scope.now.table.shape.few c.requires _ refl (omega arith) (omega (arith, c.kind_of-kind.ensures, c.is_made.ensures.0 c.if-not-is_made.false)) (rw (c.place_of-y.ensures.0, c.place_of-y.ensures.1, c.from.ensures) at c.share.ensures)
