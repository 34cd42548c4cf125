-- `inverse_known` tells whether the inverse of a row's term is derivable. Assumes nothing.
use Rattle.rows.specs.laws.Shape.{shape-sized}
use Rattle.std.proofs.Common.{refl, sym, ◌∙◌}
use Rattle.open_marks.specs.laws.Marks.{other-known, itself-known}
use Rattle.open_marks.specs.laws.Sure.{opens-other, opens-itself}
use Rattle.open_marks.proofs.inverse_known.Goals as goal

pub returns-in_default : goal.returns-in_default
returns-in_default c =
    let own = c.in_default.ensures in (
      itself-known c.args.t.now.bytes.now c.args.t.now.rows (shape-sized c.args.t.now.shape) c.args.marks.now c.args.k (λ e. own.0 (c.kind_of.ensures ∙ e)) (λ e. own.1 (c.kind_of.ensures ∙ e)) refl,
      opens-itself c.args.t.now.bytes.now c.args.t.now.rows (shape-sized c.args.t.now.shape) c.args.marks.now c.args.k (λ e. own.0 (c.kind_of.ensures ∙ e)) (λ e. own.1 (c.kind_of.ensures ∙ e)) refl,
    )

pub returns : goal.returns
returns c = (
  other-known c.args.t.now.bytes.now c.args.t.now.rows (shape-sized c.args.t.now.shape) c.args.k c.in-Some.ensures (sym c.kind_of.ensures) c.left_of.ensures.0 c.row_marked.ensures,
  opens-other c.args.t.now.bytes.now c.args.t.now.rows (shape-sized c.args.t.now.shape) c.args.k c.in-Some.ensures (sym c.kind_of.ensures) c.left_of.ensures.0 c.row_marked.ensures,
)
