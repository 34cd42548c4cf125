-- `read_possible::fits_cell` meets its contract: only a marked cell that stands for its own value is looked at. Assumes nothing.
use Rattle.std.proofs.Common.{◌≡◌, true, Option, None, Some, IsSomeAnd, sym, refl, ◌∙◌}
use Rattle.std.specs.Option.{is_some}
use Rattle.read_fits.specs.laws.Fits.{take-fits}
use Rattle.read_possible.proofs.fits_cell.Goals as goal

-- a value that has something is there
there : {A : Type 0} (o : Option A) (P : A → Type 0) → IsSomeAnd o P → is_some o ≡ true
there None P h = absurd h
there (Some x) P h = refl

pub returns : goal.returns
returns c =
    take-fits c.args.scope.now.table.bytes.now c.args.scope.now.table.rows c.args.scope.now.table.runs c.args.classes.now c.args.marks.now c.args.scope.now.run c.args.r c.args.y c.args.w c.cell-c.ensures.0
    (sym c.from.ensures ∙ c.if-from-c.false) (λ g. c.is_some.ensures ∙ there c.needs_of.result _ (c.needs_of.ensures g.0 g.1))
