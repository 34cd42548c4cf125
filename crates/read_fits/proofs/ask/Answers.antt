-- `read_fits::ask` meets its contract: what a row has already is compared. Assumes nothing.
use Rattle.read_fits.specs.laws.Fits.{asked-own}
use Rattle.read_fits.proofs.ask.Goals as goal

pub returns-then-own-lt-ABSENT : goal.returns-then-own-lt-ABSENT
returns-then-own-lt-ABSENT c =
    asked-own c.args.classes.now c.args.u c.args.need.now c.args.q c.args.class c.class_at-own.ensures c.if-own-lt-ABSENT.true
