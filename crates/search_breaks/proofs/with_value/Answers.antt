-- `with_value` adds the bytes of a value. Assumes nothing.
use native.Mathlib.Omega.{arith}
use borrow.Author.Rules.{rules}
use mathlib.Core.Path.{◌≡◌, refl}
use lib.ListN.{length}
use Rattle.search_breaks.specs.laws.Bytes.{values-more}
use Rattle.search_breaks.proofs.with_value.Goals as goal

pub returns : goal.returns
returns c vs are =
    let size : length c.args.values.bytes ≡ 16 = search rules in
    values-more vs c.args.values c.args.value.row c.args.value.run refl (omega (arith, c.requires.0, size)) are
