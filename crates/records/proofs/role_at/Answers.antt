-- `records::role_at` meets its contract: the record with the number is there. Assumes nothing.
use Rattle.std.proofs.Common.{sym, ap, ◌∙◌, ◌≡◌, refl, Option, None, Some, is_some}
use Rattle.std.specs.List.{slice_get}
use Rattle.std.specs.Option.{option_map}
use Rattle.std.proofs.lemmas.Iterator.Consumers.{YieldsList-from_first, nth_from_yields_List}
use Rattle.records.specs.RoleRecords.{begins, read, ahead}
use Rattle.records.specs.laws.RoleRecords.{record-begins, record-known}
use Rattle.records.proofs.role_at.Goals.{After-nth}
use Rattle.records.proofs.role_at.Goals as goal

-- what is read of the record given is that with the number
given : (c : After-nth) → option_map read c.nth.result ≡ slice_get (begins 0 c.args.b.now) c.args.i
given c = nth_from_yields_List c.nth.result c.nth.new.self c.args.i c.nth.ensures.ran (YieldsList-from_first read ahead (begins 0 c.args.b.now) c.of.ensures)

some-mapped : {A B : Type 0} (f : A → B) (o : Option A) → is_some o ≡ is_some (option_map f o)
some-mapped f None = refl
some-mapped f (Some a) = refl

pub unwrap-requires : goal.unwrap-requires
unwrap-requires c = some-mapped read c.nth.result ∙ ap is_some (given c) ∙ record-known c.args.b.now c.args.i c.requires

pub returns : goal.returns
returns c =
    let w = record-begins c.args.b.now c.args.i (sym (given (goal.at.returns c).After-nth) ∙ ap (option_map read) c.unwrap.ensures) in
    record { upper_bound = w.0; role_at = w.1 }
