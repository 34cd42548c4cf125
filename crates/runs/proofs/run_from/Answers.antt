-- `runs::run_from` meets its contract: the run's record names its role, whose record has the events. Assumes nothing.
use native.Mathlib.Omega.{arith}
use mathlib.Core.Path.{refl}
use Rattle.runs.specs.laws.Blocks.{opened-framed}
use Rattle.runs.specs.laws.Found.{start-inside, role-recorded, first_read, events-read}
use Rattle.runs.proofs.run_from.Goals as goal

pub part_of-roles-requires : goal.part_of-roles-requires
part_of-roles-requires c = opened-framed c.args.file.now c.requires.0 c.requires.2.accepts

pub bounds-file-start : goal.bounds-file-start
bounds-file-start c = start-inside c.args.file.now c.args.start c.requires

pub role_at-at-requires : goal.role_at-at-requires
role_at-at-requires c =
    role-recorded c.args.file.now c.args.start c.part_of-roles.ensures.1 c.from.ensures c.requires

pub bounds-roles-first : goal.bounds-roles-first
bounds-roles-first c =
    omega (arith, first_read c.args.file.now c.args.start c.part_of-roles.ensures.1 c.from.ensures (c.role_at-at.ensures.upper_bound, c.role_at-at.ensures.role_at) c.from-2.ensures c.requires)

pub returns : goal.returns
returns c = (
  refl,
  events-read c.args.file.now c.args.start c.part_of-roles.ensures.1 c.from.ensures (c.role_at-at.ensures.upper_bound, c.role_at-at.ensures.role_at) c.from-2.ensures
      c.part_of-roles.ensures.0.0 c.from-3.ensures,
)
