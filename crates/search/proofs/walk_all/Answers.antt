-- `walk_all` walks through the whole list of an accepted file. The memory is an array of zeros at first, which says nothing. Assumes nothing.
use native.Mathlib.Omega.{arith}
use borrow.Author.Rules.{rules}
use mathlib.Core.Path.{◌≡◌, refl, ◌∙◌}
use lib.ListN.{length}
use Rattle.runs.specs.laws.Blocks.{opened-framed}
use Rattle.runs.specs.laws.Given.{opened-knowledge}
use Rattle.search_same.specs.laws.Memory.{remembers-start}
use Rattle.search_same.specs.laws.Start.{state-first, first_finds}
use Rattle.std.proofs.Common.{length-take-le}
use Rattle.std.proofs.lemmas.List.{get_or-take}
use Rattle.runs.specs.Runs.{no_place}
use Rattle.search.specs.laws.Events.{total_left}
use Rattle.search.proofs.walk_all.Goals as goal

pub part_of-requires : goal.part_of-requires
part_of-requires c = opened-framed _ _ c.requires.0.is_opened

pub initial-s-requires : goal.initial-s-requires
initial-s-requires c =
    let p = c.requires.0 in
    (_, p.given, opened-knowledge _ _ p.is_opened c.part_of.ensures.1)

pub event_count-requires : goal.event_count-requires
event_count-requires c =
    let o = c.args.opened.now in
    let runs = c.requires.0.given.runs in
    let size : length o.runs.runs ≡ 4 = search rules in
    let long = length-take-le o.runs.count o.runs.runs (omega (arith, runs.few)) in
    (omega (arith, long, runs.few), λ k low. rw (get_or-take o.runs.count o.runs.runs k no_place (omega (arith, long))) (runs.small k (omega (arith, long, runs.few))))

pub walk-requires : goal.walk-requires
walk-requires c =
    let p = c.requires.0 in
    let state = c.initial-s.ensures _ p.given (opened-knowledge _ _ p.is_opened c.part_of.ensures.1) in record {
      some_state = state-first _ p.is_opened p.given state refl;
      room = record { buffer = c.requires.1.0; budget = c.requires.1.1; moves = omega (arith, c.event_count.ensures.1); remembers = remembers-start _ c.variable_rows-variables.ensures refl };
    }

pub returns : goal.returns
returns c =
    let o = c.args.opened.now in
    let p = c.requires.0 in
    let size : length o.runs.runs ≡ 4 = search rules in
    let state = c.initial-s.ensures _ p.given (opened-knowledge _ _ p.is_opened c.part_of.ensures.1) in
    let depth = c.event_count.ensures.0 ∙ total_left _ _ _ p.given.runs size in
    first_finds _ p.is_opened p.given state refl depth c.walk.ensures.finds_from
