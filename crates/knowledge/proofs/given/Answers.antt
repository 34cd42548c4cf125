-- `given` finds a class that a row gives and that is not marked. Assumes nothing.
use denote.Enum.Bare.{same_true, same_false}
use Rattle.std.proofs.Common.{rules, sym, ap, ◌∙◌}
use Rattle.rows.specs.contracts.Kind.{the_type}
use Rattle.rows.specs.declared.Kind.TheVariants.{Pair}
use Rattle.rows.specs.Kinds.{number_of}
use Rattle.rows.specs.laws.Kinds.{kinds-differ}
use Rattle.knowledge.specs.laws.Steps.{pair_left, content-either}
use Rattle.knowledge.specs.laws.Filled.{is-on, is-off}
use Rattle.knowledge.proofs.given.Goals as goal
use Rattle.knowledge.proofs.given.Goals.{then-eq, else-eq}

pub returns-after-eq : goal.returns-after-eq
returns-after-eq c =
    let whole = is-on c.is_marked.ensures c.if-not-is_marked.false in
    let left = is-off c.is_marked-has_left.ensures c.if-not-has_left.true in
    rw c.then_some-then-not-has_left.ensures (elim c.if-eq.branch [
      | then-eq w ↦ rw (w.then_some-is, w.if-eq.true) (pair_left (ap number_of (same_true the_type (search rules) c.args.kind Pair (sym c.eq.ensures ∙ w.if-eq.true))) whole left)
      | else-eq w ↦ rw w.then_some-is (content-either c.requires (kinds-differ (same_false the_type c.args.kind Pair (sym c.eq.ensures ∙ w.if-eq.false))) whole left w.opens.ensures)
    ])
