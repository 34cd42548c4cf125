-- `table::agent_like` meets its contract: a row below is agent-like by its kind and its right byte. Assumes nothing.
use Rattle.std.proofs.Common.{◌≡◌, ℕ, ◌+◌, ◌*◌, ◌<◌, Bool, true, ◌⊎◌, inl, inr, List, get_or, refl, sym, ap, ◌∙◌}
use borrow.Author.Tests.{le-ltb}
use lib.ListN.{get_elem?}
use Rattle.semantics.specs.Table.{agent_like}
use Rattle.rows.specs.declared.Kind.{Kind}
use Rattle.rows.specs.declared.Kind.TheVariants.{Trusted, Untrusted, Role}
use Rattle.rows.specs.Kinds.{number_of}
use Rattle.rows.specs.Rows.{Shape, rows_of}
use Rattle.rows.specs.laws.Kinds.{kinds-differ}
use Rattle.rows.specs.laws.Decode.{agent_kind, other-kinds}
use Rattle.table.specs.laws.Below.{below_none, below-agent}
use Rattle.table.proofs.agent_like.Goals as goal

-- three kinds are agent-like whatever the right byte
named : (k : Kind) (r : ℕ) → (k ≡ Trusted) ⊎ ((k ≡ Untrusted) ⊎ (k ≡ Role)) → agent_kind (number_of k) r ≡ true
named k r (inl e) = rw e refl
named k r (inr (inl e)) = rw e refl
named k r (inr (inr e)) = rw e refl

-- what is told of a row's kind and right byte is told of the row
of_kind : (t : List ℕ) (n runs : ℕ) → Shape t n runs → (a : ℕ) → a < n → {k : ℕ} → k ≡ get_or t (3 * a) 0 → {b : Bool} → agent_kind k (get_or t (3 * a + 2) 0) ≡ b → b ≡ agent_like (get_elem? (rows_of t) a)
of_kind t n runs shape a below e told = sym (below-agent t n runs shape a below e ∙ told)

pub returns-else-a-below : goal.returns-else-a-below
returns-else-a-below c = le-ltb _ _ c.if-a-below.false ∙ sym (ap agent_like (below_none _ _ _ c.args.below.now.shape c.args.a c.if-a-below.false))

pub returns-in-Trusted : goal.returns-in-Trusted
returns-in-Trusted c = of_kind _ _ _ c.args.below.now.shape c.args.a c.if-a-below.true c.kind_of.ensures (named _ _ c.in-Trusted.is)

pub returns-in-Variable : goal.returns-in-Variable
returns-in-Variable c = of_kind _ _ _ c.args.below.now.shape c.args.a c.if-a-below.true c.kind_of.ensures (rw (c.in-Variable.is, c.right_of.ensures.0))

pub returns-in_default : goal.returns-in_default
returns-in_default c =
    of_kind _ _ _ c.args.below.now.shape c.args.a c.if-a-below.true c.kind_of.ensures
    (other-kinds _ _ (kinds-differ c.in_default.not-Trusted) (kinds-differ c.in_default.not-Untrusted) (kinds-differ c.in_default.not-Role) (kinds-differ c.in_default.not-Variable))
