-- `ill_formed` finds the first event of a role block that is not well formed. The loop's invariant: it is that of the records that are still to come. Assumes nothing.
use Rattle.std.proofs.Common.{arith, inl, ap, refl, sym, ◌∙◌, ◌≡◌, ◌+◌, ℕ, List, length}
use Rattle.semantics.specs.Table.{Row}
use Rattle.rows.specs.Rows.{rows_of}
use Rattle.records.specs.RoleRecords.{ahead}
use Rattle.records.specs.laws.RoleRecords.{ahead-few, ahead-given}
use Rattle.open_wellformed.specs.laws.IllFormed.{BlockLeft, block_start, block_none, block-good, block-ill, block_more}
use Rattle.open_wellformed.proofs.ill_formed.Goals as goal

-- what is left, said of an equal number and equal records
moved : {rows : List Row} {base : ℕ} {b : List ℕ} {i n : ℕ} {ps qs : List (ℕ × List ℕ)} → BlockLeft rows base b n ps → i ≡ n → ps ≡ qs → BlockLeft rows base b i qs
moved left e f = rw (e, ← f) left

pub loop-i-init : goal.loop-i-init
loop-i-init c =
    let same = c.into_iter-i-iterator.ensures.into_iter_gives in
    moved (block_start (rows_of c.args.t.now.bytes.now) c.args.block.start c.args.block.bytes.now c.requires) (ap (λ z. z.count) same ∙ c.enumerate-i-items.ensures.count)
    (sym (ap (λ z. ahead z.iter) same ∙ ap ahead c.enumerate-i-items.ensures.source ∙ c.of.ensures))

pub loop-i-init-derived : goal.loop-i-init-derived
loop-i-init-derived c =
    let same = c.into_iter-i-iterator.ensures.into_iter_gives in
    let few = ahead-few c.of.result c.args.block.bytes.now c.of.ensures in
    ((tt, tt, inl (omega (arith, few, ap (λ z. z.count) same, c.enumerate-i-items.ensures.count, ap (λ z. length (ahead z.iter)) same, ap (λ r. length (ahead r)) c.enumerate-i-items.ensures.source))), tt)

pub ill_formed_role-requires : goal.ill_formed_role-requires
ill_formed_role-requires c =
    rw c.of-level.ensures.0 (block-good (rows_of c.args.t.now.bytes.now) c.args.block.start c.args.block.bytes.now c.in-Some.i c.in-Some.at c.in-Some.s.now _ (moved c.loop-i.invariant c.in-Some.ensures.steps.1 c.in-Some.ensures.steps.0))

pub overflow_add-result : goal.overflow_add-result
overflow_add-result c = omega (arith, (ahead-given c.loop-i.i-iterator.iter c.in-Some.ensures.steps.0).1)

pub overflow_add-result-in-Some-ill_formed_role : goal.overflow_add-result-in-Some-ill_formed_role
overflow_add-result-in-Some-ill_formed_role c = let near = c.in-Some-ill_formed_role.ensures.near in omega (arith, (ahead-given c.loop-i.i-iterator.iter c.in-Some.ensures.steps.0).1)

pub returns-in-Some-ill_formed_role : goal.returns-in-Some-ill_formed_role
returns-in-Some-ill_formed_role c =
    block-ill (rows_of c.args.t.now.bytes.now) c.args.block.start c.args.block.bytes.now c.in-Some.i c.in-Some.at c.in-Some.s.now _ (moved c.loop-i.invariant c.in-Some.ensures.steps.1 c.in-Some.ensures.steps.0)
    (rw c.of-level.ensures.0 at c.ill_formed_role.ensures) c.in-Some-ill_formed_role.is

pub loop-i-preserved : goal.loop-i-preserved
loop-i-preserved c =
    moved (block_more (rows_of c.args.t.now.bytes.now) c.args.block.start c.args.block.bytes.now c.in-Some.i c.in-Some.at c.in-Some.s.now _ (moved c.loop-i.invariant c.in-Some.ensures.steps.1 c.in-Some.ensures.steps.0)
    (rw c.of-level.ensures.0 at c.ill_formed_role.ensures) c.in_default.is) (c.in-Some.ensures.steps.2 ∙ ap (λ n. n + 1) (sym c.in-Some.ensures.steps.1)) refl

pub returns : goal.returns
returns c = block_none (rows_of c.args.t.now.bytes.now) c.args.block.start c.args.block.bytes.now c.loop-i.i-iterator.count (moved c.loop-i.invariant refl c.in-None.ensures.steps.0.0)
