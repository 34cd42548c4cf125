-- `table::fits_row` meets its contract: kind by kind, the code tests what the definition asks. Assumes nothing.
use Rattle.std.proofs.Common.{rules, tests}
use Rattle.std.specs.Prelude.{Option, Some}
use Prim.Native.Nat.{ℕ}
use mathlib.Core.Path.{◌≡◌, refl, sym, ap, ◌∙◌}
use mathlib.Core.Bool.{Bool}
use mathlib.Core.List.{List}
use lib.ListN.{get_or}
use borrow.Author.Tests.{lt-ltb, le-ltb, ne_eqb}
use Rattle.semantics.specs.Table.{Row, decode}
use Rattle.rows.specs.declared.Kind.{Kind}
use Rattle.rows.specs.Kinds.{number_of, kind_as}
use Rattle.rows.specs.Rows.{decoded_at, rows_of}
use Rattle.rows.specs.laws.Kinds.{byte-kind}
use Rattle.table.specs.Check.{fits_decoded}
use Rattle.table.specs.laws.Below.{below-present}
use Rattle.table.specs.laws.Fits.{decoded-as, fits-plain, fits-variable, fits-none, fits-role, fits-role-not, fits-key, fits-key-not, fits-shared, fits-shared-not, fits-pair, fits-pair-not, fits-encrypted, fits-encrypted-not}
use Rattle.table.proofs.fits_row.Goals as goal

-- what is told of the kind and the two bytes is told of the row
of_kind : (below : List Row) (row : List ℕ) {o : Option Kind} {k j : Kind} {l r : ℕ} → o ≡ kind_as (get_or row 0 0) → o ≡ Some k → l ≡ get_or row 1 0 → r ≡ get_or row 2 0 → k ≡ j
    → {b : Bool} → fits_decoded below (decode (number_of j) l r) ≡ b → b ≡ fits_decoded below (decoded_at row 0)
of_kind below row {o} {k} {j} {l} {r} e s f g h told =
    sym (ap (fits_decoded below) (decoded-as row (sym (byte-kind _ (sym e ∙ s))) f g) ∙ ap (λ (m : Kind). fits_decoded below (decode (number_of m) l r)) h ∙ told)

pub returns-then-left-lt-MOST_ROLES : goal.returns-then-left-lt-MOST_ROLES
returns-then-left-lt-MOST_ROLES c =
    of_kind (rows_of c.args.below.now.bytes.now) c.args.row.now c.of.ensures c.in-Some.is c.from-left.ensures c.from-right.ensures c.in-Role.is
    (fits-role _ _ _ c.if-left-lt-MOST_ROLES.true)

pub returns-else-left-lt-MOST_ROLES : goal.returns-else-left-lt-MOST_ROLES
returns-else-left-lt-MOST_ROLES c =
    of_kind (rows_of c.args.below.now.bytes.now) c.args.row.now c.of.ensures c.in-Some.is c.from-left.ensures c.from-right.ensures c.in-Role.is
    (fits-role-not _ _ _ c.if-left-lt-MOST_ROLES.false ∙ sym (le-ltb _ _ c.if-left-lt-MOST_ROLES.false))

pub returns-in-Variable : goal.returns-in-Variable
returns-in-Variable c =
    of_kind (rows_of c.args.below.now.bytes.now) c.args.row.now c.of.ensures c.in-Some.is c.from-left.ensures c.from-right.ensures c.in-Variable.is
    (fits-variable _ _ _)

pub returns-then-agent_like : goal.returns-then-agent_like
returns-then-agent_like c =
    of_kind (rows_of c.args.below.now.bytes.now) c.args.row.now c.of.ensures c.in-Some.is c.from-left.ensures c.from-right.ensures c.in-SharedKey.is
    (fits-shared _ _ _ (sym c.agent_like-in-SharedKey.ensures ∙ c.if-agent_like.true) ∙ sym c.agent_like-then-agent_like.ensures)

pub returns-else-agent_like : goal.returns-else-agent_like
returns-else-agent_like c =
    of_kind (rows_of c.args.below.now.bytes.now) c.args.row.now c.of.ensures c.in-Some.is c.from-left.ensures c.from-right.ensures c.in-SharedKey.is
    (fits-shared-not _ _ _ (sym c.agent_like-in-SharedKey.ensures ∙ c.if-agent_like.false) ∙ sym c.if-agent_like.false)

pub returns-then-no_pair : goal.returns-then-no_pair
returns-then-no_pair c =
    of_kind (rows_of c.args.below.now.bytes.now) c.args.row.now c.of.ensures c.in-Some.is c.from-left.ensures c.from-right.ensures c.in-Pair.is
    (fits-pair _ _ _ (sym c.no_pair.ensures ∙ c.if-no_pair.true) ∙ sym (below-present _ _ _ c.args.below.now.shape _))

pub returns-else-no_pair : goal.returns-else-no_pair
returns-else-no_pair c =
    of_kind (rows_of c.args.below.now.bytes.now) c.args.row.now c.of.ensures c.in-Some.is c.from-left.ensures c.from-right.ensures c.in-Pair.is
    (fits-pair-not _ _ _ (sym c.no_pair.ensures ∙ c.if-no_pair.false) ∙ sym c.if-no_pair.false)

pub returns-then-left-below : goal.returns-then-left-below
returns-then-left-below c =
    of_kind (rows_of c.args.below.now.bytes.now) c.args.row.now c.of.ensures c.in-Some.is c.from-left.ensures c.from-right.ensures c.in-Encrypted.is
    (fits-encrypted _ _ _ (sym (below-present _ _ _ c.args.below.now.shape _) ∙ lt-ltb _ _ c.if-left-below.true) ∙ sym (below-present _ _ _ c.args.below.now.shape _))

pub returns-else-left-below : goal.returns-else-left-below
returns-else-left-below c =
    of_kind (rows_of c.args.below.now.bytes.now) c.args.row.now c.of.ensures c.in-Some.is c.from-left.ensures c.from-right.ensures c.in-Encrypted.is
    (fits-encrypted-not _ _ _ (sym (below-present _ _ _ c.args.below.now.shape _) ∙ le-ltb _ _ c.if-left-below.false) ∙ sym (le-ltb _ _ c.if-left-below.false))

pub returns-then-right-eq0 : goal.returns-then-right-eq0
returns-then-right-eq0 c =
    of_kind (rows_of c.args.below.now.bytes.now) c.args.row.now c.of.ensures c.in-Some.is c.from-left.ensures c.from-right.ensures refl
    (fits-key _ _ _ _ (search (rules, tests)) (search (rules, tests)) c.if-right-eq0.true ∙ sym c.agent_like.ensures)

pub returns-else-right-eq0 : goal.returns-else-right-eq0
returns-else-right-eq0 c =
    of_kind (rows_of c.args.below.now.bytes.now) c.args.row.now c.of.ensures c.in-Some.is c.from-left.ensures c.from-right.ensures refl
    (fits-key-not _ _ _ _ (search (rules, tests)) (search (rules, tests)) c.if-right-eq0.false ∙ sym (ne_eqb _ _ c.if-right-eq0.false))

pub returns-in_default : goal.returns-in_default
returns-in_default c =
    sym (ap (fits_decoded (rows_of c.args.below.now.bytes.now)) (decoded-as c.args.row.now refl refl refl) ∙ fits-none _ _ _ _ (sym c.of.ensures ∙ c.in_default.is))

pub returns-in-Trusted : goal.returns-in-Trusted
returns-in-Trusted c =
    of_kind (rows_of c.args.below.now.bytes.now) c.args.row.now c.of.ensures c.in-Some.is c.from-left.ensures c.from-right.ensures refl
    (fits-plain _ _ _ _ (search (rules, tests)))
