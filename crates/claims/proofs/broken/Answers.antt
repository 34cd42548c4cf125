-- `broken` answers the first broken claim of a state. What is found in a run, after none, is the state's. Assumes nothing.
use Prim.Native.Nat.{ℕ}
use native.Mathlib.Omega.{arith}
use mathlib.Core.Path.{◌≡◌, sym, subst}
use mathlib.Core.Bool.{Bool}
use mathlib.Core.List.{List}
use borrow.Author.Rules.{rules}
use Rattle.semantics.specs.Scenario.{Scenario}
use Rattle.semantics.specs.State as definitions
use Rattle.runs.specs.declared.Runs.{Runs}
use Rattle.state.specs.declared.State.{State}
use Rattle.runs.specs.Given.{Given}
use Rattle.state.specs.State.{IsState}
use Rattle.claims.specs.laws.State.{StandsIn, FoundIn, stands, state-none, state-broken, none-below, answered}
use Rattle.rows.specs.laws.Ranges.{find_map-first}
use Rattle.answers.specs.Answers.{Claimed}
use Rattle.std.proofs.Common.{tests, Some, None}
use Rattle.claims.proofs.broken.Goals as goal

-- a state whose marks and places these are
lent : {file t : List ℕ} {n : ℕ} {r : Runs} {sc : Scenario} {d : definitions.State} {s : State} → Given file t n r sc → IsState sc d s → {done : List ℕ} → done ≡ s.done → {marks : List Bool} → marks ≡ s.marks → StandsIn file t n r marks done sc d
lent {file} {t} {n} {r} {sc} {d} {s} given is {done} same own =
    subst (λ (m : List Bool). StandsIn file t n r m done sc d) (sym own) (subst (λ (l : List ℕ). StandsIn file t n r s.marks l sc d) (sym same) (stands given is))

pub returns : goal.returns
returns c =
    let file = c.args.opened.now.file.now in
    let t = c.args.opened.now.table.bytes.now in
    let n = c.args.opened.now.table.rows in
    let r = c.args.opened.now.runs in
    let Found : ℕ → Claimed → Type 0 = FoundIn file t n r c.args.marks c.args.done in
    answered c.args.opened.now c.args.done c.args.marks c.find_map.result
    (find_map-first c.find_map.result (λ k y. Found k (Some y)) (λ k. Found k None) (λ x y q k. search (rules, tests)) (λ x y k. search (rules, tests)) (λ x k. search (rules, tests)) _ c.find_map.ensures.runs
    (λ none sc d s' given is same own.
    state-none file t n r c.args.marks c.args.done r.count (none-below file t n r c.args.marks c.args.done r.count (omega arith) (λ i l. none i (omega arith) l)) (omega arith) sc d (lent given is same own))
    (λ y k lo l h before sc d s' given is same own.
    state-broken file t n r c.args.marks c.args.done k (none-below file t n r c.args.marks c.args.done k (omega arith) (λ i m. before i (omega arith) m)) l y h sc d (lent given is same own)))
