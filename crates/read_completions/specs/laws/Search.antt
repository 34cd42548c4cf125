-- Domains that are narrowed and tried: none misses a completion with which the row is derivable. Assumes nothing.
use Rattle.std.specs.Prelude.{ℕ, ◌+◌, ◌<◌, ◌≤◌, ◌≡◌, Bool, true, false, List, [], T, get_or}
use Rattle.std.proofs.Math.Decide.{ℕ_discrete}
use Rattle.std.proofs.Common.{arith, sym, ◌∙◌, subst, true≢false}
use Rattle.rows.specs.Rows.{rows_of}
use Rattle.cells.specs.Cells.{cell_count}
use Rattle.knowledge.specs.laws.Values.{has-class}
use Rattle.variables.specs.Variables.{In, Beneath, Unset}
use Rattle.read_fits.specs.Fits.{Gets}
use Rattle.read_fits.specs.laws.Fits.{gets-one}
use Rattle.read_domains.specs.Domains.{InRow, Listed, Narrows, NarrowsTo}
use Rattle.read_completions.specs.declared.pattern.Pattern.{Pattern}
use Rattle.read_completions.specs.Completions.{NoneEmpty, TakesCell, Completion, GetsClass, InDomains, GetsDerivable, MissesNone, CompletionsKept, Completable, Completes}
use Rattle.read_completions.specs.laws.Rows.{gets-low, takes-gets, takes-class}

-- the domains of the pattern's variables miss no value that counts
abbrev AllListed : Pattern → (ℕ → ℕ → Type 0) → List (List Bool) → Type 0
AllListed pattern counts dom =
    (i : ℕ) → i < pattern.vars.count → Listed pattern.scope.table.bytes.now pattern.scope.table.rows pattern.scope.table.runs pattern.classes.now counts (get_or pattern.vars.rows i 0) (InRow dom i)

-- every value counts
abbrev Every : ℕ → ℕ → Type 0
Every y w = Unit {0}

-- tests
is_true : {b : Bool} → b ≡ true → (b ≡ false → ⊥)
is_true e f = true≢false (sym e ∙ f)

-- no class of variable i below a number leads to a completion
abbrev pub Tried : Pattern → List (List Bool) → ℕ → ℕ → Type 0
Tried pattern dom i c =
    (k : Completion pattern) → InDomains k dom → GetsDerivable k pattern.row → (e : ℕ) → e < c → GetsClass k i e → ⊥

module _ (pattern : Pattern) where
  -- the class that a variable takes is listed, if its value counts
  listed-class : (counts : ℕ → ℕ → Type 0) (P : ℕ → Type 0) (k : Completion pattern) {q : ℕ} → Listed pattern.scope.table.bytes.now pattern.scope.table.rows pattern.scope.table.runs pattern.classes.now counts q P → (takes : TakesCell k.extension q)
      → counts takes.row takes.run → (c : ℕ) → Gets k.extension q c → P c
  listed-class counts P k listed takes counted c g =
      subst P (sym (takes-class pattern k takes g))
      (listed takes.row takes.run takes.inside takes.may counted
      (has-class pattern.scope.table.bytes.now pattern.scope.table.rows pattern.scope.table.runs k.extension.shape k.extension.old pattern.classes.now k.extension.right takes.inside takes.has))

  -- domains of all values that variables may take miss none
  pub in-domains-start : (dom : List (List Bool)) → AllListed pattern Every dom → (k : Completion pattern) → InDomains k dom
  in-domains-start dom listed k i l c g = listed-class Every (InRow dom i) k (listed i l) (k.filled i l) tt c g

  module _ (dom : List (List Bool)) where
    -- one domain is narrowed
    pub kept_more : {i : ℕ} → i < pattern.vars.count → (less : List (List Bool)) (set : List Bool) (next : List (List Bool)) → CompletionsKept pattern dom less → MissesNone pattern less i pattern.row (In set)
        → Narrows less i set next → CompletionsKept pattern dom next
    kept_more {i} l less set next kept covered narrows k within d j m c g =
        let before = kept k within d in
        narrows j c (omega (arith, pattern.variables.few)) (gets-low pattern k _ g) (before j m c g) (λ e. covered k before d c (rw e at g))

    -- one more round
    pub kept-both : (less next : List (List Bool)) → CompletionsKept pattern dom less → CompletionsKept pattern less next → CompletionsKept pattern dom next
    kept-both less next kept more k within d = more k (kept k within d) d

    -- a domain without a class
    pub completable-empty : (less : List (List Bool)) → CompletionsKept pattern dom less → {b : Bool} → (NoneEmpty pattern.vars less → b ≡ false) → b ≡ true
        → (answer : Bool) → Completable pattern dom answer
    completable-empty less kept f e answer k within d = absurd (is_true e (f (λ i l. let g = takes-gets pattern k (k.filled i l) in (_, (gets-low pattern k _ g, kept k within d i l _ g)))))

    abbrev TriedIn : ℕ → ℕ → Type 0
    TriedIn i c = Tried pattern dom i c

    pub tried-absent : {i c : ℕ} → i < pattern.vars.count → get_or (get_or dom i []) c false ≡ false → TriedIn i c → TriedIn i (c + 1)
    tried-absent {i} {c} m z tried k within d e l g = go (ℕ_discrete e c)
      where
        go : Dec (e ≡ c) → ⊥
        go (yes q) = true≢false (sym (within i m c (rw q at g)) ∙ z)
        go (no n) = tried k within d e (omega arith) g

    pub tried-more : {i c : ℕ} → i < pattern.vars.count → c < cell_count → (only : List (List Bool)) → NarrowsTo dom i c only → {b : Bool} → Completable pattern only b → b ≡ false
        → TriedIn i c → TriedIn i (c + 1)
    tried-more {i} {c} m low only narrows {b} passed z tried k within d e l g = go (ℕ_discrete e c)
      where
        go : Dec (e ≡ c) → ⊥
        go (yes q) = true≢false (sym (passed k still d) ∙ z)
          where
            still : InDomains k only
            still j lj c' h =
                narrows j c' (omega (arith, pattern.variables.few)) (gets-low pattern k _ h) (within j lj c' h)
                (λ same. gets-one k.extension _ (rw same at h) g ∙ q)
        go (no n) = tried k within d e (omega arith) g

    pub tried-all : {i c : ℕ} → i < pattern.vars.count → cell_count ≤ c → TriedIn i c → (answer : Bool) → Completable pattern dom answer
    tried-all {i} m h tried answer k within d = let g = takes-gets pattern k (k.filled i m) in absurd (tried k within d _ (omega (arith, gets-low pattern k _ g)) g)

    -- what later domains pass, earlier ones do
    pub completable-kept : (less : List (List Bool)) → CompletionsKept pattern dom less → {answer : Bool} → Completable pattern less answer → Completable pattern dom answer
    completable-kept less kept passed k within d = passed k (kept k within d) d

-- the test of the unset variables beneath the pattern
pub completes-tested : (pattern : Pattern) {below : List Bool} (dom : List (List Bool))
    → Beneath (rows_of pattern.scope.table.bytes.now) pattern.row below → Unset pattern.scope.table.bytes.now pattern.scope.table.rows pattern.classes.now pattern.scope.run below pattern.vars → AllListed pattern Every dom
    → {answer : Bool} → Completable pattern dom answer → Completes pattern.scope.table.bytes.now pattern.scope.table.rows pattern.scope.table.runs pattern.classes.now pattern.marks.now pattern.scope.run pattern.row answer
completes-tested pattern {below} dom beneath-x unset listed completable s known exact celled filled t h d =
    completable k (in-domains-start pattern dom listed k) (t, h, d)
  where
    takes : (i : ℕ) → i < pattern.vars.count → TakesCell s (get_or pattern.vars.rows i 0)
    takes i l =
        let low = unset.low.row i l in
        filled (get_or pattern.vars.rows i 0) low (unset.low.kind i l)
        (subst (λ (b : Bool). T b) (sym (sym (beneath-x.each _ (omega (arith, s.shape.count))) ∙ unset.under i l)) _) (unset.unset i l)

    k : Completion pattern
    k = record { extension = s; known = known; exact = exact; celled = celled; filled = takes }
