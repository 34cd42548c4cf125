-- The laws of inference, with their proofs: the decision says yes exactly of what derives. Assumes nothing.
use Rattle.std.specs.Prelude.{ℕ, zero, suc, ◌+◌, ◌≤◌, ◌<◌, ◌≡◌, refl, ◌↔◌, ◌⊎◌, Bool, true, false, ◌&&◌, T}
use Rattle.std.proofs.Common.{arith, inr, ⊎_elim}
use Rattle.std.proofs.Math.Logic.{⊎_map}
use mathlib.Core.Logic.Iff
use mathlib.Core.Logic.Dec
use mathlib.Core.List.Memᴰ
use mathlib.Core.List.Memᴰ.{head as here}
use mathlib.Core.List.Memᴰ.{tail as later}
use mathlib.Core.List.{List, [], ◌∷◌, ◌++◌, Memᴰ}
use Rattle.std.proofs.Math.Option.{Option, none, some}
use Rattle.semantics.specs.Basic.{decided, provided, mapped}
use Rattle.semantics.specs.Term.{Term, atom, pk, sk, shared, pair, encrypted, term?, inverse, size}
use Rattle.semantics.specs.Inference.{Derives, member, pairs, first, second, encrypts, decrypts, is_member, builds, parts_of, takes_apart, apart, weight, analysed, derivable}
use Rattle.semantics.proofs.laws.Test.{either-both, either-both-cases, either_left, either-right, either-cases, same_test, test-dec, decided-holds, holds-decided}

-- each key is the inverse of its inverse
pub inverse-inverse : (t : Term) → inverse (inverse t) ≡ t
inverse-inverse (atom a) = refl
inverse-inverse (pk a) = refl
inverse-inverse (sk a) = refl
inverse-inverse (shared a b) = refl
inverse-inverse (pair t u) = refl
inverse-inverse (encrypted t k) = refl

-- the test of membership passes only for members
is_member-member : (t : Term) (ts : List Term) → T (is_member t ts) → Memᴰ t ts
unfolding is_member
is_member-member t [] h = absurd h
is_member-member t (x ∷ xs) h = ⊎_elim (λ d. here (decided-holds (term? t x) d)) (λ m. later (is_member-member t xs m)) (either-cases (decided (term? t x)) (is_member t xs) h)

-- and for each of them
member-is_member : {t : Term} {ts : List Term} → Memᴰ t ts → T (is_member t ts)
unfolding is_member
member-is_member {t} (here {x} {xs} e) = either_left (decided (term? t x)) (is_member t xs) (holds-decided (term? t x) e)
member-is_member {t} (later {x} {xs} m) = either-right (decided (term? t x)) (is_member t xs) (member-is_member m)

-- the test of membership is membership
pub is_member-iff : (t : Term) (ts : List Term) → T (is_member t ts) ↔ Memᴰ t ts
is_member-iff t ts = (is_member-member t ts, member-is_member)

-- A property that each rule of inference carries from its premises to its conclusion.
pub record Carried (P : Term → Type 0) : Type 0 where
  pub joins : (t u : Term) → P t → P u → P (pair t u)
  pub left : (t u : Term) → P (pair t u) → P t
  pub right : (t u : Term) → P (pair t u) → P u
  pub seals : (t k : Term) → P t → P k → P (encrypted t k)
  pub content : (t k : Term) → P (encrypted t k) → P (inverse k) → P t

-- a carried property of the known terms holds of all that derives from them
pub derives-keeps : {P : Term → Type 0} {known : List Term} → Carried P → ((x : Term) → Memᴰ x known → P x) → {t : Term} → Derives known t → P t
derives-keeps c f {t} (member m) = f t m
derives-keeps c f (pairs {t} {u} d e) = c.joins t u (derives-keeps c f d) (derives-keeps c f e)
derives-keeps c f (first {t} {u} d) = c.left t u (derives-keeps c f d)
derives-keeps c f (second {t} {u} d) = c.right t u (derives-keeps c f d)
derives-keeps c f (encrypts {t} {k} d e) = c.seals t k (derives-keeps c f d) (derives-keeps c f e)
derives-keeps c f (decrypts {t} {k} d e) = c.content t k (derives-keeps c f d) (derives-keeps c f e)

-- to derive is carried by the rules, which say just that
derives-carried : (known : List Term) → Carried (Derives known)
derives-carried known = record { joins = λ t u. pairs; left = λ t u. first; right = λ t u. second; seals = λ t k. encrypts; content = λ t k. decrypts }

-- what derives from terms that derive derives too
pub derives-cut : {known more : List Term} → ((x : Term) → Memᴰ x known → Derives more x) → {t : Term} → Derives known t → Derives more t
derives-cut {more = more} f d = derives-keeps (derives-carried more) f d

-- the more is known, the more derives
pub derives-monotone : {known more : List Term} → ((x : Term) → Memᴰ x known → Memᴰ x more) → {t : Term} → Derives known t → Derives more t
derives-monotone f d = derives-cut (λ x m. member (f x m)) d

-- a member can be built
builds-member : (known : List Term) (t : Term) → Memᴰ t known → T (builds known t)
unfolding builds
builds-member known (atom a) m = member-is_member m
builds-member known (pk t) m = member-is_member m
builds-member known (sk t) m = member-is_member m
builds-member known (shared t u) m = member-is_member m
builds-member known (pair t u) m = either_left (is_member (pair t u) known) (builds known t && builds known u) (member-is_member m)
builds-member known (encrypted t k) m = either_left (is_member (encrypted t k) known) (builds known t && builds known k) (member-is_member m)

module _ (known : List Term) (t u : Term) where
  -- a pair and an encryption can be built from what can be built
  builds-pair : T (builds known t) → T (builds known u) → T (builds known (pair t u))
  unfolding builds
  builds-pair = either-both (is_member (pair t u) known) (builds known t) (builds known u)

  builds-encrypted : T (builds known t) → T (builds known u) → T (builds known (encrypted t u))
  unfolding builds
  builds-encrypted = either-both (is_member (encrypted t u) known) (builds known t) (builds known u)

  -- and if they can be built they are members, or are built so
  pair-built : T (builds known (pair t u)) → Memᴰ (pair t u) known ⊎ (T (builds known t) × T (builds known u))
  unfolding builds
  pair-built h = ⊎_map (is_member-member (pair t u) known) (λ b. b) (either-both-cases (is_member (pair t u) known) (builds known t) (builds known u) h)

  encrypted-built : T (builds known (encrypted t u)) → Memᴰ (encrypted t u) known ⊎ (T (builds known t) × T (builds known u))
  unfolding builds
  encrypted-built h = ⊎_map (is_member-member (encrypted t u) known) (λ b. b) (either-both-cases (is_member (encrypted t u) known) (builds known t) (builds known u) h)

-- what can be built derives
pub builds-sound : (known : List Term) (t : Term) → T (builds known t) → Derives known t
unfolding builds
builds-sound known (atom a) h = member (is_member-member (atom a) known h)
builds-sound known (pk t) h = member (is_member-member (pk t) known h)
builds-sound known (sk t) h = member (is_member-member (sk t) known h)
builds-sound known (shared t u) h = member (is_member-member (shared t u) known h)
builds-sound known (pair t u) h = ⊎_elim (λ m. member m) (λ b. pairs (builds-sound known t b.0) (builds-sound known u b.1)) (pair-built known t u h)
builds-sound known (encrypted t k) h = ⊎_elim (λ m. member m) (λ b. encrypts (builds-sound known t b.0) (builds-sound known k b.1)) (encrypted-built known t k h)

-- The parts that a term gives up: `parts_of` as a relation.
data Opens (known : List Term) : Term → List Term → Type 0 where
  opens_pair : {t u : Term} → Opens known (pair t u) (t ∷ u ∷ [])
  opens_encrypted : {t k : Term} → T (builds known (inverse k)) → Opens known (encrypted t k) (t ∷ [])

-- what `parts_of` can answer: the parts, or that there are none
data Parts (known : List Term) (t : Term) : Option (List Term) → Type 0 where
  opened : {ps : List Term} → Opens known t ps → Parts known t (some ps)
  shut : ((ps : List Term) → Opens known t ps → ⊥) → Parts known t none

-- an encryption opens only by the inverse of its key
opens-key : {known : List Term} {t k : Term} {ps : List Term} → Opens known (encrypted t k) ps → T (builds known (inverse k))
opens-key (opens_encrypted b) = b

-- `parts_of` answers so
parts_of-parts : (known : List Term) (t : Term) → Parts known t (parts_of known t)
unfolding parts_of
parts_of-parts known (atom a) = shut (λ ps o. elim o [ ])
parts_of-parts known (pk t) = shut (λ ps o. elim o [ ])
parts_of-parts known (sk t) = shut (λ ps o. elim o [ ])
parts_of-parts known (shared t u) = shut (λ ps o. elim o [ ])
parts_of-parts known (pair t u) = opened opens_pair
parts_of-parts known (encrypted t k) = go (builds known (inverse k)) refl
  where
    go : (b : Bool) → builds known (inverse k) ≡ b → Parts known (encrypted t k) (provided b (t ∷ []))
    go true e = opened (opens_encrypted {k = k} (rw e tt))
    go false e = shut (λ ps o. rw e at (opens-key o))

-- the parts of a known term derive
parts-derive : {known : List Term} {t : Term} {ps : List Term} → Opens known t ps → Memᴰ t known → (x : Term) → Memᴰ x ps → Derives known x
parts-derive opens_pair m x (here e) = rw e (first (member m))
parts-derive opens_pair m x (later (here e)) = rw e (second (member m))
parts-derive {known} (opens_encrypted {k = k} b) m x (here e) = rw e (decrypts (member m) (builds-sound known (inverse k) b))
parts-derive {known = known} (opens_pair {t = t} {u = u}) m x (later (later x19)) = elim x19 [ ]
parts-derive {known = known} (opens_encrypted {t = t} {k = k} b) m x (later x14) = elim x14 [ ]

-- the parts are the same, whatever else is known
parts_same : {known more : List Term} {t : Term} {ps qs : List Term} → Opens known t ps → Opens more t qs → ps ≡ qs
parts_same opens_pair opens_pair = refl
parts_same (opens_encrypted b) (opens_encrypted c) = refl

-- no term has size 0
size-positive : (t : Term) → 0 < size t
unfolding size
size-positive (atom a) = omega arith
size-positive (pk t) = omega arith
size-positive (sk t) = omega arith
size-positive (shared t u) = omega arith
size-positive (pair t u) = omega arith
size-positive (encrypted t k) = omega arith

-- the parts weigh less than the term
parts-lighter : {known : List Term} {t : Term} {ps : List Term} → Opens known t ps → weight ps < size t
unfolding weight size
parts-lighter opens_pair = omega arith
parts-lighter (opens_encrypted b) = omega arith

-- the weight of two lists is the sum
weight-append : (ts us : List Term) → weight (ts ++ us) ≡ weight ts + weight us
unfolding weight
weight-append [] us = omega arith
weight-append (t ∷ ts) us = omega (arith, weight-append ts us)

-- A term of a list, and the list with its parts in its place: `takes_apart` as a relation.
data Taken (known : List Term) : List Term → Term → List Term → Type 0 where
  takes : {t : Term} {ts ps : List Term} → Opens known t ps → Taken known (t ∷ ts) t (ps ++ ts)
  passes : {t u : Term} {ts rest : List Term} → Taken known ts u rest → Taken known (t ∷ ts) u (t ∷ rest)

-- no term of the list opens
abbrev NoneOpens : List Term → List Term → Type 0
NoneOpens known ts = (t : Term) (ps : List Term) → Memᴰ t ts → Opens known t ps → ⊥

-- what `takes_apart` can answer: a term and what is left, or that none opens
data Looked (known ts : List Term) : Option (Term × List Term) → Type 0 where
  taken : {t : Term} {rest : List Term} → Taken known ts t rest → Looked known ts (some (t, rest))
  untaken : NoneOpens known ts → Looked known ts none

-- `takes_apart` answers so
takes_apart-looked : (known ts : List Term) → Looked known ts (takes_apart known ts)
unfolding takes_apart
takes_apart-looked known [] = untaken (λ t ps m o. Memᴰ.not-nil m)
takes_apart-looked known (t ∷ ts) = go (parts_of-parts known t) (takes_apart-looked known ts)
  where
    go : {o : Option (List Term)} {r : Option (Term × List Term)} → Parts known t o → Looked known ts r → Looked known (t ∷ ts) (elim o [ some ps ↦ some (t, ps ++ ts) | none ↦ mapped (λ found. (found.0, t ∷ found.1)) r ])
    go (opened o) l = taken (takes o)
    go (shut f) (taken p) = taken (passes p)
    go (shut f) (untaken g) = untaken (λ x ps m o. ⊎_elim (λ e. f ps (rw e at o)) (λ n. g x ps n o) (Memᴰ.cases_cons m))

-- the term taken stood in the list
taken-member : {known ts rest : List Term} {t : Term} → Taken known ts t rest → Memᴰ t ts
taken-member (takes o) = here refl
taken-member (passes p) = later (taken-member p)

-- what is left derives, if the list is known
taken-sound : {known ts rest : List Term} {t : Term} → Taken known ts t rest → ((x : Term) → Memᴰ x ts → Memᴰ x known) → (x : Term) → Memᴰ x rest → Derives known x
taken-sound (takes {t} {ps = ps} o) f x m = ⊎_elim (parts-derive o (f t (here refl)) x) (λ n. member (f x (later n))) (Memᴰ.append_cases ps m)
taken-sound (passes p) f x m = ⊎_elim (λ e. member (f x (here e))) (λ n. taken-sound p (λ y k. f y (later k)) x n) (Memᴰ.cases_cons m)

-- the other terms are left
taken-stays : {known ts rest : List Term} {t : Term} → Taken known ts t rest → (x : Term) → Memᴰ x ts → (x ≡ t) ⊎ Memᴰ x rest
taken-stays (takes {ps = ps} o) x m = ⊎_map (λ e. e) (Memᴰ.append_right ps) (Memᴰ.cases_cons m)
taken-stays (passes p) x m = ⊎_elim (λ e. inr (here e)) (λ n. ⊎_map (λ e. e) later (taken-stays p x n)) (Memᴰ.cases_cons m)

-- and so are the parts of the term taken
taken-parts : {known more ts rest ps : List Term} {t : Term} → Taken known ts t rest → Opens more t ps → (x : Term) → Memᴰ x ps → Memᴰ x rest
taken-parts (takes {ts = ts} o) q x m = Memᴰ.append_left ts (rw (parts_same q o) at m)
taken-parts (passes p) q x m = later (taken-parts p q x m)

-- what is left weighs less
taken-lighter : {known ts rest : List Term} {t : Term} → Taken known ts t rest → weight rest < weight ts
unfolding weight
taken-lighter (takes {ts = ts} {ps = ps} o) = omega (arith, weight-append ps ts, parts-lighter o)
taken-lighter (passes p) = omega (arith, taken-lighter p)

-- Taking apart to the end: `apart` with fuel enough, as a relation.
data Analysis : List Term → List Term → List Term → Type 0 where
  ends : {kept waiting : List Term} → NoneOpens (kept ++ waiting) waiting → Analysis kept waiting (kept ++ waiting)
  steps : {kept waiting rest result : List Term} {t : Term} → Taken (kept ++ waiting) waiting t rest → Analysis (t ∷ kept) rest result → Analysis kept waiting result

-- the weight is fuel enough
apart-analysis : (n : ℕ) (kept waiting : List Term) → weight waiting ≤ n → Analysis kept waiting (apart n kept waiting)
unfolding apart weight
apart-analysis zero kept [] h = ends (λ t ps m o. Memᴰ.not-nil m)
apart-analysis zero kept (t ∷ ts) h = absurd (omega (arith, size-positive t))
apart-analysis (suc n) kept waiting h = go (takes_apart-looked (kept ++ waiting) waiting) (apart-analysis n)
  where
    go : {r : Option (Term × List Term)} → Looked (kept ++ waiting) waiting r → ((k w : List Term) → weight w ≤ n → Analysis k w (apart n k w)) → Analysis kept waiting (elim r [ some found ↦ apart n (found.0 ∷ kept) found.1 | none ↦ kept ++ waiting ])
    go (taken {t} {rest} p) f = steps p (f (t ∷ kept) rest (omega (arith, taken-lighter p)))
    go (untaken g) f = ends g

-- a step loses no term
step_stays : (kept : List Term) {known waiting rest : List Term} {t : Term} → Taken known waiting t rest → (x : Term) → Memᴰ x (kept ++ waiting) → Memᴰ x ((t ∷ kept) ++ rest)
step_stays kept {rest = rest} {t} p x m = ⊎_elim (λ k. later (Memᴰ.append_left rest k)) (λ w. ⊎_elim here (Memᴰ.append_right (t ∷ kept)) (taken-stays p x w)) (Memᴰ.append_cases kept m)

-- what a step leaves derives
step-sound : (kept waiting : List Term) {rest : List Term} {t : Term} → Taken (kept ++ waiting) waiting t rest → (x : Term) → Memᴰ x ((t ∷ kept) ++ rest) → Derives (kept ++ waiting) x
step-sound kept waiting {t = t} p x m = ⊎_elim old (taken-sound p (λ y. Memᴰ.append_right kept) x) (Memᴰ.append_cases (t ∷ kept) m)
  where
    old : Memᴰ x (t ∷ kept) → Derives (kept ++ waiting) x
    old (here e) = rw e (member (Memᴰ.append_right kept (taken-member p)))
    old (later k) = member (Memᴰ.append_left waiting k)

-- no term of the start is lost
analysis-stays : {kept waiting result : List Term} → Analysis kept waiting result → (x : Term) → Memᴰ x (kept ++ waiting) → Memᴰ x result
analysis-stays (ends f) x m = m
analysis-stays (steps {kept} p a) x m = analysis-stays a x (step_stays kept p x m)

-- each term of the result derives
analysis-sound : {kept waiting result : List Term} → Analysis kept waiting result → (x : Term) → Memᴰ x result → Derives (kept ++ waiting) x
analysis-sound (ends f) x m = member m
analysis-sound (steps {kept} {waiting} p a) x m = derives-cut (step-sound kept waiting p) (analysis-sound a x m)

-- the parts that terms of `ts` give up where `known` is known are in `us`
abbrev PartsIn : List Term → List Term → List Term → Type 0
PartsIn known ts us = (t : Term) (ps : List Term) → Memᴰ t ts → Opens known t ps → (x : Term) → Memᴰ x ps → Memᴰ x us

-- a list holds the parts that its own terms give up
abbrev Closed : List Term → Type 0
Closed ts = PartsIn ts ts ts

-- the result is closed, if the terms kept have been taken apart
analysis-closed : {kept waiting result : List Term} → Analysis kept waiting result → ((known : List Term) → PartsIn known kept (kept ++ waiting)) → Closed result
analysis-closed (ends {kept} {waiting} f) c = λ t ps m o. ⊎_elim (λ k. c (kept ++ waiting) t ps k o) (λ w. absurd (f t ps w o)) (Memᴰ.append_cases kept m)
analysis-closed (steps {kept} {rest = rest} {t = t} p a) c = analysis-closed a next
  where
    next : (known : List Term) → PartsIn known (t ∷ kept) ((t ∷ kept) ++ rest)
    next known s ps (here e) o x m = Memᴰ.append_right (t ∷ kept) (taken-parts p (rw e at o) x m)
    next known s ps (later k) o x m = step_stays kept p x (c known s ps k o x m)

-- `analysed` takes the known terms apart to the end
analysed-analysis : (known : List Term) → Analysis [] known (analysed known)
unfolding analysed
analysed-analysis known = apart-analysis (weight known) [] known (omega arith)

-- so its result is closed
analysed-closed : (known : List Term) → Closed (analysed known)
analysed-closed known = analysis-closed (analysed-analysis known) (λ more t ps m. absurd (Memᴰ.not-nil m))

-- what can be built from a closed list is carried by the rules
builds-carried : (known : List Term) → Closed known → Carried (λ t. T (builds known t))
builds-carried known c = record {
  joins = builds-pair known;
  left = λ t u h. ⊎_elim (λ m. builds-member known t (c (pair t u) _ m opens_pair t (here refl))) (λ b. b.0) (pair-built known t u h);
  right = λ t u h. ⊎_elim (λ m. builds-member known u (c (pair t u) _ m opens_pair u (later (here refl)))) (λ b. b.1) (pair-built known t u h);
  seals = builds-encrypted known;
  content = λ t k h i. ⊎_elim (λ m. builds-member known t (c (encrypted t k) _ m (opens_encrypted i) t (here refl))) (λ b. b.0) (encrypted-built known t k h);
}

-- the decision says yes only of what derives
pub derivable-sound : (known : List Term) (t : Term) → T (derivable known t) → Derives known t
unfolding derivable
derivable-sound known t h = derives-cut (analysis-sound (analysed-analysis known)) (builds-sound (analysed known) t h)

-- and of all of it
pub derivable-complete : (known : List Term) (t : Term) → Derives known t → T (derivable known t)
unfolding derivable
derivable-complete known t = derives-keeps (builds-carried (analysed known) (analysed-closed known)) (λ x m. builds-member (analysed known) x (analysis-stays (analysed-analysis known) x m))

-- the decision is exact
pub derivable-exact : (known : List Term) (t : Term) → T (derivable known t) ↔ Derives known t
derivable-exact known t = (derivable-sound known t, derivable-complete known t)

-- only members count, not their order or number
pub derivable-members : (known other : List Term) → ((x : Term) → Memᴰ x known → Memᴰ x other) → ((x : Term) → Memᴰ x other → Memᴰ x known) → (t : Term) → derivable known t ≡ derivable other t
derivable-members known other f g t =
    let same : Derives known t ↔ Derives other t = (derives-monotone f, derives-monotone g) in
    same_test (derivable known t) (derivable other t) (Iff.trans (derivable-exact known t) (Iff.trans same (Iff.symm (derivable-exact other t))))

-- inference is decidable
pub derives-dec : (known : List Term) (t : Term) → Dec (Derives known t)
derives-dec known t = Dec.of_iff (derivable-exact known t) (test-dec (derivable known t))
