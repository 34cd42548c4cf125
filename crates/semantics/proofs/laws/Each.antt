-- Lists that are related in each place. Assumes nothing.
use Rattle.std.specs.Prelude.{ℕ, zero, suc, ◌≡◌, refl, List, [], ◌∷◌, ◌++◌, map, length, set}
use Rattle.std.proofs.Common.{arith, ap}
use Rattle.std.proofs.Math.Option.{Option, none, some}
use Rattle.std.proofs.Math.ListN.{get_elem?}
use Rattle.semantics.specs.Basic.{mapped, present_ones, joined}
use Rattle.semantics.specs.Same.{Both, none_of, some_of, Each, nil, cons}

module _ {A B : Type 0} {R : A → B → Type 0} where
  -- the lists are equally long
  pub each-length : {ls : List A} {ms : List B} → Each R ls ms → length ls ≡ length ms
  each-length nil = refl
  each-length (cons r rs) = ap suc (each-length rs)

  -- what stands at a place is related
  pub each_at : {ls : List A} {ms : List B} → Each R ls ms → (k : ℕ) → Both R (get_elem? ls k) (get_elem? ms k)
  each_at nil k = none_of
  each_at (cons r rs) zero = some_of r
  each_at (cons r rs) (suc k) = each_at rs k

  -- and so are equally long lists of which that is so
  pub each_from : (ls : List A) (ms : List B) → length ls ≡ length ms → ((k : ℕ) (a : A) (b : B) → get_elem? ls k ≡ some a → get_elem? ms k ≡ some b → R a b) → Each R ls ms
  each_from [] [] e h = nil
  each_from [] (b ∷ ms) e h = absurd (omega arith)
  each_from (a ∷ ls) [] e h = absurd (omega arith)
  each_from (a ∷ ls) (b ∷ ms) e h = cons (h 0 a b refl refl) (each_from ls ms (omega arith) (λ k. h (suc k)))

  -- related ones put in
  pub each_set : {ls : List A} {ms : List B} → Each R ls ms → (k : ℕ) {a : A} {b : B} → R a b → Each R (set ls k a) (set ms k b)
  each_set nil k r = nil
  each_set (cons q qs) zero r = cons r qs
  each_set (cons q qs) (suc k) r = cons q (each_set qs k r)

  -- lists one after the other
  pub each_append : {ls ls' : List A} {ms ms' : List B} → Each R ls ms → Each R ls' ms' → Each R (ls ++ ls') (ms ++ ms')
  each_append nil rs' = rs'
  each_append (cons r rs) rs' = cons r (each_append rs rs')

  -- lists made from one list
  pub each-joined : {C : Type 0} (f : C → List A) (g : C → List B) → ((c : C) → Each R (f c) (g c)) → (cs : List C) → Each R (joined f cs) (joined g cs)
  each-joined f g h [] = nil
  each-joined f g h (c ∷ cs) = each_append (h c) (each-joined f g h cs)

  -- and of those that are there
  pub each-present : {C : Type 0} (f : C → Option A) (g : C → Option B) → ((c : C) → Both R (f c) (g c)) → (cs : List C) → Each R (present_ones (map f cs)) (present_ones (map g cs))
  each-present f g h [] = nil
  each-present f g h (c ∷ cs) = go (f c) (g c) (h c) (each-present f g h cs)
    where
      go : (o : Option A) (p : Option B) → Both R o p → Each R (present_ones (map f cs)) (present_ones (map g cs)) → Each R (present_ones (o ∷ map f cs)) (present_ones (p ∷ map g cs))
      go none none none_of rest = rest
      go (some a) (some b) (some_of r) rest = cons r rest
      go none (some b) x4 rest = elim x4 [ ]
      go (some a) none x4 rest = elim x4 [ ]

  -- two that may be missing, the other way round
  pub both-turned : {o : Option A} {o' : Option B} {Q : B → A → Type 0} → ((x : A) (y : B) → R x y → Q y x) → Both R o o' → Both Q o' o
  both-turned h none_of = none_of
  both-turned h (some_of r) = some_of (h _ _ r)

  -- and so for lists
  pub each-turned : {ls : List A} {ms : List B} {Q : B → A → Type 0} → ((x : A) (y : B) → R x y → Q y x) → Each R ls ms → Each Q ms ls
  each-turned h nil = nil
  each-turned h (cons r rs) = cons (h _ _ r) (each-turned h rs)

module _ {A B C D : Type 0} {R : A → B → Type 0} {S : C → D → Type 0} where
  -- lists made from related lists
  pub each-joined-by : (f : A → List C) (g : B → List D) → ((a : A) (b : B) → R a b → Each S (f a) (g b)) → {ls : List A} {ms : List B} → Each R ls ms → Each S (joined f ls) (joined g ms)
  each-joined-by f g h nil = nil
  each-joined-by f g h (cons r rs) = each_append (h _ _ r) (each-joined-by f g h rs)

  -- and changed in each place
  pub each_map : (f : A → C) (g : B → D) → ((a : A) (b : B) → R a b → S (f a) (g b)) → {ls : List A} {ms : List B} → Each R ls ms → Each S (map f ls) (map g ms)
  each_map f g h nil = nil
  each_map f g h (cons r rs) = cons (h _ _ r) (each_map f g h rs)

  -- what is made from two that may be missing
  pub both-mapped : (f : A → C) (g : B → D) → ((x : A) (y : B) → R x y → S (f x) (g y)) → {o : Option A} {o' : Option B} → Both R o o' → Both S (mapped f o) (mapped g o')
  both-mapped f g h none_of = none_of
  both-mapped f g h (some_of r) = some_of (h _ _ r)
