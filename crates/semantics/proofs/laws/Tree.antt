-- The laws of the list of all sequences of moves, for any moves. Assumes nothing.
use Prim.Native.Nat.{ℕ, zero, suc, ◌≤◌, ◌<◌}
use Rattle.std.proofs.Math.Nat.{le_refl}
use Rattle.std.proofs.Common.{arith, inl, inr, ⊎_elim}
use Rattle.std.proofs.Math.Decide.{dec_lt}
use Rattle.std.specs.Prelude.{◌≡◌, ◌↔◌, ◌⊎◌, length}
use Rattle.std.proofs.Math.Path.{refl}
use Rattle.std.proofs.Math.Option.{some}
use mathlib.Core.List.Memᴰ
use mathlib.Core.List.{List, [], ◌∷◌, ◌++◌, map, Memᴰ}
use Rattle.std.proofs.Math.ListN.{get_elem?}
use Rattle.std.proofs.lemmas.List.{length-map}
use Rattle.semantics.specs.Basic.{joined, Ordered, ordered-none, ordered-more}
use Rattle.semantics.specs.Tree.{Follows, stays, moves, Earlier, shorter, differs, agrees, listed}
use Rattle.semantics.proofs.laws.List.{mem-cases, mem-joined, mem-map, ordered-imply, ordered-map, ordered-joined, ordered_at, Within, joined-fewer}

module _ {State Move : Type 0} {Step : State → Move → State → Type 0} where
  -- a sequence in two parts passes through a state between them
  pub follows-parts : (ms : List Move) {ms' : List Move} {s e : State} → Follows Step s (ms ++ ms') e → (t : State) × Follows Step s ms t × Follows Step t ms' e
  follows-parts [] {s = s} h = (s, stays, h)
  follows-parts (m ∷ ms) (moves p h) = let w = follows-parts ms h in (w.0, moves p w.1, w.2)

  -- two sequences one after the other
  pub follows-append : {ms ms' : List Move} {s t e : State} → Follows Step s ms t → Follows Step t ms' e → Follows Step s (ms ++ ms') e
  follows-append stays k = k
  follows-append (moves p h) k = moves p (follows-append h k)

  -- moves that fix the state after them fix the end
  pub follows-determined : ((s : State) (m : Move) (t t' : State) → Step s m t → Step s m t' → t ≡ t')
      → {s t t' : State} {ms : List Move} → Follows Step s ms t → Follows Step s ms t' → t ≡ t'
  follows-determined one stays stays = refl
  follows-determined one (moves {s = s} {s' = u} {m = m} p h) (moves {s' = v} q k) = follows-determined one h (rw (one s m v u q p) at k)

  module _ (Good : State → Type 0) (keeps : (s : State) → Good s → (m : Move) (s' : State) → Step s m s' → Good s') where
    -- a property that steps keep holds at the end
    pub follows-good : {s e : State} {ms : List Move} → Good s → Follows Step s ms e → Good e
    follows-good g stays = g
    follows-good g (moves {s = s} {s' = s'} {m = m} p h) = follows-good (keeps s g m s' p) h

    -- steps that are allowed in another way too
    pub follows-map : {Step' : State → Move → State → Type 0} → ((s : State) → Good s → (m : Move) (s' : State) → Step s m s' → Step' s m s')
        → {s e : State} {ms : List Move} → Good s → Follows Step s ms e → Follows Step' s ms e
    follows-map implied g stays = stays
    follows-map implied g (moves {s = s} {s' = s'} {m = m} p h) = moves (implied s g m s' p) (follows-map implied (keeps s g m s' p) h)

module _ {Move : Type 0} {Before : Move → Move → Type 0} where
  -- a sequence comes before those that it begins
  pub earlier-prefix : (ms : List Move) (m : Move) (ms' : List Move) → Earlier Before ms (ms ++ m ∷ ms')
  earlier-prefix [] m ms' = shorter
  earlier-prefix (l ∷ ms) m ms' = agrees (earlier-prefix ms m ms')

  -- one of two sequences with a first move comes before the other by that move or by the rest
  pub earlier-cases : {m m' : Move} {ms ms' : List Move} → Earlier Before (m ∷ ms) (m' ∷ ms') → Before m m' ⊎ ((m ≡ m') × Earlier Before ms ms')
  earlier-cases (differs p) = inl p
  earlier-cases (agrees h) = inr (refl, h)

  -- no sequence comes before itself
  pub earlier-irreflexive : ((m : Move) → ¬ Before m m) → (ms : List Move) → ¬ Earlier Before ms ms
  earlier-irreflexive irr [] h = elim h [ ]
  earlier-irreflexive irr (m ∷ ms) h = ⊎_elim (irr m) (λ w. earlier-irreflexive irr ms w.1) (earlier-cases h)

  module _ (asymmetric : (m m' : Move) → Before m m' → ¬ Before m' m) where
    -- of two sequences one at most comes before the other
    pub earlier-asymmetric : {ms ms' : List Move} → Earlier Before ms ms' → ¬ Earlier Before ms' ms
    earlier-asymmetric shorter k = elim k [ ]
    earlier-asymmetric (differs {m = m} {m' = m'} p) k = ⊎_elim (asymmetric m m' p) (λ w. asymmetric m m (rw w.0 at p) (rw w.0 at p)) (earlier-cases k)
    earlier-asymmetric (agrees {m = m} h) k = ⊎_elim (λ p. asymmetric m m p p) (λ w. earlier-asymmetric h w.1) (earlier-cases k)

    module _ {State : Type 0} {xs : List (List Move × State)}
        (o : Ordered (λ e f. Earlier Before e.0 f.0) xs) (i j : ℕ) {e f : List Move × State} (p : get_elem? xs i ≡ some e) (q : get_elem? xs j ≡ some f) where
      -- the earlier sequence stands at the earlier place
      pub places-order : (i < j) ↔ Earlier Before e.0 f.0
      places-order = (ordered_at o i j p q, λ h. go h (dec_lt i j) (dec_lt j i))
        where
          go : Earlier Before e.0 f.0 → Dec (i < j) → Dec (j < i) → i < j
          go h (yes l) d = l
          go h (no n) (yes l) = absurd (earlier-asymmetric h (ordered_at o j i q p l))
          go h (no n) (no n') =
              let r : i ≡ j = omega arith in
              let same : e ≡ f = cc in
              absurd (earlier-asymmetric (rw same at h) (rw same at h))

      -- a sequence stands at one place only
      pub places-once : e.0 ≡ f.0 → i ≡ j
      places-once r = go (dec_lt i j) (dec_lt j i)
        where
          go : Dec (i < j) → Dec (j < i) → i ≡ j
          go (yes l) d = let h = rw r at (ordered_at o i j p q l) in absurd (earlier-asymmetric h h)
          go (no n) (yes l) = let h = rw r at (ordered_at o j i q p l) in absurd (earlier-asymmetric h h)
          go (no n) (no n') = omega arith

module _ {State Move : Type 0} (next : State → List (Move × State)) where
  -- with no move left there is the empty sequence alone
  pub listed-zero : (s : State) → listed next zero s ≡ ([], s) ∷ []
  unfolding listed
  listed-zero s = refl

  -- with a move left there are the sequences after each first move too
  pub listed_suc : (n : ℕ) (s : State) → listed next (suc n) s ≡ ([], s) ∷ joined (λ branch. map (λ e. (branch.0 ∷ e.0, e.1)) (listed next n branch.1)) (next s)
  unfolding listed
  listed_suc n s = refl

  -- the empty sequence is the first
  pub listed-first : (n : ℕ) (s : State) → get_elem? (listed next n s) 0 ≡ some ([], s)
  unfolding listed
  listed-first zero s = refl
  listed-first (suc n) s = refl

  -- the sequences that begin with a move, each with its end
  abbrev after : ℕ → Move × State → List (List Move × State)
  after n b = map (λ e. (b.0 ∷ e.0, e.1)) (listed next n b.1)

  -- such a sequence is that move and a sequence after it
  mem-after : (n : ℕ) (b : Move × State) {e : List Move × State} → Memᴰ e (after n b) ↔ ((d : List Move × State) × Memᴰ d (listed next n b.1) × (e ≡ (b.0 ∷ d.0, d.1)))
  mem-after n b = mem-map (λ e. (b.0 ∷ e.0, e.1)) (listed next n b.1)

  -- every sequence of the list is allowed, as an element of the list
  element-sound : (n : ℕ) (s : State) {e : List Move × State} → Memᴰ e (listed next n s) → Follows (λ s m s'. Memᴰ (m, s') (next s)) s e.0 e.1
  unfolding listed
  element-sound zero s h = mem-cases h (λ q. rw q stays) (λ m. absurd (Memᴰ.not-nil m))
  element-sound (suc n) s h =
      mem-cases h (λ q. rw q stays)
      (λ m. let w = (mem-joined (after n) (next s)).0 m in let v = (mem-after n w.0).0 w.2 in rw v.2 (moves w.1 (element-sound n w.0.1 v.1)))

  -- every sequence of the list is allowed
  pub listed-sound : (n : ℕ) (s : State) {ms : List Move} {e : State} → Memᴰ (ms, e) (listed next n s) → Follows (λ s m s'. Memᴰ (m, s') (next s)) s ms e
  listed-sound n s h = element-sound n s h

  module _ (Good : State → Type 0) (keeps : (s : State) → Good s → (m : Move) (s' : State) → Memᴰ (m, s') (next s) → Good s') where
    -- every allowed sequence is in the list, where the fuel is at least a measure that each move lowers
    pub listed-complete : (measure : State → ℕ) → ((s : State) → Good s → (m : Move) (s' : State) → Memᴰ (m, s') (next s) → measure s' < measure s)
        → (n : ℕ) (s : State) → Good s → measure s ≤ n → {ms : List Move} {e : State} → Follows (λ s m s'. Memᴰ (m, s') (next s)) s ms e → Memᴰ (ms, e) (listed next n s)
    unfolding listed
    listed-complete measure falls zero s g l stays = Memᴰ.head refl
    listed-complete measure falls (suc n) s g l stays = Memᴰ.head refl
    listed-complete measure falls zero s g l (moves {s' = s'} {m = m} p h) = let f = falls s g m s' p in absurd (omega arith)
    listed-complete measure falls (suc n) s g l (moves {s' = s'} {e = e} {m = m} {ms = ms} p h) =
        let f = falls s g m s' p in
        let d = listed-complete measure falls n s' (keeps s g m s' p) (omega arith) h in
        Memᴰ.tail ((mem-joined (after n) (next s)).1 ((m, s'), p, (mem-after n (m, s')).1 ((ms, e), d, refl)))

    -- the list is in order, where the moves of each state are
    pub listed-ordered : (Before : Move → Move → Type 0) → ((s : State) → Good s → Ordered (λ b c. Before b.0 c.0) (next s))
        → (n : ℕ) (s : State) → Good s → Ordered (λ e f. Earlier Before e.0 f.0) (listed next n s)
    unfolding listed
    listed-ordered Before ordered zero s g = ordered-more (λ e h. absurd (Memᴰ.not-nil h)) ordered-none
    listed-ordered Before ordered (suc n) s g =
        ordered-more first (ordered-joined (after n) (ordered s g) (λ b h. within b (listed-ordered Before ordered n b.1 (keeps s g b.0 b.1 h))) across)
      where
        first : (e : List Move × State) → Memᴰ e (joined (after n) (next s)) → Earlier Before [] e.0
        first e h = let w = (mem-joined (after n) (next s)).0 h in rw ((mem-after n w.0).0 w.2).2 shorter

        within : (b : Move × State) → Ordered (λ e f. Earlier Before e.0 f.0) (listed next n b.1) → Ordered (λ e f. Earlier Before e.0 f.0) (after n b)
        within b o = ordered-map (λ e. (b.0 ∷ e.0, e.1)) (ordered-imply (λ x y k. agrees k) o)

        across : (b c : Move × State) (e f : List Move × State) → Before b.0 c.0 → Memᴰ e (after n b) → Memᴰ f (after n c) → Earlier Before e.0 f.0
        across b c e f k h h' = rw (((mem-after n b).0 h).2, ((mem-after n c).0 h').2) (differs k)

module _ {State Move : Type 0} (few next : State → List (Move × State)) where
  -- lists after a move, one no longer than the other
  after_fewer : (n : ℕ) → ((s : State) → length (listed few n s) ≤ length (listed next n s)) → (b : Move × State) → length (after few n b) ≤ length (after next n b)
  after_fewer n fewer b =
      let before : List Move × State → List Move × State = λ e. (b.0 ∷ e.0, e.1) in
      omega (arith, fewer b.1, length-map (listed few n b.1) before, length-map (listed next n b.1) before)

  -- fewer moves make no longer list
  pub listed-fewer : ((s : State) → Within (few s) (next s)) → (n : ℕ) (s : State) → length (listed few n s) ≤ length (listed next n s)
  unfolding listed
  listed-fewer within zero s = le_refl _
  listed-fewer within (suc n) s = omega (arith, joined-fewer (after few n) (after next n) (after_fewer n (listed-fewer within n)) (within s))
