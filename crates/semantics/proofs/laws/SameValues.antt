-- Values of rows and messages where readings agree. Assumes nothing.
use Prim.Native.Nat.{ℕ, ◌<◌}
use Rattle.std.specs.Prelude.{◌≡◌, Bool, true, false, ◌&&◌, T, length}
use Rattle.std.proofs.Math.Path.{refl}
use Rattle.std.proofs.Common.{sym, ap, ◌∙◌, inl, inr, true≢false}
use Rattle.std.proofs.Math.Bool.{not}
use mathlib.Core.List.Memᴰ.{head as here}
use mathlib.Core.List.Memᴰ.{tail as later}
use mathlib.Core.List.{List, [], ◌∷◌, ◌++◌, map, Memᴰ}
use Rattle.std.proofs.Math.Option.{Option, none, some}
use Rattle.semantics.specs.Basic.{present, and_then, mapped, keep, present_ones, numbers_from}
use Rattle.semantics.specs.Term.{Atom, trusted, untrusted, global, intruder, role, variable, local, Term}
use Rattle.semantics.specs.Table.{Row, atomic, pk_of, sk_of, shared_of, pair_of, encrypted_of, variable_atom}
use Rattle.semantics.specs.Value.{Reading, value_of, beneath}
use Rattle.semantics.specs.Roles.{EventKind, send, read, claim, Event}
use Rattle.semantics.specs.Runs.{Run, atom_of, atom_at}
use Rattle.semantics.specs.State.{Value, Progress, term_of, assigned, reading_in, unset_beneath, new_variables, Message}
use Rattle.semantics.specs.Moves.{message}
use Rattle.semantics.specs.Guarantee.{refers_to, GoodTable, HasValue}
use Rattle.semantics.proofs.laws.Test.{and_then-some}
use Rattle.semantics.proofs.laws.List.{mem-present, mem-map}
use Rattle.semantics.proofs.laws.Value.{row_value, value-unfolds, value-within, value-exact, row-induction, beneath-iff}
use Rattle.semantics.proofs.laws.Reached.{or_else, assigned-append, assigned-stays}
use Rattle.semantics.specs.Same.{Both, none_of, some_of, SameValue, SameSets, SameRun}
use Rattle.semantics.proofs.laws.Each.{both-turned}

module _ {rows : List Row} (good : GoodTable rows) (reading reading' : Reading) where
  -- readings that agree on every atom beneath a row give it one value
  pub value-beneath : (i : ℕ) → i < length rows → ((x : ℕ) (a : Atom) → atom_at rows x ≡ some a → T (beneath rows x i) → reading a ≡ reading' a) → value_of reading rows i ≡ value_of reading' rows i
  value-beneath = row-induction good (λ i. ((x : ℕ) (a : Atom) → atom_at rows x ≡ some a → T (beneath rows x i) → reading a ≡ reading' a) → value_of reading rows i ≡ value_of reading' rows i)
      (λ i row e below agree.
      value-unfolds good reading i e
      ∙ at_row row (λ a f. agree i a (ap atom_of e ∙ ap (λ (r : Row). atom_of (some r)) f) ((beneath-iff good i i e).1 (inl refl)))
      (λ r m. below r m (λ x a f b. agree x a f ((beneath-iff good x i e).1 (inr (r, m, b)))))
      ∙ sym (value-unfolds good reading' i e))
    where
      at_row : (row : Row) → ((a : Atom) → row ≡ atomic a → reading a ≡ reading' a) → ((r : ℕ) → Memᴰ r (refers_to row) → value_of reading rows r ≡ value_of reading' rows r)
          → row_value reading (value_of reading rows) row ≡ row_value reading' (value_of reading' rows) row
      at_row (atomic a) own h = own a refl
      at_row (pk_of a) own h = rw (h a (here refl))
      at_row (sk_of a) own h = rw (h a (here refl))
      at_row (shared_of a b) own h = rw (h a (here refl), h b (later (here refl)))
      at_row (pair_of l r) own h = rw (h l (here refl), h r (later (here refl)))
      at_row (encrypted_of l r) own h = rw (h l (here refl), h r (later (here refl)))

  -- readings that agree on every atom of the table
  pub value_same : ((x : ℕ) (a : Atom) → atom_at rows x ≡ some a → reading a ≡ reading' a) → (i : ℕ) → value_of reading rows i ≡ value_of reading' rows i
  value_same agree i = go (value_of reading rows i) refl (value_of reading' rows i) refl
    where
      inside : i < length rows → value_of reading rows i ≡ value_of reading' rows i
      inside l = value-beneath i l (λ x a f b. agree x a f)

      go : (o : Option Term) → value_of reading rows i ≡ o → (o' : Option Term) → value_of reading' rows i ≡ o' → value_of reading rows i ≡ value_of reading' rows i
      go (some t) e o' e' = inside (value-within reading rows i (t, e))
      go none e (some t) e' = inside (value-within reading' rows i (t, e'))
      go none e none e' = e ∙ sym e'

  -- a row with a value keeps it where every atom does
  pub value_stays : ((x : ℕ) (a : Atom) (t : Term) → reading a ≡ some t → reading' a ≡ some t) → (i : ℕ) → HasValue reading rows i → value_of reading rows i ≡ value_of reading' rows i
  value_stays stay i w =
      let l = value-within reading rows i w in
      value-beneath i l (λ x a f b. let v = (value-exact good reading i l).0 w x a f b in v.1 ∙ sym (stay x a v.0 v.1))

-- what a run reads stays as variables are set
pub reading-stays : (rows : List Row) (u : ℕ) (run : Run) (sets more : List (Atom × Value)) (a : Atom) (t : Term) → reading_in rows u run sets a ≡ some t → reading_in rows u run (sets ++ more) a ≡ some t
unfolding reading_in
reading-stays rows u run sets more (trusted n) t e = e
reading-stays rows u run sets more (untrusted n) t e = e
reading-stays rows u run sets more (global n) t e = e
reading-stays rows u run sets more (intruder n) t e = e
reading-stays rows u run sets more (role i) t e = e
reading-stays rows u run sets more (variable n y) t e =
    let v = (and_then-some (assigned (variable n y) sets) (term_of rows)).0 e in
    (and_then-some (assigned (variable n y) (sets ++ more)) (term_of rows)).1 (v.0, assigned-stays (variable n y) sets more v.1, v.2)
reading-stays rows u run sets more (local n w) t e = e

-- equal values of the table's variables give equal readings of its atoms
pub reading-same : (rows : List Row) (u : ℕ) (run : Run) (sets sets' : List (Atom × Value)) → SameSets rows sets sets'
    → (x : ℕ) (a : Atom) → atom_at rows x ≡ some a → reading_in rows u run sets a ≡ reading_in rows u run sets' a
unfolding reading_in
reading-same rows u run sets sets' h x (trusted n) f = refl
reading-same rows u run sets sets' h x (untrusted n) f = refl
reading-same rows u run sets sets' h x (global n) f = refl
reading-same rows u run sets sets' h x (intruder n) f = refl
reading-same rows u run sets sets' h x (role i) f = refl
reading-same rows u run sets sets' h x (variable n y) f = go (assigned (variable n y) sets) (assigned (variable n y) sets') (h x n y f)
  where
    go : (o o' : Option Value) → Both (SameValue rows) o o' → and_then o (term_of rows) ≡ and_then o' (term_of rows)
    go none none none_of = refl
    go (some v) (some w) (some_of e) = e
    go none (some w) x4 = elim x4 [ ]
    go (some v) none x5 = elim x5 [ ]
reading-same rows u run sets sets' h x (local n w) f = refl

-- a message depends on the value of its event's row only
pub message-same : (rows : List Row) (u : ℕ) (run : Run) (sets sets' : List (Atom × Value)) (e : Event)
    → value_of (reading_in rows u run sets) rows e.row ≡ value_of (reading_in rows u run sets') rows e.row → message rows (reading_in rows u run sets) run e ≡ message rows (reading_in rows u run sets') run e
unfolding message reading_in
message-same rows u run sets sets' e h =
    ap (λ (o : Option Term). and_then (reading_in rows u run sets (role run.role)) (λ a. and_then (reading_in rows u run sets (role e.peer)) (λ b. mapped {B = Message} (λ t. record { sender = a; receiver = b; term = t }) o))) h

-- tests that agree on a list keep the same of it
keep_same : {A : Type 0} (p q : A → Bool) (xs : List A) → ((x : A) → Memᴰ x xs → p x ≡ q x) → keep p xs ≡ keep q xs
keep_same p q [] h = refl
keep_same {A} p q (x ∷ xs) h = go (p x) (q x) (h x (here refl)) (keep_same p q xs (λ y m. h y (later m)))
  where
    go : (b c : Bool) → b ≡ c → keep p xs ≡ keep q xs → ◌≡◌ {A = List A} (elim b [ true ↦ x ∷ keep p xs | false ↦ keep p xs ]) (elim c [ true ↦ x ∷ keep q xs | false ↦ keep q xs ])
    go true true e r = ap (λ l. x ∷ l) r
    go true false e r = absurd (true≢false e)
    go false true e r = absurd (true≢false (sym e))
    go false false e r = r

module _ (rows : List Row) (sets sets' : List (Atom × Value)) (same : SameSets rows sets sets') where
  -- an atom of the table is still to set in both or in neither
  unset-at : (x : ℕ) (a : Atom) → atom_at rows x ≡ some a → (variable_atom a && not (present (assigned a sets))) ≡ (variable_atom a && not (present (assigned a sets')))
  unset-at x (trusted n) f = refl
  unset-at x (untrusted n) f = refl
  unset-at x (global n) f = refl
  unset-at x (intruder n) f = refl
  unset-at x (role i) f = refl
  unset-at x (variable n y) f = go (assigned (variable n y) sets) (assigned (variable n y) sets') (same x n y f)
    where
      go : (o o' : Option Value) → Both (SameValue rows) o o' → not (present o) ≡ not (present o')
      go none none none_of = refl
      go (some v) (some w) (some_of e) = refl
      go none (some w) x4 = elim x4 [ ]
      go (some v) none x5 = elim x5 [ ]
  unset-at x (local n w) f = refl

  -- so beneath a pattern the same variables are
  unset-same : (pattern : ℕ) → unset_beneath rows sets pattern ≡ unset_beneath rows sets' pattern
  unfolding unset_beneath
  unset-same pattern =
      keep_same (λ a. variable_atom a && not (present (assigned a sets))) (λ a. variable_atom a && not (present (assigned a sets'))) (present_ones (map (atom_at rows) places))
      (λ a m. let w = (mem-map (atom_at rows) places).0 ((mem-present (map (atom_at rows) places)).0 m) in unset-at w.0 a (sym w.2))
    where
      places : List ℕ
      places = keep (λ x. beneath rows x pattern) (numbers_from 0 (length rows))

  -- an event gives values to the same variables
  pub new-same : (kind : EventKind) (row : ℕ) → new_variables rows sets kind row ≡ new_variables rows sets' kind row
  unfolding new_variables
  new-same send row = refl
  new-same read row = unset-same row
  new-same (claim kind) row = refl

  -- more values on both sides
  pub sets-append : (more : List (Atom × Value)) → SameSets rows (sets ++ more) (sets' ++ more)
  sets-append more x n y f =
      rw (assigned-append (variable n y) sets more, assigned-append (variable n y) sets' more)
      (go (assigned (variable n y) sets) (assigned (variable n y) sets') (assigned (variable n y) more) (same x n y f))
    where
      itself : (o : Option Value) → Both (SameValue rows) o o
      itself none = none_of
      itself (some v) = some_of refl

      go : (o o' m : Option Value) → Both (SameValue rows) o o' → Both (SameValue rows) (or_else o m) (or_else o' m)
      go none none m none_of = itself m
      go (some v) (some w) m (some_of e) = some_of e
      go none (some w) m x3 = elim x3 [ ]
      go (some v) none m x4 = elim x4 [ ]

-- equal values and positions, the other way round
pub runs-turned : {rows : List Row} (p q : Progress) → SameRun rows p q → SameRun rows q p
runs-turned p q same = record { done = sym same.done; sets = λ x n y f. both-turned (λ v w e. sym e) (same.sets x n y f) }
