-- The runs with which a row is a value, by its kind, and whether a row with a run is one. Assumes nothing.
use Rattle.std.specs.Prelude.{None, ℕ, ◌+◌, ◌-◌, ◌*◌, ◌<◌, ◌≤◌, ◌≡◌, refl, ◌↔◌, ◌⊎◌, max, Bool, cond, T, ltb, leb, eqb, length, get_or}
use Rattle.std.proofs.Common.{add-one, sym, ap, ◌∙◌, inl, inr, ⊎_elim}
use Rattle.std.proofs.Math.Decide.{dec_lt}
use native.Mathlib.Omega.{arith}
use Rattle.std.proofs.Math.Bool.{true, false}
use mathlib.Core.List.{List, [], ◌∷◌, Memᴰ}
use Rattle.std.proofs.Math.Option.{some, some-injective, none-ne-some}
use borrow.Author.Tests.{lt-leb, ne_eqb, ltb-true, ltb-false}
use Rattle.semantics.specs.Basic.{numbers_from}
use Rattle.semantics.specs.Term.{VariableType, agent_type, fresh_type, Atom, trusted, untrusted, global, intruder, role, variable, local}
use Rattle.semantics.specs.Table.{Row, variable_atom}
use Rattle.semantics.specs.Runs.{atom_of, atom_at}
use Rattle.semantics.specs.State.{Value}
use Rattle.semantics.specs.Moves.{values_at, values_of_type, candidates}
use Rattle.semantics.specs.Replay.{is_value_of, suits}
use Rattle.semantics.specs.Allowed.{Takes, takes_none, takes_more}
use Rattle.semantics.specs.Allowed as allowed
use Rattle.semantics.specs.Encoding.{RowBytes, trusted_bytes, untrusted_bytes, global_bytes, intruder_bytes, role_bytes, agent_variable_bytes, fresh_variable_bytes, local_bytes, public_bytes, secret_bytes, shared_bytes, pair_bytes, encrypted_bytes}
use Rattle.semantics.proofs.laws.Test.{both, both_left, passes-true, fails-false}
use Rattle.semantics.proofs.laws.List.{mem-joined, mem-map, mem-numbers_from}
use Rattle.semantics.proofs.laws.Moves.{suits-exact, mem-candidates}
use Rattle.rows.specs.Rows.{rows_of, Shape}
use Rattle.rows.specs.laws.Decode.{six-atom}
use Rattle.cells.specs.Cells.{Canonical}
use Rattle.cells.specs.laws.Cells.{row-there, row-decodes}
use Rattle.variables.specs.Variables.{is_value, is_fresh, first_run, run_count, values_from, NamesAtom, NotBefore, NextOf, has_next, has_none, TellsValue, takes, takes_not}
use Rattle.variables.specs.laws.Values.{value_at, spanned, from-none, from_next, values-end, values-skip, values-next}

-- the type of a variable by its right byte
decodes-type : {k l r num : ℕ} {type : VariableType} {row : Row} → RowBytes k l r row → atom_of (some row) ≡ some (variable num type) → eqb r 1 ≡ is_fresh type
decodes-type trusted_bytes e = let z : ◌≡◌ {A = ℕ} 0 1 = cc in absurd (omega arith)
decodes-type untrusted_bytes e = let z : ◌≡◌ {A = ℕ} 0 1 = cc in absurd (omega arith)
decodes-type global_bytes e = let z : ◌≡◌ {A = ℕ} 0 1 = cc in absurd (omega arith)
decodes-type intruder_bytes e = let z : ◌≡◌ {A = ℕ} 0 1 = cc in absurd (omega arith)
decodes-type (role_bytes i) e = let z : ◌≡◌ {A = ℕ} 0 1 = cc in absurd (omega arith)
decodes-type {type = type} agent_variable_bytes e = let q : agent_type ≡ type = cc in rw (← q)
decodes-type {type = type} fresh_variable_bytes e = let q : fresh_type ≡ type = cc in rw (← q)
decodes-type local_bytes e = let z : ◌≡◌ {A = ℕ} 0 1 = cc in absurd (omega arith)
decodes-type public_bytes e = absurd (none-ne-some _ e)
decodes-type secret_bytes e = absurd (none-ne-some _ e)
decodes-type shared_bytes e = absurd (none-ne-some _ e)
decodes-type pair_bytes e = absurd (none-ne-some _ e)
decodes-type encrypted_bytes e = absurd (none-ne-some _ e)

-- the values at a row are its runs one after the other
abbrev Spanned : (runs y k : ℕ) → Row → VariableType → Type 0
Spanned runs y k row type = values_at runs type y (atom_of (some row)) ≡ spanned y (first_run k) (run_count runs (is_fresh type) k)

decodes-both : (runs y : ℕ) {k l r : ℕ} {row : Row} → RowBytes k l r row → Spanned runs y k row agent_type × Spanned runs y k row fresh_type
unfolding run_count
decodes-both runs y trusted_bytes = (refl, refl)
decodes-both runs y untrusted_bytes = (refl, refl)
decodes-both runs y global_bytes = (refl, refl)
decodes-both runs y intruder_bytes = (refl, refl)
decodes-both runs y (role_bytes i) = (refl, refl)
decodes-both runs y agent_variable_bytes = (refl, refl)
decodes-both runs y fresh_variable_bytes = (refl, refl)
decodes-both runs y local_bytes = (refl, refl)
decodes-both runs y public_bytes = (refl, refl)
decodes-both runs y secret_bytes = (refl, refl)
decodes-both runs y shared_bytes = (refl, refl)
decodes-both runs y pair_bytes = (refl, refl)
decodes-both runs y encrypted_bytes = (refl, refl)

decodes-values : (runs : ℕ) (type : VariableType) (y : ℕ) {k l r : ℕ} {row : Row} → RowBytes k l r row → Spanned runs y k row type
decodes-values runs agent_type y b = (decodes-both runs y b).0
decodes-values runs fresh_type y b = (decodes-both runs y b).1

-- one or none
one-or-none : (b : Bool) → cond b 1 0 ≤ 1
one-or-none true = omega arith
one-or-none false = omega arith

module _ (runs : ℕ) where
  -- only a local constant is a value with several runs, those of the scenario
  count_small : (fresh : Bool) (k : ℕ) → (k ≡ 7 → ⊥) → run_count runs fresh k ≤ 1
  unfolding run_count
  count_small true k d = rw (ne_eqb k 7 d) (one-or-none (eqb k 4))
  count_small false k d = one-or-none (leb k 2)

  count-local : (fresh : Bool) → run_count runs fresh 7 ≤ runs
  unfolding run_count
  count-local true = omega arith
  count-local false = omega arith

  -- a row that is no atom is no value
  count_none : (fresh : Bool) (k : ℕ) → 8 ≤ k → run_count runs fresh k ≡ 0
  unfolding run_count
  count_none true k l = rw (ne_eqb k 4 (λ e. omega arith), ne_eqb k 7 (λ e. omega arith))
  count_none false k l = rw (lt-leb k 2 (omega arith))

  -- an atom that a row with a run names
  abbrev Named : Row → ℕ → Type 0
  Named row w = (b : Atom) × (atom_of (some row) ≡ some b) × (w ≤ runs) × Canonical b w

  decodes-named : (fresh : Bool) {k l r : ℕ} {row : Row} → RowBytes k l r row → (w : ℕ) → first_run k ≤ w → w < first_run k + run_count runs fresh k → Named row w
  decodes-named fresh (trusted_bytes {n}) w a b = let s = count_small fresh 1 (λ e. omega arith) in (trusted n, refl, omega arith, omega arith)
  decodes-named fresh (untrusted_bytes {n}) w a b = let s = count_small fresh 2 (λ e. omega arith) in (untrusted n, refl, omega arith, omega arith)
  decodes-named fresh (global_bytes {n}) w a b = let s = count_small fresh 3 (λ e. omega arith) in (global n, refl, omega arith, omega arith)
  decodes-named fresh (intruder_bytes {n}) w a b = let s = count_small fresh 4 (λ e. omega arith) in (intruder n, refl, omega arith, omega arith)
  decodes-named fresh (role_bytes {i} l) w a b = let s = count_small fresh 5 (λ e. omega arith) in (role i, refl, omega arith, omega arith)
  decodes-named fresh (agent_variable_bytes {n}) w a b = let s = count_small fresh 6 (λ e. omega arith) in (variable n agent_type, refl, omega arith, omega arith)
  decodes-named fresh (fresh_variable_bytes {n}) w a b = let s = count_small fresh 6 (λ e. omega arith) in (variable n fresh_type, refl, omega arith, omega arith)
  decodes-named fresh (local_bytes {n}) w a b = let s = count-local fresh in (local n 0, refl, omega arith, tt)
  decodes-named fresh public_bytes w a b = let s = count_none fresh 8 (omega arith) in absurd (omega arith)
  decodes-named fresh secret_bytes w a b = let s = count_none fresh 9 (omega arith) in absurd (omega arith)
  decodes-named fresh shared_bytes w a b = let s = count_none fresh 10 (omega arith) in absurd (omega arith)
  decodes-named fresh pair_bytes w a b = let s = count_none fresh 11 (omega arith) in absurd (omega arith)
  decodes-named fresh encrypted_bytes w a b = let s = count_none fresh 12 (omega arith) in absurd (omega arith)

-- a value is in the list of a variable exactly if the test says so
is-value : (rows : List Row) (runs : ℕ) (a : Atom) (v : Value) → T (is_value_of v (candidates rows runs a)) ↔ Memᴰ v (candidates rows runs a)
unfolding suits
is-value rows runs a v =
    let b = is_value_of v (candidates rows runs a) in
    let s = suits-exact rows runs (a ∷ []) (v ∷ []) in (
      λ t. (mem-candidates rows runs a).1 (taken (s.0 (both b true t tt))),
      λ m. both_left b true (s.1 (takes_more ((mem-candidates rows runs a).0 m) takes_none)),
    )
  where
    taken : Takes rows runs (a ∷ []) (v ∷ []) → allowed.MayTake rows runs a v
    taken (takes_more m t) = m

-- the values of a variable, where the values at each row are runs one after the other
spans-value : (rows : List Row) (runs num : ℕ) (type : VariableType) (first count : ℕ → ℕ)
    → ((y : ℕ) → y < length rows → values_at runs type y (atom_at rows y) ≡ spanned y (first y) (count y))
    → (r w : ℕ) → Memᴰ (value_at r w) (candidates rows runs (variable num type)) ↔ ((r < length rows) × (first r ≤ w) × (w < first r + count r))
unfolding candidates values_of_type
spans-value rows runs num type first count spans r w =
    let all = mem-joined (λ y. values_at runs type y (atom_at rows y)) (numbers_from 0 (length rows)) in (
      λ h. let p = all.0 h in
          let l : p.0 < length rows = omega (arith, (mem-numbers_from 0 (length rows)).0 p.1) in
          let q = (mem-map (value_at p.0) (numbers_from (first p.0) (count p.0))).0 (rw (spans p.0 l) at p.2) in
          let i = (mem-numbers_from (first p.0) (count p.0)).0 q.1 in
          moved p.0 q.0 (ap (λ v. v.row) q.2) (ap (λ v. v.run) q.2) (l, i.0, i.1),
      λ p. all.1 (
        r,
        (mem-numbers_from 0 (length rows)).1 (omega arith),
        rw (spans r p.0) ((mem-map (value_at r) (numbers_from (first r) (count r))).1 (w, (mem-numbers_from (first r) (count r)).1 (p.1, p.2), refl)),
      ),
    )
  where
    moved : (y u : ℕ) → r ≡ y → w ≡ u → (y < length rows) × (first y ≤ u) × (u < first y + count y) → (r < length rows) × (first r ≤ w) × (w < first r + count r)
    moved y u e f h = rw (e, f) h

-- a variable has a number and a type
variable-of : (a : Atom) → T (variable_atom a) → (num : ℕ) × (type : VariableType) × (a ≡ variable num type)
variable-of (trusted n) t = absurd t
variable-of (untrusted n) t = absurd t
variable-of (global n) t = absurd t
variable-of (intruder n) t = absurd t
variable-of (role i) t = absurd t
variable-of (variable n type) t = (n, type, refl)
variable-of (local n u) t = absurd t

-- a row and a run that are not before others, with no value of the variable of a row between the two
pub record Ahead (rows : List Row) (runs x r w y v : ℕ) : Type 0 where
  pub later : NotBefore r w y v
  pub same : (num : ℕ) (type : VariableType) → atom_at rows x ≡ some (variable num type) → values_from rows runs type r w ≡ values_from rows runs type y v

module _ (bytes : List ℕ) (n runs : ℕ) (shape : Shape bytes n runs) (x : ℕ) (low : x < n) where
  -- the first run of a row, and how many runs it has, as a value of the variable
  abbrev first_at : ℕ → ℕ
  first_at y = first_run (get_or bytes (3 * y) 0)

  abbrev count_at : ℕ → ℕ
  count_at y = run_count runs (eqb (get_or bytes (3 * x + 2) 0) 1) (get_or bytes (3 * y) 0)

  -- the values at a row
  values-at : {num : ℕ} {type : VariableType} → atom_at (rows_of bytes) x ≡ some (variable num type) → (y : ℕ) → y < n → values_at runs type y (atom_at (rows_of bytes) y) ≡ spanned y (first_at y) (count_at y)
  values-at {num} {type} e y l =
      let w = row-there bytes n runs shape x low in
      let v = row-there bytes n runs shape y l in
      rw (decodes-type (row-decodes bytes n runs shape x low) (rw w.1 at e), v.1) (decodes-values runs type y (row-decodes bytes n runs shape y l))

  -- a row with a run that is a value names an atom
  names_at : (y : ℕ) → y < n → (w : ℕ) → first_at y ≤ w → w < first_at y + count_at y → (b : Atom) × NamesAtom (rows_of bytes) runs y w b
  names_at y l w a b =
      let v = row-there bytes n runs shape y l in
      let m = decodes-named runs (eqb (get_or bytes (3 * x + 2) 0) 1) (row-decodes bytes n runs shape y l) w a b in
      (m.0, record { below = omega (arith, shape.count); within = m.2; is_atom = rw v.1 m.1; canonical = m.3 })

  module _ (kind : get_or bytes (3 * x) 0 ≡ 6) (r w : ℕ) {a : Atom} (e : atom_at (rows_of bytes) x ≡ some a) where
    -- whether a row with a run is a value of the variable
    value-iff : T (is_value_of (value_at r w) (candidates (rows_of bytes) runs a)) ↔ ((r < n) × (first_at r ≤ w) × (w < first_at r + count_at r))
    value-iff =
        let s = row-there bytes n runs shape x low in
        let v = six-atom (row-decodes bytes n runs shape x low) kind in
        let same : v.0 ≡ a = some-injective v.0 a (sym v.1 ∙ (rw s.1 at e)) in
        let o = variable-of a (rw same at v.2) in
        let t = is-value (rows_of bytes) runs a (value_at r w) in
        let m = spans-value (rows_of bytes) runs o.0 o.1 first_at count_at (λ y l. values-at (e ∙ ap some o.2) y (omega (arith, shape.count))) r w in (
          λ h. let p = m.0 (rw o.2 at (t.0 h)) in (omega (arith, p.0, shape.count), p.1, p.2),
          λ p. t.1 (rw o.2 (m.1 (omega (arith, shape.count), p.1, p.2))),
        )

    takes_at : r < n → first_at r ≤ w → w < first_at r + count_at r → TellsValue (rows_of bytes) runs a r w true
    takes_at l p q = let b = names_at r l w p q in takes b.0 refl (passes-true _ (value-iff.1 (l, p, q))) b.1

    takes-not : ((r < n) × (first_at r ≤ w) × (w < first_at r + count_at r) → ⊥) → TellsValue (rows_of bytes) runs a r w false
    takes-not d = takes_not refl (fails-false _ (λ t. d (value-iff.0 t)))

    -- a row that is absent, a run below the first, and any other
    pub may-absent : n ≤ r → TellsValue (rows_of bytes) runs a r w false
    may-absent l = takes-not (λ p. omega (arith, p.0))

    pub may-below : {first : ℕ} → first ≡ first_at r → w < first → TellsValue (rows_of bytes) runs a r w false
    may-below f l = takes-not (λ p. omega (arith, p.1))

    pub may-counted : {first count : ℕ} {answer : Bool} → r < n → first ≡ first_at r → count ≡ count_at r → first ≤ w → answer ≡ ltb (w - first) count → TellsValue (rows_of bytes) runs a r w answer
    may-counted {first} {count} {answer = true} l f c h q = takes_at l (omega arith) (omega (arith, ltb-true (w - first) count (sym q)))
    may-counted {first} {count} {answer = false} l f c h q = takes-not (λ p. omega (arith, p.2, ltb-false (w - first) count (sym q)))

  -- the first run and how many, as the code finds them
  pub first_read : (y : ℕ) {kind first : ℕ} → kind ≡ get_or bytes (3 * y) 0 → first ≡ first_run kind → first ≡ first_at y
  first_read y e f = f ∙ ap first_run e

  pub count-read : (y : ℕ) {kind count : ℕ} {fresh : Bool} → kind ≡ get_or bytes (3 * y) 0 → fresh ≡ eqb (get_or bytes (3 * x + 2) 0) 1 → count ≡ run_count runs fresh kind → count ≡ count_at y
  count-read y e q f = f ∙ rw (e, q)

  module _ (r w y v : ℕ) (ahead : Ahead (rows_of bytes) runs x r w y v) where
    -- behind the last row there is no value
    pub next-none : n ≤ y → (num : ℕ) (type : VariableType) → atom_at (rows_of bytes) x ≡ some (variable num type) → NextOf (rows_of bytes) runs type r w None
    next-none l num type e = has_none refl (ahead.same num type e ∙ values-end (rows_of bytes) runs type y v (omega (arith, shape.count)))

    module _ (within : y < n) {first count m : ℕ} (f : first ≡ first_at y) (c : count ≡ count_at y) (h : m ≡ max v first) where
      one : (m ≡ v) ⊎ (m ≡ first)
      one = go (dec_lt v first)
        where
          go : Dec (v < first) → (m ≡ v) ⊎ (m ≡ first)
          go (yes l) = inr (omega arith)
          go (no l) = inl (omega arith)

      -- the next value is at the row
      pub next_here : m < first + count → (num : ℕ) (type : VariableType) → atom_at (rows_of bytes) x ≡ some (variable num type) → NextOf (rows_of bytes) runs type r w (is_value y m)
      next_here l num type e =
          let b = names_at y within m (omega arith) (omega arith) in
          let s : values_at runs type y (atom_at (rows_of bytes) y) ≡ spanned y first count = rw (f, c) (values-at e y within) in
          has_next y m b.0 refl b.1 (⊎_elim inl (λ q. inr (q.0, omega (arith, q.1))) ahead.later)
          (ahead.same num type e ∙ values-next (rows_of bytes) runs type y v m (rw s (from_next y count (omega arith) (omega arith) l one)))

      -- the row has no value left
      pub ahead_more : first + count ≤ m → Ahead (rows_of bytes) runs x r w (y + 1) 0
      ahead_more l = record {
        later = inl (⊎_elim (λ (p : r < y). omega arith) (λ (q : (r ≡ y) × (w ≤ v)). omega arith) ahead.later);
        same = λ num type e.
            let s : values_at runs type y (atom_at (rows_of bytes) y) ≡ spanned y first count = rw (f, c) (values-at e y within) in
            rw (add-one y) (ahead.same num type e ∙ values-skip (rows_of bytes) runs type y v (rw s (from-none y count l one)));
      }
