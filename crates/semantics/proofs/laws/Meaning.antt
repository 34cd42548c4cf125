-- The laws of plain words: values, what lies beneath a row, readings, the start, trusted runs, active runs and what a trace passes are as their plain statements say. Assumes nothing.
use Prim.Native.Nat.{ℕ, zero, suc, ◌+◌, ◌<◌}
use Rattle.std.proofs.Common.{not-suc-le-zero, arith, sym, ◌∙◌, inl, inr, ⊎_elim, lt-length-set}
use Rattle.std.proofs.Math.Decide.{ℕ_discrete}
use Rattle.std.specs.Prelude.{◌≡◌, ◌↔◌, ◌⊎◌, true, false, T, eqb, set}
use Rattle.std.proofs.Math.Path.{refl, ap}
use Rattle.std.proofs.Math.Option.{Option, none, some, none-ne-some, some-injective}
use mathlib.Core.List.Memᴰ
use mathlib.Core.List.{List, [], ◌∷◌, ◌++◌, map, Memᴰ}
use Rattle.std.proofs.Math.ListN.{length, get_elem?, length-set, length-map}
use Rattle.semantics.specs.Basic.{Ordered, decided, and_then, mapped, mapped₂, keep, present_ones, numbers_from}
use Rattle.semantics.specs.Term.{VariableType, atom?, Atom, trusted, untrusted, global, intruder, role, variable, local, Term, atom, pk, sk, shared, pair, encrypted, inverse}
use Rattle.semantics.specs.Table.{Row, atomic, pk_of, sk_of, shared_of, pair_of, encrypted_of, variable_atom}
use Rattle.semantics.specs.Value.{Reading, value_of, beneath, as_atoms, without_variables, without_run}
use Rattle.semantics.specs.Runs.{Run, atom_of, atom_at, is_trusted, all_trusted}
use Rattle.semantics.specs.Roles.{ClaimKind, EventKind, send, read, claim, Event, Role}
use Rattle.semantics.specs.WellFormed.{learned, role_knowledge}
use Rattle.semantics.specs.Scenario.{Scenario}
use Rattle.semantics.specs.State.{Value, Progress, State, Active, active, in_run, term_of, assigned, reading_in, intruder_atom, atoms_of, initial_knowledge, initial, events_of, unset_beneath, new_variables, paired, Message}
use Rattle.semantics.specs.Moves.{Move, message, to_set, advanced, set_after}
use Rattle.semantics.specs.Tree.{Follows, stays, moves}
use Rattle.semantics.specs.Allowed.{Step, step, AllowedTrace}
use Rattle.semantics.specs.Guarantee.{refers_to, GoodTable}
use Rattle.semantics.specs.Meaning.{InverseIs, of_public, of_secret, of_itself, ValueIs, atom_value, pk_value, sk_value, shared_value, pair_value, encrypted_value, LiesBeneath, itself, inside, Constant, trusted_agent, untrusted_agent, global_constant, intruder_constant, ValueAtom, own_atom, local_atom, StandsFor, stands_itself, stands_agent, stands_value, stands_local, NoVariable, constant_fixed, role_fixed, local_fixed, Passes, passes_first, passes_next, passes_other, ActiveIn, KnownAtStart, from_list, an_intruder_constant, UnsetAt, TermsOf}
use Rattle.semantics.proofs.laws.Test.{same_test, and_then-some, mapped-some, mapped₂-some, eqb-iff}
use Rattle.semantics.proofs.laws.List.{mem-cases, mem-map, mem-present, mem-keep, mem-numbers_from, every-iff, get_elem-below, get_elem-there, set_same, set_other, keep-cons, ordered-keep, ordered-present, ordered-numbers_from}
use Rattle.semantics.proofs.laws.Value.{row_value, value-unfolds, beneath-iff, row-induction, value-within}
use Rattle.semantics.proofs.laws.Active.{active-in, active-at}
use Rattle.semantics.proofs.laws.Reached.{assigned-new, assigned-stays, unmoved, is_unset, unset-iff, unset-mem}

-- a public key, a secret key, or another term
abbrev key_kind : Term → ℕ
key_kind (atom a) = 0
key_kind (pk a) = 1
key_kind (sk a) = 2
key_kind (shared a b) = 0
key_kind (pair a b) = 0
key_kind (encrypted a b) = 0

-- the inverse of a term
pub inverse-exactly : (t u : Term) → (inverse t ≡ u) ↔ InverseIs t u
inverse-exactly t u = (λ e. rw (← e) (is t), of)
  where
    apart : {n : ℕ} → ¬ (0 ≡ suc n)
    apart e = omega arith

    is : (t : Term) → InverseIs t (inverse t)
    is (atom a) = of_itself (λ x e. apart (ap key_kind e)) (λ x e. apart (ap key_kind e))
    is (pk a) = of_public
    is (sk a) = of_secret
    is (shared a b) = of_itself (λ x e. apart (ap key_kind e)) (λ x e. apart (ap key_kind e))
    is (pair a b) = of_itself (λ x e. apart (ap key_kind e)) (λ x e. apart (ap key_kind e))
    is (encrypted a b) = of_itself (λ x e. apart (ap key_kind e)) (λ x e. apart (ap key_kind e))

    own : (t : Term) → ((a : Term) → ¬ (t ≡ pk a)) → ((a : Term) → ¬ (t ≡ sk a)) → inverse t ≡ t
    own (atom a) p s = refl
    own (pk a) p s = absurd (p a refl)
    own (sk a) p s = absurd (s a refl)
    own (shared a b) p s = refl
    own (pair a b) p s = refl
    own (encrypted a b) p s = refl

    of : {t u : Term} → InverseIs t u → inverse t ≡ u
    of of_public = refl
    of of_secret = refl
    of (of_itself {t} p s) = own t p s

module _ {rows : List Row} (good : GoodTable rows) (reading : Reading) where
  -- the value of a row comes from its own bytes and the values of the rows that it refers to
  value-of-row : (r : ℕ) {row : Row} → get_elem? rows r ≡ some row → ((q : ℕ) → Memᴰ q (refers_to row) → (t : Term) → value_of reading rows q ≡ some t → ValueIs reading rows q t)
      → (t : Term) → value_of reading rows r ≡ some t → ValueIs reading rows r t
  value-of-row r {row} e below t h = go row e below (sym (value-unfolds good reading r e) ∙ h)
    where
      go : (row : Row) → get_elem? rows r ≡ some row → ((q : ℕ) → Memᴰ q (refers_to row) → (t : Term) → value_of reading rows q ≡ some t → ValueIs reading rows q t)
          → row_value reading (value_of reading rows) row ≡ some t → ValueIs reading rows r t
      go (atomic a) e below h = atom_value e h
      go (pk_of a) e below h = let w = (mapped-some pk (value_of reading rows a)).0 h in rw w.2 (pk_value e (below a (Memᴰ.head refl) w.0 w.1))
      go (sk_of a) e below h = let w = (mapped-some sk (value_of reading rows a)).0 h in rw w.2 (sk_value e (below a (Memᴰ.head refl) w.0 w.1))
      go (shared_of a b) e below h =
          let w = (mapped₂-some shared (value_of reading rows a) (value_of reading rows b)).0 h in
          rw w.4 (shared_value e (below a (Memᴰ.head refl) w.0 w.2) (below b (Memᴰ.tail (Memᴰ.head refl)) w.1 w.3))
      go (pair_of a b) e below h =
          let w = (mapped₂-some pair (value_of reading rows a) (value_of reading rows b)).0 h in
          rw w.4 (pair_value e (below a (Memᴰ.head refl) w.0 w.2) (below b (Memᴰ.tail (Memᴰ.head refl)) w.1 w.3))
      go (encrypted_of a b) e below h =
          let w = (mapped₂-some encrypted (value_of reading rows a) (value_of reading rows b)).0 h in
          rw w.4 (encrypted_value e (below a (Memᴰ.head refl) w.0 w.2) (below b (Memᴰ.tail (Memᴰ.head refl)) w.1 w.3))

  value-is : (r : ℕ) (t : Term) → value_of reading rows r ≡ some t → ValueIs reading rows r t
  value-is r t h =
      row-induction good (λ i. (u : Term) → value_of reading rows i ≡ some u → ValueIs reading rows i u) (λ i row e below. value-of-row i e below) r (value-within reading rows r (t, h)) t h

  is-value : {r : ℕ} {t : Term} → ValueIs reading rows r t → value_of reading rows r ≡ some t
  is-value (atom_value {r} e h) = value-unfolds good reading r e ∙ h
  is-value (pk_value {r} e v) = value-unfolds good reading r e ∙ ap (mapped pk) (is-value v)
  is-value (sk_value {r} e v) = value-unfolds good reading r e ∙ ap (mapped sk) (is-value v)
  is-value (shared_value {r} e v w) = value-unfolds good reading r e ∙ (λ i. mapped₂ shared (is-value v i) (is-value w i))
  is-value (pair_value {r} e v w) = value-unfolds good reading r e ∙ (λ i. mapped₂ pair (is-value v i) (is-value w i))
  is-value (encrypted_value {r} e v w) = value-unfolds good reading r e ∙ (λ i. mapped₂ encrypted (is-value v i) (is-value w i))

  -- A row has a value exactly as its bytes say.
  pub value-exactly : (r : ℕ) (t : Term) → (value_of reading rows r ≡ some t) ↔ ValueIs reading rows r t
  value-exactly r t = (value-is r t, is-value)

-- the terms of listed rows
pub listed-terms : {rows : List Row} → GoodTable rows → (list : List ℕ) → TermsOf rows list (present_ones (map (value_of as_atoms rows) list))
listed-terms {rows} good list t = (
  λ m.
      let w = (mem-map (value_of as_atoms rows) list).0 ((mem-present (map (value_of as_atoms rows) list)).0 m) in
      (w.0, w.1, (value-exactly good as_atoms w.0 t).0 (sym w.2)),
  λ w. (mem-present (map (value_of as_atoms rows) list)).1 ((mem-map (value_of as_atoms rows) list).1 (w.0, w.1, sym ((value-exactly good as_atoms w.0 t).1 w.2))),
)

-- A row lies beneath another exactly by references.
module _ {rows : List Row} (good : GoodTable rows) (x : ℕ) where
  beneath-lies : (r : ℕ) → r < length rows → T (beneath rows x r) → LiesBeneath rows x r
  beneath-lies = row-induction good (λ r. T (beneath rows x r) → LiesBeneath rows x r) λ r row e below t.
      ⊎_elim (λ q. rw q (itself (get_elem-below rows r e))) (λ w. inside e w.1 (below w.0 w.1 w.2)) ((beneath-iff good x r e).0 t)

  lies-beneath : {r : ℕ} → LiesBeneath rows x r → T (beneath rows x r)
  lies-beneath (itself l) = (beneath-iff good x x (get_elem-there rows x l).1).1 (inl refl)
  lies-beneath (inside {r} {q} e m h) = (beneath-iff good x r e).1 (inr (q, m, lies-beneath h))

  pub beneath-exactly : (r : ℕ) → r < length rows → T (beneath rows x r) ↔ LiesBeneath rows x r
  beneath-exactly r l = (beneath-lies r l, lies-beneath)

-- an atom as it is in a run, unless it is a local constant
in-run-own : (u : ℕ) (a : Atom) → ((n w : ℕ) → ¬ (a ≡ local n w)) → in_run u a ≡ a
in-run-own u (trusted n) h = refl
in-run-own u (untrusted n) h = refl
in-run-own u (global n) h = refl
in-run-own u (intruder n) h = refl
in-run-own u (role i) h = refl
in-run-own u (variable n t) h = refl
in-run-own u (local n w) h = absurd (h n w refl)

-- the atom of a row that is one
atom_of-some : (o : Option Row) {a : Atom} → (atom_of o ≡ some a) ↔ (o ≡ some (atomic a))
atom_of-some none {a} = (λ e. absurd (none-ne-some a e), λ e. absurd (none-ne-some (atomic a) e))
atom_of-some (some (atomic b)) {a} = (λ e. ap (λ x. some (atomic x)) (some-injective b a e), λ e. ap atom_of e)
atom_of-some (some (pk_of b)) {a} = (λ e. absurd (none-ne-some a e), λ e. ap atom_of e)
atom_of-some (some (sk_of b)) {a} = (λ e. absurd (none-ne-some a e), λ e. ap atom_of e)
atom_of-some (some (shared_of b c)) {a} = (λ e. absurd (none-ne-some a e), λ e. ap atom_of e)
atom_of-some (some (pair_of b c)) {a} = (λ e. absurd (none-ne-some a e), λ e. ap atom_of e)
atom_of-some (some (encrypted_of b c)) {a} = (λ e. absurd (none-ne-some a e), λ e. ap atom_of e)

-- the term that a value stands for
value-atom : (rows : List Row) (v : Value) (t : Term) → (term_of rows v ≡ some t) ↔ ((a : Atom) × (t ≡ atom a) × ValueAtom rows v a)
unfolding term_of
value-atom rows v t = (
  λ e. let w = (mapped-some (λ a. atom (in_run v.run a)) (atom_at rows v.row)).0 e in (in_run v.run w.0, w.2, stands w.0 ((atom_of-some (get_elem? rows v.row)).0 w.1)),
  λ w. of w.1 w.2,
)
  where
    stands : (a : Atom) → get_elem? rows v.row ≡ some (atomic a) → ValueAtom rows v (in_run v.run a)
    stands (trusted n) e = own_atom e (λ m w q. let z : ◌≡◌ {A = ℕ} 0 1 = cc in omega arith)
    stands (untrusted n) e = own_atom e (λ m w q. let z : ◌≡◌ {A = ℕ} 0 1 = cc in omega arith)
    stands (global n) e = own_atom e (λ m w q. let z : ◌≡◌ {A = ℕ} 0 1 = cc in omega arith)
    stands (intruder n) e = own_atom e (λ m w q. let z : ◌≡◌ {A = ℕ} 0 1 = cc in omega arith)
    stands (role i) e = own_atom e (λ m w q. let z : ◌≡◌ {A = ℕ} 0 1 = cc in omega arith)
    stands (variable n x) e = own_atom e (λ m w q. let z : ◌≡◌ {A = ℕ} 0 1 = cc in omega arith)
    stands (local n w) e = local_atom e

    of : {a : Atom} → t ≡ atom a → ValueAtom rows v a → mapped (λ a. atom (in_run v.run a)) (atom_at rows v.row) ≡ some t
    of {a} q (own_atom e n) = (mapped-some (λ a. atom (in_run v.run a)) (atom_at rows v.row)).1 (a, (atom_of-some (get_elem? rows v.row)).1 e, q ∙ ap atom (sym (in-run-own v.run a n)))
    of q (local_atom {n} {w} e) = (mapped-some (λ a. atom (in_run v.run a)) (atom_at rows v.row)).1 (local n w, (atom_of-some (get_elem? rows v.row)).1 e, q)

-- An atom stands in a run for exactly what 01 says.
module _ (rows : List Row) (u : ℕ) (run : Run) (sets : List (Atom × Value)) where
  -- a constant stands for itself
  itself-iff : (a : Atom) (t : Term) → Constant a → (some (atom a) ≡ some t) ↔ ((b : Atom) × (t ≡ atom b) × StandsFor rows u run sets a b)
  itself-iff a t c = (λ e. (a, sym (some-injective (atom a) t e), stands_itself c), λ w. ap some (sym (w.1 ∙ ap atom (only c w.2))))
    where
      only : {a b : Atom} → Constant a → StandsFor rows u run sets a b → b ≡ a
      only c (stands_itself d) = refl
      only c (stands_agent e h) = elim c [ ]
      only c (stands_value e h) = elim c [ ]
      only c stands_local = elim c [ ]

  pub reading-exactly : (a : Atom) (t : Term) → (reading_in rows u run sets a ≡ some t) ↔ ((b : Atom) × (t ≡ atom b) × StandsFor rows u run sets a b)
  unfolding reading_in
  reading-exactly (trusted n) t = itself-iff (trusted n) t trusted_agent
  reading-exactly (untrusted n) t = itself-iff (untrusted n) t untrusted_agent
  reading-exactly (global n) t = itself-iff (global n) t global_constant
  reading-exactly (intruder n) t = itself-iff (intruder n) t intruder_constant
  reading-exactly (role i) t = (
    λ e. let w = split.0 e in let v = (value-atom rows (record { row = w.0; run = 0 }) t).0 w.2 in (v.0, v.1, stands_agent w.1 v.2),
    λ w. of w.1 w.2,
  )
    where
      split : (and_then (get_elem? run.agents i) (λ r. term_of rows (record { row = r; run = 0 })) ≡ some t) ↔ ((r : ℕ) × (get_elem? run.agents i ≡ some r) × (term_of rows (record { row = r; run = 0 }) ≡ some t))
      split = and_then-some (get_elem? run.agents i) (λ r. term_of rows (record { row = r; run = 0 }))

      of : {b : Atom} → t ≡ atom b → StandsFor rows u run sets (role i) b → and_then (get_elem? run.agents i) (λ r. term_of rows (record { row = r; run = 0 })) ≡ some t
      of q (stands_itself c) = elim c [ ]
      of {b} q (stands_agent {r = r} e h) = split.1 (r, e, (value-atom rows (record { row = r; run = 0 }) t).1 (b, q, h))
  reading-exactly (variable n x) t = (
    λ e. let w = split.0 e in let v = (value-atom rows w.0 t).0 w.2 in (v.0, v.1, stands_value w.1 v.2),
    λ w. of w.1 w.2,
  )
    where
      split : (and_then (assigned (variable n x) sets) (term_of rows) ≡ some t) ↔ ((v : Value) × (assigned (variable n x) sets ≡ some v) × (term_of rows v ≡ some t))
      split = and_then-some (assigned (variable n x) sets) (term_of rows)

      of : {b : Atom} → t ≡ atom b → StandsFor rows u run sets (variable n x) b → and_then (assigned (variable n x) sets) (term_of rows) ≡ some t
      of q (stands_itself c) = elim c [ ]
      of {b} q (stands_value {v = v} e h) = split.1 (v, e, (value-atom rows v t).1 (b, q, h))
  reading-exactly (local n w) t = (λ e. (local n u, sym (some-injective (atom (local n u)) t e), stands_local), λ v. ap some (sym (v.1 ∙ ap atom (only v.2))))
    where
      only : {b : Atom} → StandsFor rows u run sets (local n w) b → b ≡ local n u
      only (stands_itself c) = elim c [ ]
      only stands_local = refl

-- 'no variable beneath': every atom but a variable has a value, itself
pub without_variables-exactly : (a : Atom) (t : Term) → (without_variables a ≡ some t) ↔ ((t ≡ atom a) × NoVariable a)
without_variables-exactly (trusted n) t = (λ e. (sym (some-injective (atom (trusted n)) t e), constant_fixed trusted_agent), λ w. ap some (sym w.0))
without_variables-exactly (untrusted n) t = (λ e. (sym (some-injective (atom (untrusted n)) t e), constant_fixed untrusted_agent), λ w. ap some (sym w.0))
without_variables-exactly (global n) t = (λ e. (sym (some-injective (atom (global n)) t e), constant_fixed global_constant), λ w. ap some (sym w.0))
without_variables-exactly (intruder n) t = (λ e. (sym (some-injective (atom (intruder n)) t e), constant_fixed intruder_constant), λ w. ap some (sym w.0))
without_variables-exactly (role i) t = (λ e. (sym (some-injective (atom (role i)) t e), role_fixed), λ w. ap some (sym w.0))
without_variables-exactly (variable n x) t = (λ e. absurd (none-ne-some t e), λ w. absurd (other w.1))
  where
    other : ¬ NoVariable (variable n x)
    other (constant_fixed c) = elim c [ ]
without_variables-exactly (local n u) t = (λ e. (sym (some-injective (atom (local n u)) t e), local_fixed), λ w. ap some (sym w.0))

-- 'no role name, variable or local constant beneath': every agent and every constant has a value, itself
pub without_run-exactly : (a : Atom) (t : Term) → (without_run a ≡ some t) ↔ ((t ≡ atom a) × Constant a)
without_run-exactly (trusted n) t = (λ e. (sym (some-injective (atom (trusted n)) t e), trusted_agent), λ w. ap some (sym w.0))
without_run-exactly (untrusted n) t = (λ e. (sym (some-injective (atom (untrusted n)) t e), untrusted_agent), λ w. ap some (sym w.0))
without_run-exactly (global n) t = (λ e. (sym (some-injective (atom (global n)) t e), global_constant), λ w. ap some (sym w.0))
without_run-exactly (intruder n) t = (λ e. (sym (some-injective (atom (intruder n)) t e), intruder_constant), λ w. ap some (sym w.0))
without_run-exactly (role i) t = (λ e. absurd (none-ne-some t e), λ w. elim w.1 [ ])
without_run-exactly (variable n x) t = (λ e. absurd (none-ne-some t e), λ w. elim w.1 [ ])
without_run-exactly (local n u) t = (λ e. absurd (none-ne-some t e), λ w. elim w.1 [ ])

-- the atoms of a table are those of its rows
mem-atoms : (rows : List Row) {a : Atom} → Memᴰ a (atoms_of rows) ↔ ((r : ℕ) × (get_elem? rows r ≡ some (atomic a)))
unfolding atoms_of
mem-atoms rows {a} = (
  λ m. let w = (mem-map (atom_at rows) (numbers_from 0 (length rows))).0 ((mem-present (map (atom_at rows) (numbers_from 0 (length rows)))).0 m) in (w.0, (atom_of-some (get_elem? rows w.0)).0 (sym w.2)),
  λ w. let l = get_elem-below rows w.0 w.1 in
      (mem-present (map (atom_at rows) (numbers_from 0 (length rows)))).1
      ((mem-map (atom_at rows) (numbers_from 0 (length rows))).1 (w.0, (mem-numbers_from 0 (length rows)).1 (omega arith), sym ((atom_of-some (get_elem? rows w.0)).1 w.1))),
)

-- an intruder constant
intruder-iff : (a : Atom) → T (intruder_atom a) ↔ ((n : ℕ) × (a ≡ intruder n))
intruder-iff a = (is a, λ w. rw w.1 tt)
  where
    is : (a : Atom) → T (intruder_atom a) → (n : ℕ) × (a ≡ intruder n)
    is (trusted n) t = absurd t
    is (untrusted n) t = absurd t
    is (global n) t = absurd t
    is (intruder n) t = (n, refl)
    is (role i) t = absurd t
    is (variable n x) t = absurd t
    is (local n u) t = absurd t

-- Known at the start are the file's list and the table's intruder constants, and nothing else.
pub start-exactly : (sc : Scenario) → GoodTable sc.rows → (t : Term) → Memᴰ t (initial sc).known ↔ KnownAtStart sc t
unfolding initial initial_knowledge
start-exactly sc good t = (λ m. ⊎_elim listed constant (Memᴰ.append_cases (present_ones (map (value_of without_run sc.rows) sc.knowledge)) m), known)
  where
    intruders : List Atom
    intruders = keep intruder_atom (atoms_of sc.rows)

    listed : Memᴰ t (present_ones (map (value_of without_run sc.rows) sc.knowledge)) → KnownAtStart sc t
    listed m =
        let w = (mem-map (value_of without_run sc.rows) sc.knowledge).0 ((mem-present (map (value_of without_run sc.rows) sc.knowledge)).0 m) in
        from_list w.0 w.1 ((value-exactly good without_run w.0 t).0 (sym w.2))

    constant : Memᴰ t (map atom intruders) → KnownAtStart sc t
    constant m =
        let w = (mem-map atom intruders).0 m in
        let v = (mem-keep intruder_atom (atoms_of sc.rows)).0 w.1 in
        let n = (intruder-iff w.0).0 v.1 in
        let x = (mem-atoms sc.rows).0 v.0 in
        an_intruder_constant x.0 (x.1 ∙ ap (λ a. some (atomic a)) n.1) (w.2 ∙ ap atom n.1)

    known : KnownAtStart sc t → Memᴰ t (present_ones (map (value_of without_run sc.rows) sc.knowledge) ++ map atom intruders)
    known (from_list r m v) =
        Memᴰ.append_left (map atom intruders)
        ((mem-present (map (value_of without_run sc.rows) sc.knowledge)).1 ((mem-map (value_of without_run sc.rows) sc.knowledge).1 (r, m, sym ((value-exactly good without_run r t).1 v))))
    known (an_intruder_constant r {n} e q) =
        Memᴰ.append_right (present_ones (map (value_of without_run sc.rows) sc.knowledge))
        ((mem-map atom intruders).1 (intruder n, (mem-keep intruder_atom (atoms_of sc.rows)).1 ((mem-atoms sc.rows).1 (r, e), tt), q))

-- At the start each run has made no event and set no variable.
pub start-unmoved : (sc : Scenario) (k : ℕ) (p : Progress) → (get_elem? (initial sc).progress k ≡ some p) ↔ ((k < length sc.runs) × (p ≡ record { done = 0; values = [] }))
unfolding initial
start-unmoved sc k p = go sc.runs k
  where
    zeroed : Run → Progress
    zeroed run = record { done = 0; values = [] }

    go : (runs : List Run) (k : ℕ) → (get_elem? (map zeroed runs) k ≡ some p) ↔ ((k < length runs) × (p ≡ record { done = 0; values = [] }))
    go [] k = (λ e. absurd (none-ne-some p e), λ w. absurd (not-suc-le-zero w.0))
    go (run ∷ runs) zero = (λ e. (omega arith, sym (some-injective (record { done = 0; values = [] }) p e)), λ w. ap some (sym w.1))
    go (run ∷ runs) (suc k) = (λ e. let w = (go runs k).0 e in let l = w.0 in (omega arith, w.1), λ w. (go runs k).1 (let l = w.0 in omega arith, w.1))

-- A run's agents are all trusted exactly if each of its rows is a trusted agent.
pub trusted-exactly : (rows : List Row) (run : Run) → T (all_trusted rows run) ↔ ((r : ℕ) → Memᴰ r run.agents → (n : ℕ) × (get_elem? rows r ≡ some (atomic (trusted n))))
unfolding all_trusted
trusted-exactly rows run = (
  λ t r m. let w = is (atom_at rows r) ((every-iff (λ r. is_trusted (atom_at rows r)) run.agents).0 t r m) in (w.0, (atom_of-some (get_elem? rows r)).0 w.1),
  λ h. (every-iff (λ r. is_trusted (atom_at rows r)) run.agents).1 (λ r m. rw (h r m).1 tt),
)
  where
    is : (o : Option Atom) → T (is_trusted o) → (n : ℕ) × (o ≡ some (trusted n))
    is none t = absurd t
    is (some (trusted n)) t = (n, refl)
    is (some (untrusted n)) t = absurd t
    is (some (global n)) t = absurd t
    is (some (intruder n)) t = absurd t
    is (some (role i)) t = absurd t
    is (some (variable n x)) t = absurd t
    is (some (local n u)) t = absurd t

-- A run is active with its next event, and in no other way.
pub active-exactly : (sc : Scenario) (s : State) (u : ℕ) (a : Active) → (active sc s u ≡ some a) ↔ ActiveIn sc s u a
active-exactly sc s u a = (active-in sc s u, active-at sc s u)

-- how many moves of a run a trace has
abbrev count : ℕ → List Move → ℕ
count u ms = length (keep (λ m. eqb m.run u) ms)

-- it passes as many events of the run
passes_count : (u : ℕ) (ms : List Move) (j : ℕ) → Passes u ms j ↔ (j < count u ms)
passes_count u ms j = (λ h. fewer h, λ l. there ms j l)
  where
    own : (m : Move) (ms : List Move) → m.run ≡ u → count u (m ∷ ms) ≡ suc (count u ms)
    own m ms e = rw (keep, same_test (eqb m.run u) true (λ t. tt, λ t. (eqb-iff m.run u).1 e))

    other : (m : Move) (ms : List Move) → ¬ (m.run ≡ u) → count u (m ∷ ms) ≡ count u ms
    other m ms n = rw (keep, same_test (eqb m.run u) false (λ t. n ((eqb-iff m.run u).0 t), λ t. absurd t))

    fewer : {ms : List Move} {j : ℕ} → Passes u ms j → j < count u ms
    fewer (passes_first {m} {ms} e) = omega (arith, own m ms e)
    fewer (passes_next {m} {ms} e h) = let l = fewer h in omega (arith, own m ms e)
    fewer (passes_other {m} {ms} n h) = let l = fewer h in omega (arith, other m ms n)

    there : (ms : List Move) (j : ℕ) → j < count u ms → Passes u ms j
    there [] j l = absurd (not-suc-le-zero l)
    there (m ∷ ms) j l = go (ℕ_discrete m.run u) j l (there ms)
      where
        go : Dec (m.run ≡ u) → (j : ℕ) → j < count u (m ∷ ms) → ((j : ℕ) → j < count u ms → Passes u ms j) → Passes u (m ∷ ms) j
        go (no n) j l rest = passes_other n (rest j (omega (arith, other m ms n)))
        go (yes e) zero l rest = passes_first e
        go (yes e) (suc j) l rest = passes_next e (rest j (omega (arith, own m ms e)))

module _ (sc : Scenario) (k : ℕ) where
  -- a move of the run makes one event more, and one of another run none
  step-done : {s s' : State} {m : Move} {p q : Progress} → Step sc s m s' → get_elem? s.progress k ≡ some p → get_elem? s'.progress k ≡ some q → q.done ≡ p.done + count (suc k) (m ∷ [])
  unfolding advanced
  step-done {s} {s'} {m} {p} {q} (step {a} act takes performs e) f g = go (ℕ_discrete a.index k)
    where
      i : ActiveIn sc s m.run a
      i = active-in sc s m.run act

      after : Progress
      after = record { done = suc a.progress.done; values = set_after sc a m.values }

      then : get_elem? (set s.progress a.index after) k ≡ some q
      then = ap (λ x. get_elem? x.progress k) (sym e) ∙ g

      go : Dec (a.index ≡ k) → q.done ≡ p.done + count (suc k) (m ∷ [])
      go (yes d) =
          let one : q ≡ after = some-injective q after (sym then ∙ ap (λ x. get_elem? (set s.progress a.index after) x) (sym d) ∙ set_same s.progress a.index after (get_elem-below s.progress a.index i.of_progress)) in
          let old : a.progress ≡ p = some-injective a.progress p (sym i.of_progress ∙ ap (get_elem? s.progress) d ∙ f) in
          let run : m.run ≡ suc k = i.numbered ∙ ap suc d in
          let counted : count (suc k) (m ∷ []) ≡ 1 = rw (keep, same_test (eqb m.run (suc k)) true (λ t. tt, λ t. (eqb-iff m.run (suc k)).1 run)) in
          let x : q.done ≡ suc a.progress.done = ap (λ y. y.done) one in
          let y : a.progress.done ≡ p.done = ap (λ z. z.done) old in
          omega arith
      go (no n) =
          let same : q ≡ p = some-injective q p (sym then ∙ set_other s.progress a.index after k (λ d. n (sym d)) ∙ f) in
          let counted : count (suc k) (m ∷ []) ≡ 0 =
          rw (keep, same_test (eqb m.run (suc k)) false (λ t. n (let r = (eqb-iff m.run (suc k)).0 t in let w = i.numbered in omega arith), λ t. absurd t)) in
          let x : q.done ≡ p.done = ap (λ y. y.done) same in
          omega arith

  -- every run still has its progress
  step-there : {s s' : State} {m : Move} {p : Progress} → Step sc s m s' → get_elem? s.progress k ≡ some p → (q : Progress) × (get_elem? s'.progress k ≡ some q)
  unfolding advanced
  step-there {s} {s'} {m} (step {a} act takes performs e) f =
      let after : Progress = record { done = suc a.progress.done; values = set_after sc a m.values } in
      let w = get_elem-there (set s.progress a.index after) k (lt-length-set s.progress a.index after (get_elem-below s.progress k f)) in
      (w.0, ap (λ x. get_elem? x.progress k) e ∙ w.1)

  -- a run has made as many events as it has moves in the trace
  follows-done : {s e : State} {ms : List Move} {p q : Progress} → Follows (Step sc) s ms e → get_elem? s.progress k ≡ some p → get_elem? e.progress k ≡ some q
      → q.done ≡ p.done + count (suc k) ms
  follows-done {p = p} {q = q} stays f g = let x : q.done ≡ p.done = ap (λ y. y.done) (some-injective q p (sym g ∙ f)) in omega arith
  follows-done {p = p} {q = q} (moves {m = m} {ms = ms} st h) f g =
      let o = step-there st f in
      let x = follows-done h o.1 g in
      let y = step-done st f o.1 in
      omega (arith, keep-cons (λ m. eqb m.run (suc k)) m ms)

  -- no run comes or goes
  progress-kept : {s e : State} {ms : List Move} → Follows (Step sc) s ms e → length e.progress ≡ length s.progress
  unfolding advanced
  progress-kept stays = refl
  progress-kept (moves {s = s} {m = m} (step {a} act takes performs e) h) =
      progress-kept h ∙ ap (λ x. length x.progress) e ∙ length-set s.progress a.index (record { done = suc a.progress.done; values = set_after sc a m.values })

  -- A run has made an event exactly if the event is among the run's moves in the trace.
  pub passed-exactly : {ms : List Move} {s : State} {p : Progress} → AllowedTrace sc ms s → get_elem? s.progress k ≡ some p → (j : ℕ) → (j < p.done) ↔ Passes (suc k) ms j
  unfolding initial
  passed-exactly {ms} {s} {p} t f j =
      let within : k < length sc.runs = omega (arith, get_elem-below s.progress k f, progress-kept t, length-map sc.runs (λ run. unmoved)) in
      let made : p.done ≡ 0 + count (suc k) ms = follows-done t ((start-unmoved sc k unmoved).1 (within, refl)) f in
      (λ l. (passes_count (suc k) ms j).1 (omega arith), λ h. let l = (passes_count (suc k) ms j).0 h in omega arith)

-- A read sets exactly the variables beneath its pattern that are not set; a send or claim sets none.
module _ {rows : List Row} (good : GoodTable rows) (sets : List (Atom × Value)) (pattern : ℕ) (within : pattern < length rows) where
  -- the rows beneath the pattern
  abbrev places : List ℕ
  places = keep (λ x. beneath rows x pattern) (numbers_from 0 (length rows))

  variable-iff : (a : Atom) → T (variable_atom a) ↔ ((n : ℕ) × (type : VariableType) × (a ≡ variable n type))
  variable-iff a = (is a, λ w. rw w.2 tt)
    where
      is : (a : Atom) → T (variable_atom a) → (n : ℕ) × (type : VariableType) × (a ≡ variable n type)
      is (trusted n) t = absurd t
      is (untrusted n) t = absurd t
      is (global n) t = absurd t
      is (intruder n) t = absurd t
      is (role i) t = absurd t
      is (variable n x) t = (n, x, refl)
      is (local n u) t = absurd t

  pub unset-exactly : (a : Atom) → Memᴰ a (unset_beneath rows sets pattern) ↔ ((x : ℕ) × UnsetAt rows sets pattern x a)
  unfolding unset_beneath
  unset-exactly a = (
    λ m.
        let w = (mem-keep (is_unset sets) (present_ones (map (atom_at rows) places))).0 m in
        let v = (mem-map (atom_at rows) places).0 ((mem-present (map (atom_at rows) places)).0 w.0) in
        let x = (mem-keep (λ x. beneath rows x pattern) (numbers_from 0 (length rows))).0 v.1 in
        let u = (unset-iff sets a).0 w.1 in
        (v.0, record { at_row = (atom_of-some (get_elem? rows v.0)).0 (sym v.2); is_variable = (variable-iff a).0 u.0; not_set = u.1; lies_beneath = (beneath-exactly good v.0 pattern within).0 x.1 }),
    λ w.
        let u = w.1 in
        unset-mem rows sets pattern w.0 ((atom_of-some (get_elem? rows w.0)).1 u.at_row) ((beneath-exactly good w.0 pattern within).1 u.lies_beneath) ((unset-iff sets a).1 ((variable-iff a).1 u.is_variable, u.not_set)),
  )

  -- and they are in order of their rows
  pub unset-in-order : Ordered (λ a b. (x y : ℕ) → get_elem? rows x ≡ some (atomic a) → get_elem? rows y ≡ some (atomic b) → x < y) (unset_beneath rows sets pattern)
  unfolding unset_beneath
  unset-in-order =
      ordered-keep (is_unset sets)
      (ordered-present (atom_at rows) (ordered-keep (λ x. beneath rows x pattern) (ordered-numbers_from 0 (length rows)))
      (λ p q a b l e f x y g h.
      let s = good.distinct x p (atomic a) g ((atom_of-some (get_elem? rows p)).0 e) in
      let t = good.distinct y q (atomic b) h ((atom_of-some (get_elem? rows q)).0 f) in
      omega arith))

-- kinds of events differ
send-not-read : ¬ (send ≡ read)
send-not-read e = let z : ◌≡◌ {A = ℕ} 0 1 = cc in omega arith

claim-not-read : (kind : ClaimKind) → ¬ (claim kind ≡ read)
claim-not-read kind e = let z : ◌≡◌ {A = ℕ} 0 1 = cc in omega arith

-- a send or claim sets none, a read those
pub new-exactly : (rows : List Row) (sets : List (Atom × Value)) (kind : EventKind) (pattern : ℕ) (x : Atom)
    → Memᴰ x (new_variables rows sets kind pattern) ↔ ((kind ≡ read) × Memᴰ x (unset_beneath rows sets pattern))
unfolding new_variables
new-exactly rows sets send pattern x = (λ m. absurd (Memᴰ.not-nil m), λ w. absurd (send-not-read w.0))
new-exactly rows sets read pattern x = (λ m. (refl, m), λ w. w.1)
new-exactly rows sets (claim kind) pattern x = (λ m. absurd (Memᴰ.not-nil m), λ w. absurd (claim-not-read kind w.0))

-- The events of a run are those of its role.
pub events-exactly : (sc : Scenario) (run : Run) (r : Role) → get_elem? sc.roles run.role ≡ some r → events_of sc run ≡ r.events
unfolding events_of
events-exactly sc run r e = rw (e, events_of)

-- A message has the values of the role names of its sender and receiver and of its term.
pub message-exactly : (rows : List Row) (reading : Reading) (run : Run) (e : Event) (m : Message)
    → (message rows reading run e ≡ some m) ↔ ((reading (role run.role) ≡ some m.sender) × (reading (role e.peer) ≡ some m.receiver) × (value_of reading rows e.row ≡ some m.term))
unfolding message
message-exactly rows reading run e m = (
  λ h.
      let a = (and_then-some (reading (role run.role)) _).0 h in
      let b = (and_then-some (reading (role e.peer)) _).0 a.2 in
      let t = (mapped-some _ (value_of reading rows e.row)).0 b.2 in
      (a.1 ∙ ap (λ x. some x.sender) (sym t.2), b.1 ∙ ap (λ x. some x.receiver) (sym t.2), t.1 ∙ ap (λ x. some x.term) (sym t.2)),
  λ w. rw w.0 (rw w.1 (rw w.2)),
)

-- the values of variables that are given with them
paired-assigned : (xs : List Atom) (vs : List Value) (x : Atom) (v : Value) → assigned x (paired xs vs) ≡ some v → (i : ℕ) × (get_elem? xs i ≡ some x) × (get_elem? vs i ≡ some v)
unfolding assigned
paired-assigned [] vs x v e = absurd (none-ne-some v e)
paired-assigned (y ∷ xs) [] x v e = absurd (none-ne-some v e)
paired-assigned (y ∷ xs) (w ∷ vs) x v e = go (atom? x y) e (paired-assigned xs vs x v)
  where
    go : (d : Dec (x ≡ y)) → ◌≡◌ {A = Option Value} (elim (decided d) [ true ↦ some w | false ↦ assigned x (paired xs vs) ]) (some v)
        → (assigned x (paired xs vs) ≡ some v → (i : ℕ) × (get_elem? xs i ≡ some x) × (get_elem? vs i ≡ some v)) → (i : ℕ) × (get_elem? (y ∷ xs) i ≡ some x) × (get_elem? (w ∷ vs) i ≡ some v)
    go (yes d) e rest = (0, ap some (sym d), e)
    go (no n) e rest = let r = rest e in (suc r.0, r.1, r.2)

-- After a move its run's variables have the values that they had, and each new one the value given for it.
pub values-after : (sc : Scenario) (a : Active) (vs : List Value) (x : Atom) (v : Value) → assigned x (set_after sc a vs) ≡ some v
    → (assigned x a.progress.values ≡ some v) ⊎ ((i : ℕ) × (get_elem? (to_set sc a) i ≡ some x) × (get_elem? vs i ≡ some v))
unfolding set_after
values-after sc a vs x v e = go (assigned x a.progress.values) refl
  where
    go : (o : Option Value) → assigned x a.progress.values ≡ o → (o ≡ some v) ⊎ ((i : ℕ) × (get_elem? (to_set sc a) i ≡ some x) × (get_elem? vs i ≡ some v))
    go none q = inr (paired-assigned (to_set sc a) vs x v (sym (assigned-new x a.progress.values (paired (to_set sc a) vs) q) ∙ e))
    go (some w) q = inl (sym (assigned-stays x a.progress.values (paired (to_set sc a) vs) q) ∙ e)

pub values-stay : (sc : Scenario) (a : Active) (vs : List Value) (x : Atom) (v : Value) → assigned x a.progress.values ≡ some v → assigned x (set_after sc a vs) ≡ some v
unfolding set_after
values-stay sc a vs x v e = assigned-stays x a.progress.values (paired (to_set sc a) vs) e

-- After a move its run has made one event more and has these values; every other run is as it was; known is what the event leaves known.
pub step-changes : (sc : Scenario) (s : State) (a : Active) (vs : List Value) (known : List Term) → get_elem? s.progress a.index ≡ some a.progress
    → ((advanced sc s a vs known).known ≡ known)
    × (get_elem? (advanced sc s a vs known).progress a.index ≡ some (record { done = suc a.progress.done; values = set_after sc a vs }))
    × ((k : ℕ) → ¬ (k ≡ a.index) → get_elem? (advanced sc s a vs known).progress k ≡ get_elem? s.progress k)
unfolding advanced
step-changes sc s a vs known e = (
  refl,
  set_same s.progress a.index (record { done = suc a.progress.done; values = set_after sc a vs }) (get_elem-below s.progress a.index e),
  λ k n. set_other s.progress a.index (record { done = suc a.progress.done; values = set_after sc a vs }) k n,
)

-- A role starts with the terms of its knowledge rows; a read adds its pattern, a send or claim nothing.
pub role-knows : (rows : List Row) → GoodTable rows → (r : Role) → TermsOf rows r.knowledge (role_knowledge rows r)
unfolding role_knowledge
role-knows rows good r = listed-terms good r.knowledge

pub learned-exactly : (known : List Term) (kind : EventKind) (t x : Term) → Memᴰ x (learned known kind t) ↔ (Memᴰ x known ⊎ ((kind ≡ read) × (x ≡ t)))
learned-exactly known send t x = (inl, λ w. ⊎_elim (λ m. m) (λ v. absurd (send-not-read v.0)) w)
learned-exactly known read t x = (λ m. mem-cases m (λ e. inr (refl, e)) inl, λ w. ⊎_elim Memᴰ.tail (λ v. Memᴰ.head v.1) w)
learned-exactly known (claim kind) t x = (inl, λ w. ⊎_elim (λ m. m) (λ v. absurd (claim-not-read kind v.0)) w)
