-- The laws of the table of terms: what an accepted block of rows is. Assumes nothing.
use Rattle.std.specs.Prelude.{ℕ, zero, suc, ◌+◌, ◌*◌, ◌≤◌, ◌<◌, ◌≡◌, refl, ◌↔◌, Bool, ◌&&◌, not, T, length, get_or, take}
use Rattle.std.proofs.Common.{not-suc-le-zero, le_of_suc-le-suc, arith, sym, ap, ◌∙◌, ⊎_elim, ltb→lt, leb→le, length-append}
use Rattle.std.proofs.Math.Option.{Option, none, some, none-ne-some}
use mathlib.Core.List.Memᴰ
use mathlib.Core.List.{List, [], ◌∷◌, ◌++◌, append_assoc, append-nil, Memᴰ}
use Rattle.std.proofs.Math.ListN.{get_elem?}
use Rattle.std.proofs.lemmas.List.{take-append-le}
use Rattle.std.proofs.Math.Seq.{take-append_seam}
use Rattle.semantics.specs.Basic.{decided, present, provided, keep, every}
use Rattle.semantics.specs.Limits.{most_rows, most_variables}
use Rattle.semantics.specs.Answer.{Answer, accepted, refuse}
use Rattle.semantics.specs.Table.{Row, atomic, pk_of, sk_of, shared_of, pair_of, encrypted_of, row?, decode, agent_like, no_pair, variable_row, fits, admissible, repeated, row_refusal, extended, rows_from}
use Rattle.semantics.specs.Guarantee.{refers_to, GoodTable}
use Rattle.semantics.proofs.laws.Test.{both-parts, not_iff, holds-decided, passed_none, passed-gives, provided-none, failed-none}
use Rattle.semantics.proofs.laws.Answer.{refused-not-accepted, accepted-same, unrefused}
use Rattle.semantics.proofs.laws.List.{mem-cases, every-iff, mem-get_elem, get_elem-below, get_elem-more}

-- a row that passes a test which an absent row fails is there
row-there : (test : Option Row → Bool) → ¬ T (test none) → (rows : List Row) (r : ℕ) → T (test (get_elem? rows r)) → r < length rows
row-there test fails rows r t = go (get_elem? rows r) refl t
  where
    go : (o : Option Row) → get_elem? rows r ≡ o → T (test o) → r < length rows
    go none e h = absurd (fails h)
    go (some x) e h = get_elem-below rows r e

-- one of two numbers below a bound
lower-two : {a b r n : ℕ} → Memᴰ r (a ∷ b ∷ []) → a < n → b < n → r < n
lower-two m l k = mem-cases m (λ e. rw e l) (λ m'. rw (Memᴰ.eq_of_singleton m') k)

-- a row that fits refers to rows below it
pub fits-lower : (below : List Row) (row : Row) → T (fits below row) → (r : ℕ) → Memᴰ r (refers_to row) → r < length below
unfolding fits
fits-lower below (atomic a) t r m = absurd (Memᴰ.not-nil m)
fits-lower below (pk_of a) t r m = rw (Memᴰ.eq_of_singleton m) (row-there agent_like (λ h. h) below a t)
fits-lower below (sk_of a) t r m = rw (Memᴰ.eq_of_singleton m) (row-there agent_like (λ h. h) below a t)
fits-lower below (shared_of a b) t r m = lower-two m (row-there agent_like (λ h. h) below a (search both-parts)) (row-there agent_like (λ h. h) below b (search both-parts))
fits-lower below (pair_of a b) t r m = lower-two m (row-there no_pair (λ h. h) below a (search both-parts)) (row-there present (λ h. h) below b (search both-parts))
fits-lower below (encrypted_of a b) t r m = lower-two m (row-there present (λ h. h) below a (search both-parts)) (row-there present (λ h. h) below b (search both-parts))

-- a row is repeated exactly if it is among those below it
pub repeated-exactly : (below : List Row) (row : Row) → T (repeated below row) ↔ Memᴰ row below
unfolding repeated
repeated-exactly below row = (found below, λ m. (not_iff (every other below)).1 (λ t. (not_iff (decided (row? row row))).0 ((every-iff other below).0 t row m) (holds-decided (row? row row) refl)))
  where
    other : Row → Bool
    other earlier = not (decided (row? earlier row))

    found : (rows : List Row) → T (not (every other rows)) → Memᴰ row rows
    found [] t = absurd t
    found (x ∷ rows) t = go (row? x row) (found rows) t
      where
        go : (d : Dec (x ≡ row)) → (T (not (every other rows)) → Memᴰ row rows) → T (not (not (decided d) && every other rows)) → Memᴰ row (x ∷ rows)
        go (yes e) rest t = Memᴰ.head (sym e)
        go (no n) rest t = Memᴰ.tail (rest t)

-- and so if it is at a place below it
pub repeated-at : (below : List Row) (row : Row) → T (repeated below row) ↔ ((i : ℕ) × (get_elem? below i ≡ some row))
repeated-at below row = (λ t. (mem-get_elem below).0 ((repeated-exactly below row).0 t), λ w. (repeated-exactly below row).1 ((mem-get_elem below).1 w))

-- what an admissible row is
pub admissible-holds : (below : List Row) (row : Row) → T (admissible below row)
    → (length below < most_rows) × (length (keep variable_row (below ++ row ∷ [])) ≤ most_variables) × T (fits below row)
unfolding admissible
admissible-holds below row t = (
  ltb→lt (length below) most_rows (search both-parts),
  leb→le (length (keep variable_row (below ++ row ∷ []))) most_variables (search both-parts),
  search both-parts,
)

-- an empty table is good
pub empty-good : GoodTable []
empty-good = record {
  few = omega arith;
  few_variables = omega arith;
  lower = λ i row e. absurd (none-ne-some row e);
  fitting = λ i row e. absurd (none-ne-some row e);
  distinct = λ i j row e. absurd (none-ne-some row e);
}

-- a good table stays good with one more row that is admissible and not repeated
pub more-good : (below : List Row) (row : Row) → T (admissible below row) → ¬ T (repeated below row) → GoodTable below → GoodTable (below ++ row ∷ [])
more-good below row a n g = record {
  few = rw length-append (omega (arith, w.0));
  few_variables = w.1;
  lower = λ i x e r m. ⊎_elim (λ old. g.lower i x old r m) (λ new. rw new.0 (fits-lower below row w.2 r (rw new.1 at m))) (get_elem-more below row i e);
  fitting = λ i x e. ⊎_elim (old-fits i x) (λ new. rw (new.0, new.1, take-append_seam) w.2) (get_elem-more below row i e);
  distinct = λ i j x e f. ⊎_elim
      (λ old. ⊎_elim (g.distinct i j x old) (λ new. absurd (n ((repeated-at below row).1 (i, rw new.1 at old)))) (get_elem-more below row j f))
      (λ new. ⊎_elim (λ old. absurd (n ((repeated-at below row).1 (j, rw new.1 at old)))) (λ new'. cc) (get_elem-more below row j f))
      (get_elem-more below row i e);
}
  where
    w : (length below < most_rows) × (length (keep variable_row (below ++ row ∷ [])) ≤ most_variables) × T (fits below row)
    w = admissible-holds below row a

    old-fits : (i : ℕ) (x : Row) → get_elem? below i ≡ some x → T (fits (take i (below ++ row ∷ [])) x)
    old-fits i x e = let l = get_elem-below below i e in rw (take-append-le i below (row ∷ []) (omega arith)) (g.fitting i x e)

-- Rows read from bytes, after those already read.
pub data Reads : List Row → List ℕ → List Row → Type 0 where
  ends : {below : List Row} → Reads below [] below
  reads :
      {below rows : List Row} {kind left right : ℕ} {bytes : List ℕ} {row : Row} → decode kind left right ≡ some row → T (admissible below row) → ¬ T (repeated below row)
      → Reads (below ++ row ∷ []) bytes rows → Reads below (kind ∷ left ∷ right ∷ bytes) rows

-- a row that is not refused is decoded, admissible and not repeated
pub row_refusal-none : (below : List Row) (o : Option Row) → row_refusal below o ≡ none → (row : Row) × (o ≡ some row) × T (admissible below row) × ¬ T (repeated below row)
unfolding row_refusal
row_refusal-none below none e = absurd (none-ne-some 4 (sym e))
row_refusal-none below (some row) e =
    let w = passed_none (admissible below row) (provided (repeated below row) 5) 4 e in
    (row, refl, w.0, provided-none (repeated below row) 5 w.1)

-- a row that is admissible and not repeated is not refused
pub row-unrefused : (below : List Row) (row : Row) → T (admissible below row) → ¬ T (repeated below row) → row_refusal below (some row) ≡ none
unfolding row_refusal
row-unrefused below row a n = passed-gives (admissible below row) (provided (repeated below row) 5) 4 a (failed-none (repeated below row) 5 n)

-- the answer of three bytes after the rows below, by what they are decoded to and the number that refuses them
abbrev pub row_then : ℕ → List Row → List ℕ → Option Row → Option ℕ → Answer (List Row)
row_then at below bytes o m = elim m [ some number ↦ refuse number at | none ↦ rows_from (at + 3) (extended below o) bytes ]

pub rows_from-then : (at : ℕ) (below : List Row) (kind left right : ℕ) (bytes : List ℕ) {o : Option Row} {m : Option ℕ} → decode kind left right ≡ o → row_refusal below o ≡ m
    → rows_from at below (kind ∷ left ∷ right ∷ bytes) ≡ row_then at below bytes o m
unfolding rows_from
rows_from-then at below kind left right bytes {o} d e = ap (λ x. row_then at below bytes x (row_refusal below x)) d ∙ ap (row_then at below bytes o) e

-- a row that may follow those below is added to them
pub rows_from-step : (at : ℕ) (below : List Row) (kind left right : ℕ) (bytes : List ℕ) (row : Row) → decode kind left right ≡ some row → T (admissible below row) → ¬ T (repeated below row)
    → rows_from at below (kind ∷ left ∷ right ∷ bytes) ≡ rows_from (at + 3) (below ++ row ∷ []) bytes
rows_from-step at below kind left right bytes row d a n = rows_from-then at below kind left right bytes d (row-unrefused below row a n)

-- fewer than three bytes are no row
pub rows_from-short : (at : ℕ) (below : List Row) (bytes : List ℕ) → 0 < length bytes → length bytes < 3 → rows_from at below bytes ≡ refuse 4 at
unfolding rows_from
rows_from-short at below [] l h = absurd (omega arith)
rows_from-short at below (kind ∷ []) l h = refl
rows_from-short at below (kind ∷ left ∷ []) l h = refl
rows_from-short at below (kind ∷ left ∷ right ∷ bytes) l h = absurd (omega arith)

-- accepted bytes are read
pub rows_from-reads : (at : ℕ) (below : List Row) (bytes : List ℕ) (rows : List Row) → rows_from at below bytes ≡ accepted rows → Reads below bytes rows
unfolding rows_from
rows_from-reads at below [] rows e = rw (accepted-same e) ends
rows_from-reads at below (kind ∷ []) rows e = absurd (refused-not-accepted e)
rows_from-reads at below (kind ∷ left ∷ []) rows e = absurd (refused-not-accepted e)
rows_from-reads at below (kind ∷ left ∷ right ∷ bytes) rows e =
    let u = unrefused (row_refusal below (decode kind left right)) at (rows_from (at + 3) (extended below (decode kind left right)) bytes) rows e in
    let w = row_refusal-none below (decode kind left right) u.0 in
    reads w.1 w.2 w.3 (rows_from-reads (at + 3) (below ++ w.0 ∷ []) bytes rows (rw w.1 at u.1))

-- rows read after a good table make a good table
reads-good : {below rows : List Row} {bytes : List ℕ} → Reads below bytes rows → GoodTable below → GoodTable rows
reads-good ends g = g
reads-good (reads {below = below} {row = row} d a n r) g = reads-good r (more-good below row a n g)

-- accepted rows are a good table
pub rows-good : (at : ℕ) (bytes : List ℕ) (rows : List Row) → rows_from at [] bytes ≡ accepted rows → GoodTable rows
rows-good at bytes rows e = reads-good (rows_from-reads at [] bytes rows e) empty-good

-- Rows that are those of some bytes, three for each.
pub record Decoded (bytes : List ℕ) (rows : List Row) : Type 0 where
  pub size : length bytes ≡ 3 * length rows
  pub each : (i : ℕ) → i < length rows → get_elem? rows i ≡ decode (get_or bytes (3 * i) 0) (get_or bytes (3 * i + 1) 0) (get_or bytes (3 * i + 2) 0)

-- no rows are those of no bytes
decoded-none : Decoded [] []
decoded-none = record { size = omega arith; each = λ i l. absurd (not-suc-le-zero l) }

-- one row before others
decoded-more : {kind left right : ℕ} {bytes : List ℕ} {row : Row} {rows : List Row} → decode kind left right ≡ some row → Decoded bytes rows → Decoded (kind ∷ left ∷ right ∷ bytes) (row ∷ rows)
decoded-more {kind} {left} {right} {bytes} {row} {rows} e d = record { size = omega arith; each = each }
  where
    each : (i : ℕ) → i < suc (length rows) → get_elem? (row ∷ rows) i
        ≡ decode (get_or (kind ∷ left ∷ right ∷ bytes) (3 * i) 0) (get_or (kind ∷ left ∷ right ∷ bytes) (3 * i + 1) 0) (get_or (kind ∷ left ∷ right ∷ bytes) (3 * i + 2) 0)
    each zero l = sym e
    each (suc i) l =
        let p : 3 * suc i ≡ suc (suc (suc (3 * i))) = omega arith in
        let p₁ : suc (suc (suc (3 * i))) + 1 ≡ suc (suc (suc (3 * i + 1))) = omega arith in
        let p₂ : suc (suc (suc (3 * i))) + 2 ≡ suc (suc (suc (3 * i + 2))) = omega arith in
        rw (p, p₁, p₂) (d.each i (le_of_suc-le-suc l))

-- the rows read are those of the bytes, after those already read
reads-decoded : {below rows : List Row} {bytes : List ℕ} → Reads below bytes rows → (new : List Row) × (rows ≡ below ++ new) × Decoded bytes new
reads-decoded (ends {below}) = ([], sym (append-nil below), decoded-none)
reads-decoded (reads {below = below} {row = row} d a n r) = let w = reads-decoded r in (row ∷ w.0, w.1 ∙ append_assoc below (row ∷ []) w.0, decoded-more d w.2)

-- accepted rows are those of the bytes
pub rows-decoded : (at : ℕ) (bytes : List ℕ) (rows : List Row) → rows_from at [] bytes ≡ accepted rows → Decoded bytes rows
rows-decoded at bytes rows e = let w = reads-decoded (rows_from-reads at [] bytes rows e) in rw w.1 w.2
