-- Inference (document 01, 'Terms'; 000, section 3.2), twice: the smallest relation with the paper's rules, and a decision. Assumes nothing.
use Rattle.std.specs.Prelude.{ℕ, zero, suc, Bool, false, ◌&&◌, ◌||◌}
use mathlib.Core.List.{List, [], ◌∷◌, ◌++◌, Memᴰ, map}
use Rattle.std.proofs.Math.Option.{Option, none, some}
use Rattle.semantics.specs.Basic.{decided, provided, mapped, total}
use Rattle.semantics.specs.Term.{Term, atom, pk, sk, shared, pair, encrypted, term?, inverse, size}

-- "Inference is the smallest relation with:"
pub data Derives (known : List Term) : Term → Type 0 where
  -- "a member of the set is derivable;"
  member : {t : Term} → Memᴰ t known → Derives known t
  -- "a pair exactly if both parts are;"
  pairs : {t u : Term} → Derives known t → Derives known u → Derives known (pair t u)
  first : {t u : Term} → Derives known (pair t u) → Derives known t
  second : {t u : Term} → Derives known (pair t u) → Derives known u
  -- "an encryption if content and key are;"
  encrypts : {t k : Term} → Derives known t → Derives known k → Derives known (encrypted t k)
  -- "the content if the encryption and the inverse of its key are."
  decrypts : {t k : Term} → Derives known (encrypted t k) → Derives known (inverse k) → Derives known t

-- whether a term is a member of a list
unfoldable pub is_member : Term → List Term → Bool
is_member t [] = false
is_member t (x ∷ xs) = decided (term? t x) || is_member t xs

-- What can be built: members, and pairs and encryptions of what can be built.
unfoldable pub builds : List Term → Term → Bool
builds known (atom a) = is_member (atom a) known
builds known (pk t) = is_member (pk t) known
builds known (sk t) = is_member (sk t) known
builds known (shared t u) = is_member (shared t u) known
builds known (pair t u) = is_member (pair t u) known || (builds known t && builds known u)
builds known (encrypted t k) = is_member (encrypted t k) known || (builds known t && builds known k)

-- The parts that a known term gives up: those of a pair, and the content of an encryption if the inverse of its key can be built.
unfoldable pub parts_of : List Term → Term → Option (List Term)
parts_of known (atom a) = none
parts_of known (pk t) = none
parts_of known (sk t) = none
parts_of known (shared t u) = none
parts_of known (pair t u) = some (t ∷ u ∷ [])
parts_of known (encrypted t k) = provided (builds known (inverse k)) (t ∷ [])

-- The first term of a list that gives up its parts, and the list with the parts in its place.
unfoldable pub takes_apart : List Term → List Term → Option (Term × List Term)
takes_apart known [] = none
takes_apart known (t ∷ ts) =
    elim (parts_of known t) [
      | some ps ↦ some (t, ps ++ ts)
      | none ↦ mapped (λ found. (found.0, t ∷ found.1)) (takes_apart known ts)
    ]

-- Taking apart until nothing opens: `kept` are the terms taken apart, `waiting` those that have not been.
unfoldable pub apart : ℕ → List Term → List Term → List Term
apart zero kept waiting = kept ++ waiting
apart (suc n) kept waiting =
    elim (takes_apart (kept ++ waiting) waiting) [
      | some found ↦ apart n (found.0 ∷ kept) found.1
      | none ↦ kept ++ waiting
    ]

unfoldable pub weight : List Term → ℕ
weight ts = total (map size ts)

-- The known terms with all that can be taken out of them. Each step uses up a constructor, so the weight is fuel enough.
unfoldable pub analysed : List Term → List Term
analysed known = apart (weight known) [] known

-- The decision: take apart until nothing opens, then build.
unfoldable pub derivable : List Term → Term → Bool
derivable known t = builds (analysed known) t
