-- The laws of the walk through a list by a budget. Assumes nothing.
use Prim.Native.Nat.{ℕ, zero, suc, ◌≤◌, ◌<◌}
use Rattle.std.proofs.Common.{arith}
use Rattle.std.specs.Prelude.{◌≡◌, length}
use Rattle.std.proofs.Math.Path.{refl}
use mathlib.Core.List.{List, [], ◌∷◌}
use Rattle.std.proofs.Math.Option.{Option, none, some, some-injective, none-ne-some}
use Rattle.std.proofs.Math.ListN.{get_elem?}
use Rattle.semantics.specs.State.{Claim}
use Rattle.semantics.specs.Verdict.{Entry, Finding, found, nothing, cut, later, walked}

-- what a walk finds
pub data Walked (judge : Entry → Option Claim) (budget : ℕ) (es : List Entry) : Finding → Type 0 where
  walked_found :
      {e : Entry} {c : Claim} (i : ℕ) → i < budget → get_elem? es i ≡ some e → judge e ≡ some c → ((j : ℕ) (f : Entry) → j < i → get_elem? es j ≡ some f → judge f ≡ none)
      → Walked judge budget es (found (suc i) e c)
  walked_all : length es ≤ budget → ((j : ℕ) (f : Entry) → get_elem? es j ≡ some f → judge f ≡ none) → Walked judge budget es nothing
  walked_cut : budget < length es → ((j : ℕ) (f : Entry) → j < budget → get_elem? es j ≡ some f → judge f ≡ none) → Walked judge budget es cut

module _ (judge : Entry → Option Claim) where
  -- one entry more, which breaks nothing
  walked_more : (budget : ℕ) (e : Entry) (es : List Entry) (r : Finding) → judge e ≡ none → Walked judge budget es r → Walked judge (suc budget) (e ∷ es) (later r)
  walked_more budget e es r q (walked_found i l at b before) =
      walked_found (suc i) (omega arith) at b (λ j. elim j as (λ k. (f : Entry) → k < suc i → get_elem? (e ∷ es) k ≡ some f → judge f ≡ none) [
        | zero ↦ λ f l' at'. rw (← some-injective e f at') q
        | suc j' ↦ λ f l' at'. before j' f (omega arith) at'
      ])
  walked_more budget e es r q (walked_all l all) =
      walked_all (omega arith) (λ j. elim j as (λ k. (f : Entry) → get_elem? (e ∷ es) k ≡ some f → judge f ≡ none) [
        | zero ↦ λ f at'. rw (← some-injective e f at') q
        | suc j' ↦ λ f at'. all j' f at'
      ])
  walked_more budget e es r q (walked_cut l all) =
      walked_cut (omega arith) (λ j. elim j as (λ k. (f : Entry) → k < suc budget → get_elem? (e ∷ es) k ≡ some f → judge f ≡ none) [
        | zero ↦ λ f l' at'. rw (← some-injective e f at') q
        | suc j' ↦ λ f l' at'. all j' f (omega arith) at'
      ])

  pub walked-view : (budget : ℕ) (es : List Entry) → Walked judge budget es (walked judge budget es)
  unfolding walked
  walked-view zero [] = walked_all (omega arith) (λ j f at. absurd (none-ne-some f at))
  walked-view (suc budget) [] = walked_all (omega arith) (λ j f at. absurd (none-ne-some f at))
  walked-view zero (e ∷ es) = walked_cut (omega arith) (λ j f l at. absurd (omega arith))
  walked-view (suc budget) (e ∷ es) = go (judge e) refl (walked-view budget es)
    where
      go : (o : Option Claim) → judge e ≡ o → Walked judge budget es (walked judge budget es) → Walked judge (suc budget) (e ∷ es) (walked judge (suc budget) (e ∷ es))
      go (some c) q rest = rw (q, walked) (walked_found 0 (omega arith) refl q (λ j f l at. absurd (omega arith)))
      go none q rest = rw (q, walked) (walked_more budget e es (walked judge budget es) q rest)
