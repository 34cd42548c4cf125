-- The laws of WF over exact marks: an event by its kind. Assumes nothing.
use Rattle.std.specs.Prelude.{ℕ, zero, suc, ◌≡◌, refl, ◌⊎◌, Bool, true, false, List, get_or}
use Rattle.std.proofs.Common.{arith, sym, ◌∙◌, inr}
use Rattle.std.proofs.Math.Logic.{⊎_elim, ⊎_map}
use Rattle.std.proofs.Math.Option.{some, some-injective, none-ne-some}
use Rattle.std.proofs.Math.ListN.{get_elem?}
use Rattle.semantics.specs.Term.{role, Term, atom}
use Rattle.semantics.specs.Inference.{derivable}
use Rattle.semantics.specs.Table.{Row}
use Rattle.semantics.specs.Roles.{secrecy, EventKind, send, read, claim, event_kinds}
use Rattle.semantics.specs.WellFormed.{readable, well_formed}
use Rattle.rows.specs.Rows.{rows_of, Shape}
use Rattle.open_marks.specs.Marks.{NameKnown, ReadableRow}
use Rattle.open_marks.specs.laws.Marks.{mark-answers}
use Rattle.open_wellformed.specs.WellFormed.{WellFormedEvent}

-- what the kind byte of an event says
pub data EventIs : ℕ → EventKind → Type 0 where
  is_send : EventIs 0 send
  is_read : EventIs 1 read
  is_claim : EventIs 2 (claim secrecy)

pub event-is : (kind : ℕ) (e : EventKind) → get_elem? event_kinds kind ≡ some e → EventIs kind e
event-is zero e h = rw (← some-injective send e h) is_send
event-is (suc zero) e h = rw (← some-injective read e h) is_read
event-is (suc (suc zero)) e h = rw (← some-injective (claim secrecy) e h) is_claim
event-is (suc (suc (suc kind))) e h = absurd (none-ne-some e h)

module _ (own : ℕ) (known : List Term) (peer : ℕ) (t : Term) where
  -- whose name is not derivable has no well-formed event
  nameless : derivable known (atom (role own)) ≡ false → (e : EventKind) → false ≡ well_formed own known e peer t
  unfolding well_formed
  nameless d send = rw d
  nameless d read = rw d
  nameless d (claim secrecy) = rw d

  module _ (own-name : derivable known (atom (role own)) ≡ true) where
    -- a send and a read have a peer whose name is derivable
    peerless : {kind : ℕ} {e : EventKind} → EventIs kind e → (kind ≡ 2 → ⊥) → derivable known (atom (role peer)) ≡ false → false ≡ well_formed own known e peer t
    unfolding well_formed
    peerless is_send k d = rw (own-name, d)
    peerless is_read k d = rw (own-name, d)
    peerless is_claim k d = absurd (k refl)

    -- a read's term is readable
    read-formed : {kind : ℕ} {e : EventKind} → EventIs kind e → (kind ≡ 2) ⊎ (derivable known (atom (role peer)) ≡ true) → kind ≡ 1 → readable known t ≡ well_formed own known e peer t
    unfolding well_formed
    read-formed is_send peer-name k = absurd (omega arith)
    read-formed is_read peer-name k = ⊎_elim (λ c. absurd (omega arith)) (λ (d : derivable known (atom (role peer)) ≡ true). rw (own-name, d)) peer-name
    read-formed is_claim peer-name k = absurd (omega arith)

    -- a send's and a claim's is derivable
    other-formed : {kind : ℕ} {e : EventKind} → EventIs kind e → (kind ≡ 2) ⊎ (derivable known (atom (role peer)) ≡ true) → (kind ≡ 1 → ⊥) → derivable known t ≡ well_formed own known e peer t
    unfolding well_formed
    other-formed is_send peer-name k = ⊎_elim (λ c. absurd (omega arith)) (λ (d : derivable known (atom (role peer)) ≡ true). rw (own-name, d)) peer-name
    other-formed is_read peer-name k = absurd (k refl)
    other-formed is_claim peer-name k = rw own-name

-- an event is a claim, or the name of its peer is known
abbrev pub PeerKnown : List Row → List Bool → ℕ → ℕ → Type 0
PeerKnown rows marks kind peer = (kind ≡ 2) ⊎ NameKnown rows marks peer true

-- a peer whose name is known
pub peer-found : (rows : List Row) (marks : List Bool) (kind peer : ℕ) {q : Bool} → NameKnown rows marks peer q → q ≡ true → PeerKnown rows marks kind peer
peer-found rows marks kind peer named e = inr (λ known celled exact. sym e ∙ named known celled exact)

module _ (bytes : List ℕ) (n : ℕ) (shape : Shape bytes n 0) (marks : List Bool) (own kind peer x : ℕ) {p : Bool} (named : NameKnown (rows_of bytes) marks own p) where
  -- an event of a role whose name is not known
  pub own-unknown : p ≡ false → WellFormedEvent (rows_of bytes) marks own kind peer x false
  own-unknown f known e t celled exact k h = nameless own known peer t (sym (named known celled exact) ∙ f) e

  module _ (own-known : p ≡ true) where
    -- an event that is no claim, with a peer whose name is not known
    pub peer-unknown : (kind ≡ 2 → ⊥) → {q : Bool} → NameKnown (rows_of bytes) marks peer q → q ≡ false → WellFormedEvent (rows_of bytes) marks own kind peer x false
    peer-unknown c peer-named f known e t celled exact k h =
        peerless own known peer t (sym (named known celled exact) ∙ own-known) (event-is kind e k) c (sym (peer-named known celled exact) ∙ f)

    module _ (peer-known : PeerKnown (rows_of bytes) marks kind peer) where
      -- a read
      pub was_read : kind ≡ 1 → {r : Bool} → ReadableRow (rows_of bytes) marks x r → WellFormedEvent (rows_of bytes) marks own kind peer x r
      was_read c r known e t celled exact k h =
          r known t celled exact h
          ∙ read-formed own known peer t (sym (named known celled exact) ∙ own-known) (event-is kind e k) (⊎_map (λ m. m) (λ d. sym (d known celled exact)) peer-known) c

      -- a send or a claim
      pub was-other : (kind ≡ 1 → ⊥) → {r : Bool} → r ≡ get_or marks x false → WellFormedEvent (rows_of bytes) marks own kind peer x r
      was-other c r known e t celled exact k h =
          r ∙ mark-answers bytes n shape marks exact x h
          ∙ other-formed own known peer t (sym (named known celled exact) ∙ own-known) (event-is kind e k) (⊎_map (λ m. m) (λ d. sym (d known celled exact)) peer-known) c
