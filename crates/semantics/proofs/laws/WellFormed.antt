-- The laws of Readable and WF: their tests hold exactly where the relations do. Assumes nothing.
use Rattle.std.specs.Prelude.{ℕ, ◌↔◌, Bool, ◌&&◌, List, ◌∷◌, T}
use Rattle.std.proofs.Common.{⊎_elim}
use Rattle.semantics.specs.Term.{Atom, trusted, untrusted, global, intruder, role, variable, local, Term, atom, pk, sk, shared, pair, encrypted, inverse}
use Rattle.semantics.specs.Inference.{Derives, derivable}
use Rattle.semantics.specs.Roles.{secrecy, EventKind, send, read, claim}
use Rattle.semantics.specs.WellFormed.{readable_atom, readable, well_formed}
use Rattle.semantics.specs.Allowed.{Readable, reads_variable, reads_atom, reads_pk, reads_sk, reads_shared, reads_pair, reads_whole, reads_content, WellFormed, well_sent, well_read, well_claimed}
use Rattle.semantics.proofs.laws.Test.{both, both_left, both_right, either_left, either-right, either-cases}
use Rattle.semantics.proofs.laws.Inference.{derivable-exact}

-- what the test passes is readable
readable-sound : (known : List Term) (t : Term) → T (readable known t) → Readable known t
unfolding readable readable_atom
readable-sound known (atom (trusted n)) h = reads_atom ((derivable-exact known (atom (trusted n))).0 h)
readable-sound known (atom (untrusted n)) h = reads_atom ((derivable-exact known (atom (untrusted n))).0 h)
readable-sound known (atom (global n)) h = reads_atom ((derivable-exact known (atom (global n))).0 h)
readable-sound known (atom (intruder n)) h = reads_atom ((derivable-exact known (atom (intruder n))).0 h)
readable-sound known (atom (role i)) h = reads_atom ((derivable-exact known (atom (role i))).0 h)
readable-sound known (atom (variable n type)) h = reads_variable
readable-sound known (atom (local n u)) h = reads_atom ((derivable-exact known (atom (local n u))).0 h)
readable-sound known (pk t) h = reads_pk ((derivable-exact known (pk t)).0 h)
readable-sound known (sk t) h = reads_sk ((derivable-exact known (sk t)).0 h)
readable-sound known (shared t u) h = reads_shared ((derivable-exact known (shared t u)).0 h)
readable-sound known (pair t u) h =
    reads_pair (readable-sound (u ∷ known) t (both_left (readable (u ∷ known) t) (readable (t ∷ known) u) h))
    (readable-sound (t ∷ known) u (both_right (readable (u ∷ known) t) (readable (t ∷ known) u) h))
readable-sound known (encrypted t k) h =
    ⊎_elim (λ d. reads_whole ((derivable-exact known (encrypted t k)).0 d))
    (λ b. reads_content ((derivable-exact known (inverse k)).0 (both_left (derivable known (inverse k)) (readable known t) b))
    (readable-sound known t (both_right (derivable known (inverse k)) (readable known t) b)))
    (either-cases (derivable known (encrypted t k)) (derivable known (inverse k) && readable known t) h)

-- a derivable atom passes the test
atom-readable : (known : List Term) (a : Atom) → Derives known (atom a) → T (readable_atom known a)
unfolding readable_atom
atom-readable known (trusted n) d = (derivable-exact known (atom (trusted n))).1 d
atom-readable known (untrusted n) d = (derivable-exact known (atom (untrusted n))).1 d
atom-readable known (global n) d = (derivable-exact known (atom (global n))).1 d
atom-readable known (intruder n) d = (derivable-exact known (atom (intruder n))).1 d
atom-readable known (role i) d = (derivable-exact known (atom (role i))).1 d
atom-readable known (variable n type) d = tt
atom-readable known (local n u) d = (derivable-exact known (atom (local n u))).1 d

-- what is readable passes the test
readable-complete : {known : List Term} {t : Term} → Readable known t → T (readable known t)
unfolding readable readable_atom
readable-complete reads_variable = tt
readable-complete (reads_atom {known = known} {a = a} d) = atom-readable known a d
readable-complete (reads_pk {known = known} {t = t} d) = (derivable-exact known (pk t)).1 d
readable-complete (reads_sk {known = known} {t = t} d) = (derivable-exact known (sk t)).1 d
readable-complete (reads_shared {known = known} {t = t} {u = u} d) = (derivable-exact known (shared t u)).1 d
readable-complete (reads_pair {known = known} {t = t} {u = u} r q) =
    both (readable (u ∷ known) t) (readable (t ∷ known) u) (readable-complete r) (readable-complete q)
readable-complete (reads_whole {known = known} {t = t} {k = k} d) =
    either_left (derivable known (encrypted t k)) (derivable known (inverse k) && readable known t) ((derivable-exact known (encrypted t k)).1 d)
readable-complete (reads_content {known = known} {t = t} {k = k} d r) =
    either-right (derivable known (encrypted t k)) (derivable known (inverse k) && readable known t)
    (both (derivable known (inverse k)) (readable known t) ((derivable-exact known (inverse k)).1 d) (readable-complete r))

pub readable-exact : (known : List Term) (t : Term) → T (readable known t) ↔ Readable known t
readable-exact known t = (readable-sound known t, readable-complete)

module _ (own : ℕ) (known : List Term) (peer : ℕ) (t : Term) where
  abbrev own_name : Bool
  own_name = derivable known (atom (role own))

  abbrev peer_name : Bool
  peer_name = derivable known (atom (role peer))

  well-sound : (kind : EventKind) → T (well_formed own known kind peer t) → WellFormed own known kind peer t
  unfolding well_formed
  well-sound send h =
      let n = both_left (own_name && peer_name) (derivable known t) h in
      well_sent ((derivable-exact known (atom (role own))).0 (both_left own_name peer_name n)) ((derivable-exact known (atom (role peer))).0 (both_right own_name peer_name n))
      ((derivable-exact known t).0 (both_right (own_name && peer_name) (derivable known t) h))
  well-sound read h =
      let n = both_left (own_name && peer_name) (readable known t) h in
      well_read ((derivable-exact known (atom (role own))).0 (both_left own_name peer_name n)) ((derivable-exact known (atom (role peer))).0 (both_right own_name peer_name n))
      (readable-sound known t (both_right (own_name && peer_name) (readable known t) h))
  well-sound (claim secrecy) h =
      well_claimed ((derivable-exact known (atom (role own))).0 (both_left own_name (derivable known t) h)) ((derivable-exact known t).0 (both_right own_name (derivable known t) h))

  well-complete : {kind : EventKind} → WellFormed own known kind peer t → T (well_formed own known kind peer t)
  unfolding well_formed
  well-complete (well_sent o p d) =
      both (own_name && peer_name) (derivable known t) (both own_name peer_name ((derivable-exact known (atom (role own))).1 o) ((derivable-exact known (atom (role peer))).1 p))
      ((derivable-exact known t).1 d)
  well-complete (well_read o p r) =
      both (own_name && peer_name) (readable known t) (both own_name peer_name ((derivable-exact known (atom (role own))).1 o) ((derivable-exact known (atom (role peer))).1 p))
      (readable-complete r)
  well-complete (well_claimed o d) = both own_name (derivable known t) ((derivable-exact known (atom (role own))).1 o) ((derivable-exact known t).1 d)

-- an event is well formed exactly as 000 has it
pub well_formed-exact : (own : ℕ) (known : List Term) (kind : EventKind) (peer : ℕ) (t : Term) → T (well_formed own known kind peer t) ↔ WellFormed own known kind peer t
well_formed-exact own known kind peer t = (well-sound own known peer t kind, well-complete own known peer t)
