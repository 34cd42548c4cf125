-- The laws of the packing: which answer has which word, that 64 bits are enough, and what is read back. Assumes nothing.
use Rattle.std.specs.Prelude.{ℕ, suc, ◌/◌, ◌%◌, ◌<◌, ◌≡◌, refl, ◌↔◌, Bool, true, false, List, length}
use Rattle.std.proofs.Common.{arith}
use Rattle.std.proofs.Math.Nat.{min-eq_left, le-pred_of_lt}
use Rattle.std.proofs.Math.Option.{Option, none, some}
use Rattle.std.proofs.Math.Dec.{eqb-suc-zero}
use Rattle.semantics.specs.Roles.{ClaimKind, secrecy}
use Rattle.semantics.specs.State.{Claim}
use Rattle.semantics.specs.Answer.{Refusal, Answer, refused, accepted}
use Rattle.semantics.specs.Scenario.{Scenario}
use Rattle.semantics.specs.Moves.{Move}
use Rattle.semantics.specs.Verdict.{Verdict, broken_at, held, stopped, trace_bytes}
use Rattle.semantics.specs.Packing.{packed_refusal, packed_number, packed_break, packed_kind, packed_derived, packed_opened, packed_replayed, packed_searched, read_word, read_number, RefusalRead, DeriveRead, OpenRead, ReplayRead, SearchRead, FitsRefusal, FitsDerive, FitsOpen, FitsReplay, FitsSearch}
use Rattle.semantics.proofs.laws.Answer.{refused-not-accepted}

-- there is one kind
kind-two : (k : ClaimKind) → packed_kind k ≡ 2
kind-two secrecy = refl

-- HELD's word is that of HELD alone
pub held-word : (a : Answer Verdict) → (read_word (packed_searched a) ≡ 1) ↔ ((n : ℕ) × (a ≡ accepted (held n)))
held-word a = (holds a, λ w. rw w.1 (omega arith))
  where
    holds : (a : Answer Verdict) → read_word (packed_searched a) ≡ 1 → (n : ℕ) × (a ≡ accepted (held n))
    holds (refused r) e = absurd (omega arith)
    holds (accepted (broken_at p ms c)) e = absurd (omega (arith, kind-two c.kind))
    holds (accepted (held n)) e = (n, refl)
    holds (accepted (stopped n)) e = absurd (omega arith)

-- BROKEN's word is that of a break
pub broken-word : {a : Answer Verdict} {p : ℕ} {ms : List Move} {c : Claim} → a ≡ accepted (broken_at p ms c) → read_word (packed_searched a) ≡ 3
broken-word {c = c} e = rw e (omega (arith, kind-two c.kind))

-- ACCEPTED's word is that of an accepted file alone
pub accepted-word : (a : Answer Scenario) → (read_word (packed_opened a) ≡ 4) ↔ ((sc : Scenario) × (a ≡ accepted sc))
accepted-word (refused r) = (λ e. absurd (omega arith), λ w. absurd (refused-not-accepted w.1))
accepted-word (accepted sc) = (λ e. (sc, refl), λ w. omega arith)

-- DERIVABLE's word is that of a derivable term alone
pub derivable-word : (a : Answer Bool) → (read_word (packed_derived a) ≡ 5) ↔ (a ≡ accepted true)
derivable-word a = (holds a, λ e. rw e (omega arith))
  where
    holds : (a : Answer Bool) → read_word (packed_derived a) ≡ 5 → a ≡ accepted true
    holds (refused r) e = absurd (omega arith)
    holds (accepted true) e = refl
    holds (accepted false) e = absurd (omega arith)

-- no number needs more than 64 bits: Derive's
derived-below : (a : Answer Bool) → packed_derived a < 18446744073709551616
derived-below (refused r) = omega arith
derived-below (accepted true) = omega arith
derived-below (accepted false) = omega arith

-- Open's
opened-below : (a : Answer Scenario) → packed_opened a < 18446744073709551616
opened-below (refused r) = omega arith
opened-below (accepted sc) = omega arith

-- Replay's
replayed-below : (a : Answer (Option Claim)) → packed_replayed a < 18446744073709551616
replayed-below (refused r) = omega arith
replayed-below (accepted none) = omega arith
replayed-below (accepted (some c)) = omega (arith, kind-two c.kind)

-- Search's
searched-below : (a : Answer Verdict) → packed_searched a < 18446744073709551616
searched-below (refused r) = omega arith
searched-below (accepted (broken_at p ms c)) = omega (arith, kind-two c.kind)
searched-below (accepted (held n)) = omega arith
searched-below (accepted (stopped n)) = omega arith

-- all four
pub packed-below :
    ((a : Answer Bool) → packed_derived a < 18446744073709551616) × ((a : Answer Scenario) → packed_opened a < 18446744073709551616)
    × ((a : Answer (Option Claim)) → packed_replayed a < 18446744073709551616) × ((a : Answer Verdict) → packed_searched a < 18446744073709551616)
packed-below = (derived-below, opened-below, replayed-below, searched-below)

-- a refusal's number stands above its place, and any other number lowest
number-of-refusal : (n : ℕ) → read_word n ≡ 0 → read_number n ≡ n / 4503599627370496 % 256
number-of-refusal n e = rw (e, read_number)

number-of-word : (n word : ℕ) → read_word n ≡ suc word → read_number n ≡ n % 4294967296
number-of-word n word e = rw (e, read_number, eqb-suc-zero)

-- a refusal is read back
refusal-read : (r : Refusal) → FitsRefusal r → RefusalRead (packed_refusal r.number r.place) r
refusal-read r f = (omega arith, omega (arith, number-of-refusal (packed_refusal r.number r.place) (omega arith)), omega arith)

-- Derive's answer is read back
pub derive-read : (a : Answer Bool) → FitsDerive a → DeriveRead (packed_derived a) a
derive-read (refused r) f = refusal-read r f
derive-read (accepted true) f = omega arith
derive-read (accepted false) f = omega arith

-- Open's answer is read back
pub open-read : (a : Answer Scenario) → FitsOpen a → OpenRead (packed_opened a) a
open-read (refused r) f = refusal-read r f
open-read (accepted sc) f = omega arith

-- Replay's answer is read back
pub replay-read : (a : Answer (Option Claim)) → FitsReplay a → ReplayRead (packed_replayed a) a
replay-read (refused r) f = refusal-read r f
replay-read (accepted none) f = omega arith
replay-read (accepted (some c)) f = omega (arith, kind-two c.kind)

-- Search's answer is read back
pub search-read : (a : Answer Verdict) → FitsSearch a → SearchRead (packed_searched a) a
search-read (refused r) f = refusal-read r f
search-read (accepted (broken_at p ms c)) f =
    let n = packed_break p (length (trace_bytes ms)) c.run c.event (packed_kind c.kind) in
    rw (number-of-word n 2 (omega (arith, kind-two c.kind)), kind-two c.kind, min-eq_left (le-pred_of_lt f.0), min-eq_left f.1.0, min-eq_left f.1.1, min-eq_left f.2) (omega arith)
search-read (accepted (held k)) f = omega (arith, number-of-word (packed_number 1 k) 0 (omega arith))
search-read (accepted (stopped k)) f = omega (arith, number-of-word (packed_number 2 k) 1 (omega arith))
