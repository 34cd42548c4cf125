-- One 64-bit number for each answer (docs/C-INTERFACE.md), and what a C caller reads back from it (include/tejorva.h). Assumes nothing.
use Rattle.std.specs.Prelude.{ℕ, ◌+◌, ◌*◌, ◌/◌, ◌%◌, ◌<◌, ◌≤◌, min, ◌≡◌, Bool, true, false, eqb, length}
use Rattle.std.proofs.Math.Option.{Option, none, some}
use Rattle.semantics.specs.Roles.{ClaimKind, secrecy}
use Rattle.semantics.specs.State.{Claim}
use Rattle.semantics.specs.Answer.{Refusal, Answer, refused, accepted}
use Rattle.semantics.specs.Scenario.{Scenario}
use Rattle.semantics.specs.Verdict.{Verdict, broken_at, held, stopped, trace_bytes}

-- the words
abbrev pub refused_word : ℕ
refused_word = 0

abbrev pub held_word : ℕ
held_word = 1

abbrev pub stopped_word : ℕ
stopped_word = 2

abbrev pub broken_word : ℕ
broken_word = 3

abbrev pub accepted_word : ℕ
accepted_word = 4

abbrev pub derivable_word : ℕ
derivable_word = 5

abbrev pub not_derivable_word : ℕ
not_derivable_word = 6

abbrev pub claim_word : ℕ
claim_word = 7

abbrev pub no_claim_word : ℕ
no_claim_word = 8

-- a word and nothing with it
abbrev pub word_alone : ℕ → ℕ
word_alone word = word * 1152921504606846976

-- A refusal: the number in 8 bits, the place in 52. A place that is larger, in a buffer that no machine has, is given as the largest.
abbrev pub packed_refusal : ℕ → ℕ → ℕ
packed_refusal number place = min number 255 * 4503599627370496 + min place 4503599627370495

-- A word with a number in 32 bits: the budget of a file has 4 bytes, and a list's length or place is no larger where it is given, so that no bit is lost.
abbrev pub packed_number : ℕ → ℕ → ℕ
packed_number word n = word_alone word + min n 4294967295

-- What says a claim: run, event and kind in 4 bits each, below the word. A run is at most 4 and an event at most 7, so that no bit is lost.
abbrev pub claim_bits : ℕ → ℕ → ℕ → ℕ
claim_bits run event kind = kind * 1099511627776 + min event 15 * 68719476736 + min run 15 * 4294967296

abbrev pub packed_claim : ℕ → ℕ → ℕ → ℕ
packed_claim run event kind = word_alone claim_word + claim_bits run event kind

-- A break: the list place, the trace's length in 9 bits, and the claim. A trace has at most 128 bytes.
abbrev pub packed_break : ℕ → ℕ → ℕ → ℕ → ℕ → ℕ
packed_break place size run event kind = packed_number broken_word place + min size 511 * 17592186044416 + claim_bits run event kind

-- the kind of a claim is the kind of its event
abbrev pub packed_kind : ClaimKind → ℕ
packed_kind secrecy = 2

-- Derive's answer
abbrev pub packed_derived : Answer Bool → ℕ
packed_derived (refused r) = packed_refusal r.number r.place
packed_derived (accepted true) = word_alone derivable_word
packed_derived (accepted false) = word_alone not_derivable_word

-- Open's answer
abbrev pub packed_opened : Answer Scenario → ℕ
packed_opened (refused r) = packed_refusal r.number r.place
packed_opened (accepted sc) = word_alone accepted_word

-- Replay's answer
abbrev pub packed_replayed : Answer (Option Claim) → ℕ
packed_replayed (refused r) = packed_refusal r.number r.place
packed_replayed (accepted none) = word_alone no_claim_word
packed_replayed (accepted (some c)) = packed_claim c.run c.event (packed_kind c.kind)

-- Search's answer
abbrev pub packed_searched : Answer Verdict → ℕ
packed_searched (refused r) = packed_refusal r.number r.place
packed_searched (accepted (broken_at p ms c)) = packed_break p (length (trace_bytes ms)) c.run c.event (packed_kind c.kind)
packed_searched (accepted (held n)) = packed_number held_word n
packed_searched (accepted (stopped n)) = packed_number stopped_word n

-- The readers of the header, a shift being a division and a mask a remainder. The word: answer >> 60
abbrev pub read_word : ℕ → ℕ
read_word answer = answer / 1152921504606846976

-- the number: (answer >> 60) == 0 ? answer >> 52 & 0xff : answer & 0xffffffff
abbrev pub read_number : ℕ → ℕ
read_number answer =
    elim (eqb (read_word answer) 0) [
      | true ↦ answer / 4503599627370496 % 256
      | false ↦ answer % 4294967296
    ]

-- a refusal's place: answer & 0xfffffffffffff
abbrev pub read_place : ℕ → ℕ
read_place answer = answer % 4503599627370496

-- a claim's run: answer >> 32 & 0xf
abbrev pub read_run : ℕ → ℕ
read_run answer = answer / 4294967296 % 16

-- its event: answer >> 36 & 0xf
abbrev pub read_event : ℕ → ℕ
read_event answer = answer / 68719476736 % 16

-- its kind: answer >> 40 & 0xf
abbrev pub read_kind : ℕ → ℕ
read_kind answer = answer / 1099511627776 % 16

-- the trace's length: answer >> 44 & 0x1ff
abbrev pub read_length : ℕ → ℕ
read_length answer = answer / 17592186044416 % 512

-- What a caller reads back, with words and kind as the header numbers them: a refusal
abbrev pub RefusalRead : ℕ → Refusal → Type 0
RefusalRead n r = (read_word n ≡ 0) × (read_number n ≡ r.number) × (read_place n ≡ r.place)

-- a claim of secrecy
abbrev pub ClaimRead : ℕ → Claim → Type 0
ClaimRead n c = (read_run n ≡ c.run) × (read_event n ≡ c.event) × (read_kind n ≡ 2)

-- Derive's answer
abbrev pub DeriveRead : ℕ → Answer Bool → Type 0
DeriveRead n (refused r) = RefusalRead n r
DeriveRead n (accepted true) = read_word n ≡ 5
DeriveRead n (accepted false) = read_word n ≡ 6

-- Open's answer
abbrev pub OpenRead : ℕ → Answer Scenario → Type 0
OpenRead n (refused r) = RefusalRead n r
OpenRead n (accepted sc) = read_word n ≡ 4

-- Replay's answer
abbrev pub ReplayRead : ℕ → Answer (Option Claim) → Type 0
ReplayRead n (refused r) = RefusalRead n r
ReplayRead n (accepted none) = read_word n ≡ 8
ReplayRead n (accepted (some c)) = (read_word n ≡ 7) × ClaimRead n c

-- Search's answer
abbrev pub SearchRead : ℕ → Answer Verdict → Type 0
SearchRead n (refused r) = RefusalRead n r
SearchRead n (accepted (broken_at p ms c)) = (read_word n ≡ 3) × (read_number n ≡ p) × ClaimRead n c × (read_length n ≡ length (trace_bytes ms))
SearchRead n (accepted (held k)) = (read_word n ≡ 1) × (read_number n ≡ k)
SearchRead n (accepted (stopped k)) = (read_word n ≡ 2) × (read_number n ≡ k)

-- What an answer must be so that no bit is lost: a refusal
abbrev pub FitsRefusal : Refusal → Type 0
FitsRefusal r = (r.number ≤ 255) × (r.place < 4503599627370496)

-- a claim
abbrev pub FitsClaim : Claim → Type 0
FitsClaim c = (c.run ≤ 15) × (c.event ≤ 15)

-- Derive's answer
abbrev pub FitsDerive : Answer Bool → Type 0
FitsDerive (refused r) = FitsRefusal r
FitsDerive (accepted b) = Unit {0}

-- Open's answer
abbrev pub FitsOpen : Answer Scenario → Type 0
FitsOpen (refused r) = FitsRefusal r
FitsOpen (accepted sc) = Unit {0}

-- Replay's answer
abbrev pub FitsReplay : Answer (Option Claim) → Type 0
FitsReplay (refused r) = FitsRefusal r
FitsReplay (accepted none) = Unit {0}
FitsReplay (accepted (some c)) = FitsClaim c

-- Search's answer
abbrev pub FitsSearch : Answer Verdict → Type 0
FitsSearch (refused r) = FitsRefusal r
FitsSearch (accepted (broken_at p ms c)) = (p < 4294967296) × FitsClaim c × (length (trace_bytes ms) ≤ 511)
FitsSearch (accepted (held n)) = n < 4294967296
FitsSearch (accepted (stopped n)) = n < 4294967296
