-- The numbers of the code's answers: each is that of the definition's answer. Assumes nothing.
use Rattle.std.specs.Prelude.{ℕ, ◌≡◌, refl, Bool, true, false, List, length, Err, None, Ok, Some}
use Rattle.std.proofs.Common.{ap}
use Rattle.std.proofs.Math.Option.{Option, none, some}
use Rattle.semantics.specs.Roles.{secrecy}
use Rattle.semantics.specs.Answer as definitions
use Rattle.semantics.specs.Answer.{Answer, refused, accepted}
use Rattle.semantics.specs.Scenario.{Scenario, opened}
use Rattle.semantics.specs.Moves.{Listing}
use Rattle.semantics.specs.Derive.{derived}
use Rattle.semantics.specs.Replay.{replayed}
use Rattle.semantics.specs.Roles as roles
use Rattle.semantics.specs.State as states
use Rattle.semantics.specs.Verdict as verdicts
use Rattle.semantics.specs.Verdict.{broken_at, held, stopped, trace_bytes, searched_in}
use Rattle.semantics.specs.Packing.{held_word, stopped_word, broken_word, accepted_word, derivable_word, not_derivable_word, claim_word, no_claim_word, word_alone, packed_refusal, packed_number, packed_claim, packed_break, packed_kind, packed_derived, packed_opened, packed_replayed, packed_searched}
use Rattle.answers.specs.Answers.{Numbered, number_of, reason_of, refusal_as, Derived, Opened, Replayed, Searched, kind_as, derived_as, opened_as, replayed_as, searched_as}
use Rattle.answers.specs.laws.Numbers.{derived-known, opened-known, replayed-known, searched-known}
use Rattle.answers.specs.declared.Refusal.{Refusal}
use Rattle.answers.specs.declared.Claim.{Claim}
use Rattle.answers.specs.declared.ClaimKind.{ClaimKind}
use Rattle.answers.specs.declared.ClaimKind.TheVariants.{Secrecy}
use Rattle.answers.specs.declared.Break.{Break}
use Rattle.answers.specs.declared.Verdict.{Verdict}
use Rattle.answers.specs.declared.Verdict.TheVariants as searching
use Rattle.packing.specs.declared.Word.{Word}
use Rattle.packing.specs.declared.Word.TheVariants as words

-- the number of a word
abbrev pub word_of : Word → ℕ
word_of words.Held = held_word
word_of words.Stopped = stopped_word
word_of words.Broken = broken_word
word_of words.Accepted = accepted_word
word_of words.Derivable = derivable_word
word_of words.NotDerivable = not_derivable_word
word_of words.Claim = claim_word
word_of words.NoClaim = no_claim_word

-- a refusal
abbrev pub packed_refused : Refusal → ℕ
packed_refused r = packed_refusal (number_of r.reason) r.place

-- the two agree, for a number that is a reason's
packed-back : (r : definitions.Refusal) → number_of (reason_of r.number) ≡ r.number → packed_refused (refusal_as r) ≡ packed_refusal r.number r.place
packed-back r known = ap (λ (n : ℕ). packed_refusal n r.place) known

-- Derive's answer
abbrev pub packed_deriving : Derived → ℕ
packed_deriving (Err r) = packed_refused r
packed_deriving (Ok true) = word_alone derivable_word
packed_deriving (Ok false) = word_alone not_derivable_word

-- the two agree
pub packed-derived : (a : Answer Bool) → Numbered a → packed_deriving (derived_as a) ≡ packed_derived a
packed-derived (refused r) known = packed-back r known
packed-derived (accepted true) known = refl
packed-derived (accepted false) known = refl

-- so they do for each answer that Derive gives
pub derive-packed : (table list : List ℕ) (target : ℕ) → packed_deriving (derived_as (derived table list target)) ≡ packed_derived (derived table list target)
derive-packed table list target = packed-derived (derived table list target) (derived-known table list target)

-- Open's answer
abbrev pub packed_opening : Opened → ℕ
packed_opening (Err r) = packed_refused r
packed_opening (Ok layout) = word_alone accepted_word

-- the two agree
pub packed-opened : (file : List ℕ) (a : Answer Scenario) → Numbered a → packed_opening (opened_as file a) ≡ packed_opened a
packed-opened file (refused r) known = packed-back r known
packed-opened file (accepted sc) known = refl

-- so they do for each answer that Open gives
pub open-packed : (file : List ℕ) → packed_opening (opened_as file (opened file)) ≡ packed_opened (opened file)
open-packed file = packed-opened file (opened file) (opened-known file)

-- Replay's answer
abbrev pub packed_code_kind : ClaimKind → ℕ
packed_code_kind Secrecy = 2

abbrev pub packed_code_claim : Claim → ℕ
packed_code_claim c = packed_claim c.run c.event (packed_code_kind c.kind)

abbrev pub packed_replaying : Replayed → ℕ
packed_replaying (Err r) = packed_refused r
packed_replaying (Ok None) = word_alone no_claim_word
packed_replaying (Ok (Some c)) = packed_code_claim c

-- the two agree
packed-kind : (k : roles.ClaimKind) → packed_code_kind (kind_as k) ≡ packed_kind k
packed-kind secrecy = refl

pub packed-replayed : (a : Answer (Option states.Claim)) → Numbered a → packed_replaying (replayed_as a) ≡ packed_replayed a
packed-replayed (refused r) known = packed-back r known
packed-replayed (accepted none) known = refl
packed-replayed (accepted (some c)) known = ap (packed_claim c.run c.event) (packed-kind c.kind)

-- so they do for each answer that Replay gives
pub replay-packed : (file trace : List ℕ) → packed_replaying (replayed_as (replayed file trace)) ≡ packed_replayed (replayed file trace)
replay-packed file trace = packed-replayed (replayed file trace) (replayed-known file trace)

-- Search's answer
abbrev pub packed_code_break : Break → ℕ
packed_code_break b = packed_break b.place b.length b.claim.run b.claim.event (packed_code_kind b.claim.kind)

abbrev pub packed_verdict : Verdict → ℕ
packed_verdict (searching.Broken b) = packed_code_break b
packed_verdict (searching.Held n) = packed_number held_word n
packed_verdict (searching.Stopped n) = packed_number stopped_word n

abbrev pub packed_searching : Searched → ℕ
packed_searching (Err r) = packed_refused r
packed_searching (Ok v) = packed_verdict v

-- the two agree
pub packed-searched : (a : Answer verdicts.Verdict) → Numbered a → packed_searching (searched_as a) ≡ packed_searched a
packed-searched (refused r) known = packed-back r known
packed-searched (accepted (broken_at p ms c)) known = ap (packed_break p (length (trace_bytes ms)) c.run c.event) (packed-kind c.kind)
packed-searched (accepted (held n)) known = refl
packed-searched (accepted (stopped n)) known = refl

-- so they do for each answer that Search gives, by either list
pub search-packed : (list : Listing) (file buffer : List ℕ) → packed_searching (searched_as (searched_in list file buffer)) ≡ packed_searched (searched_in list file buffer)
search-packed list file buffer = packed-searched (searched_in list file buffer) (searched-known list file buffer)
