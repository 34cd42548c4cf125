-- What a walk through a part of the list finds, and what that becomes in the whole. Assumes nothing.
use Rattle.std.specs.Prelude.{ℕ, zero, suc, ◌+◌, Bool, true, false, ltb, None, Some, Err, Ok}
use Rattle.answers.specs.declared.Claim.{Claim}
use Rattle.answers.specs.declared.Break.{Break}
use Rattle.answers.specs.Answers.{Claimed, Walked}
use Rattle.answers.specs.declared.End.TheVariants.{Broken, Cut}

-- the break of the first trace of a list, which has no bytes
abbrev pub own_break : Claim → Break
own_break c = record { place = 1; length = 0; claim = c }

-- a break that stands so many places later, and one whose trace begins with so many bytes more
abbrev pub placed_later : Break → ℕ → Break
placed_later b count = record { place = count + b.place; length = b.length; claim = b.claim }

abbrev pub made_longer : Break → ℕ → Break
made_longer b bytes = record { place = b.place; length = bytes + b.length; claim = b.claim }

-- a state's own trace, by the claim that it breaks, while the budget is not at its end
abbrev pub own_of : Claimed → Walked
own_of (Some c) = Err (Broken (own_break c))
own_of None = Ok 1

abbrev pub own_as : ℕ → Claimed → Walked
own_as zero c = Err Cut
own_as (suc left) c = own_of c

-- a remembered number of traces without a break, whether or not it is beyond what is left of the budget
abbrev pub known_by : Bool → ℕ → Walked
known_by true count = Err Cut
known_by false count = Ok count

abbrev pub known_as : ℕ → ℕ → Walked
known_as left count = known_by (ltb left count) count

-- what is found in a part, behind so many traces without a break
abbrev pub behind_as : ℕ → Walked → Walked
behind_as count (Err (Broken b)) = Err (Broken (placed_later b count))
behind_as count (Ok m) = Ok (count + m)
behind_as count (Err Cut) = Err Cut

-- what is found after a move, its step of so many bytes put in front
abbrev pub after_step : Walked → ℕ → Walked
after_step (Err (Broken b)) bytes = Err (Broken (made_longer b bytes))
after_step (Ok m) bytes = Ok m
after_step (Err Cut) bytes = Err Cut

-- whether there is a break
abbrev pub is_broken : Walked → Bool
is_broken (Err (Broken b)) = true
is_broken (Ok m) = false
is_broken (Err Cut) = false

-- a break's place or the count of traces without one, and the length of a break's trace
abbrev pub size_of : Walked → ℕ
size_of (Err (Broken b)) = b.place
size_of (Ok m) = m
size_of (Err Cut) = 0

abbrev pub length_of : Walked → ℕ
length_of (Err (Broken b)) = b.length
length_of (Ok m) = 0
length_of (Err Cut) = 0
