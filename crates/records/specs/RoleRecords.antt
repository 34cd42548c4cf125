-- The role records of a block as an iterator gives them. Assumes nothing.
use Rattle.std.specs.Prelude.{ℕ, zero, suc, ◌+◌, List, [], ◌∷◌, length, drop}
use Rattle.std.specs.Borrow.{Bor}
use Rattle.semantics.specs.Roles.{role_length}
use Rattle.records.specs.declared.roles.RoleRecords.{RoleRecords}

-- where each record of no more than so many begins, and the bytes from there on
unfoldable pub begins_from : ℕ → ℕ → List ℕ → List (ℕ × List ℕ)
begins_from zero at bytes = []
begins_from (suc n) at [] = []
begins_from (suc n) at (b ∷ bytes) = (at, b ∷ bytes) ∷ begins_from n (at + role_length (b ∷ bytes)) (drop (role_length (b ∷ bytes)) (b ∷ bytes))

-- those of all bytes
abbrev pub begins : ℕ → List ℕ → List (ℕ × List ℕ)
begins at bytes = begins_from (length bytes) at bytes

-- what is read of an item
abbrev pub read : ℕ × Bor (List ℕ) → ℕ × List ℕ
read x = (x.0, x.1.now)

-- the records that are still to come
abbrev pub ahead : RoleRecords → List (ℕ × List ℕ)
ahead records = begins records.at records.rest.now
