-- The role records of a block as an iterator gives them. Assumes nothing.
use Prim.Native.Nat.{ℕ, zero, suc, ◌+◌, ◌-◌, ◌≤◌, ◌<◌, min}
use Rattle.std.proofs.Common.{arith, sym, ap, ◌∙◌, drop-drop, length-take, Some, None}
use Rattle.std.proofs.Math.Path.{refl, subst}
use Rattle.std.proofs.Math.Option.{some}
use Rattle.std.proofs.Math.ListN.{get_elem?}
use Rattle.std.proofs.lemmas.List.{length-map}
use Rattle.std.proofs.lemmas.Option.{none-some, same_Some, slice_get-get_or}
use Rattle.std.specs.List.{slice_get, enumerate_from, find, FoldsTo}
use Rattle.std.specs.Option.{option_map}
use Rattle.std.specs.Iterator.{CallableAtEachTurn}
use Rattle.std.proofs.Math.Numerals.{add-one}
use Rattle.semantics.specs.Table.{Row}
use Rattle.rows.specs.Rows.{Place, place_as}
use Rattle.records.specs.declared.roles.RoleRecords.{RoleRecords}
use Rattle.semantics.specs.Limits.{most_roles}
use Rattle.std.specs.Prelude.{Option, is_some, MatchOption, Bool, true, false, not, ◌≡◌, length, take, drop, map}
use mathlib.Core.List.{List, [], ◌∷◌}
use Rattle.std.proofs.Math.ListN.{length-drop}
use Rattle.semantics.specs.Frame.{Part, records_from, records, first_bad}
use Rattle.semantics.specs.Roles.{role_length, role_records, roles_present, good_role, bad_role}
use Rattle.records.specs.Records.{part_at, record_at, RoleAt}
use Rattle.records.specs.RoleRecords.{begins_from, begins, ahead}
use Rattle.std.proofs.Math.Decide.{dec_le}
use Rattle.records.specs.laws.Records.{rest-whole}
use Rattle.records.specs.laws.Roles.{role-bytes}

-- no bytes have none
begins-nil : (n at : ℕ) → begins_from n at [] ≡ []
unfolding begins_from
begins-nil zero at = refl
begins-nil (suc n) at = refl

-- enough steps give all
begins-enough : (n m at : ℕ) (bytes : List ℕ) → length bytes ≤ n → length bytes ≤ m → begins_from n at bytes ≡ begins_from m at bytes
unfolding begins_from
begins-enough zero m at [] h k = sym (begins-nil m at)
begins-enough zero m at (b ∷ bytes) h k = absurd (omega arith)
begins-enough (suc n) zero at [] h k = refl
begins-enough (suc n) zero at (b ∷ bytes) h k = absurd (omega arith)
begins-enough (suc n) (suc m) at [] h k = refl
begins-enough (suc n) (suc m) at (b ∷ bytes) h k =
    let z = role_length (b ∷ bytes) in
    let l = length-drop z (b ∷ bytes) in
    ap (λ (r : List (ℕ × List ℕ)). (at, b ∷ bytes) ∷ r)
    (begins-enough n m (at + z) (drop z (b ∷ bytes)) (omega (arith, role-bytes (b ∷ bytes))) (omega (arith, role-bytes (b ∷ bytes))))

-- bytes have the record at the front and those behind it
begins-cons : (at : ℕ) (s : List ℕ) → 0 < length s → begins at s ≡ (at, s) ∷ begins (at + role_length s) (drop (role_length s) s)
unfolding begins_from
begins-cons at [] h = absurd (omega arith)
begins-cons at (b ∷ bytes) h =
    let z = role_length (b ∷ bytes) in
    let l = length-drop z (b ∷ bytes) in
    ap (λ (r : List (ℕ × List ℕ)). (at, b ∷ bytes) ∷ r)
    (begins-enough (length bytes) (length (drop z (b ∷ bytes))) (at + z) (drop z (b ∷ bytes)) (omega (arith, role-bytes (b ∷ bytes))) (omega arith))

-- no bytes are left behind a record that is cut short, and so no record
pub begins-none : (at : ℕ) (s : List ℕ) → length s ≡ 0 → begins at s ≡ []
unfolding begins_from
begins-none at [] e = refl
begins-none at (b ∷ s) e = absurd (omega arith)

-- what is left behind the record at the front, which may be cut short
pub begins-step : (at : ℕ) (s : List ℕ) → 0 < length s → (r m : ℕ) → r ≡ role_length s → m ≡ min r (length s) → begins at s ≡ (at, s) ∷ begins (at + m) (take (length s - m) (drop m s))
begins-step at s h r m e f = begins-cons at s h ∙ ap (λ (x : List (ℕ × List ℕ)). (at, s) ∷ x) (go (dec_le r (length s)) ∙ ap (begins (at + m)) (sym (rest-whole s m)))
  where
    go : Dec (r ≤ length s) → begins (at + role_length s) (drop (role_length s) s) ≡ begins (at + m) (drop m s)
    go (yes l) = let z : role_length s ≡ m = omega (arith, e, f) in ap (λ (n : ℕ). begins (at + n) (drop n s)) z
    go (no l) =
        let z : m ≡ length s = omega (arith, f) in
        begins-none _ (drop (role_length s) s) (omega (arith, e, length-drop (role_length s) s)) ∙ sym (begins-none _ (drop m s) (omega (arith, length-drop m s)))

-- bytes that begin at a place have the records of the definition, each with its number of bytes
abbrev pub record_of : ℕ → ℕ × List ℕ → Part
record_of base p = record_at role_length (base + p.0) p.1

records-of : (base n at : ℕ) (s : List ℕ) → records_from role_length n (base + at) s ≡ map (record_of base) (begins_from n at s)
unfolding records_from begins_from
records-of base zero at s = refl
records-of base (suc n) at [] = refl
records-of base (suc n) at (b ∷ s) =
    let z = role_length (b ∷ s) in
    let e : base + at + z ≡ base + (at + z) = omega arith in
    ap (λ (ps : List Part). record_at role_length (base + at) (b ∷ s) ∷ ps) (rw e (records-of base n (at + z) (drop z (b ∷ s))))

pub block-records : (base : ℕ) (b : List ℕ) → role_records (part_at base b) ≡ map (record_of base) (begins 0 b)
unfolding role_records records
block-records base b = let z : base + 0 ≡ base = omega arith in rw z at (records-of base (length b) 0 b)

-- how many roles are present: the first four
pub present-begins : (b : List ℕ) {r : ℕ} → r ≡ length (take most_roles (begins 0 b)) → (base : ℕ) → r ≡ roles_present (role_records (part_at base b))
unfolding roles_present
present-begins b e base = omega (arith, e, length-take most_roles (begins 0 b), ap length (block-records base b), length-map (begins 0 b) (record_of base))

-- each record begins within the block, with the bytes from there on
places : (b : List ℕ) (n at : ℕ) (s : List ℕ) → s ≡ drop at b → (i : ℕ) {p : ℕ × List ℕ} → slice_get (begins_from n at s) i ≡ Some p → (p.1 ≡ drop p.0 b) × (p.0 < length b)
unfolding begins_from
places b zero at s e i h = absurd (none-some _ h)
places b (suc n) at [] e i h = absurd (none-some _ h)
places b (suc n) at (x ∷ s) e zero {p} h =
    let q : ◌≡◌ {A = ℕ × List ℕ} (at, x ∷ s) p = same_Some _ _ h in
    subst (λ (p : ℕ × List ℕ). (p.1 ≡ drop p.0 b) × (p.0 < length b)) q (e, omega (arith, ap length e, length-drop at b))
places b (suc n) at (x ∷ s) e (suc i) h =
    let z = role_length (x ∷ s) in
    places b n (at + z) (drop z (x ∷ s)) (ap (drop z) e ∙ drop-drop z at b) i h

-- the record with a number, as the definition has it
get_mapped : {A B : Type 0} (f : A → B) (xs : List A) (i : ℕ) {x : A} → slice_get xs i ≡ Some x → get_elem? (map f xs) i ≡ some (f x)
get_mapped f [] i h = absurd (none-some _ h)
get_mapped f (y ∷ xs) zero h = ap (λ z. some (f z)) (same_Some _ _ h)
get_mapped f (y ∷ xs) (suc i) h = get_mapped f xs i h

pub record-begins : (b : List ℕ) (i : ℕ) {p : ℕ × List ℕ} → slice_get (begins 0 b) i ≡ Some p → (p.0 < length b) × RoleAt b i p.0
record-begins b i {p} h =
    let w = places b (length b) 0 b refl i h in
    (w.1, λ base. rw (block-records base b, ← w.0) (get_mapped (record_of base) (begins 0 b) i h))

-- there is one with each number below how many there are
pub record-known : (b : List ℕ) (i : ℕ) → ((base : ℕ) × (i < length (role_records (part_at base b)))) → is_some (slice_get (begins 0 b) i) ≡ true
record-known b i w = ap is_some (slice_get-get_or (begins 0 b) i (0, []) (omega (arith, w.1, ap length (block-records w.0 b), length-map (begins 0 b) (record_of w.0))))

-- there are no more than bytes
begins-few : (n at : ℕ) (s : List ℕ) → length (begins_from n at s) ≤ n
unfolding begins_from
begins-few zero at s = omega arith
begins-few (suc n) at [] = omega arith
begins-few (suc n) at (b ∷ s) = omega (arith, begins-few n (at + role_length (b ∷ s)) (drop (role_length (b ∷ s)) (b ∷ s)))

pub ahead-few : (r : RoleRecords) (b : List ℕ) → ahead r ≡ begins 0 b → length (ahead r) ≤ length b
ahead-few r b e = omega (arith, ap length e, begins-few (length b) 0 b)

-- the record that is given has bytes, and ends where bytes may be counted
pub ahead-given : (r : RoleRecords) {p : ℕ × List ℕ} {more : List (ℕ × List ℕ)} → ahead r ≡ p ∷ more → (1 ≤ length p.1) × (p.0 + length p.1 < 9223372036854775808)
ahead-given r {p} {more} e = go r.rest.now refl
  where
    go : (s : List ℕ) → r.rest.now ≡ s → (1 ≤ length p.1) × (p.0 + length p.1 < 9223372036854775808)
    go [] f = let z : ◌≡◌ {A = List (ℕ × List ℕ)} [] (p ∷ more) = sym (begins-none r.at [] refl) ∙ ap (begins r.at) (sym f) ∙ e in absurd (omega (arith, ap length z))
    go (x ∷ s) f =
        let z : (r.at, x ∷ s) ∷ begins (r.at + role_length (x ∷ s)) (drop (role_length (x ∷ s)) (x ∷ s)) ≡ p ∷ more = sym (begins-cons r.at (x ∷ s) (omega arith)) ∙ ap (begins r.at) (sym f) ∙ e in
        let q : ◌≡◌ {A = ℕ × List ℕ} (r.at, x ∷ s) p = cc in
        subst (λ (p : ℕ × List ℕ). (1 ≤ length p.1) × (p.0 + length p.1 < 9223372036854775808)) q (omega arith, omega (arith, r.within, ap length f))

-- what each call leaves as it was stays so
steady : {A P : Type 0} (R : P → A → P → Type 0) {p : P} → ((x : A) (q : P) → R p x q → q ≡ p) → (xs : List A) (q : P) → FoldsTo R p xs q → q ≡ p
steady R keeps [] q e = sym e
steady R keeps (x ∷ xs) q c = steady R keeps xs q (subst (λ z. FoldsTo R z xs q) (keeps x c.0 c.1) c.2)

-- so a closure may be called at each item, if it may at whatever a step gives
pub serves : {S A P : Type 0} {steps : S → Option A → S → Type 0} {R : P → A → P → Type 0} {Q : P → A → Type 0} {s : S} {p : P} → ((x : A) (q : P) → R p x q → q ≡ p)
    → ((t : S) (x : A) (u : S) → steps t (Some x) u → Q p x) → CallableAtEachTurn steps R Q s p
serves {R = R} {Q = Q} keeps ok = record { at = λ xs t q x u y f step. subst (λ z. Q z x) (sym (steady R keeps xs q f)) (ok t x u step) }

-- whether a record is bad, by its number and its bytes
module _ (rows : List Row) (roles base : ℕ) where
  abbrev pub is_bad : ℕ × (ℕ × List ℕ) → Bool
  is_bad p = not (good_role rows roles p.0 (record_of base p.1))

  -- the first bad one of the definition is the first that is found
  found-bad : (i : ℕ) (ps : List (ℕ × List ℕ)) → option_map (λ p. base + p.1.0) (find is_bad (enumerate_from i ps)) ≡ place_as (first_bad (good_role rows roles) i (map (record_of base) ps))
  unfolding first_bad
  found-bad i [] = refl
  found-bad i (p ∷ ps) = go (good_role rows roles i (record_of base p)) refl (found-bad (i + 1) ps)
    where
      go : (b : Bool) → good_role rows roles i (record_of base p) ≡ b
          → option_map (λ p. base + p.1.0) (find is_bad (enumerate_from (i + 1) ps)) ≡ place_as (first_bad (good_role rows roles) (i + 1) (map (record_of base) ps))
          → option_map (λ p. base + p.1.0) (find is_bad (enumerate_from i (p ∷ ps))) ≡ place_as (first_bad (good_role rows roles) i (map (record_of base) (p ∷ ps)))
      go true e h = rw (e, first_bad) (h ∙ ap (λ (n : ℕ). place_as (first_bad (good_role rows roles) n (map (record_of base) ps))) (add-one i))
      go false e h = rw (e, first_bad)

  -- what is found is one of them
  found-there : (i : ℕ) (ps : List (ℕ × List ℕ)) {p : ℕ × (ℕ × List ℕ)} → Some p ≡ find is_bad (enumerate_from i ps) → (k : ℕ) × (slice_get ps k ≡ Some p.1)
  found-there i [] = λ e. absurd (none-some _ (sym e))
  found-there i (q ∷ ps) {p} = go (is_bad (i, q)) refl (λ h. found-there (i + 1) ps h)
    where
      go : (b : Bool) → is_bad (i, q) ≡ b → (Some p ≡ find is_bad (enumerate_from (i + 1) ps) → (k : ℕ) × (slice_get ps k ≡ Some p.1)) → Some p ≡ find is_bad (enumerate_from i (q ∷ ps))
          → (k : ℕ) × (slice_get (q ∷ ps) k ≡ Some p.1)
      go true f h e = let z : p ≡ (i, q) = same_Some _ _ (rw f at e) in (0, ap (λ (z : ℕ × (ℕ × List ℕ)). Some z.1) (sym z))
      go false f h e = let w = h (rw f at e) in (suc w.0, w.1)

  module _ (b : List ℕ) {o : Option (ℕ × (ℕ × List ℕ))} (found : o ≡ find is_bad (enumerate_from 0 (begins 0 b))) where
    -- a bad record begins within the block
    pub bad-within : {p : ℕ × (ℕ × List ℕ)} → o ≡ Some p → p.1.0 < length b
    bad-within e = let w = found-there 0 (begins 0 b) (sym e ∙ found) in (places b (length b) 0 b refl w.0 w.1).1

    -- and its place is that of the definition
    pub bad-found : roles ≡ roles_present (role_records (part_at base b)) → option_map (λ p. base + p.1.0) o ≡ place_as (bad_role rows (role_records (part_at base b)))
    unfolding bad_role
    bad-found e = rw (found, ← e, block-records base b) (found-bad 0 (begins 0 b))

-- a place that is told of what is read of an item
pub placed : {A B : Type 0} (f : B → ℕ) (v : A → B) (o : Option A) {place : Place} → MatchOption o (place ≡ None) (λ x. place ≡ Some (f (v x))) → place ≡ option_map f (option_map v o)
placed f v None h = h
placed f v (Some x) h = h
