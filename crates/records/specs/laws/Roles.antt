-- Role records: their length, which are good, and how many are present. Assumes nothing.
use Rattle.std.specs.Prelude.{ℕ, zero, suc, ◌+◌, ◌*◌, ◌≤◌, ◌<◌, ◌≡◌, refl, true, false, ◌&&◌, ltb, leb, take, drop}
use native.Mathlib.Omega.{arith}
use Rattle.std.proofs.Common.{sym, ◌∙◌, take-take, get_or-take, le-leb, lt-ltb, le-ltb}
use mathlib.Core.List.{List, [], ◌∷◌}
use Rattle.std.proofs.Math.ListN.{length}
use Rattle.std.proofs.lemmas.Bool.{lt-leb}
use Rattle.semantics.specs.Basic.{every}
use Rattle.semantics.specs.Limits.{most_roles, most_events}
use Rattle.semantics.specs.Table.{Row}
use Rattle.semantics.specs.Frame.{complete}
use Rattle.semantics.specs.Roles.{knowledge_count, event_count, role_length, knowledge_in, events_in, event_fits, knowledge_fits, good_role}
use Rattle.records.specs.Records.{part_at, record_at}
use Rattle.records.specs.laws.Records.{leb-taken}

-- every role record has bytes
pub role-bytes : (s : List ℕ) → 0 < role_length s
role-bytes s = omega arith

-- a part within the first elements
take_within : (k j m : ℕ) (s : List ℕ) → j + k ≤ m → take k (drop j (take m s)) ≡ take k (drop j s)
take_within k zero m s h = take-take k m s (omega arith)
take_within k (suc j) zero s h = absurd (omega arith)
take_within k (suc j) (suc m) [] h = refl
take_within k (suc j) (suc m) (x ∷ s) h = take_within k j m s (omega arith)

module _ (s : List ℕ) where
  -- a role record says of itself what the bytes from its first on say
  own-knowledge : knowledge_count (take (role_length s) s) ≡ knowledge_count s
  own-knowledge = get_or-take (role_length s) s 0 0 (omega arith)

  own-events : event_count (take (role_length s) s) ≡ event_count s
  own-events = rw own-knowledge (get_or-take (role_length s) s (1 + knowledge_count s) 0 (omega arith))

  pub own-rows : knowledge_in (take (role_length s) s) ≡ knowledge_in s
  unfolding knowledge_in
  own-rows = rw own-knowledge (take_within (knowledge_count s) 1 (role_length s) s (omega arith))

  pub own-events_in : (start : ℕ) → events_in (record_at role_length start s) ≡ events_in (part_at start s)
  unfolding events_in
  own-events_in start = rw (own-events, own-knowledge, take_within (4 * event_count s) (2 + knowledge_count s) (role_length s) s (omega arith))

  -- it is complete exactly if there are as many bytes
  own-complete : (start : ℕ) → complete role_length (record_at role_length start s) ≡ leb (role_length s) (length s)
  own-complete start = rw (own-events, own-knowledge) (leb-taken (role_length s) s)

module _ (rows : List Row) (roles i start : ℕ) (s : List ℕ) where
  -- what a good role record is, in the bytes from its first on
  pub role-good : good_role rows roles i (record_at role_length start s)
      ≡ (leb (role_length s) (length s) && ltb i most_roles && leb (event_count s) most_events && knowledge_fits rows (knowledge_in s) && every (event_fits rows roles) (events_in (part_at start s)))
  unfolding good_role
  role-good = rw (own-complete s start, own-events s, own-rows s, own-events_in s start)

  -- one that is incomplete is not, nor a fifth, nor one with more than eight events
  pub role-short : length s < role_length s → false ≡ good_role rows roles i (record_at role_length start s)
  role-short h = sym (role-good ∙ rw (lt-leb (role_length s) (length s) h))

  pub role-fifth : role_length s ≤ length s → most_roles ≤ i → false ≡ good_role rows roles i (record_at role_length start s)
  role-fifth h k = sym (role-good ∙ rw (le-leb (role_length s) (length s) h, le-ltb i most_roles k))

  pub role-long : role_length s ≤ length s → i < most_roles → most_events < event_count s → false ≡ good_role rows roles i (record_at role_length start s)
  role-long h k m = sym (role-good ∙ rw (le-leb (role_length s) (length s) h, lt-ltb i most_roles k, lt-leb (event_count s) most_events m))

  -- another is if its knowledge and its events fit
  pub role-unknown : role_length s ≤ length s → i < most_roles → event_count s ≤ most_events → knowledge_fits rows (knowledge_in s) ≡ false
      → false ≡ good_role rows roles i (record_at role_length start s)
  role-unknown h k m e = sym (role-good ∙ rw (le-leb (role_length s) (length s) h, lt-ltb i most_roles k, le-leb (event_count s) most_events m, e))

  pub role-events : role_length s ≤ length s → i < most_roles → event_count s ≤ most_events → knowledge_fits rows (knowledge_in s) ≡ true
      → every (event_fits rows roles) (events_in (part_at start s)) ≡ good_role rows roles i (record_at role_length start s)
  role-events h k m e = sym (role-good ∙ rw (le-leb (role_length s) (length s) h, lt-ltb i most_roles k, le-leb (event_count s) most_events m, e))
