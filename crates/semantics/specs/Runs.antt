-- Run records, the knowledge list, and refusals 8 and 9 (document 01, 'The scenario file'). Assumes nothing.
use Rattle.std.specs.Prelude.{ℕ, suc, Bool, true, false, ◌&&◌, List, map, ltb, get_or, drop}
use Rattle.std.proofs.Math.Option.{Option, none, some}
use Rattle.std.proofs.Math.ListN.{get_elem?}
use Rattle.semantics.specs.Basic.{present, every, unfit_from}
use Rattle.semantics.specs.Limits.{most_runs}
use Rattle.semantics.specs.Term.{Atom, trusted, untrusted, global, intruder, role, variable, local}
use Rattle.semantics.specs.Table.{Row, atomic, pk_of, sk_of, shared_of, pair_of, encrypted_of}
use Rattle.semantics.specs.Value.{value_of, without_run}
use Rattle.semantics.specs.Frame.{Part, records, complete, first_bad}

-- "A run names a role and an agent for each role."
pub record Run : Type 0 where
  pub role : ℕ
  -- the agents' rows, in role order
  pub agents : List ℕ

-- the atom of a row that is one
abbrev pub atom_of : Option Row → Option Atom
atom_of none = none
atom_of (some (atomic a)) = some a
atom_of (some (pk_of a)) = none
atom_of (some (sk_of a)) = none
atom_of (some (shared_of a b)) = none
atom_of (some (pair_of l r)) = none
atom_of (some (encrypted_of l r)) = none

abbrev pub atom_at : List Row → ℕ → Option Atom
atom_at rows r = atom_of (get_elem? rows r)

abbrev pub is_trusted : Option Atom → Bool
is_trusted none = false
is_trusted (some (trusted n)) = true
is_trusted (some (untrusted n)) = false
is_trusted (some (global n)) = false
is_trusted (some (intruder n)) = false
is_trusted (some (role i)) = false
is_trusted (some (variable n t)) = false
is_trusted (some (local n u)) = false

abbrev pub is_agent : Option Atom → Bool
is_agent none = false
is_agent (some (trusted n)) = true
is_agent (some (untrusted n)) = true
is_agent (some (global n)) = false
is_agent (some (intruder n)) = false
is_agent (some (role i)) = false
is_agent (some (variable n t)) = false
is_agent (some (local n u)) = false

-- "a run whose agents (over the file's roles) are all trusted"
unfoldable pub all_trusted : List Row → Run → Bool
all_trusted rows run = every (λ r. is_trusted (atom_at rows r)) run.agents

-- "role, then one agent row for each role"
abbrev pub run_length : ℕ → List ℕ → ℕ
run_length roles bytes = suc roles

unfoldable pub run_in : Part → Run
run_in part = record { role = get_or part.bytes 0 0; agents = drop 1 part.bytes }

unfoldable pub run_records : ℕ → Part → List Part
run_records roles part = records (run_length roles) part

-- "8: a run record incomplete, a fifth, with an absent role or a row that is no agent": what a record with a number must be
unfoldable pub good_run : List Row → ℕ → ℕ → Part → Bool
good_run rows roles i part =
    complete (run_length roles) part
    && ltb i most_runs
    && ltb (run_in part).role roles
    && every (λ r. is_agent (atom_at rows r)) (run_in part).agents

unfoldable pub bad_run : List Row → ℕ → List Part → Option ℕ
bad_run rows roles parts = first_bad (good_run rows roles) 0 parts

unfoldable pub runs_from : List Part → List Run
runs_from parts = map run_in parts

-- "Knowledge: rows rising, with no role name, variable or local constant beneath." "9: a knowledge byte against its rule", the byte being at least a number.
abbrev pub bad_knowledge_from : List Row → ℕ → ℕ → List ℕ → Option ℕ
bad_knowledge_from rows at least bytes = unfit_from (λ r. present (value_of without_run rows r)) at least bytes
