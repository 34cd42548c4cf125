-- Whether a row is an agent's or a trusted agent's, by its kind. Assumes nothing.
use Rattle.std.specs.Prelude.{ℕ, ◌*◌, ◌<◌, ◌≤◌, ◌≡◌, refl, false, List, leb, eqb, get_or}
use Rattle.semantics.specs.Runs.{atom_at, is_trusted, is_agent}
use Rattle.rows.specs.Rows.{rows_of, Sized}
use Rattle.rows.specs.laws.Decode.{decodes-agent-name, decodes-trusted}
use Rattle.rows.specs.laws.Table.{atom-absent, atom-kind}

module _ (t : List ℕ) (n : ℕ) (sized : Sized t n) (r : ℕ) where
  -- a row that is absent is no agent's, one that is present is by its kind
  pub agent-absent : n ≤ r → false ≡ is_agent (atom_at (rows_of t) r)
  agent-absent = atom-absent t n sized is_agent r refl

  pub agent-kind : r < n → leb (get_or t (3 * r) 0) 2 ≡ is_agent (atom_at (rows_of t) r)
  agent-kind = atom-kind t n sized is_agent r (λ k. leb k 2) (λ k a b row. decodes-agent-name)

  -- the same of a trusted agent
  pub trusted-absent : n ≤ r → false ≡ is_trusted (atom_at (rows_of t) r)
  trusted-absent = atom-absent t n sized is_trusted r refl

  pub trusted-kind : r < n → eqb (get_or t (3 * r) 0) 1 ≡ is_trusted (atom_at (rows_of t) r)
  trusted-kind = atom-kind t n sized is_trusted r (λ k. eqb k 1) (λ k a b row. decodes-trusted)
