-- The classes that variables get where a row is derivable: by its value, by marked cells, and by its parts. Assumes nothing.
use Rattle.std.specs.Prelude.{ℕ, ◌+◌, ◌<◌, ◌≤◌, ◌≡◌, refl, Bool, true, false, List, [], Option, None, Some, get_or, set, replicate}
use Rattle.std.specs.Prelude as lists
use Rattle.std.proofs.Math.Decide.{ℕ_discrete}
use Rattle.std.proofs.Common.{arith, sym, ◌∙◌, subst, length-set}
use Rattle.std.proofs.lemmas.Bool.{false≢true}
use Rattle.std.specs.Bool.{then_some}
use Rattle.std.proofs.Math.Option.{some-injective}
use Rattle.std.proofs.lemmas.List.{length-replicate, get_or-replicate}
use Rattle.rows.specs.Rows.{second_of}
use Rattle.cells.specs.Cells.{cell_of, cell_count, absent}
use Rattle.cells.specs.laws.Cells.{left-lower, second-lower}
use Rattle.classes.specs.laws.Kinds.{first_part, second_part, value_made}
use Rattle.classes.specs.laws.Values.{cell-kept}
use Rattle.knowledge.specs.Steps.{class_at, kind_at, left_at}
use Rattle.knowledge.specs.laws.Values.{has_value, has-class, inside}
use Rattle.read_fits.specs.Fits.{Gets, Needed, NeedsMet}
use Rattle.read_fits.specs.laws.Fits.{gets-one}
use Rattle.read_possible.specs.laws.Known.{Way, by_mark, by_parts, way}
use Rattle.read_possible.specs.laws.Tests.{kind-most, pair-parts}
use Rattle.variables.specs.declared.found.VariableRows.{VariableRows}
use Rattle.variables.specs.Variables.{In}
use Rattle.read_domains.specs.laws.Sets.{row_in, row_stays}
use Rattle.read_domains.specs.Domains.{InRow, Fit, Joins}
use Rattle.read_completions.specs.declared.pattern.Pattern.{Pattern}
use Rattle.read_completions.specs.Completions.{TakesCell, Completion, GetsClass, InDomains, GetsDerivable, FromMark, MarkedDomains, NeedsAt, Matched, MissesNone, RowsMissNone, NeededAdded}

-- every class is in a set of all
pub in_all : (n : ℕ) {c : ℕ} → c < n → In (replicate n true) c
in_all n {c} l = get_or-replicate {A = Bool} n c true false l

-- a class is in a set of all or none by what is repeated
pub in-mark : {mark : Bool} {c : ℕ} → c < cell_count → mark ≡ true → In (replicate cell_count mark) c
in-mark {mark} {c} l e = get_or-replicate {A = Bool} cell_count c mark false l ∙ e

module _ (vars : VariableRows) (i : ℕ) (need : List ℕ) (before : List Bool) where
  -- every class
  pub admitted-all : NeededAdded vars i need before (replicate cell_count true)
  admitted-all = record { keeps = λ c l h. in_all cell_count l; adds = λ c l own. in_all cell_count l }

module _ (pattern : Pattern)
    (k : Completion pattern) where
  -- what a row gets is the class of a cell
  pub gets-low : (q : ℕ) {c : ℕ} → Gets k.extension q c → c < cell_count
  gets-low q g = let v = g.2 in omega (arith, v.4, has-class pattern.scope.table.bytes.now pattern.scope.table.rows pattern.scope.table.runs k.extension.shape k.extension.old pattern.classes.now k.extension.right v.2 v.3)

  -- the class that a variable gets
  pub takes-gets : {q : ℕ} (takes : TakesCell k.extension q) → Gets k.extension q (class_at pattern.classes.now takes.row takes.run)
  takes-gets takes = (takes.term, takes.gets, (takes.row, takes.run, takes.inside, takes.has, refl))

  pub takes-class : {q : ℕ} (takes : TakesCell k.extension q) {c : ℕ} → Gets k.extension q c → c ≡ class_at pattern.classes.now takes.row takes.run
  takes-class {q} takes g = gets-one k.extension q g (takes-gets takes)

  -- rows that need what they get fit domains that have it
  pub in-domains-fit : (dom : List (List Bool)) {need : List ℕ} → InDomains k dom → Needed k.extension need → Fit pattern.vars dom need
  in-domains-fit dom within needed j l there =
      let low = pattern.variables.row j l in
      let few = pattern.scope.table.shape.few in
      within j l _ (needed.each _ (omega arith) there)

  -- a row with a value is derivable only if it is marked
  pub derivable-marked : {r : ℕ} → r < pattern.scope.table.rows → {class cell : ℕ} → class ≡ class_at pattern.classes.now r pattern.scope.run → class < absent → cell ≡ cell_of r pattern.scope.run → GetsDerivable k r → get_or pattern.marks.now cell false ≡ true
  derivable-marked {r} low e l ec d =
      let v = has_value pattern.scope.table.bytes.now pattern.scope.table.rows pattern.scope.table.runs k.extension.shape k.extension.old pattern.classes.now k.extension.right (low, pattern.scope.within) (rw e at l) in
      let same = some-injective v.0 d.0 (sym (cell-kept pattern.scope.table.shape k.extension.grows r pattern.scope.run v.0 v.1) ∙ d.1) in
      rw ec ((k.exact r pattern.scope.run (inside pattern.scope.table.bytes.now pattern.scope.table.rows pattern.scope.table.runs k.extension.shape k.extension.old pattern.classes.now k.extension.right (low, pattern.scope.within))).1 (d.0, rw (← same) v.1, d.2))

  -- the parts of a derivable pair are derivable
  pub derivable-pair : {r : ℕ} → r < pattern.scope.table.rows → kind_at pattern.scope.table.bytes.now r ≡ 11 → GetsDerivable k r → GetsDerivable k (left_at pattern.scope.table.bytes.now r) × GetsDerivable k (second_of pattern.scope.table.bytes.now r)
  derivable-pair {r} low e (t, h, d) =
      let m = value_made pattern.scope.table.shape low (k.extension.new pattern.scope.run) (omega arith) h in
      let p = pair-parts t (m.kind ∙ e) d in
      ((first_part t, m.first, p.0), (second_part t, m.second, p.1))

  -- any other row without a value has that of a marked cell, or is an encryption of derivable parts
  pub data Ways (r : ℕ) : Type 0 where
    from_mark : (y w : ℕ) → FromMark k r y w → Ways r
    from_parts : kind_at pattern.scope.table.bytes.now r ≡ 12 → GetsDerivable k (left_at pattern.scope.table.bytes.now r) → GetsDerivable k (second_of pattern.scope.table.bytes.now r) → Ways r

  pub ways : {r : ℕ} → r < pattern.scope.table.rows → 8 ≤ kind_at pattern.scope.table.bytes.now r → (kind_at pattern.scope.table.bytes.now r ≡ 11 → ⊥) → GetsDerivable k r → Ways r
  ways {r} low high other (t, h, d) = go (way k.extension k.known k.exact k.celled r low high h d)
    where
      go : Way k.extension k.known pattern.marks.now r t → Ways r
      go (by_mark y w i e m o g) = from_mark y w (record { inside = i; kind = e; marked = m; own = o; gets = g })
      go (by_parts l a b) =
          let m = value_made pattern.scope.table.shape low (k.extension.new pattern.scope.run) high h in
          from_parts (omega (arith, m.kind, kind-most t)) (first_part t, m.first, a) (second_part t, m.second, b)

-- the same as `Matched`, of the cells below a number
abbrev pub MatchedIn : Pattern → List (List Bool) → ℕ → ℕ → ℕ → List Bool → Type 0
MatchedIn pattern dom i r cell set =
    (k : Completion pattern) → InDomains k dom → (y w : ℕ) → cell_of y w < cell → FromMark k r y w → (c : ℕ) → GetsClass k i c → In set c

module _ (pattern : Pattern) (dom : List (List Bool)) where
  module _ (r : ℕ) {cell : ℕ} (inside-marks : cell < cell_count) where
    module _ {class : ℕ} (ec : class ≡ cell) (needs : Option (List ℕ)) (met : NeedsMet pattern.scope.table.bytes.now pattern.scope.table.rows pattern.scope.table.runs pattern.classes.now pattern.scope.run r class needs) where
      -- needs that are met, or none
      needs-met : NeedsAt pattern dom r cell needs
      needs-met k within y w e from = met k.extension (rw (ec ∙ sym e) from.gets)

      -- the same, if the domains have what is needed
      pub needs-fit : {need : List ℕ} → needs ≡ Some need → {fits : Bool} → (Fit pattern.vars dom need → fits ≡ true) → NeedsAt pattern dom r cell (then_some fits need)
      needs-fit {need} q f k within y w e from = let n = rw q at (needs-met k within y w e from) in rw (f (in-domains-fit pattern k dom within n)) n

  module _ (i r : ℕ) where
    abbrev MatchedBelow : ℕ → List Bool → Type 0
    MatchedBelow cell set = MatchedIn pattern dom i r cell set

    pub matched-more : i < pattern.vars.count → {cell : ℕ} {needs : Option (List ℕ)} {need : List ℕ} {set more : List Bool} → MatchedBelow cell set → NeedsAt pattern dom r cell needs → needs ≡ Some need
        → NeededAdded pattern.vars i need set more → MatchedBelow (cell + 1) more
    matched-more count {cell} {needs} {need} {set} {more} before allowed q admitted k within y w l from c g = go (ℕ_discrete (cell_of y w) cell)
      where
        low : c < cell_count
        low = gets-low pattern k _ g

        go : Dec (cell_of y w ≡ cell) → In more c
        go (yes e) =
            let a = rw q at (allowed k within y w e from) in
            let few = pattern.scope.table.shape.few in
            let row = pattern.variables.row i count in
            admitted.adds c low (λ there. gets-one k.extension _ g (a.each _ (omega arith) there))
        go (no d) = admitted.keeps c low (before k within y w (omega arith) from c g)

    -- a cell without needs adds nothing
    pub matched-unmet : {cell : ℕ} {needs : Option (List ℕ)} (set : List Bool) → NeedsAt pattern dom r cell needs → needs ≡ None → MatchedBelow cell set → MatchedBelow (cell + 1) set
    matched-unmet {cell} set allowed q before k within y w l from c g = go (ℕ_discrete (cell_of y w) cell)
      where
        go : Dec (cell_of y w ≡ cell) → In set c
        go (yes e) = absurd (rw q at (allowed k within y w e from))
        go (no d) = before k within y w (omega arith) from c g

    pub matched-unmarked : {cell : ℕ} (set : List Bool) → get_or pattern.marks.now cell false ≡ false → MatchedBelow cell set → MatchedBelow (cell + 1) set
    matched-unmarked {cell} set e before k within y w l from c g = go (ℕ_discrete (cell_of y w) cell)
      where
        go : Dec (cell_of y w ≡ cell) → In set c
        go (yes q) = absurd (false≢true (sym e ∙ subst (λ (m : ℕ). get_or pattern.marks.now m false ≡ true) q from.marked))
        go (no d) = before k within y w (omega arith) from c g

    pub matched-all : {cell : ℕ} (set : List Bool) → cell_count ≤ cell → MatchedBelow cell set → Matched pattern dom i r set
    matched-all set h before k within y w from =
        let few = pattern.scope.table.shape.few in
        let few_runs = pattern.scope.table.shape.few_runs in
        before k within y w (omega (arith, from.inside.0, from.inside.1)) from

    -- every class
    pub misses-none-all : MissesNone pattern dom i r (In (replicate cell_count true))
    misses-none-all k within d c g = in_all cell_count (gets-low pattern k _ g)

    -- a row that has a value
    pub misses-none-set : r < pattern.scope.table.rows → {class cell : ℕ} → class ≡ class_at pattern.classes.now r pattern.scope.run → class < absent → cell ≡ cell_of r pattern.scope.run → MissesNone pattern dom i r (In (replicate cell_count (get_or pattern.marks.now cell false)))
    misses-none-set low e l ec k within d c g = in-mark (gets-low pattern k _ g) (derivable-marked pattern k low e l ec d)

    module _ (marked : List (List Bool)) (opens : MarkedDomains pattern marked) where
      -- the variable itself
      pub misses-none-own : i < pattern.vars.count → get_or pattern.vars.rows i 0 ≡ r → MissesNone pattern dom i r (InRow marked i)
      misses-none-own l e k within d c g = opens k i l (rw e d) c g

      -- another variable: every class if one of its domain is marked, and else none
      pub misses-none-other : {slot : ℕ} → slot < pattern.vars.count → get_or pattern.vars.rows slot 0 ≡ r → {b : Bool} → ((c : ℕ) → c < cell_count → InRow dom slot c → InRow marked slot c → b ≡ true)
          → MissesNone pattern dom i r (In (replicate cell_count b))
      misses-none-other {slot} l e f k within d c g =
          let h = takes-gets pattern k (k.filled slot l) in
          in-mark (gets-low pattern k _ g) (f _ (gets-low pattern k _ h) (within slot l _ h) (opens k slot l (rw e d) _ h))

    module _ {sets : List (List Bool)} (each_row : RowsMissNone pattern dom i sets) (low : r < pattern.scope.table.rows) {l s : ℕ} (el : l ≡ left_at pattern.scope.table.bytes.now r) (es : s ≡ second_of pattern.scope.table.bytes.now r) where
      part_low : 8 ≤ kind_at pattern.scope.table.bytes.now r → (left_at pattern.scope.table.bytes.now r < 96) × (second_of pattern.scope.table.bytes.now r < 96)
      part_low high =
          let few = pattern.scope.table.shape.few in
          (omega (arith, left-lower pattern.scope.table.bytes.now pattern.scope.table.rows pattern.scope.table.runs pattern.scope.table.shape r low high), omega (arith, second-lower pattern.scope.table.bytes.now pattern.scope.table.rows pattern.scope.table.runs pattern.scope.table.shape r low high))

      misses-none-both : 8 ≤ kind_at pattern.scope.table.bytes.now r → {set more : List Bool} → Joins set (get_or sets l []) (get_or sets s []) more → (k : Completion pattern) → InDomains k dom → GetsDerivable k (left_at pattern.scope.table.bytes.now r) → GetsDerivable k (second_of pattern.scope.table.bytes.now r)
          → (c : ℕ) → GetsClass k i c → In more c
      misses-none-both high joins k within a b c g =
          let p = part_low high in
          joins.adds c (gets-low pattern k _ g) (rw el (each_row.each (left_at pattern.scope.table.bytes.now r) p.0 k within a c g)) (rw es (each_row.each (second_of pattern.scope.table.bytes.now r) p.1 k within b c g))

      -- a pair, by its parts; an encryption, by its parts or a marked cell
      pub misses-none-parts : 8 ≤ kind_at pattern.scope.table.bytes.now r → {set more : List Bool} → ((kind_at pattern.scope.table.bytes.now r ≡ 11 → ⊥) → Matched pattern dom i r set)
          → Joins set (get_or sets l []) (get_or sets s []) more → MissesNone pattern dom i r (In more)
      misses-none-parts high {set} {more} matched joins k within d c g = go (ℕ_discrete (kind_at pattern.scope.table.bytes.now r) 11)
        where
          other : (kind_at pattern.scope.table.bytes.now r ≡ 11 → ⊥) → Ways pattern k r → In more c
          other no_pair (from_mark y w from) = joins.keeps c (gets-low pattern k _ g) (matched no_pair k within y w from c g)
          other no_pair (from_parts q a b) = misses-none-both high joins k within a b c g

          go : Dec (kind_at pattern.scope.table.bytes.now r ≡ 11) → In more c
          go (yes e) = let p = derivable-pair pattern k low e d in misses-none-both high joins k within p.0 p.1 c g
          go (no n) = other n (ways pattern k low high n d)

    -- a key, by a marked cell
    pub misses-none-key : r < pattern.scope.table.rows → 8 ≤ kind_at pattern.scope.table.bytes.now r → kind_at pattern.scope.table.bytes.now r < 11 → (set : List Bool) → Matched pattern dom i r set → MissesNone pattern dom i r (In set)
    misses-none-key low high key set matched k within d c g = go (ways pattern k low high (λ e. omega arith) d)
      where
        go : Ways pattern k r → In set c
        go (from_mark y w from) = matched k within y w from c g
        go (from_parts q a b) = absurd (omega arith)

  -- sets of all classes, and one row more
  pub rows_start : (i : ℕ) → RowsMissNone pattern dom i (replicate 96 (replicate cell_count true))
  rows_start i = record {
    size = length-replicate {A = List Bool} 96 (replicate cell_count true);
    each = λ y l k within d c g. rw (get_or-replicate {A = List Bool} 96 y (replicate cell_count true) [] l) (in_all cell_count (gets-low pattern k _ g));
  }

  pub rows_more : {i r : ℕ} {sets : List (List Bool)} (set : List Bool) → r < 96 → RowsMissNone pattern dom i sets → MissesNone pattern dom i r (In set)
      → RowsMissNone pattern dom i (lists.set sets r set)
  rows_more {i} {r} {sets} set low each_row covered = record { size = length-set sets r set ∙ each_row.size; each = λ y l. go y l (ℕ_discrete y r) }
    where
      go : (y : ℕ) → y < 96 → Dec (y ≡ r) → MissesNone pattern dom i y (InRow (lists.set sets r set) y)
      go y l (yes e) k within d c g = rw e (row_in sets r set c (omega (arith, each_row.size)) (covered k within (rw e at d) c g))
      go y l (no z) k within d c g = row_stays sets r set y c (λ e. absurd (z e)) (each_row.each y l k within d c g)
