-- `push_steps` adds one step after the other. Assumes nothing.
use Rattle.std.proofs.Common.{ℕ, ◌+◌, ◌*◌, ◌-◌, ◌≡◌, List, ◌++◌, length, get_or, take, drop, arith, sym, ap, ◌∙◌, append-nil, length-take, length-drop}
use lib.Seq.{take_all}
use Rattle.semantics.specs.Moves.{Move}
use Rattle.semantics.specs.Verdict.{value_bytes, trace_bytes}
use Rattle.semantics.specs.Basic.{joined}
use Rattle.text.specs.Text.{step_text}
use Rattle.text.specs.laws.Grows.{grown_on}
use Rattle.text.specs.laws.Steps.{steps-none, FirstStep, first-step}
use Rattle.text.proofs.Text.+push_steps.Goals as goal

-- the values of the first step, and the bytes after it
module _ {bytes : List ℕ} {ms : List Move} (f : FirstStep bytes ms) {count : ℕ} (e : count ≡ get_or bytes 1 0) where
  first-values : take (2 + 2 * count - 2) (drop 2 bytes) ≡ value_bytes f.move.values
  first-values = let z : 2 + 2 * count - 2 ≡ 2 * get_or bytes 1 0 = omega arith in ap (λ (k : ℕ). take k (drop 2 bytes)) z ∙ f.values

  values_length : length (take (2 + 2 * count - 2) (drop 2 bytes)) ≡ 2 * count
  values_length = length-take (2 + 2 * count - 2) (drop 2 bytes) ∙ omega (arith, length-drop 2 bytes, f.size)

  after_first : take (length bytes - (2 + 2 * count)) (drop (2 + 2 * count) bytes) ≡ trace_bytes f.others
  after_first =
      take_all (length bytes - (2 + 2 * count)) (drop (2 + 2 * count) bytes) (omega (arith, length-drop (2 + 2 * count) bytes)) ∙ ap (λ (k : ℕ). drop (2 + 2 * k) bytes) e ∙ f.rest

  after-length : length (take (length bytes - (2 + 2 * count)) (drop (2 + 2 * count) bytes)) ≡ length bytes - (2 + 2 * count)
  after-length = length-take (length bytes - (2 + 2 * count)) (drop (2 + 2 * count) bytes) ∙ omega (arith, length-drop (2 + 2 * count) bytes)

pub returns-then-is_empty : goal.returns-then-is_empty
returns-then-is_empty t c ms e = sym (append-nil c.args.self.now) ∙ ap (λ (l : List ℕ). c.args.self.now ++ l) (steps-none ms _ e (grind arith))

pub bounds-trace-1 : goal.bounds-trace-1
bounds-trace-1 t c =
    let f = first-step c.requires.0.0 _ c.requires.0.1 (grind arith) in
    omega (arith, f.size)

pub slice_bounds-push_step-end : goal.slice_bounds-push_step-end
slice_bounds-push_step-end t c =
    let f = first-step c.requires.0.0 _ c.requires.0.1 (grind arith) in
    omega (arith, f.size, c.from.ensures)

pub push_step-requires : goal.push_step-requires
push_step-requires t c =
    let f = first-step c.requires.0.0 _ c.requires.0.1 (grind arith) in
    let e = c.from.ensures in
    (omega arith, omega (arith, f.size, e, values_length f e, c.requires.1))

pub slice_bounds-push_steps-count : goal.slice_bounds-push_steps-count
slice_bounds-push_steps-count t c =
    let f = first-step c.requires.0.0 _ c.requires.0.1 (grind arith) in
    omega (arith, f.size, c.from.ensures)

pub slice_bounds-push_steps-start : goal.slice_bounds-push_steps-start
slice_bounds-push_steps-start t c =
    let f = first-step c.requires.0.0 _ c.requires.0.1 (grind arith) in
    omega (arith, f.size, c.from.ensures)

pub push_steps-requires : goal.push_steps-requires
push_steps-requires t c =
    let f = first-step c.requires.0.0 _ c.requires.0.1 (grind arith) in
    let e = c.from.ensures in
    (omega (arith, f.size, e, after-length f e), ((f.others, after_first f e), omega (arith, c.push_step.ensures.len_bound, values_length f e, after-length f e, f.size, e, c.requires.1)))

pub returns : goal.returns
returns t c ms h =
    let f = first-step ms _ h (grind arith) in
    let e = c.from.ensures in
    grown_on c.args.self.now (step_text f.move) (joined step_text f.others) (c.push_step.ensures.text f.move (c.from-2.ensures ∙ f.run) (first-values f e)) (c.push_steps.ensures f.others (after_first f e))
    ∙ ap (λ (l : List ℕ). c.args.self.now ++ l) f.texts
