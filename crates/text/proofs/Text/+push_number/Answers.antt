-- `push_number` adds the digits of a number, the last one after the others. Assumes nothing.
use Rattle.std.proofs.Common.{◌≡◌, ℕ, ◌+◌, ◌/◌, ◌%◌, ◌≤◌, List, [], ◌∷◌, ◌++◌, length, arith, sym, ap, ◌∙◌, length-append}
use Rattle.text.specs.Text.{digit, decimal}
use Rattle.text.specs.laws.Decimal.{decimal-small, decimal-large}
use Rattle.text.specs.laws.Grows.{grown_length, grown_on}
use Rattle.text.proofs.Text.+push_number.Goals as goal
use Rattle.text.proofs.Text.+push_number.Goals.{then-n-ge10, else-n-ge10}

-- one digit more than those before the last
one_more : (n : ℕ) → 10 ≤ n → length (decimal n) ≡ length (decimal (n / 10)) + 1
one_more n l = ap length (decimal-large n l) ∙ length-append (decimal (n / 10)) (digit (n % 10) ∷ [])

pub push_number-requires : goal.push_number-requires
push_number-requires t c = (omega arith, omega (arith, c.requires, one_more c.args.n c.if-n-ge10.true))

pub push_word-requires : goal.push_word-requires
push_word-requires t c =
    elim c.if-n-ge10.branch [
      | then-n-ge10 w ↦ omega (arith, c.requires, ap length w.self-is, grown_length c.args.self.now (decimal (c.args.n / 10)) w.push_number.ensures, one_more c.args.n w.if-n-ge10.true)
      | else-n-ge10 w ↦ omega (arith, c.requires, ap length w.self-is, ap length (decimal-small c.args.n w.if-n-ge10.false))
    ]

pub returns : goal.returns
returns t c =
    elim c.if-n-ge10.branch [
      | then-n-ge10 w ↦ grown_on c.args.self.now (decimal (c.args.n / 10)) (digit (c.args.n % 10) ∷ []) (w.self-is ∙ w.push_number.ensures) c.push_word.ensures ∙ ap (λ (l : List ℕ). c.args.self.now ++ l) (sym (decimal-large c.args.n w.if-n-ge10.true))
      | else-n-ge10 w ↦ c.push_word.ensures ∙ ap (λ (l : List ℕ). l ++ (digit (c.args.n % 10) ∷ [])) w.self-is ∙ ap (λ (l : List ℕ). c.args.self.now ++ l) (sym (decimal-small c.args.n w.if-n-ge10.false))
    ]
