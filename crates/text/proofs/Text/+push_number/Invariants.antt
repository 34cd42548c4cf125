-- `push_number` adds the digits of a number, the last one after the others. The measure is the number. Assumes nothing.
use Rattle.text.proofs.Text.+push_number.Given as goal

abbrev pub decreases-push_number : goal.decreases-push_number
decreases-push_number l = l.n
