-- By recursion on the number, as its digits are defined: all but the last, then the last.
use Rattle.decimal.proofs.+show.Given as goal

abbrev pub decreases-show : goal.decreases-show
decreases-show l = l.v
