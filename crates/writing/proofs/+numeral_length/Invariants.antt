-- A tenth is less.
use Rattle.writing.proofs.+numeral_length.Given as goal

abbrev pub decreases-numeral_length : goal.decreases-numeral_length
decreases-numeral_length l = l.n
