-- Each case ends past where it begins.
use Rattle.std.proofs.Common.{length, ◌-◌}
use Rattle.grammar_cases.proofs.check_all.Given as goal

abbrev pub decreases-loop-at : goal.decreases-loop-at
decreases-loop-at g l = length l.input - l.at
