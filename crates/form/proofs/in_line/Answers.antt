-- `in_line` meets its contract.
use Rattle.form.specs.Step.{in_line}
use Rattle.refusal.proofs.VerdictLaws.{cases}
use Rattle.form.proofs.in_line.Goals as goal

pub returns-then-line-ge-PRODUCTION_LIMIT : goal.returns-then-line-ge-PRODUCTION_LIMIT
unfolding in_line
returns-then-line-ge-PRODUCTION_LIMIT c = search cases

pub returns-then-byte-eq45 : goal.returns-then-byte-eq45
unfolding in_line
returns-then-byte-eq45 c = search cases

pub returns-then-argument-ge-ARGUMENT_LIMIT : goal.returns-then-argument-ge-ARGUMENT_LIMIT
unfolding in_line
returns-then-argument-ge-ARGUMENT_LIMIT c = search cases

pub returns-then-byte-eq91 : goal.returns-then-byte-eq91
unfolding in_line
returns-then-byte-eq91 c = search cases

pub returns : goal.returns
unfolding in_line
returns c = search cases
