-- `put_number` meets its contract: a number that has room is written low byte first.
use native.Mathlib.Omega.{arith}
use Rattle.numbers.proofs.WrittenLaws.{written_none, written_one}
use Rattle.numbers.specs.Written.{room}
use Rattle.numbers.proofs.put_number.Goals as goal

pub returns-then-out-at : goal.returns-then-out-at
unfolding room
returns-then-out-at c = written_none c.args.number c.args.out.now c.args.at (omega arith)

pub returns : goal.returns
unfolding room
returns c = written_one c.args.number c.args.out.now c.args.at (omega arith)
