-- `two_bytes` meets its contract: two bytes make a number that does not wrap.
use native.Mathlib.Omega.{arith}
use Rattle.common.specs.Bytes.{number_at}
use Rattle.common.proofs.two_bytes.Goals as goal

pub returns : goal.returns
unfolding number_at
returns c = omega arith
