-- `find_split` meets its contract: there is a split no later than m.
use native.Mathlib.Omega.{arith}
use Rattle.extract.proofs.SplitLaws.{split_found}
use Rattle.extract.proofs.find_split.Goals as goal

pub loop-m-init : goal.loop-m-init
loop-m-init c = (omega arith, split_found c.requires.walkable c.args.p c.args.d c.args.i c.args.j c.requires.p_in_bounds.0 c.requires.p_in_bounds.1 c.requires.p_in_bounds.2 c.requires.p_in_bounds.3 c.requires.bound)
