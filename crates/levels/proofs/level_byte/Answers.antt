-- `level_byte` meets its contract, byte by byte.
use Prim.Native.Nat.{suc, ◌-◌}
use mathlib.Core.Path.{◌≡◌, sym, ap}
use native.Mathlib.Omega.{arith}
use Rattle.levels.specs.Levels.{open_byte}
use Rattle.levels.proofs.level_byte.Goals as goal

pub returns-then-b-eq0 : goal.returns-then-b-eq0
unfolding open_byte
returns-then-b-eq0 c = sym (ap (open_byte c.args.q c.args.ends) c.if-b-eq0.true)

pub returns-then-b-eq1 : goal.returns-then-b-eq1
unfolding open_byte
returns-then-b-eq1 c = sym (ap (open_byte c.args.q c.args.ends) c.if-b-eq1.true)

pub returns : goal.returns
unfolding open_byte
returns c =
    let e : c.args.b ≡ suc (suc (c.args.b - 2)) = omega arith in
    sym (ap (open_byte c.args.q c.args.ends) e)
