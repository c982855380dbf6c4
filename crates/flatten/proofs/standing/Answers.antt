-- `standing` meets its contract: what is barred is taken out line by line.
use Prim.Native.Nat.{◌+◌}
use mathlib.Core.Bool.{◌&&◌}
use mathlib.Core.Path.{◌∙◌}
use lib.Dec.{eqb, leb}
use Rattle.flatten.proofs.TableLaws.{taken_three}
use Rattle.charset.specs.Set.{has}
use Rattle.flatten.proofs.standing.Goals as goal

pub returns : goal.returns
returns c =
    let start = c in
    λ q l. c.without.ensures q l ∙ rw (c.without-inner.ensures q l, c.without-lower.ensures q l) (taken_three (has start.args.fitting.words q) (has start.args.above.words q) (eqb start.args.i 0 && leb 2 start.args.count) (has start.args.firsts.words q) (eqb (start.args.i + 1) start.args.count && leb 2 start.args.count) (has start.args.lasts.words q))
