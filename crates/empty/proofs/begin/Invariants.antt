-- `begin` meets its contract: the productions below p have their 1, and p's rows begin at `base`.
use mathlib.Core.Path.{◌≡◌}
use Rattle.empty.specs.Turns.{first_row, Begun}
use Rattle.empty.proofs.begin.Given as goal

abbrev pub invariant-loop-p : goal.invariant-loop-p
invariant-loop-p l = Begun l.links.counts.now l.links.users.now l.p l.args l.cells × (l.base ≡ first_row l.links.counts.now l.p)
