-- `settle_empty` meets its contract: each turn settles the cells with the arguments held fixed, and takes the arguments up.
use Prim.Native.Nat.{◌+◌, ◌*◌}
use Rattle.common.specs.Below.{bit_of}
use Rattle.empty.proofs.TurnLaws.{Turning}
use Rattle.empty.specs.Turns.{empty_span}
use Rattle.span.specs.Span.{spare}
use Rattle.empty.proofs.settle_empty.Given as goal

abbrev pub invariant-loop-changed : goal.invariant-loop-changed
invariant-loop-changed l = Turning l.links.counts.now l.links.users.now l.args l.cells l.back l.changed

abbrev pub decreases-loop-changed : goal.decreases-loop-changed
decreases-loop-changed l = 2 * spare (empty_span l.links.counts.now l.links.users.now) l.cells + bit_of l.changed
