-- `write_levels` meets its contract: each step leaves less to do, until no level is open or no room is left.
use Prim.Native.Nat.{◌+◌, ◌-◌, ◌*◌}
use mathlib.Core.Path.{◌≡◌}
use lib.ListN.{length}
use Rattle.extract.specs.Walk.{StillWriting}
use Rattle.numbers.specs.Written.{room}
use Rattle.tables.specs.Theory.{theory_of}
use Rattle.extract.proofs.write_levels.Given as goal

abbrev pub invariant-loop-n : goal.invariant-loop-n
invariant-loop-n l = StillWriting (theory_of l.tables) l.text l.initial.levels 1 l.initial.out l.at l.levels l.n l.out l.next × (length l.levels ≡ length l.initial.levels) × (length l.out ≡ length l.initial.out)

abbrev pub decreases-loop-n : goal.decreases-loop-n
decreases-loop-n l = 2 * (room l.out + 1 - l.next) + l.n
