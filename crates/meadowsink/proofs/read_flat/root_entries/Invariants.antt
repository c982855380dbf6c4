-- `root_entries` meets its contract: the entries passed are those of the bytes.
use Prim.Native.Nat.{◌-◌, ◌≤◌}
use Rattle.layout.specs.Limits.{production_limit}
use Rattle.meadowsink.proofs.FlatLaws.{EntriesTo}
use Rattle.meadowsink.proofs.read_flat.root_entries.Given as goal

abbrev pub invariant-loop-r : goal.invariant-loop-r
invariant-loop-r l = EntriesTo l.bytes l.r l.entries × (l.r ≤ production_limit)

abbrev pub decreases-loop-r : goal.decreases-loop-r
decreases-loop-r l = production_limit - l.r
