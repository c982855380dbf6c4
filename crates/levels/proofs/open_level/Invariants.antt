-- `open_level` meets its contract: the first b bytes of the level are written.
use Prim.Native.Nat.{◌*◌}
use Rattle.common.specs.Region.{Region}
use Rattle.levels.proofs.LevelsLaws.{Opens}
use Rattle.levels.specs.Levels.{level_bytes}
use Rattle.levels.proofs.open_level.Given as goal

abbrev pub invariant-loop-b : goal.invariant-loop-b
invariant-loop-b l = Region (Opens l.q l.ends) 0 (l.k * level_bytes) l.b l.initial.levels l.levels
