-- `follow` meets its contract.
use Prim.Native.Nat.{ℕ, ◌<◌}
use mathlib.Core.Path.{◌≡◌}
use mathlib.Core.List.{List}
use Rattle.common.proofs.FillLaws.{Filled}
use Rattle.layout.specs.Limits.{production_limit}
use Rattle.shortest.proofs.WrittenLaws.{Entry}
use Rattle.shortest.specs.Search.{reached, way}
use Rattle.shortest.proofs.follow.Given as goal

-- k declarations are written, and x is where they lead
pub record Walked (b next : List ℕ) (p count : ℕ) (out₀ out : List ℕ) (x k : ℕ) : Type 0 where
  pub written : Filled (Entry (way b next p count)) 0 out₀ k out
  pub here : x ≡ reached b next p k
  pub there : x < production_limit

abbrev pub invariant-loop-k : goal.invariant-loop-k
invariant-loop-k l = Walked l.book l.next l.p l.count l.initial.out l.out l.x l.k
