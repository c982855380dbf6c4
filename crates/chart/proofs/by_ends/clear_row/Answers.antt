-- `clear_row` meets its contract: the cells stand side by side, in their row.
use Prim.Native.Nat.{ℕ}
use mathlib.Core.Path.{◌≡◌, subst}
use native.Mathlib.Omega.{arith}
use Rattle.chart.proofs.ByEndsLaws.{place_in, place_next}
use Rattle.common.specs.Region.{Region}
use Rattle.chart.proofs.by_ends.clear_row.Goals as goal

pub clear-requires : goal.clear-requires
clear-requires c = omega (arith, c.place_at.ensures, place_next c.args.n c.args.row c.args.j c.args.j, (place_in c.args.n c.args.row c.args.j c.args.j (omega arith) c.requires.n_le_text_limit.2).1)

pub returns : goal.returns
returns c = subst (λ (x : ℕ). Region (λ (k v : ℕ). v ≡ 0) 0 x c.args.j c.args.chart.now c.clear.new.bytes) c.place_at.ensures c.clear.ensures
