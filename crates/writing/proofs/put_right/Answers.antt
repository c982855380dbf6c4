-- `put_right` meets its contract: the spaces of the columns passed are put.
use Prim.Native.Nat.{ℕ, ◌-◌}
use mathlib.Core.Path.{◌≡◌, sym, ap}
use mathlib.Core.List.{◌++◌}
use native.Mathlib.Omega.{arith}
use lib.ListN.{length}
use Rattle.common.proofs.ListLaws.{tabulate_next, length_tabulate}
use Rattle.common.specs.Lists.{tabulate}
use Rattle.writing.proofs.NumeralLaws.{set_right_long}
use Rattle.writing.proofs.PutLaws.{put_none, put_append, put_same}
use Rattle.writing.specs.Bytes.{space}
use Rattle.writing.specs.Numeral.{numeral, set_right}
use Rattle.writing.proofs.put_right.Invariants.{spaces}
use Rattle.writing.proofs.put_right.Goals as goal

pub loop-init : goal.loop-init
unfolding tabulate
loop-init c = put_none c.args.out.now c.args.at

pub put-place-requires : goal.put-place-requires
put-place-requires c = omega (arith, set_right_long c.args.width c.args.n, c.loop.invariant.next, length_tabulate c.loop.counter (λ k. space))

pub loop-preserved : goal.loop-preserved
loop-preserved c = put_same _ _ _ _ _ _ (sym (tabulate_next c.loop.counter (λ i. space))) (put_append _ _ _ _ _ _ _ _ c.loop.invariant c.put-place.ensures)

pub put_numeral-requires : goal.put_numeral-requires
put_numeral-requires c = omega (arith, set_right_long c.args.width c.args.n, c.loop.invariant.next, length_tabulate c.loop.counter (λ k. space))

pub returns : goal.returns
unfolding set_right
returns c =
    let all : c.loop.counter ≡ c.args.width - length (numeral c.args.n) = omega arith in
    put_same _ _ _ _ _ _ (ap (λ (k : ℕ). spaces k ++ numeral c.args.n) all) (put_append _ _ _ _ _ _ _ _ c.loop.invariant c.put_numeral.ensures)
