-- `put_column` meets its contract.
use native.Mathlib.Omega.{arith}
use Rattle.lines.proofs.TextLaws.{column_long}
use Rattle.lines.specs.Text.{column}
use Rattle.writing.proofs.PutLaws.{put_append}
use Rattle.lines.proofs.put_column.Goals as goal

pub put_right-next-requires : goal.put_right-next-requires
put_right-next-requires c =
    let start = c in
    omega (arith, start.requires, column_long start.args.width start.args.n)

pub put-requires : goal.put-requires
put-requires c =
    let start = c in
    omega (arith, start.requires, c.put_right-next.ensures.next, column_long start.args.width start.args.n)

pub returns : goal.returns
unfolding column
returns c = put_append _ _ _ _ _ _ _ _ c.put_right-next.ensures c.put.ensures
