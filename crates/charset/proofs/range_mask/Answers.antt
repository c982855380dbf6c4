-- `range_mask` meets its contract: where the range misses the word the mask is 0, and else a block of ones.
use native.Mathlib.Omega.{arith}
use Rattle.charset.proofs.BitLaws.{mask_none, mask_block}
use Rattle.charset.proofs.range_mask.Goals as goal

pub returns-then-high-base : goal.returns-then-high-base
returns-then-high-base c b h = mask_none _ _ _ b h (λ l m. omega arith)

pub returns-then-base-low : goal.returns-then-base-low
returns-then-base-low c b h = mask_none _ _ _ b h (λ l m. omega arith)

pub returns : goal.returns
returns c b h =
    let s = c.args in
    rw (c.saturating_sub-from.ensures, c.min-to.ensures) (mask_block s.low s.high s.base (omega arith) (omega arith) (omega arith) b h)
