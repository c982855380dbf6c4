-- `insert_rising` meets its contract: each word is joined with its mask.
use Rattle.charset.proofs.BitLaws.{has_or}
use Rattle.charset.proofs.CharSet.insert_rising.Goals as goal

pub returns : goal.returns
returns c =
    let s = c.args in
    has_or s.self.words s.low s.high _ _ _ _ c.range_mask.ensures c.range_mask-2.ensures c.range_mask-3.ensures c.range_mask-4.ensures
