-- The copies of a number are that number.
use Rattle.report.proofs.large_buffer.Goals as goal

pub returns : goal.returns
returns c = c.in_ok-buffer.ensures.items_if_clones_equal (λ y same. same)
