-- `next_run` meets its contract: the first member, and the end of its run.
use native.Mathlib.Omega.{arith}
use Rattle.charset.proofs.RunLaws.{first_run_end, first_run_lem}
use Rattle.charset.proofs.next_run.Goals as goal

pub returns-then-limit-low : goal.returns-then-limit-low
returns-then-limit-low g c f e = first_run_end c.args.limit f c.args.from (c.seek-low.ensures.sought f e) c.if-limit-low.true

pub seek-requires : goal.seek-requires
seek-requires g c k l m = c.requires k (omega (arith, c.seek-low.ensures.after)) m

pub returns : goal.returns
returns g c f e = first_run_lem c.args.limit f c.args.from (c.seek-low.ensures.sought f e) c.if-limit-low.false (c.seek.ensures.sought f (record { computed = λ k r l m p. e.computed k r (omega (arith, c.seek-low.ensures.after)) m p }))
