-- `settle` meets its contract: rounds go on while a count rises, and each such round leaves less to spare.
use Prim.Native.Nat.{ℕ, ◌+◌, ◌*◌}
use mathlib.Core.Path.{◌≡◌}
use lib.ListN.{length}
use Rattle.common.specs.Below.{bit_of}
use Rattle.layout.specs.Limits.{production_limit}
use Rattle.span.proofs.RoundLaws.{Settling}
use Rattle.span.specs.Span.{spare}
use Rattle.span.specs.Tables.{span_of, Exact}
use Rattle.span.proofs.settle.Given as goal

abbrev pub invariant-loop-rose : goal.invariant-loop-rose
invariant-loop-rose l =
    ((bare : ℕ → ℕ) → Exact (span_of l.links.counts.now l.links.users.now l.inner l.front l.back bare) l.initial.cells l.initial.args → Settling (span_of l.links.counts.now l.links.users.now l.inner l.front l.back bare) l.initial.cells l.pending l.args l.cells l.rose)
    × (length l.pending ≡ production_limit)
    × (length l.args ≡ length l.initial.args)
    × (length l.cells ≡ length l.initial.cells)

abbrev pub decreases-loop-rose : goal.decreases-loop-rose
decreases-loop-rose l = 2 * spare (span_of l.links.counts.now l.links.users.now l.inner l.front l.back (λ r. 0)) l.cells + bit_of l.rose
