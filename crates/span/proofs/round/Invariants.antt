-- `round` meets its contract: the productions before q have been looked at, and q's rows begin at `base`.
use Prim.Native.Nat.{ℕ}
use mathlib.Core.Path.{◌≡◌}
use lib.ListN.{length}
use Rattle.chart.specs.Layout.{row_of}
use Rattle.tables.specs.Layout.{arity_in}
use Rattle.span.specs.Tables.{span_of, Exact, Visited}
use Rattle.span.proofs.round.Given as goal

abbrev pub invariant-loop-q : goal.invariant-loop-q
invariant-loop-q l =
    ((bare : ℕ → ℕ) → Exact (span_of l.links.counts.now l.links.users.now l.inner l.front l.back bare) l.initial.cells l.initial.args → Visited (span_of l.links.counts.now l.links.users.now l.inner l.front l.back bare) 0 l.q l.initial.pending l.initial.args l.initial.cells l.pending l.args l.cells l.rose)
    × (length l.pending ≡ length l.initial.pending)
    × (length l.args ≡ length l.initial.args)
    × (length l.cells ≡ length l.initial.cells)
    × (l.base ≡ row_of (arity_in l.links.counts.now) l.q 0)
