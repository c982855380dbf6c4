-- `root_entries` meets its contract: the entries passed are those of the bytes.
use Prim.Native.Nat.{ℕ, ◌<◌}
use mathlib.Core.Bool.{false, not}
use mathlib.Core.Path.{◌≡◌, subst}
use native.Mathlib.Omega.{arith}
use lib.Dec.{eqb}
use lib.ListN.{get_or}
use borrow.Author.Rules.{rules}
use Rattle.layout.specs.Limits.{production_limit}
use Rattle.meadowsink.proofs.FlatLaws.{entries_none, entries_more, entries_are}
use Rattle.meadowsink.proofs.read_flat.root_entries.Goals as goal

pub loop-r-init : goal.loop-r-init
loop-r-init c = (entries_none _ _ (search rules), omega arith)

pub bounds-entries-r : goal.bounds-entries-r
bounds-entries-r c = omega (arith, c.loop-r.invariant.0.long)

pub loop-r-preserved : goal.loop-r-preserved
loop-r-preserved c =
    let turn = c.loop-r in
    (entries_more _ _ turn.r c.is_yes.result (omega arith) c.is_yes.ensures turn.invariant.0, omega arith)

pub returns : goal.returns
returns c =
    let turn = c.loop-r in
    let all : turn.r ≡ production_limit = omega (arith, turn.invariant.1) in
    entries_are _ turn.entries turn.invariant.0.long (subst (λ (n : ℕ). (r : ℕ) → r < n → get_or turn.entries r false ≡ not (eqb (get_or c.args.bytes.now r 0) 0)) all turn.invariant.0.are)
