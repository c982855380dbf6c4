-- `find_splits` meets its contract: from the right, the places from d on are found.
use Prim.Native.Nat.{ℕ, ◌+◌, ◌-◌, ◌≤◌}
use mathlib.Core.Path.{◌≡◌, refl, subst, subst⁻¹}
use native.Mathlib.Omega.{arith}
use lib.ListN.{replicate}
use Rattle.extract.proofs.SplitLaws.{SplitsLeft, splits_last, splits_back, splits_more, splits_all}
use Rattle.extract.specs.Places.{cell_of}
use Rattle.levels.specs.Levels.{end_count}
use Rattle.extract.proofs.find_splits.Goals as goal

pub argument_count-arity-requires : goal.argument_count-arity-requires
argument_count-arity-requires c =
    let start = c in
    (start.requires.walkable.fits.tables, start.requires.p_in_bounds.0)

pub narrow-requires : goal.narrow-requires
narrow-requires c =
    let start = c in
    omega (arith, start.requires.walkable.fits.short, start.requires.p_in_bounds.2)

pub bounds-ends-d : goal.bounds-ends-d
bounds-ends-d c =
    let start = c in
    omega (arith, c.argument_count-arity.ensures, start.requires.walkable.fits.tables.few_arguments start.args.p)

pub loop-d-init : goal.loop-d-init
loop-d-init c =
    let start = c in
    splits_last start.args.tables.now start.args.text.now start.args.chart.now start.args.p start.args.i start.args.j c.argument_count-arity.result c.narrow.result (replicate end_count 0) refl c.argument_count-arity.ensures (omega (arith, c.argument_count-arity.ensures, start.requires.walkable.fits.tables.few_arguments start.args.p)) c.narrow.ensures start.requires.p_in_bounds.1 start.requires.p_in_bounds.2 start.requires.bound

pub overflow_add-d : goal.overflow_add-d
overflow_add-d c =
    let start = c in
    omega (arith, c.loop-d.invariant.few, start.requires.walkable.fits.tables.few_arguments start.args.p)

pub bounds-ends-d-in-loop-d : goal.bounds-ends-d-in-loop-d
bounds-ends-d-in-loop-d c =
    let start = c in
    omega (arith, c.loop-d.invariant.few, start.requires.walkable.fits.tables.few_arguments start.args.p)

pub find_split-requires : goal.find_split-requires
find_split-requires c = let start = c in
    let turn = c.loop-d in
    let s = splits_back turn.invariant (omega arith) in
    let d = turn.d - 1 in
    record { walkable = start.requires.walkable; p_in_bounds = (start.requires.p_in_bounds.0, omega (arith, s.few), omega (arith, c.wide.ensures, s.low), omega (arith, c.wide.ensures, s.high)); bound = subst⁻¹ (λ (m : ℕ). 1 ≤ cell_of start.args.tables.now start.args.text.now start.args.chart.now start.args.p (d + 1) start.args.i m) c.wide.ensures s.cell }

pub narrow-requires-in-loop-d : goal.narrow-requires-in-loop-d
narrow-requires-in-loop-d c = omega (arith, c.find_split.ensures.1, c.wide.ensures, (splits_back c.loop-d.invariant (omega arith)).high, c.requires.walkable.fits.short)

pub loop-d-preserved : goal.loop-d-preserved
loop-d-preserved c =
    let start = c in
    let turn = c.loop-d in
    let wide = c.wide in
    let v = c.find_split.ensures in
    splits_more start.args.tables.now start.args.text.now start.args.chart.now start.args.p start.args.i start.args.j (turn.d - 1) c.find_split.result c.narrow-in-loop-d.result wide.result turn.ends (splits_back turn.invariant (omega arith)) (start.requires.walkable.fits.tables.few_arguments start.args.p) wide.ensures c.narrow-in-loop-d.ensures c.find_split.ensures.0 c.find_split.ensures.1 (c.find_split.ensures.2, c.find_split.ensures.3)

pub returns : goal.returns
returns c =
    let start = c in
    let e : c.loop-d.d ≡ 0 = omega arith in
    splits_all start.requires.walkable start.args.p start.args.i start.args.j c.loop-d.ends start.requires.p_in_bounds.0 (subst (λ (d : ℕ). SplitsLeft start.args.tables.now start.args.text.now start.args.chart.now start.args.p start.args.i start.args.j d c.loop-d.ends) e c.loop-d.invariant)
