-- `write_only` meets its contract: with few levels or with many.
use Prim.Native.Nat.{◌+◌, ◌≤◌}
use native.Mathlib.Nat.{mul-le-mul, mul-le-mul_right}
use native.Mathlib.Omega.{arith}
use lib.ListN.{length}
use Rattle.chart.specs.Layout.{places}
use Rattle.layout.specs.Limits.{production_limit}
use Rattle.levels.specs.Levels.{level_bytes}
use Rattle.tables.proofs.LayoutLaws.{counts_few}
use Rattle.extract.proofs.write_only.Goals as goal

pub overflow_mul-production_count : goal.overflow_mul-production_count
overflow_mul-production_count c =
    let start = c in
    let h = start.requires.walkable in
    let few : c.production_count.result ≤ production_limit = omega (arith, c.production_count.ensures, counts_few start.args.tables.now h.fits.tables) in
    let places_few : length start.args.text.now + 1 ≤ places = omega (arith, h.fits.short) in
    omega (arith, mul-le-mul few places_few)

pub write_with-requires-2-clause-enough : goal.write_with-requires-2-clause-enough
write_with-requires-2-clause-enough c =
    let h = c.requires.walkable in
    let places_few : length c.args.text.now + 1 ≤ places = omega (arith, h.fits.short) in
    (omega (arith, mul-le-mul_right level_bytes (mul-le-mul (counts_few c.args.tables.now h.fits.tables) places_few)), omega arith)
