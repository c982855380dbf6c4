-- `write_parse` meets its contract: the first production that counts at the root has the only tree.
use Prim.Native.Nat.{ℕ, ◌/◌}
use mathlib.Core.Path.{◌≡◌, ap}
use native.Mathlib.Omega.{arith}
use lib.ListN.{length}
use Rattle.engine.proofs.EngineLaws.{total_one, root_cell, answered_one, answered_long}
use Rattle.numbers.specs.Written.{room}
use Rattle.engine.proofs.write_parse.Goals as goal

pub first_root-root-requires : goal.first_root-root-requires
first_root-root-requires c = let start = c in
    record { chart_fits = start.requires.filled.walkable.fits; bound = omega (arith, total_one start.args.tables.now start.args.text.now start.args.chart.now start.requires.filled start.requires.counts) }

pub write_only-next-requires : goal.write_only-next-requires
write_only-next-requires c = let start = c in
    let root = c.first_root-root.ensures in
    record { walkable = start.requires.filled.walkable; q_in_bounds = (c.first_root-root.ensures.0, root_cell start.args.tables.now start.args.text.now start.args.chart.now start.requires.filled start.requires.counts c.first_root-root.result c.first_root-root.ensures.0 c.first_root-root.ensures.1) }

pub returns-then-listing-next : goal.returns-then-listing-next
unfolding room
returns-then-listing-next c =
    let start = c in
    let first-root = c.first_root-root in
    let write-only = c.write_only-next in
    let a = start.args in
    let root = first-root.ensures in
    let listing = write-only.new.out in
    let place : length listing / 2 ≡ length a.listing.now / 2 = ap (λ (n : ℕ). n / 2) write-only.auto.out in
    rw c.at.ensures (answered_long a.tables.now a.text.now a.chart.now start.requires.filled start.requires.counts first-root.result first-root.ensures.0 first-root.ensures.1 a.listing.now listing write-only.result write-only.ensures (length listing / 2) place (omega (arith, place)))

pub returns : goal.returns
unfolding room
returns c =
    let start = c in
    let first-root = c.first_root-root in
    let write-only = c.write_only-next in
    let a = start.args in
    let root = first-root.ensures in
    let listing = write-only.new.out in
    let place : length listing / 2 ≡ length a.listing.now / 2 = ap (λ (n : ℕ). n / 2) write-only.auto.out in
    answered_one a.tables.now a.text.now a.chart.now start.requires.filled start.requires.counts first-root.result first-root.ensures.0 first-root.ensures.1 a.listing.now listing write-only.result write-only.ensures (omega (arith, place))
