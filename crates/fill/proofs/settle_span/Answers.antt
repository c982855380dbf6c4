-- `settle_span` meets its contract.
use Prim.Native.Nat.{◌-◌}
use native.Mathlib.Omega.{arith}
use Rattle.prepare.proofs.PreparedLaws.{part_long}
use Rattle.prepare.specs.Prepared.{empty_at, back_at, prepared_bytes}
use Rattle.fill.proofs.settle_span.Goals as goal

pub slice_bounds-settle_by_links-end-2 : goal.slice_bounds-settle_by_links-end-2
slice_bounds-settle_by_links-end-2 c = omega (arith, c.requires.parser_tables.1.linked.long)

pub settle_by_links-requires : goal.settle_by_links-requires
settle_by_links-requires c = let start = c in
    let b = start.args.prepared.now in
    let long = start.requires.parser_tables.1.linked.long in record { parser_tables = start.requires.parser_tables; loads = (record { inner_long = start.requires.inner_len.0; front_long = part_long empty_at (back_at - empty_at) b (omega (arith, long)); back_long = part_long back_at (prepared_bytes - back_at) b (omega (arith, long)); args_long = start.requires.inner_len.1; cells_long = start.requires.inner_len.2.long }, start.requires.inner_len.2); by_index = start.requires.by_index }
