-- `char_args` meets its contract.
use Prim.Native.Nat.{ℕ, ◌+◌, ◌≤◌}
use mathlib.Core.Bool.{◌&&◌}
use mathlib.Core.List.{List}
use mathlib.Core.Path.{subst, subst⁻¹}
use native.Mathlib.Omega.{arith}
use lib.Dec.{eqb}
use lib.ListN.{length, get_or}
use Rattle.chart.specs.Rows.{RowsFilled}
use Rattle.common.specs.Below.{bit_of}
use Rattle.layout.specs.Limits.{production_limit, argument_limit}
use Rattle.prepare.proofs.PreparedLaws.{counts_read}
use Rattle.tables.proofs.LayoutLaws.{counts_few}
use Rattle.tables.specs.Layout.{slot, takes_char}
use Rattle.fill.proofs.char_args.Goals as goal

pub slice_bounds-bare_args-end : goal.slice_bounds-bare_args-end
slice_bounds-bare_args-end c =
    let start = c in
    omega (arith, c.production_count-count.ensures, counts_few start.args.tables.now start.requires.parser_tables.0, start.requires.parser_tables.1.linked.long)

pub bare_args-requires : goal.bare_args-requires
bare_args-requires c = let start = c in
    let production-count = c.production_count-count in
    let t = start.args.tables.now in
    let same = counts_read t start.args.prepared.now production-count.result production-count.ensures start.requires.parser_tables.1 in
    record { counts_len_bound = (subst⁻¹ (λ (l : List ℕ). length l ≤ production_limit) same (counts_few t start.requires.parser_tables.0), subst⁻¹ (λ (l : List ℕ). (p : ℕ) → get_or l p 0 ≤ argument_limit) same start.requires.parser_tables.0.few_arguments, start.requires.parser_tables.0.long); i_lt_j = start.requires.i_lt_j; all_zero = start.requires.all_zero }

pub returns : goal.returns
returns c =
    let start = c in
    let production-count = c.production_count-count in
    let bare-args = c.bare_args in
    let t = start.args.tables.now in
    let same = counts_read t start.args.prepared.now production-count.result production-count.ensures start.requires.parser_tables.1 in
    record { filled = subst (λ (l : List ℕ). RowsFilled (λ (p d : ℕ). bit_of (eqb (start.args.i + 1) start.args.j && takes_char t (slot p d) (get_or start.args.text.now start.args.i 0))) l (length l) bare-args.new.out) same bare-args.ensures }
