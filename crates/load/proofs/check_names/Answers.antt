-- `check_names` meets its contract: none of the lines passed has such a number.
use Prim.Native.Nat.{◌<◌}
use mathlib.Core.Path.{sym, ◌∙◌}
use native.Mathlib.Omega.{arith}
use lib.ListN.{length}
use Rattle.ccg.proofs.TablesLaws.{table_length}
use Rattle.ccg.specs.Tables.{table_grammar}
use Rattle.std.proofs.lemmas.Result.{err_from_is_err_and}
use Rattle.refusal.proofs.VerdictLaws.{first_none, first_more, first_found, first_done}
use Rattle.load.proofs.AbsentLaws.{line_at}
use Rattle.load.specs.Absent.{absent_in_line_at, absent_names}
use Rattle.tables.specs.Layout.{counts_of}
use Rattle.load.proofs.check_names.Goals as goal

pub production_count-p-end-requires : goal.production_count-p-end-requires
production_count-p-end-requires c = c.requires

pub loop-p-init : goal.loop-p-init
loop-p-init c = first_none _

pub check_line-requires : goal.check_line-requires
check_line-requires c =
    let start = c in
    (start.requires, omega (arith, c.production_count-p-end.ensures))

pub returns-in_err-check_line : goal.returns-in_err-check_line
unfolding absent_names
returns-in_err-check_line c =
    let start = c in
    let turn = c.loop-p in
    let t = start.args.tables.now in
    let less : turn.p < length (counts_of t) = omega (arith, c.production_count-p-end.ensures) in
    let found = c.check_line.ensures ∙ sym (line_at t turn.p less) in
    let told = c.in_err-check_line.was in
    let p = err_from_is_err_and c.from_residual.result c.from_residual.ensures.1 in
    rw (p.1, p.2) (sym (first_found (absent_in_line_at (table_grammar t)) turn.p _ (omega (arith, less, table_length t)) turn.invariant (sym found ∙ told)))

pub loop-p-preserved : goal.loop-p-preserved
loop-p-preserved c =
    let start = c in
    let turn = c.loop-p in
    let t = start.args.tables.now in
    let less : turn.p < length (counts_of t) = omega (arith, c.production_count-p-end.ensures) in
    let found = c.check_line.ensures ∙ sym (line_at t turn.p less) in
    first_more (absent_in_line_at (table_grammar t)) turn.p turn.invariant (sym found ∙ c.in_ok-check_line.was)

pub returns : goal.returns
unfolding absent_names
returns c =
    let start = c in
    first_done _ _ _ c.loop-p.invariant (omega (arith, c.production_count-p-end.ensures, table_length start.args.tables.now))
