-- `check_line` meets its contract: none of the arguments passed has such a number.
use Prim.Native.Nat.{ℕ, ◌+◌, ◌*◌, ◌<◌}
use mathlib.Core.Path.{sym, ◌∙◌, ap}
use native.Mathlib.Omega.{arith}
use lib.ListN.{length}
use Rattle.ccg.specs.Tables.{table_class, table_line}
use Rattle.std.proofs.lemmas.Result.{err_from_is_err_and}
use Rattle.refusal.proofs.VerdictLaws.{first_none, first_more, first_found, first_done}
use Rattle.layout.specs.Limits.{argument_limit}
use Rattle.load.proofs.AbsentLaws.{argument_slot, line_arguments}
use Rattle.load.specs.Absent.{absent_in, absent_in_argument, absent_in_line}
use Rattle.tables.proofs.LayoutLaws.{counts_few}
use Rattle.tables.specs.Layout.{counts_of, arity_in}
use Rattle.load.proofs.check_line.Goals as goal

pub production_count-count-requires : goal.production_count-count-requires
production_count-count-requires c = c.requires.0

pub argument_count-i-end-requires : goal.argument_count-i-end-requires
argument_count-i-end-requires c = c.requires

pub loop-i-init : goal.loop-i-init
loop-i-init c = first_none _

pub overflow_mul-p : goal.overflow_mul-p
overflow_mul-p c =
    let start = c in
    let t = start.args.tables.now in
    omega (arith, c.argument_count-i-end.ensures, start.requires.0.few_arguments start.args.p, counts_few t start.requires.0, start.requires.1)

pub overflow_add-p : goal.overflow_add-p
overflow_add-p c =
    let start = c in
    let t = start.args.tables.now in
    omega (arith, c.argument_count-i-end.ensures, start.requires.0.few_arguments start.args.p, counts_few t start.requires.0, start.requires.1)

pub check_class-requires : goal.check_class-requires
check_class-requires c =
    let start = c in
    let t = start.args.tables.now in (
      start.requires.0.long,
      omega (arith, c.argument_count-i-end.ensures, start.requires.0.few_arguments start.args.p, counts_few t start.requires.0, start.requires.1),
      omega (arith, c.production_count-count.ensures, counts_few t start.requires.0),
    )

pub returns-in_err-check_class : goal.returns-in_err-check_class
unfolding absent_in_line
returns-in_err-check_class c =
    let start = c in
    let turn = c.loop-i in
    let t = start.args.tables.now in
    let count = c.production_count-count.ensures in
    let less : turn.i < arity_in (counts_of t) start.args.p = omega (arith, c.argument_count-i-end.ensures) in
    let found = c.check_class.ensures ∙ ap (λ (n : ℕ). absent_in n (table_class t (start.args.p * argument_limit + turn.i))) count ∙ sym (argument_slot t (length (counts_of t)) start.args.p turn.i less) in
    let told = c.in_err-check_class.was in
    let p = err_from_is_err_and c.from_residual.result c.from_residual.ensures.1 in
    rw (p.1, p.2) (sym (first_found (absent_in_argument (length (counts_of t)) (table_line t start.args.p)) turn.i _ (omega (arith, less, line_arguments t start.args.p)) turn.invariant (sym found ∙ told)))

pub loop-i-preserved : goal.loop-i-preserved
loop-i-preserved c =
    let start = c in
    let turn = c.loop-i in
    let t = start.args.tables.now in
    let count = c.production_count-count.ensures in
    let less : turn.i < arity_in (counts_of t) start.args.p = omega (arith, c.argument_count-i-end.ensures) in
    let found = c.check_class.ensures ∙ ap (λ (n : ℕ). absent_in n (table_class t (start.args.p * argument_limit + turn.i))) count ∙ sym (argument_slot t (length (counts_of t)) start.args.p turn.i less) in
    first_more (absent_in_argument (length (counts_of t)) (table_line t start.args.p)) turn.i turn.invariant (sym found ∙ c.in_ok-check_class.was)

pub returns : goal.returns
unfolding absent_in_line
returns c =
    let start = c in
    first_done _ _ _ c.loop-i.invariant (omega (arith, c.argument_count-i-end.ensures, line_arguments start.args.tables.now start.args.p))
