-- `put_line` meets its contract: the arguments passed are put, each with a space behind it.
use Prim.Native.Nat.{ℕ, ◌+◌, ◌<◌}
use mathlib.Core.Path.{◌≡◌, refl, sym, ◌∙◌, ap}
use mathlib.Core.List.{List, ◌++◌}
use native.Mathlib.Omega.{arith}
use lib.ListN.{length, length-append}
use Rattle.ccg.proofs.LineLaws.{arguments_text_none, arguments_text_next, arguments_text_room}
use Rattle.ccg.specs.Tables.{table_line}
use Rattle.ccg.specs.Text.{result_text, line_text}
use Rattle.layout.specs.Limits.{production_limit}
use Rattle.tables.proofs.LayoutLaws.{counts_long}
use Rattle.tables.specs.Layout.{slot, counts_of, arity_in, ParserTables}
use Rattle.theory.specs.Tree.{production_number}
use Rattle.writing.proofs.PutLaws.{put_none, put_append, put_same}
use Rattle.ccg.proofs.put_line.Invariants.{classes, arguments_below}
use Rattle.ccg.proofs.put_line.Goals as goal

module _ (t : List ℕ) (p count : ℕ) (e : count ≡ arity_in (counts_of t) p) where
  line_is : arguments_below t p count ++ result_text (production_number p) ≡ line_text (table_line t p)
  unfolding line_text table_line classes arguments_below
  line_is = rw e refl

  line_long : length (line_text (table_line t p)) ≡ length (arguments_below t p count) + length (result_text (production_number p))
  line_long = sym (ap (length {A = ℕ}) line_is) ∙ length-append (arguments_below t p count) (result_text (production_number p))

few_productions : (t : List ℕ) (p : ℕ) → ParserTables t → p < length (counts_of t) → p < production_limit
few_productions t p tables l = omega (arith, counts_long t tables.long tables.few_productions, tables.few_productions)

pub loop-i-init : goal.loop-i-init
unfolding arguments_below
loop-i-init c =
    let start = c in
    put_same _ _ _ _ _ _ (sym (arguments_text_none (classes start.args.tables.now start.args.p))) (put_none start.args.out.now start.args.at)

pub overflow_mul-p : goal.overflow_mul-p
overflow_mul-p c =
    let start = c in
    omega (arith, few_productions start.args.tables.now start.args.p start.requires.parser_tables.0 start.requires.parser_tables.1)

pub overflow_add-p : goal.overflow_add-p
overflow_add-p c =
    let start = c in
    omega (arith, few_productions start.args.tables.now start.args.p start.requires.parser_tables.0 start.requires.parser_tables.1, c.argument_count-i-end.ensures, start.requires.parser_tables.0.few_arguments start.args.p)

pub put_class-class-requires : goal.put_class-class-requires
unfolding arguments_below classes slot
put_class-class-requires c = let start = c in
    let argument-count = c.argument_count-i-end in
    let turn = c.loop-i in
    let t = start.args.tables.now in
    let p = start.args.p in
    let line = line_long t p argument-count.result argument-count.ensures in record { tables_len = (start.requires.parser_tables.0.long, omega (arith, few_productions t p start.requires.parser_tables.0 start.requires.parser_tables.1, argument-count.ensures, start.requires.parser_tables.0.few_arguments p)); s_bound = omega (arith, start.requires.p_bound, turn.invariant.next, line, arguments_text_room (classes t p) turn.i argument-count.result c.loop-i-test.true) }

pub put-place-requires : goal.put-place-requires
unfolding arguments_below classes slot
put-place-requires c =
    let start = c in
    let argument-count = c.argument_count-i-end in
    let turn = c.loop-i in
    let t = start.args.tables.now in
    let p = start.args.p in
    let line = line_long t p argument-count.result argument-count.ensures in
    omega (arith, start.requires.p_bound, turn.invariant.next, c.put_class-class.ensures.next, line, arguments_text_room (classes t p) turn.i argument-count.result c.loop-i-test.true)

pub loop-i-preserved : goal.loop-i-preserved
unfolding arguments_below classes slot
loop-i-preserved c =
    let start = c in
    let turn = c.loop-i in
    put_same _ _ _ _ _ _ (sym (arguments_text_next (classes start.args.tables.now start.args.p) turn.i)) (put_append _ _ _ _ _ _ _ _ turn.invariant (put_append _ _ _ _ _ _ _ _ c.put_class-class.ensures c.put-place.ensures))

pub put_result-requires-clause-p_lt_production_limit : goal.put_result-requires-clause-p_lt_production_limit
put_result-requires-clause-p_lt_production_limit c = let start = c in
    let argument-count = c.argument_count-i-end in
    let turn = c.loop-i in
    let t = start.args.tables.now in
    let p = start.args.p in
    let line = line_long t p argument-count.result argument-count.ensures in
    let e : turn.i ≡ argument-count.result = omega arith in
    let n = ap (λ (k : ℕ). length (arguments_below t p k)) e in
    few_productions t p start.requires.parser_tables.0 start.requires.parser_tables.1

pub put_result-requires-clause-p_bound : goal.put_result-requires-clause-p_bound
put_result-requires-clause-p_bound c = let start = c in
    let argument-count = c.argument_count-i-end in
    let turn = c.loop-i in
    let t = start.args.tables.now in
    let p = start.args.p in
    let line = line_long t p argument-count.result argument-count.ensures in
    let e : turn.i ≡ argument-count.result = omega arith in
    let n = ap (λ (k : ℕ). length (arguments_below t p k)) e in
    omega (arith, start.requires.p_bound, turn.invariant.next)

pub returns : goal.returns
returns c =
    let start = c in
    let turn = c.loop-i in
    let argument-count = c.argument_count-i-end in
    let t = start.args.tables.now in
    let p = start.args.p in
    let e : turn.i ≡ argument-count.result = omega arith in
    put_same _ _ _ _ _ _ (ap (λ (k : ℕ). arguments_below t p k ++ result_text (production_number p)) e ∙ line_is t p argument-count.result argument-count.ensures)
    (put_append _ _ _ _ _ _ _ _ turn.invariant c.put_result.ensures)
