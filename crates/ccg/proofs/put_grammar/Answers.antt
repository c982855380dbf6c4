-- `put_grammar` meets its contract: the lines passed are put.
use Prim.Native.Nat.{ℕ, ◌≤◌}
use mathlib.Core.Path.{◌≡◌, sym, ap}
use mathlib.Core.List.{List}
use native.Mathlib.Omega.{arith}
use lib.ListN.{length}
use Rattle.ccg.proofs.LineLaws.{lines_text_none, lines_text_next}
use Rattle.ccg.proofs.TextLaws.{line_text_short, tabulate_text_short, line_text_limit, grammar_text_limit}
use Rattle.ccg.specs.Tables.{table_class, table_line, table_grammar}
use Rattle.ccg.specs.Text.{line_text, grammar_text}
use Rattle.common.proofs.ListLaws.{length_tabulate}
use Rattle.common.specs.Lists.{tabulate}
use Rattle.layout.specs.Limits.{production_limit, argument_limit}
use Rattle.tables.proofs.LayoutLaws.{counts_long}
use Rattle.tables.specs.Layout.{slot, counts_of, arity_in, ParserTables}
use Rattle.writing.proofs.PutLaws.{put_none, put_append, put_same}
use Rattle.ccg.proofs.put_grammar.Goals as goal

module _ (t : List ℕ) (tables : ParserTables t) where
  few_arguments : (p : ℕ) → length (table_line t p).arguments ≤ argument_limit
  unfolding table_line
  few_arguments p = omega (arith, length_tabulate (arity_in (counts_of t) p) (λ i. table_class t (slot p i)), tables.few_arguments p)

  line_short : (p : ℕ) → length (line_text (table_line t p)) ≤ line_text_limit
  line_short p = line_text_short (table_line t p) (few_arguments p)

  lines_short : (n : ℕ) → n ≤ length (counts_of t) → length (grammar_text (tabulate n (table_line t))) ≤ grammar_text_limit
  lines_short n l =
      let few : n ≤ production_limit = omega (arith, counts_long t tables.long tables.few_productions, tables.few_productions) in
      tabulate_text_short n (table_line t) few (λ p h. few_arguments p)

pub loop-p-init : goal.loop-p-init
loop-p-init c =
    let start = c in
    put_same _ _ _ _ _ _ (sym (lines_text_none (table_line start.args.tables.now))) (put_none start.args.out.now 0)

pub put_line-place-requires-clause-p_bound : goal.put_line-place-requires-clause-p_bound
put_line-place-requires-clause-p_bound c = let start = c in
    let turn = c.loop-p in
    let t = start.args.tables.now in
    let p = turn.p in
    let count = c.production_count-p-end.ensures in
    omega (arith, turn.invariant.next, lines_short t start.requires p (omega (arith, c.loop-p-test.true)), line_short t start.requires p)

pub loop-p-preserved : goal.loop-p-preserved
loop-p-preserved c =
    let turn = c.loop-p in
    put_same _ _ _ _ _ _ (sym (lines_text_next (table_line c.args.tables.now) turn.p)) (put_append _ _ _ _ _ _ _ _ turn.invariant c.put_line-place.ensures)

pub returns : goal.returns
unfolding table_grammar
returns c =
    let t = c.args.tables.now in
    let e : c.loop-p.p ≡ length (counts_of t) = omega (arith, c.production_count-p-end.ensures) in
    put_same _ _ _ _ _ _ (ap (λ (n : ℕ). grammar_text (tabulate n (table_line t))) e) c.loop-p.invariant
