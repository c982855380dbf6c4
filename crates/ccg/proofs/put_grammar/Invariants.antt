-- `put_grammar` meets its contract: the lines passed are put.
use Rattle.ccg.specs.Tables.{table_line}
use Rattle.ccg.specs.Text.{grammar_text}
use Rattle.common.specs.Lists.{tabulate}
use Rattle.writing.specs.Put.{Put}
use Rattle.ccg.proofs.put_grammar.Given as goal

abbrev pub invariant-loop-p : goal.invariant-loop-p
invariant-loop-p l = Put (grammar_text (tabulate l.p (table_line l.tables))) l.initial.out 0 l.out l.place
