-- `check_class` meets its contract: none of the numbers passed is in the class.
use mathlib.Core.Path.{sym, ◌∙◌}
use native.Mathlib.Omega.{arith}
use Rattle.ccg.specs.Tables.{table_class}
use Rattle.refusal.proofs.VerdictLaws.{first_none, first_more, first_found, first_done}
use Rattle.load.proofs.AbsentLaws.{absent_found, absent_passed}
use Rattle.load.specs.Absent.{absent_at, absent_in}
use Rattle.load.proofs.check_class.Goals as goal

pub overflow_sub-k-end : goal.overflow_sub-k-end
overflow_sub-k-end c = c.requires.2

pub loop-k-init : goal.loop-k-init
loop-k-init c = first_none _

pub takes_production-requires : goal.takes_production-requires
takes_production-requires c =
    let start = c in
    (start.requires.0, start.requires.1, omega (arith, start.requires.2))

pub returns-then-takes_production : goal.returns-then-takes_production
unfolding absent_in
returns-then-takes_production c =
    let start = c in
    let turn = c.loop-k in
    let t = start.args.tables.now in
    let s = start.args.s in
    rw c.at.ensures (sym (first_found (absent_at start.args.count (table_class t s)) turn.k _ (omega arith) turn.invariant
    (absent_found t s start.args.count turn.k (omega (arith, start.requires.2)) (sym c.takes_production.ensures ∙ c.if-takes_production.true))))

pub loop-k-preserved : goal.loop-k-preserved
loop-k-preserved c =
    let start = c in
    let turn = c.loop-k in
    let t = start.args.tables.now in
    let s = start.args.s in
    first_more (absent_at start.args.count (table_class t s)) turn.k turn.invariant
    (absent_passed t s start.args.count turn.k (omega (arith, start.requires.2)) (sym c.takes_production.ensures ∙ c.if-takes_production.false))

pub returns : goal.returns
unfolding absent_in
returns c = first_done _ _ _ c.loop-k.invariant (omega arith)
