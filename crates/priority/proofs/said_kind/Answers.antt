-- `said_kind` meets its contract.
use mathlib.Core.Path.{refl, sym, ◌∙◌}
use native.Mathlib.Omega.{arith}
use lib.Dec.{leb, ltb}
use borrow.Author.Tests.{ltb-true}
use Rattle.common.proofs.BoolLaws.{and_first_true}
use Rattle.grammar.specs.Check.{is_group}
use Rattle.layout.specs.Limits.{kind_limit, pair_kind_limit}
use Rattle.priority.specs.Priorities.{said_kind}
use Rattle.priority.proofs.said_kind.Goals as goal

pub overflow_sub-result : goal.overflow_sub-result
unfolding is_group
overflow_sub-result c =
    let own = c.args.own in
    let above = ltb-true pair_kind_limit own (and_first_true (ltb pair_kind_limit own) (leb own kind_limit) (sym c.is_group.ensures ∙ c.if-is_group.true)) in
    omega (arith, above)

pub returns-then-is_group : goal.returns-then-is_group
unfolding said_kind
returns-then-is_group c = rw (← c.is_group.ensures, c.if-is_group.true) refl

pub returns : goal.returns
unfolding said_kind
returns c = rw (← c.is_group.ensures, c.if-is_group.false) refl
