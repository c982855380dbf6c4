-- `names_pair` meets its contract: the two productions of a declaration, or two of its group.
use mathlib.Core.Path.{sym, ◌∙◌, ap₂}
use mathlib.Core.Bool.{◌&&◌}
use Rattle.reason.proofs.SideLaws.{named_group, named_two}
use Rattle.reason.proofs.names_pair.Goals as goal

pub returns-then-is_group : goal.returns-then-is_group
returns-then-is_group c =
    let a = c.args in
    ap₂ ◌&&◌ c.is_member.ensures c.is_member-then-is_group.ensures ∙ sym (named_group a.own a.x a.y (sym c.is_group.ensures ∙ c.if-is_group.true))

pub returns : goal.returns
returns c =
    let a = c.args in
    sym (named_two a.own a.x a.y (sym c.is_group.ensures ∙ c.if-is_group.false))
