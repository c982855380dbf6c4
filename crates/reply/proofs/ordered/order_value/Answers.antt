-- `order_value` meets its contract, order by order.
use mathlib.Core.Path.{refl}
use Rattle.order.specs.Order.{order_number}
use Rattle.reply.specs.Answers.{order_value}
use Rattle.reply.proofs.ordered.order_value.Goals as goal

pub returns-in-Below : goal.returns-in-Below
unfolding order_value order_number
returns-in-Below c = rw c.in-Below.is refl

pub returns-in-Equal : goal.returns-in-Equal
unfolding order_value order_number
returns-in-Equal c = rw c.in-Equal.is refl

pub returns-in-Above : goal.returns-in-Above
unfolding order_value order_number
returns-in-Above c = rw c.in-Above.is refl

pub returns-in-Neither : goal.returns-in-Neither
unfolding order_value order_number
returns-in-Neither c = rw c.in-Neither.is refl
