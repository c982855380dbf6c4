-- `cause_value` meets its contract, answer by answer.
use Prim.Native.Nat.{◌<◌}
use mathlib.Core.Path.{refl, subst}
use native.Mathlib.Omega.{arith}
use Rattle.common.specs.Bytes.{byte_values}
use Rattle.reply.specs.Answers.{cause_value, FewOf}
use Rattle.reply.proofs.why.cause_value.Goals as goal

pub overflow_mul-result : goal.overflow_mul-result
unfolding FewOf
overflow_mul-result c = let few : c.in-Higher.n < byte_values = subst FewOf c.in-Higher.is c.requires in omega (arith, few)

pub overflow_add-result : goal.overflow_add-result
unfolding FewOf
overflow_add-result c = let few : c.in-Higher.n < byte_values = subst FewOf c.in-Higher.is c.requires in omega (arith, few)

pub overflow_mul-result-in-AtFirst : goal.overflow_mul-result-in-AtFirst
unfolding FewOf
overflow_mul-result-in-AtFirst c = let few : c.in-AtFirst.d < byte_values = subst FewOf c.in-AtFirst.is c.requires in omega (arith, few)

pub overflow_add-result-in-AtFirst : goal.overflow_add-result-in-AtFirst
unfolding FewOf
overflow_add-result-in-AtFirst c = let few : c.in-AtFirst.d < byte_values = subst FewOf c.in-AtFirst.is c.requires in omega (arith, few)

pub overflow_mul-result-in-AtLast : goal.overflow_mul-result-in-AtLast
unfolding FewOf
overflow_mul-result-in-AtLast c = let few : c.in-AtLast.d < byte_values = subst FewOf c.in-AtLast.is c.requires in omega (arith, few)

pub overflow_add-result-in-AtLast : goal.overflow_add-result-in-AtLast
unfolding FewOf
overflow_add-result-in-AtLast c = let few : c.in-AtLast.d < byte_values = subst FewOf c.in-AtLast.is c.requires in omega (arith, few)

pub returns-in-Higher : goal.returns-in-Higher
unfolding cause_value
returns-in-Higher c = rw c.in-Higher.is refl

pub returns-in-AtFirst : goal.returns-in-AtFirst
unfolding cause_value
returns-in-AtFirst c = rw c.in-AtFirst.is refl

pub returns-in-AtLast : goal.returns-in-AtLast
unfolding cause_value
returns-in-AtLast c = rw c.in-AtLast.is refl
