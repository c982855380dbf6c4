-- The calls for comparing two parses: each reply fits, and what is lent determines the number.
use Prim.Native.Nat.{ℕ}
use mathlib.Core.List.{List}
use mathlib.Core.Path.{◌≡◌, sym, ◌∙◌, ap}
use native.Mathlib.Omega.{arith}
use Rattle.compare.proofs.OneLaws.{compared_one}
use Rattle.compare.specs.Answer.{Compared, CompareAnswer}
use Rattle.meadowsink.specs.Compare.{CompareCall}
use Rattle.order.specs.Order.{order_number}
use Rattle.order.specs.declared.Order.{Order}
use Rattle.order.specs.declared.Order.TheVariants.{Below, Equal, Above, Neither}
use Rattle.reply.proofs.ReplyLaws.{answered_fits, refusal_fits}
use Rattle.reply.specs.Answers.{order_value, compare_reply}
use Rattle.reply.specs.Reply.{refused, Fits}
use Rattle.reply.specs.declared.Reply.{Reply}
use Rattle.std.specs.Prelude.{Ok, Err}

order_fits : (o : Order) → Fits (compare_reply refused (Ok o))
unfolding compare_reply order_value order_number
order_fits Below = answered_fits 1 0 (omega arith) (omega arith)
order_fits Equal = answered_fits 1 1 (omega arith) (omega arith)
order_fits Above = answered_fits 1 2 (omega arith) (omega arith)
order_fits Neither = answered_fits 1 3 (omega arith) (omega arith)

pub compare_fits : (b w first second : List ℕ) (r : CompareAnswer) → Compared b w first second r → Fits (compare_reply refused r)
unfolding compare_reply
compare_fits b w first second (Ok o) h = order_fits o
compare_fits b w first second (Err r) h = refusal_fits r

-- What is lent determines the call's number.
pub compare_call_unique : (number : Reply → ℕ) (b w first second : List ℕ) (r r' : ℕ) → CompareCall number b w first second r → CompareCall number b w first second r' → r ≡ r'
compare_call_unique number b w first second r r' x y =
    x.is_number ∙ ap (λ (a : CompareAnswer). number (compare_reply refused a)) (compared_one b w first second x.answer y.answer x.compared y.compared) ∙ sym y.is_number
