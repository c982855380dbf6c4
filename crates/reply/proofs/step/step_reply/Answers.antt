-- `step_reply` meets its contract: the value of a line fits its type.
use Prim.Native.Nat.{ℕ, ◌≤◌}
use mathlib.Core.Path.{◌≡◌, ◌∙◌, ap}
use native.Mathlib.Omega.{arith}
use Rattle.reply.proofs.AnswersLaws.{near_line}
use Rattle.sheet.specs.Refusals.{sheet_limit}
use Rattle.sheet.specs.declared.Stepped.{Stepped}
use Rattle.std.specs.Prelude.{Option, Some, Ok}
use Rattle.reply.specs.Answers.{Near}
use Rattle.reply.proofs.step.step_reply.Goals as goal

near : {R : Type 0} (stepped : Stepped R) (line : Option ℕ) (v : ℕ) → Near stepped.step stepped.next → stepped.step ≡ Ok line → line ≡ Some v → stepped.next ≤ sheet_limit
near stepped line v h e f = near_line stepped.step stepped.next v (e ∙ ap (λ (l : Option ℕ). Ok l) f) h

pub overflow_mul-stepped : goal.overflow_mul-stepped
overflow_mul-stepped g c = omega (arith, near c.args.stepped _ _ c.requires c.in-Ok.is c.in-Some.is)

pub overflow_add-stepped : goal.overflow_add-stepped
overflow_add-stepped g c = omega (arith, c.wide.ensures, near c.args.stepped _ _ c.requires c.in-Ok.is c.in-Some.is)
