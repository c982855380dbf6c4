-- `reason_reply` meets its contract: what it counts is small enough for the value.
use mathlib.Core.Path.{◌≡◌, ◌∙◌, ap, subst}
use Rattle.reason.specs.declared.Cause.{Cause}
use Rattle.std.specs.Prelude.{Option, Some, Result, Ok}
use Rattle.reply.specs.Answers.{Few, FewOf}
use Rattle.reply.proofs.why.reason_reply.Goals as goal

few : {R : Type 0} (r : Result (Option Cause) R) (found : Option Cause) (cause : Cause) → Few r → r ≡ Ok found → found ≡ Some cause → FewOf cause
unfolding Few
few r found cause h e f = subst Few (e ∙ ap (λ (o : Option Cause). Ok o) f) h

pub cause_value-requires : goal.cause_value-requires
cause_value-requires g c = few c.args.reason _ _ c.requires c.in-Ok.is c.in-Some.is
