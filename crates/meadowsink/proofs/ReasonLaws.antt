-- The calls for the reason of a conflict: what a reason counts is a byte, and so its reply fits.
use Prim.Native.Nat.{ℕ, ◌<◌}
use mathlib.Core.Path.{◌≡◌, sym, ◌∙◌, ap, subst}
use mathlib.Core.List.{List}
use native.Mathlib.Omega.{arith}
use Rattle.common.specs.Bytes.{byte_values}
use Rattle.layout.specs.Layout.{declarations}
use Rattle.meadowsink.proofs.FitLaws.{conflict_fits}
use Rattle.meadowsink.specs.Reason.{ReasonCall}
use Rattle.reason.proofs.ExactlyLaws.{one_answer}
use Rattle.reason.proofs.ReasonLaws.{reasoned_few}
use Rattle.reason.specs.Reason.{Behind, plainly, Reasoned}
use Rattle.reply.proofs.ReplyLaws.{answered_fits}
use Rattle.reply.specs.Answers.{conflict_reply, reason_reply, cause_value, Few, FewOf}
use Rattle.reply.specs.Reply.{refused, Fits}
use Rattle.reply.specs.declared.Reply.{Reply}
use Rattle.reason.specs.declared.Cause.TheVariants.{Higher as ByChain, AtFirst, AtLast}
use Rattle.std.specs.Prelude.{Bool, Option, Some, None, Result, Ok, Err}
use Rattle.reason.specs.declared.Cause.{Cause}
use Rattle.refusal.specs.declared.Refusal.{Refusal}

module _ (b : List ℕ) (p i q : ℕ) (c₀ : List ℕ) (bytes : declarations b < byte_values) where
  pub reason_few : (r : Result (Option Cause) Refusal) (c : List ℕ) → Reasoned b p i q c₀ r c → Few r
  unfolding Few FewOf Behind
  reason_few (Ok None) c o = tt
  reason_few (Ok (Some (ByChain n))) c o = omega (arith, reasoned_few b p i q c₀ c n o)
  reason_few (Ok (Some (AtFirst d))) c o = omega (arith, o.behind.1.there)
  reason_few (Ok (Some (AtLast d))) c o = omega (arith, o.behind.1.there)
  reason_few (Err r) c o = tt

  pub reason_fits : (r : Result (Option Cause) Refusal) (c : List ℕ) → Reasoned b p i q c₀ r c → Fits (reason_reply refused r)
  unfolding Few FewOf cause_value reason_reply conflict_reply plainly
  reason_fits (Ok None) c o = answered_fits 0 0 (omega arith) (omega arith)
  reason_fits (Ok (Some (ByChain n))) c o = let few : n < byte_values = reason_few (Ok (Some (ByChain n))) c o in answered_fits 1 _ (omega arith) (omega (arith, few))
  reason_fits (Ok (Some (AtFirst d))) c o = let few : d < byte_values = reason_few (Ok (Some (AtFirst d))) c o in answered_fits 1 _ (omega arith) (omega (arith, few))
  reason_fits (Ok (Some (AtLast d))) c o = let few : d < byte_values = reason_few (Ok (Some (AtLast d))) c o in answered_fits 1 _ (omega arith) (omega (arith, few))
  reason_fits (Err r) c o = subst (λ (a : Result Bool Refusal). Fits (conflict_reply refused a)) (sym o.plain) (conflict_fits b p i q)

-- ---- one outcome

-- What is lent determines the call's number; and but for a chain, which the answer tells, what the buffer holds then.
pub reason_call_unique : (number : Reply → ℕ) (b : List ℕ) (p i q : ℕ) (c₀ : List ℕ) (r r' : ℕ) (c c' : List ℕ)
    → ReasonCall number b p i q c₀ r c → ReasonCall number b p i q c₀ r' c' → r ≡ r'
reason_call_unique number b p i q c₀ r r' c c' x y =
    x.is_number ∙ ap (λ (a : Result (Option Cause) Refusal). number (reason_reply refused a)) (one_answer b p i q c₀ x.answer y.answer c c' x.outcome y.outcome) ∙ sym y.is_number
