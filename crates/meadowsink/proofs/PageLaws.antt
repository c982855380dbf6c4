-- The calls for the page have one outcome for each input.
use Prim.Native.Nat.{ℕ, ◌<◌}
use mathlib.Core.List.{List}
use mathlib.Core.Path.{◌≡◌, sym, ◌∙◌, ap}
use lib.ListN.{get_or}
use Rattle.charset.specs.Set.{characters}
use Rattle.page.proofs.UniqueLaws.{page_one}
use Rattle.reply.specs.Answers.{count_reply}
use Rattle.reply.specs.Reply.{refused}
use Rattle.reply.specs.declared.Reply.{Reply}
use Rattle.meadowsink.specs.Page.{PageCall}
use Rattle.std.specs.Prelude.{Result}
use Rattle.refusal.specs.declared.Refusal.{Refusal}

-- The number and every byte of the buffer, whatever number is made of the reply.
pub page_call_unique : (number : Reply → ℕ) (b : List ℕ) → ((k : ℕ) → get_or b k 0 < characters) → (w l page₀ : List ℕ) (r r' : ℕ) (page page' : List ℕ)
    → PageCall number b w l page₀ r page → PageCall number b w l page₀ r' page' → (r ≡ r') × (page ≡ page')
page_call_unique number b bytes w l page₀ r r' page page' h k =
    let (answers, pages) = page_one b bytes w l page₀ h.answer k.answer page page' h.outcome k.outcome in
    (h.is_number ∙ ap (λ (answer : Result ℕ Refusal). number (count_reply refused answer)) answers ∙ sym k.is_number, pages)
