-- The way from a production in a buffer, a declaration at a time.
use Prim.Native.Nat.{ℕ, min, ◌≤◌, ◌<◌}
use mathlib.Core.Path.{◌≡◌, sym, ◌∙◌, ap}
use mathlib.Core.List.{List}
use mathlib.Core.Logic.{by_cases}
use native.Mathlib.Omega.{arith}
use native.Mathlib.Decide.{dec_lt}
use lib.ListN.{length, get_or, take, length-take}
use lib.Seq.{get_or-take, ext_get_or}
use Rattle.common.proofs.FillLaws.{Filled}
use Rattle.common.proofs.OverwrittenLaws.{overwritten_of}
use Rattle.common.specs.Lists.{overwritten}
use Rattle.shortest.specs.Written.{chain_after}

-- Entry k of a chain.
abbrev pub Entry : List ℕ → ℕ → ℕ → Type 0
Entry chain k v = v ≡ get_or chain k 0

-- Filled from the front until the chain ends, or the buffer.
pub chain_written : (chain c₀ : List ℕ) (k : ℕ) (c : List ℕ) → Filled (Entry chain) 0 c₀ k c → k ≤ length chain → k ≤ length c₀ → (k < length chain → k < length c₀ → ⊥)
    → c ≡ chain_after chain c₀
chain_written chain c₀ k c f in_chain in_buffer ended =
    let whole : c ≡ overwritten (take k c) c₀ = overwritten_of 0 k c c₀ f.long (omega (arith, f.long)) f.rest in
    let shorter : min (length c₀) (length chain) ≡ k =
    by_cases (dec_lt k (length chain)) (λ l. by_cases (dec_lt k (length c₀)) (λ m. absurd (ended l m)) (λ m. omega arith)) (λ l. omega arith) in
    let cut : length (take (length c₀) chain) ≡ k = length-take (length c₀) chain ∙ shorter in
    let same : take k c ≡ take (length c₀) chain =
    ext_get_or 0 (take k c) (take (length c₀) chain) (length-take k c ∙ omega (arith, cut, f.long))
    (λ i l. let short : i < k = omega (arith, length-take k c) in
    get_or-take k c i 0 short ∙ f.done i short ∙ sym (get_or-take (length c₀) chain i 0 (omega arith))) in
    whole ∙ ap (λ (front : List ℕ). overwritten front c₀) same
