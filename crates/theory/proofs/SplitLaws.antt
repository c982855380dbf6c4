-- What a step of the chart rests on: entries of the same start or the same end, and no others.
use Prim.Native.Nat.{ℕ, ◌+◌, ◌-◌, ◌*◌, ◌≤◌, ◌<◌}
use mathlib.Core.Path.{◌≡◌, ◌∙◌, ap, ap₂}
use mathlib.Core.List.{List}
use native.Mathlib.Omega.{arith}
use native.Mathlib.Nat.{zero-add}
use Rattle.common.proofs.BelowLaws.{sum_none, sum_more, sum_same, sum_ends}
use Rattle.common.specs.Below.{sum_below, bit_of}
use Rattle.theory.specs.Grammar.{Grammar}
use Rattle.theory.specs.Steps.{Chart, char_entry, argument_sum, split_sum}

module _ (g : Grammar) (w : List ℕ) (c c' : Chart) where
  pub argument_same : (p d m j : ℕ) → ((q : ℕ) → q < g.count → c q (g.arity q) m j ≡ c' q (g.arity q) m j) → argument_sum g w c p d m j ≡ argument_sum g w c' p d m j
  unfolding argument_sum
  argument_same p d m j e =
      ap (λ (n : ℕ). char_entry g w p d m j + n)
      (sum_same (λ q. bit_of (g.subs p d q) * c q (g.arity q) m j) (λ q. bit_of (g.subs p d q) * c' q (g.arity q) m j) g.count
      (λ q l. ap (λ (n : ℕ). bit_of (g.subs p d q) * n) (e q l)))

  pub split_same : (p d i j : ℕ) → i ≤ j
      → ((m : ℕ) → i ≤ m → m ≤ j → c p d i m ≡ c' p d i m)
      → ((q m : ℕ) → q < g.count → i ≤ m → m ≤ j → c q (g.arity q) m j ≡ c' q (g.arity q) m j)
      → split_sum g w c p d i j ≡ split_sum g w c' p d i j
  unfolding split_sum
  split_same p d i j ij e h =
      sum_same (λ k. c p d i (i + k) * argument_sum g w c p d (i + k) j) (λ k. c' p d i (i + k) * argument_sum g w c' p d (i + k) j) (j - i + 1)
      (λ k l. ap₂ ◌*◌ (e (i + k) (omega arith) (omega arith)) (argument_same p d (i + k) j (λ q o. h q (i + k) o (omega arith) (omega arith))))

-- the splits of a span that is not empty: at its start, within it, at its end
pub split_ends : (f : ℕ → ℕ) (i j : ℕ) → i < j
    → sum_below (j - i + 1) (λ k. f (i + k)) ≡ f i + sum_below (j - i - 1) (λ k. f (i + 1 + k)) + f j
split_ends f i j l =
    let e : j - i + 1 ≡ (j - i - 1) + 2 = omega arith in
    let zeroth : i + 0 ≡ i = omega arith in
    let final : i + (j - i - 1 + 1) ≡ j = omega arith in
    let inside : sum_below (j - i - 1) (λ k. f (i + (1 + k))) ≡ sum_below (j - i - 1) (λ k. f (i + 1 + k))
    = sum_same (λ k. f (i + (1 + k))) (λ k. f (i + 1 + k)) (j - i - 1) (λ k o. ap f (omega arith)) in
    ap (λ (n : ℕ). sum_below n (λ k. f (i + k))) e ∙ sum_ends (λ k. f (i + k)) (j - i - 1)
    ∙ ap₂ ◌+◌ (ap₂ ◌+◌ (ap f zeroth) inside) (ap f final)

-- the one split of an empty span
pub split_empty : (f : ℕ → ℕ) (i : ℕ) → sum_below (i - i + 1) (λ k. f (i + k)) ≡ f i
split_empty f i =
    let e : i - i + 1 ≡ 0 + 1 = omega arith in
    let zeroth : i + 0 ≡ i = omega arith in
    let one : sum_below 0 (λ k. f (i + k)) + f (i + 0) ≡ f i = ap₂ ◌+◌ (sum_none (λ k. f (i + k))) (ap f zeroth) ∙ zero-add (f i) in
    ap (λ (n : ℕ). sum_below n (λ k. f (i + k))) e ∙ sum_more 0 (λ k. f (i + k)) ∙ one
