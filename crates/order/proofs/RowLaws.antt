-- What rows of marked productions say of the order: those that m uses more often than n, and those that it uses less often.
use Prim.Native.Nat.{ℕ, ◌<◌}
use mathlib.Core.Bool.{Bool, false, true, ◌||◌, false≢true}
use mathlib.Core.List.{List}
use mathlib.Core.Logic.{◌↔◌, ⊎_elim, by_cases}
use mathlib.Core.Path.{◌≡◌, sym, ◌∙◌}
use native.Mathlib.Decide.{dec_lt}
use native.Mathlib.Omega.{arith}
use lib.ListN.{get_or}
use Rattle.common.proofs.BelowLaws.{any_found}
use Rattle.common.proofs.BoolLaws.{or_cases}
use Rattle.common.specs.Below.{any_below}
use Rattle.grammar.specs.Formed.{WellFormed}
use Rattle.layout.specs.Layout.{productions}
use Rattle.layout.specs.Limits.{production_limit}
use Rattle.order.specs.Order.{Uses, Lower, EqualCounts, OrderIs}
use Rattle.order.specs.Rows.{Marks, Outweighed, Weighs}
use Rattle.order.specs.declared.Order.{Order}
use Rattle.order.specs.declared.Order.TheVariants.{Below, Equal, Above, Neither}
use Rattle.priority.proofs.PriorityLaws.{higher_there_lem}
use Rattle.priority.specs.Priorities.{Higher}
use Rattle.priority.specs.Chain.{entry}

-- some production is marked
abbrev pub some : List Bool → Bool
some row = any_below production_limit (λ p. get_or row p false)

module _ (b : List ℕ) (count : ℕ) (is_count : count ≡ productions b) (m n : Uses) (more less : List Bool)
    (is_more : Marks count m n more) (is_less : Marks count n m less) where
  pub none_equal : ((p : ℕ) → get_or more p false ≡ false) → ((p : ℕ) → get_or less p false ≡ false) → EqualCounts b m n
  none_equal no_more no_less p l =
      by_cases (dec_lt (n p) (m p))
      (λ h. absurd (false≢true (sym (no_more p) ∙ (is_more p).1 (omega arith, h))))
      (λ h. by_cases (dec_lt (m p) (n p))
      (λ k. absurd (false≢true (sym (no_less p) ∙ (is_less p).1 (omega arith, k))))
      (λ k. omega arith))

  some_differ : (some more || some less) ≡ true → (p : ℕ) × (p < productions b) × (m p ≡ n p → ⊥)
  some_differ e =
      ⊎_elim
      (λ h. let (p, l, marked) = any_found (λ p. get_or more p false) production_limit h in let (there, lt) = (is_more p).0 marked in (p, omega arith, λ same. omega arith))
      (λ h. let (p, l, marked) = any_found (λ p. get_or less p false) production_limit h in let (there, lt) = (is_less p).0 marked in (p, omega arith, λ same. omega arith))
      (or_cases (some more) (some less) e)

  module _ (higher : List (List Bool)) (is_higher : (x y : ℕ) → (entry higher x y ≡ true) ↔ Higher b x y) where
    outweighed_lower : (p : ℕ) × (p < productions b) × (m p ≡ n p → ⊥) → Outweighed higher more less → Lower b m n
    outweighed_lower differ above =
        record {
          differ = differ;
          outweighed = λ p there lt. let (q, marked, h) = above p ((is_more p).1 (omega arith, lt)) in (q, (is_higher q p).0 h, ((is_less q).0 marked).1);
        }

    lower_outweighed : WellFormed b → Lower b m n → Outweighed higher more less
    lower_outweighed w lower p marked =
        let (there, lt) = (is_more p).0 marked in
        let (q, above, fewer) = lower.outweighed p (omega arith) lt in
        let there_too = (higher_there_lem b w above).0 in
        (q, (is_less q).1 (omega arith, fewer), (is_higher q p).1 above)

-- If a production is marked, weighing the rows gives the order.
module _ (b : List ℕ) (w : WellFormed b) (count : ℕ) (is_count : count ≡ productions b) (m n : Uses) (more less : List Bool)
    (is_more : Marks count m n more) (is_less : Marks count n m less)
    (higher : List (List Bool)) (is_higher : (x y : ℕ) → (entry higher x y ≡ true) ↔ Higher b x y) (marked : (some more || some less) ≡ true) where
  differ : (p : ℕ) × (p < productions b) × (m p ≡ n p → ⊥)
  differ = some_differ b count is_count m n more less is_more is_less marked

  pub weighs_says : (r : Order) → Weighs higher more less r → OrderIs b m n r
  unfolding Weighs OrderIs
  weighs_says Below h = outweighed_lower b count is_count m n more less is_more is_less higher is_higher differ h
  weighs_says Equal h = absurd h
  weighs_says Above h =
      outweighed_lower b count is_count n m less more is_less is_more higher is_higher (differ.0, differ.1, λ same. differ.2 (sym same)) h
  weighs_says Neither (not_below, not_above) = (
    (λ lower. not_below (lower_outweighed b count is_count m n more less is_more is_less higher is_higher w lower)),
    (λ same. differ.2 (same differ.0 differ.1)),
    (λ lower. not_above (lower_outweighed b count is_count n m less more is_less is_more higher is_higher w lower)),
  )
