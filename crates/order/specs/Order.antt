-- Which of two parses is lower (02, [9], "Which of two readings is lower"): the multi-set order of 002, section 7, over how often each uses each production.
use Rattle.std.specs.Prelude.{ℕ, ◌<◌, ◌≡◌, List, ℤ, pos, negsuc, get_or}
use Rattle.layout.specs.Layout.{productions}
use Rattle.order.specs.declared.Order.{Order}
use Rattle.order.specs.declared.Order.TheVariants.{Below, Equal, Above, Neither}
use Rattle.priority.specs.Priorities.{Higher}

-- How often a parse uses each production (002, Definition 7.1).
abbrev pub Uses : Type 0
Uses = ℕ → ℕ

-- What uses m is below what uses n: the counts differ, and for each production that it uses more often it uses some higher one less often.
-- 002, Definition 7.2, prints this last pair the other way about, "y > x". The section's motive decides, as 02 says: the parse with the fewest uses of the highest
-- productions is preferred, so it is by the higher one of the pair that m must have fewer.
pub record Lower (b : List ℕ) (m n : Uses) : Type 0 where
  pub differ : (p : ℕ) × (p < productions b) × (m p ≡ n p → ⊥)
  pub outweighed : (p : ℕ) → p < productions b → n p < m p → (q : ℕ) × Higher b q p × (m q < n q)

-- Both use each production equally often.
abbrev pub EqualCounts : List ℕ → (m n : Uses) → Type 0
EqualCounts b m n = (p : ℕ) → p < productions b → m p ≡ n p

-- The order of the uses m of the first and n of the second: what each answer says.
unfoldable pub OrderIs : List ℕ → (m n : Uses) → Order → Type 0
OrderIs b m n Below = Lower b m n
OrderIs b m n Equal = EqualCounts b m n
OrderIs b m n Above = Lower b n m
OrderIs b m n Neither = (Lower b m n → ⊥) × (EqualCounts b m n → ⊥) × (Lower b n m → ⊥)

-- 02's number of each answer: -1, 0, 1, 2.
unfoldable pub order_number : Order → ℤ
order_number Below = negsuc 0
order_number Equal = pos 0
order_number Above = pos 1
order_number Neither = pos 2

-- The answer for the two the other way about.
unfoldable pub swapped : Order → Order
swapped Below = Above
swapped Equal = Equal
swapped Above = Below
swapped Neither = Neither

-- The uses that an array of counts holds.
abbrev pub counted : List ℕ → Uses
counted counts p = get_or counts p 0
