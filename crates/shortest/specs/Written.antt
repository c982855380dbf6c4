-- A shortest chain in a buffer that its user lends.
use Rattle.std.specs.Prelude.{ℕ, ◌≡◌, List, length, take}
use Rattle.common.specs.Lists.{overwritten}
use Rattle.shortest.specs.Chain.{Shortest}

-- What a buffer that held c₀ holds then: at its start as much of the chain as fits, and beyond that what it held.
abbrev pub chain_after : (chain c₀ : List ℕ) → List ℕ
chain_after chain c₀ = overwritten (take (length c₀) chain) c₀

-- The buffer has a shortest chain from x to y, and n is how many declarations it has, whether or not all of them fit. Which it is, of several that are
-- equally short, is open.
pub record ShortestWritten (b : List ℕ) (x y : ℕ) (c₀ : List ℕ) (n : ℕ) (c : List ℕ) : Type 0 where
  pub chain : List ℕ
  pub shortest : Shortest b x y chain
  pub is_length : n ≡ length chain
  pub is_written : c ≡ chain_after chain c₀
