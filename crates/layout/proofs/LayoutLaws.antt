-- Laws of the layout: each part begins where the one before ends, and all of them end at the length called for.
use Prim.Native.Nat.{ℕ, ◌+◌, ◌*◌, ◌≤◌, ◌<◌}
use mathlib.Core.Path.{◌≡◌, ap}
use mathlib.Core.List.{List}
use native.Mathlib.Omega.{arith}
use Rattle.common.proofs.BelowLaws.{sum_more, sum_bound, sum_grows, sum_double}
use Rattle.common.specs.Below.{sum_below}
use Rattle.common.specs.Bytes.{byte_values}
use Rattle.layout.specs.Layout.{byte_at, productions, classes, declarations, argument_count_at, range_count_at, argument_count, range_count, bodies_at, production_at, class_at, low, high, declaration_at, needed_length}
use Rattle.layout.specs.Limits.{header_length}

-- ---- how far the parts can reach, whatever the bytes are

-- the bodies begin at most here: one count is a byte
abbrev pub bodies_limit : ℕ
bodies_limit = header_length + 2 * byte_values

-- the classes, behind as many productions as a byte can count, each of as many bytes
abbrev pub classes_limit : ℕ
classes_limit = bodies_limit + byte_values * byte_values

-- the declarations, behind as many classes, each of as many ranges of two bytes
abbrev pub declarations_limit : ℕ
declarations_limit = classes_limit + byte_values * (2 * byte_values)

-- ---- the bodies follow one another

module _ (b : List ℕ) where
  pub production_first : production_at b 0 ≡ bodies_at b
  unfolding production_at sum_below
  production_first = omega arith

  pub production_next : (p : ℕ) → production_at b (p + 1) ≡ production_at b p + (1 + argument_count b p)
  unfolding production_at
  production_next p = rw (sum_more p (λ q. 1 + argument_count b q)) (omega arith)

  pub class_first : class_at b 0 ≡ production_at b (productions b)
  unfolding class_at sum_below
  class_first = omega arith

  pub class_next : (k : ℕ) → class_at b (k + 1) ≡ class_at b k + 2 * range_count b k
  unfolding class_at
  class_next k = rw (sum_more k (λ j. 2 * range_count b j)) (omega arith)

  pub declaration_first : declaration_at b 0 ≡ class_at b (classes b)
  unfolding declaration_at
  declaration_first = omega arith

  pub declaration_next : (d : ℕ) → declaration_at b (d + 1) ≡ declaration_at b d + 3
  unfolding declaration_at
  declaration_next d = omega arith

  -- declarations are three numbers each
  pub declaration_from : (d : ℕ) → declaration_at b d ≡ declaration_at b 0 + 3 * d
  unfolding declaration_at
  declaration_from d = omega arith

  -- the ends of a range of class k, read from where the class begins
  pub low_read : (k at r : ℕ) → at ≡ class_at b k → byte_at b (at + 2 * r) ≡ low b k r
  unfolding low
  low_read k at r e = ap (λ (a : ℕ). byte_at b (a + 2 * r)) e

  pub high_read : (k at r : ℕ) → at ≡ class_at b k → byte_at b (at + 2 * r + 1) ≡ high b k r
  unfolding high
  high_read k at r e = ap (λ (a : ℕ). byte_at b (a + 2 * r + 1)) e

  -- each part ends before the next one of its kind begins
  pub production_before : (p q : ℕ) → p < q → production_at b p + (1 + argument_count b p) ≤ production_at b q
  unfolding production_at
  production_before p q h = omega (arith, sum_grows (λ r. 1 + argument_count b r) p q h)

  pub class_before : (k l : ℕ) → k < l → class_at b k + 2 * range_count b k ≤ class_at b l
  unfolding class_at
  class_before k l h = omega (arith, sum_grows (λ j. 2 * range_count b j) k l h)

  pub declaration_before : (d e : ℕ) → d < e → declaration_at b d + 3 ≤ declaration_at b e
  unfolding declaration_at
  declaration_before d e h = omega arith

  -- and before the next kind of part begins
  pub production_within : (p : ℕ) → p < productions b → production_at b p + (1 + argument_count b p) ≤ class_at b 0
  unfolding production_at class_at
  production_within p h = omega (arith, sum_grows (λ q. 1 + argument_count b q) p (productions b) h)

  pub production_after : (p : ℕ) → production_at b 0 ≤ production_at b p
  unfolding production_at sum_below
  production_after p = omega arith

  pub class_within : (k : ℕ) → k < classes b → class_at b k + 2 * range_count b k ≤ declaration_at b 0
  unfolding class_at declaration_at
  class_within k h = omega (arith, sum_grows (λ j. 2 * range_count b j) k (classes b) h)

  pub class_after_productions : (k : ℕ) → class_at b 0 ≤ class_at b k
  unfolding class_at sum_below
  class_after_productions k = omega arith

  pub declaration_within : (d : ℕ) → d < declarations b → declaration_at b d + 3 ≤ declaration_at b (declarations b)
  unfolding declaration_at
  declaration_within d h = omega arith

  pub declaration_after_classes : (d : ℕ) → declaration_at b 0 ≤ declaration_at b d
  unfolding declaration_at
  declaration_after_classes d = omega arith

  pub needed_is_end : needed_length b ≡ declaration_at b (declarations b)
  unfolding needed_length declaration_at class_at production_at
  needed_is_end = omega (arith, sum_double (λ k. range_count b k) (classes b))

  -- ---- no sum wraps: counts are bytes
  module _ (bytes : (k : ℕ) → byte_at b k < byte_values) where
    pub count_small : (p : ℕ) → argument_count b p < byte_values
    unfolding argument_count
    count_small p = bytes (argument_count_at b p)

    pub range_count_small : (k : ℕ) → range_count b k < byte_values
    unfolding range_count
    range_count_small k = bytes (range_count_at b k)

    pub production_small : (p : ℕ) → production_at b p ≤ bodies_limit + p * byte_values
    unfolding production_at
    production_small p = omega (arith, bytes 1, bytes 2, sum_bound byte_values (λ q. 1 + argument_count b q) (λ k. omega (arith, count_small k)) p)

    pub class_small : (k : ℕ) → class_at b k ≤ classes_limit + k * (2 * byte_values)
    unfolding class_at
    class_small k = omega (arith, bytes 1, production_small (productions b), sum_bound (2 * byte_values) (λ j. 2 * range_count b j) (λ j. omega (arith, range_count_small j)) k)

    pub declaration_small : (d : ℕ) → declaration_at b d ≤ declarations_limit + 3 * d
    unfolding declaration_at
    declaration_small d = omega (arith, bytes 2, class_small (classes b))
