-- A word made bit by bit.
use Prim.Native.Nat.{ℕ, ◌+◌, ◌*◌, ◌%◌, ◌^◌, ◌<◌}
use mathlib.Core.Path.{◌≡◌, refl, sym, ◌∙◌, ap}
use mathlib.Core.Bool.{Bool, false, true, ◌&&◌, ◌||◌}
use mathlib.Core.Logic.{by_cases}
use native.Mathlib.Omega.{arith}
use native.Mathlib.Decide.{dec_lt}
use native.Mathlib.Nat.{zero-mul}
use lib.Bits.{bit_or}
use lib.Dec.{leb, ltb}
use lib.Pow.{shl_exact}
use borrow.Author.Tests.{lt-ltb, le-ltb, le-leb, lt-leb}
use mir.Val.{bool_byte}
use Rattle.charset.proofs.BitLaws.{bit_or_lem, bit_zero, bit_block}
use Rattle.charset.specs.Set.{bit, word_bits}

-- one bit at place b
pub one_bit : (v : Bool) (b k : ℕ) → b < word_bits → bit (bool_byte v * 2 ^ b % 2 ^ word_bits) k ≡ (v && (leb b k && ltb k (b + 1)))
one_bit false b k l =
    let none : 0 * 2 ^ b % 2 ^ word_bits ≡ 0 = shl_exact 0 b word_bits (omega arith) (omega arith) ∙ zero-mul (2 ^ b) in
    ap (λ (x : ℕ). bit x k) none ∙ bit_zero k
one_bit true b k l =
    let fits : 1 * 2 ^ b % 2 ^ word_bits ≡ 1 * 2 ^ b = shl_exact 1 b word_bits (omega arith) (omega arith) in
    ap (λ (x : ℕ). bit x k) fits ∙ bit_block 1 b k

-- a word with the bits of f below b gets the next
pub bit_more : (f : ℕ → Bool) (word b : ℕ) → b < word_bits → ((k : ℕ) → bit word k ≡ (ltb k b && f k))
    → (k : ℕ) → bit (bit_or word (bool_byte (f b) * 2 ^ b % 2 ^ word_bits)) k ≡ (ltb k (b + 1) && f k)
bit_more f word b l h k = bit_or_lem word (bool_byte (f b) * 2 ^ b % 2 ^ word_bits) k ∙ rw (h k, one_bit (f b) b k l) (by_place (f b) refl)
  where
    by_place : (v : Bool) → f b ≡ v → ((ltb k b && f k) || (v && (leb b k && ltb k (b + 1)))) ≡ (ltb k (b + 1) && f k)
    by_place v e =
        by_cases (dec_lt k b)
        (λ m. rw (lt-ltb k b m, lt-leb b k m, lt-ltb k (b + 1) (omega arith)) (below v (f k)))
        (λ m. by_cases (dec_lt b k)
        (λ o. rw (le-ltb k b (omega arith), le-leb b k (omega arith), le-ltb k (b + 1) (omega arith)) (above v))
        (λ o. let same : k ≡ b = omega arith in
        rw (le-ltb k b (omega arith), le-leb b k (omega arith), lt-ltb k (b + 1) (omega arith)) (here v ∙ sym (ap f same ∙ e))))
      where
        below : (v w : Bool) → (w || (v && false)) ≡ w
        below false false = refl
        below false true = refl
        below true false = refl
        below true true = refl

        above : (v : Bool) → (v && false) ≡ false
        above false = refl
        above true = refl

        here : (v : Bool) → (v && true) ≡ v
        here false = refl
        here true = refl
