-- Laws of the bits of a word: of `or`, and of a block of ones.
use Prim.Native.Nat.{ℕ, zero, suc, ◌+◌, ◌-◌, ◌*◌, ◌/◌, ◌%◌, ◌^◌, min, max, ◌≤◌, ◌<◌}
use mathlib.Core.Path.{◌≡◌, refl, sym, ◌∙◌, ap}
use mathlib.Core.Bool.{false, not, ◌&&◌, ◌||◌}
use mathlib.Core.List.{List, [], ◌∷◌}
use mathlib.Core.Logic.{by_cases}
use native.Mathlib.Omega.{arith}
use native.Mathlib.Decide.{dec_le, dec_lt}
use native.Mathlib.Nat.{add-zero, mul_assoc, not-le_of_lt, div-eq_of_lt}
use lib.Dec.{leb, ltb, eqb}
use lib.ListN.{get_or}
use lib.Pow.{pow_pos, pow_mono, pow-add, field, mod-mod-pow, shl_exact, shl-shr, shr-shr, high as high_part, ones_lt, ones_split}
use lib.Bits.{bit_and, bit_or, bit_xor, differ, and_step, or_step, xor_step, and_shr, or_shr, xor_shr}
use borrow.Author.Tests.{lt-ltb, le-ltb, le-leb, lt-leb}
use Rattle.charset.specs.Set.{characters, word_bits, set_words, bit, has, in_range}

max_bit : (u v : ℕ) → u < 2 → v < 2 → eqb (max u v) 1 ≡ (eqb u 1 || eqb v 1)
max_bit zero zero p q = refl
max_bit zero (suc zero) p q = refl
max_bit zero (suc (suc v)) p q = absurd (omega arith)
max_bit (suc zero) zero p q = refl
max_bit (suc zero) (suc zero) p q = refl
max_bit (suc zero) (suc (suc v)) p q = absurd (omega arith)
max_bit (suc (suc u)) v p q = absurd (omega arith)

pub bit_or_lem : (x y b : ℕ) → bit (bit_or x y) b ≡ (bit x b || bit y b)
unfolding bit
bit_or_lem x y b =
    let p = x / 2 ^ b in
    let q = y / 2 ^ b in
    let step : bit_or p q % 2 ≡ max (p % 2) (q % 2) = rw or_step (omega arith) in
    rw (or_shr, step) (max_bit (p % 2) (q % 2) (omega arith) (omega arith))

differ_small : (u v : ℕ) → u < 2 → v < 2 → differ u v < 2
differ_small zero v p q = q
differ_small (suc zero) zero p q = p
differ_small (suc zero) (suc zero) p q = omega arith
differ_small (suc zero) (suc (suc v)) p q = absurd (omega arith)
differ_small (suc (suc u)) v p q = absurd (omega arith)

-- what is left of x without the bits of y
without_bit : (u v : ℕ) → u < 2 → v < 2 → eqb (differ u (min u v)) 1 ≡ (eqb u 1 && not (eqb v 1))
without_bit zero zero p q = refl
without_bit zero (suc zero) p q = refl
without_bit zero (suc (suc v)) p q = absurd (omega arith)
without_bit (suc zero) zero p q = refl
without_bit (suc zero) (suc zero) p q = refl
without_bit (suc zero) (suc (suc v)) p q = absurd (omega arith)
without_bit (suc (suc u)) v p q = absurd (omega arith)

pub bit_without : (x y b : ℕ) → bit (bit_xor x (bit_and x y)) b ≡ (bit x b && not (bit y b))
unfolding bit
bit_without x y b =
    let p = x / 2 ^ b in
    let q = y / 2 ^ b in
    let lower : bit_and p q % 2 ≡ min (p % 2) (q % 2) = rw and_step (omega arith) in
    let small = differ_small (p % 2) (bit_and p q % 2) (omega arith) (omega arith) in
    let step : bit_xor p (bit_and p q) % 2 ≡ differ (p % 2) (bit_and p q % 2) = rw xor_step (omega arith) in
    rw (xor_shr, and_shr, step, lower) (without_bit (p % 2) (q % 2) (omega arith) (omega arith))

pub bit_zero : (b : ℕ) → bit 0 b ≡ false
unfolding bit
bit_zero b =
    let z : 0 / 2 ^ b ≡ 0 = div-eq_of_lt (pow_pos b) in
    rw z refl

-- bit b of the n bits from `from` on
pub bit_part : (word from n b : ℕ) → b < n → bit (word / 2 ^ from % 2 ^ n) b ≡ bit word (from + b)
unfolding bit
bit_part word from n b l =
    let j = n - suc b in
    let wide : n ≡ j + 1 + b = omega arith in
    let part : word / 2 ^ from % 2 ^ n / 2 ^ b ≡ word / 2 ^ (from + b) % 2 ^ (j + 1) =
    ap (λ (m : ℕ). word / 2 ^ from % 2 ^ m / 2 ^ b) wide ∙ field (word / 2 ^ from) (j + 1) b ∙ ap (λ (m : ℕ). m % 2 ^ (j + 1)) (shr-shr word from b) in
    ap (λ (m : ℕ). eqb (m % 2) 1) part ∙ ap (λ (m : ℕ). eqb m 1) (mod-mod-pow (word / 2 ^ (from + b)) j 1)

-- ---- a block of k ones above lo zeros

module _ (k lo b : ℕ) where
  block : ℕ
  block = (2 ^ k - 1) * 2 ^ lo

  -- below the block: what is left after the shift is even
  below_block : b < lo → block / 2 ^ b % 2 ≡ 0
  unfolding block
  below_block h =
      let j = lo - suc b in
      let e : 2 ^ lo ≡ 2 ^ j * 2 * 2 ^ b = ap (λ (n : ℕ). 2 ^ n) (omega arith) ∙ pow-add 2 (j + 1) b ∙ ap (λ (n : ℕ). n * 2 ^ b) (pow-add 2 j 1) in
      let d : block / 2 ^ b ≡ (2 ^ k - 1) * (2 ^ j * 2) = rw e (rw (← (mul_assoc (2 ^ k - 1) (2 ^ j * 2) (2 ^ b))) (shl-shr ((2 ^ k - 1) * (2 ^ j * 2)) b)) in
      rw (d, ← mul_assoc) (omega arith)

  shifted : lo ≤ b → block / 2 ^ b ≡ (2 ^ k - 1) / 2 ^ (b - lo)
  unfolding block
  shifted h =
      let e : lo + (b - lo) ≡ b = omega arith in
      sym (ap (λ (n : ℕ). block / 2 ^ n) e) ∙ sym (shr-shr block lo (b - lo)) ∙ ap (λ (n : ℕ). n / 2 ^ (b - lo)) (shl-shr (2 ^ k - 1) lo)

  in_block : lo ≤ b → b < lo + k → block / 2 ^ b % 2 ≡ 1
  in_block h l =
      let i = b - lo in
      let j = k - suc i in
      let split : 2 ^ k - 1 ≡ (2 ^ (suc j) - 1) * 2 ^ i + (2 ^ i - 1) = ap (λ (n : ℕ). 2 ^ n - 1) (omega arith) ∙ ones_split (suc j) i in
      let ones : (2 ^ k - 1) / 2 ^ i ≡ 2 ^ (suc j) - 1 = rw split (high_part (2 ^ (suc j) - 1) i (ones_lt i)) in
      rw (shifted h, ones) (omega (arith, pow_pos j))

  above_block : lo + k ≤ b → block / 2 ^ b % 2 ≡ 0
  above_block h =
      let small : (2 ^ k - 1) / 2 ^ (b - lo) ≡ 0 = div-eq_of_lt (omega (arith, pow_mono {i = k} {j = b - lo} (omega arith), pow_pos k)) in
      rw (shifted (omega arith), small) refl

  pub bit_block : bit ((2 ^ k - 1) * 2 ^ lo) b ≡ (leb lo b && ltb b (lo + k))
  unfolding bit block
  bit_block =
      by_cases (dec_lt b lo)
      (λ l. rw (below_block l, lt-leb lo b l) refl)
      (λ n. by_cases (dec_lt b (lo + k))
      (λ l. rw (in_block (omega arith) l, le-leb lo b (omega arith), lt-ltb b (lo + k) l) refl)
      (λ m. rw (above_block (omega arith), le-leb lo b (omega arith), le-ltb b (lo + k) (omega arith)) refl))

-- ---- the masks of a range

-- the highest bit of a word
abbrev last_bit : ℕ
last_bit = word_bits - 1

leb_same : (a b c d : ℕ) → (a ≤ b → c ≤ d) → (c ≤ d → a ≤ b) → leb a b ≡ leb c d
leb_same a b c d f g =
    by_cases (dec_lt b a)
    (λ l. rw (lt-leb a b l, lt-leb c d (by_cases (dec_lt d c) (λ k. k) (λ n. absurd (not-le_of_lt l (g (omega arith)))))) refl)
    (λ n. rw (le-leb a b (omega arith), le-leb c d (f (omega arith))) refl)

-- outside the word nothing is in range, and the mask is 0
pub mask_none : (low high base b : ℕ) → b < word_bits → (low ≤ base + b → base + b ≤ high → ⊥) → bit 0 b ≡ in_range low high (base + b)
unfolding in_range
mask_none low high base b h out =
    by_cases (dec_le low (base + b))
    (λ l. rw (bit_zero b, le-leb low (base + b) l, lt-leb (base + b) high (by_cases (dec_lt high (base + b)) (λ k. k) (λ n. absurd (out l (omega arith))))) refl)
    (λ n. rw (bit_zero b, lt-leb low (base + b) (omega arith)) refl)

module _ (low high base : ℕ) (rising : low ≤ high) (reaches : base ≤ high) (begins : low ≤ base + last_bit) where
  mask_ones : (2 ^ word_bits - 1) / 2 ^ (last_bit - (min (high - base) last_bit - (low - base))) ≡ 2 ^ suc (min (high - base) last_bit - (low - base)) - 1
  mask_ones =
      let n = min (high - base) last_bit - (low - base) in
      let whole : word_bits ≡ suc n + (last_bit - n) = omega arith in
      let split : (2 ^ word_bits - 1) ≡ (2 ^ suc n - 1) * 2 ^ (last_bit - n) + (2 ^ (last_bit - n) - 1) =
      ap (λ (m : ℕ). 2 ^ m - 1) whole ∙ ones_split (suc n) (last_bit - n) in
      rw split (high_part (2 ^ suc n - 1) (last_bit - n) (ones_lt (last_bit - n)))

  pub mask_block : (b : ℕ) → b < word_bits
      → bit ((2 ^ word_bits - 1) / 2 ^ (last_bit - (min (high - base) last_bit - (low - base))) * 2 ^ (low - base) % 2 ^ word_bits) b ≡ in_range low high (base + b)
  unfolding in_range
  mask_block b h =
      let n = min (high - base) last_bit - (low - base) in
      let fits : (2 ^ suc n - 1) * 2 ^ (low - base) % 2 ^ word_bits ≡ (2 ^ suc n - 1) * 2 ^ (low - base) =
      shl_exact (suc n) (low - base) word_bits (ones_lt (suc n)) (omega arith) in
      rw (mask_ones, fits, bit_block (suc n) (low - base) b, leb_same (low - base) b low (base + b) (λ l. omega arith) (λ l. omega arith), leb_same (suc b) (low - base + suc n) (base + b) high (λ l. omega arith) (λ l. omega arith)) refl

-- ---- four words

module _ (words : List ℕ) (low high m₀ m₁ m₂ m₃ : ℕ)
    (at₀ : (b : ℕ) → b < word_bits → bit m₀ b ≡ in_range low high (0 + b))
    (at₁ : (b : ℕ) → b < word_bits → bit m₁ b ≡ in_range low high (word_bits + b))
    (at₂ : (b : ℕ) → b < word_bits → bit m₂ b ≡ in_range low high (2 * word_bits + b))
    (at₃ : (b : ℕ) → b < word_bits → bit m₃ b ≡ in_range low high (3 * word_bits + b)) where
  words' : List ℕ
  words' = bit_or (get_or words 0 0) m₀ ∷ bit_or (get_or words 1 0) m₁ ∷ bit_or (get_or words 2 0) m₂ ∷ bit_or (get_or words 3 0) m₃ ∷ []

  one_word : (w m base b : ℕ) → ((k : ℕ) → k < word_bits → bit m k ≡ in_range low high (base + k)) → base + b % word_bits ≡ b
      → bit (bit_or w m) (b % word_bits) ≡ (bit w (b % word_bits) || in_range low high b)
  one_word w m base b at e = rw (bit_or_lem w m (b % word_bits), at (b % word_bits) (omega arith), e) refl

  by_word : (b q : ℕ) → b / word_bits ≡ q → q < set_words → bit (get_or words' q 0) (b % word_bits) ≡ (bit (get_or words q 0) (b % word_bits) || in_range low high b)
  unfolding words'
  by_word b zero e h = one_word (get_or words 0 0) m₀ 0 b at₀ (omega arith)
  by_word b (suc zero) e h = one_word (get_or words 1 0) m₁ word_bits b at₁ (omega arith)
  by_word b (suc (suc zero)) e h = one_word (get_or words 2 0) m₂ (2 * word_bits) b at₂ (omega arith)
  by_word b (suc (suc (suc zero))) e h = one_word (get_or words 3 0) m₃ (3 * word_bits) b at₃ (omega arith)
  by_word b (suc (suc (suc (suc q)))) e h = absurd (omega arith)

  pub has_or : (b : ℕ) → b < characters → has (bit_or (get_or words 0 0) m₀ ∷ bit_or (get_or words 1 0) m₁ ∷ bit_or (get_or words 2 0) m₂ ∷ bit_or (get_or words 3 0) m₃ ∷ []) b ≡ (has words b || in_range low high b)
  unfolding has words'
  has_or b h = by_word b (b / word_bits) refl (omega arith)

-- four words of a longer list, read one by one
pub has_four : (words : List ℕ) (at c : ℕ) → c < characters
    → has (get_or words at 0 ∷ get_or words (at + 1) 0 ∷ get_or words (at + 2) 0 ∷ get_or words (at + 3) 0 ∷ []) c ≡ bit (get_or words (at + c / word_bits) 0) (c % word_bits)
unfolding has
has_four words at c l = ap (λ (v : ℕ). bit v (c % word_bits)) (word (c / word_bits) (omega arith))
  where
    word : (i : ℕ) → i < set_words → get_or (get_or words at 0 ∷ get_or words (at + 1) 0 ∷ get_or words (at + 2) 0 ∷ get_or words (at + 3) 0 ∷ []) i 0 ≡ get_or words (at + i) 0
    word zero h = ap (λ (n : ℕ). get_or words n 0) (sym (add-zero at))
    word (suc zero) h = refl
    word (suc (suc zero)) h = refl
    word (suc (suc (suc zero))) h = refl
    word (suc (suc (suc (suc i)))) h = absurd (omega arith)
