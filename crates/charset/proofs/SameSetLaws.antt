-- Laws of equal sets (02, [5]): to be the same set is an equivalence, and the words of two sets are the same exactly if the sets are.
use Prim.Native.Nat.{ℕ, zero, suc, ◌+◌, ◌*◌, ◌/◌, ◌%◌, ◌^◌, ◌≤◌, ◌<◌}
use mathlib.Core.Path.{◌≡◌, refl, sym, ◌∙◌, ap, ap₂}
use mathlib.Core.Bool.{Bool, true, beq}
use mathlib.Core.List.{List}
use native.Mathlib.Omega.{arith}
use native.Mathlib.Numerals.{one-add}
use lib.Dec.{eqb}
use borrow.Author.Tests.{eqb-true, eq-eqb}
use lib.ListN.{length, get_or, take}
use lib.Seq.{length-take-le, get_or-take, ext_get_or}
use Rattle.std.proofs.lemmas.Slice.Eq.{bytes_eq-Decides}
use Rattle.std.specs.Str.{bytes_eq}
use lib.Pow.{shr-shr, shr_lt}
use Rattle.charset.specs.Set.{characters, word_bits, set_words, bit, has, same_set}
use Rattle.common.proofs.BelowLaws.{all_each, all_here, all_same, bit_test}
use Rattle.common.proofs.BoolLaws.{beq_true, same_beq, same_test}
use Rattle.common.specs.Below.{all_below, bit_of}

-- ---- equal sets

pub same_when : (f g : ℕ → Bool) → ((c : ℕ) → c < characters → f c ≡ g c) → same_set f g ≡ true
unfolding same_set
same_when f g e = all_each (λ c. beq (f c) (g c)) characters (λ c l. same_beq (f c) (g c) (e c l))

pub same_has : (f g : ℕ → Bool) → same_set f g ≡ true → (c : ℕ) → c < characters → f c ≡ g c
unfolding same_set
same_has f g e c l = beq_true (f c) (g c) (all_here (λ c. beq (f c) (g c)) characters e c l)

pub same_set_self : (f : ℕ → Bool) → same_set f f ≡ true
same_set_self f = same_when f f (λ c l. refl)

pub same_set_sym : (f g : ℕ → Bool) → same_set f g ≡ true → same_set g f ≡ true
same_set_sym f g e = same_when g f (λ c l. sym (same_has f g e c l))

pub same_set_trans : (f g h : ℕ → Bool) → same_set f g ≡ true → same_set g h ≡ true → same_set f h ≡ true
same_set_trans f g h d e = same_when f h (λ c l. same_has f g d c l ∙ same_has g h e c l)

-- sets with the same characters each
pub same_set_like : (f g f' g' : ℕ → Bool) → ((c : ℕ) → c < characters → f c ≡ f' c) → ((c : ℕ) → c < characters → g c ≡ g' c) → same_set f g ≡ same_set f' g'
unfolding same_set
same_set_like f g f' g' d e = all_same _ _ characters (λ c l. ap₂ beq (d c l) (e c l))

-- ---- the bits of a word say which word it is

-- bit 0 is the remainder
bit_first : (x : ℕ) → x % 2 ≡ bit_of (bit x 0)
unfolding bit
bit_first x =
    let whole : x ≡ x / 2 ^ 0 = omega arith in
    bit_test (x % 2) (omega arith) ∙ ap (λ (n : ℕ). bit_of (eqb (n % 2) 1)) whole

-- the other bits are those of the half
bit_next : (x b : ℕ) → bit (x / 2) b ≡ bit x (suc b)
unfolding bit
bit_next x b = ap (λ (n : ℕ). eqb (n % 2) 1) (shr-shr x 1 b) ∙ ap (λ (n : ℕ). eqb (x / 2 ^ n % 2) 1) (one-add b)

bits_same : (n x y : ℕ) → x < 2 ^ n → y < 2 ^ n → ((b : ℕ) → b < n → bit x b ≡ bit y b) → x ≡ y
bits_same zero x y l m e = omega arith
bits_same (suc n) x y l m e =
    let wide : 2 ^ suc n ≡ 2 ^ (n + 1) = ap (λ (k : ℕ). 2 ^ k) (omega arith) in
    let halves : x / 2 ≡ y / 2 =
    bits_same n (x / 2) (y / 2) (shr_lt n 1 (omega arith)) (shr_lt n 1 (omega arith)) (λ b k. bit_next x b ∙ e (suc b) (omega arith) ∙ sym (bit_next y b)) in
    omega (arith, bit_first x ∙ ap bit_of (e 0 (omega arith)) ∙ sym (bit_first y))

-- ---- and the words say which set it is

-- bit b of word i is that of number 64 i + b
word_bit : (u : List ℕ) (i b : ℕ) → b < word_bits → bit (get_or u i 0) b ≡ has u (word_bits * i + b)
unfolding has
word_bit u i b l =
    let c = word_bits * i + b in
    let word : c / word_bits ≡ i = omega arith in
    let at : c % word_bits ≡ b = omega arith in
    ap₂ (λ (m n : ℕ). bit (get_or u m 0) n) (sym word) (sym at)

-- the words of two sets are the same exactly if the sets are
pub same_words : (v w : List ℕ) → ((i : ℕ) → get_or v i 0 < 2 ^ word_bits) → ((i : ℕ) → get_or w i 0 < 2 ^ word_bits) → same_set (has v) (has w) ≡ all_below set_words (λ i. eqb (get_or v i 0) (get_or w i 0))
unfolding has
same_words v w small small' =
    let words : ℕ → Bool = λ i. eqb (get_or v i 0) (get_or w i 0) in
    same_test (same_set (has v) (has w)) (all_below set_words words)
    (λ e. all_each words set_words (λ i h. eq-eqb (get_or v i 0) (get_or w i 0)
    (bits_same word_bits (get_or v i 0) (get_or w i 0) (small i) (small' i) (λ b k. word_bit v i b k ∙ same_has (has v) (has w) e (word_bits * i + b) (omega arith) ∙ sym (word_bit w i b k)))))
    (λ e. same_when (has v) (has w) (λ c h. ap (λ (x : ℕ). bit x (c % word_bits)) (eqb-true (get_or v (c / word_bits) 0) (get_or w (c / word_bits) 0) (all_here words set_words e (c / word_bits) (omega arith)))))

-- and so are their fronts
pub same_fronts : (v w : List ℕ) → ((i : ℕ) → get_or v i 0 < 2 ^ word_bits) → ((i : ℕ) → get_or w i 0 < 2 ^ word_bits) → set_words ≤ length v → set_words ≤ length w
    → bytes_eq (take set_words v) (take set_words w) ≡ same_set (has v) (has w)
unfolding has
same_fronts v w small small' l m =
    let fronts = bytes_eq-Decides (take set_words v) (take set_words w) in
    let word : (u : List ℕ) (i : ℕ) → i < set_words → get_or (take set_words u) i 0 ≡ get_or u i 0 = λ u i h. get_or-take set_words u i 0 h in
    same_test (bytes_eq (take set_words v) (take set_words w)) (same_set (has v) (has w))
    (λ e. same_when (has v) (has w) (λ c h. ap (λ (x : ℕ). bit x (c % word_bits)) (sym (word v (c / word_bits) (omega arith)) ∙ ap (λ (u : List ℕ). get_or u (c / word_bits) 0) (fronts.0 e) ∙ word w (c / word_bits) (omega arith))))
    (λ e. fronts.1 (ext_get_or 0 (take set_words v) (take set_words w) (length-take-le set_words v l ∙ sym (length-take-le set_words w m))
    (λ i h. let below : i < set_words = omega (arith, length-take-le set_words v l) in
    word v i below
    ∙ bits_same word_bits (get_or v i 0) (get_or w i 0) (small i) (small' i) (λ b k. word_bit v i b k ∙ same_has (has v) (has w) e (word_bits * i + b) (omega arith) ∙ sym (word_bit w i b k))
    ∙ sym (word w i below))))
