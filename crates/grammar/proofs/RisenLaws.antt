-- The grammar with each range that falls turned round (02, [3]): it is one with ranges turned round, and all of them rise.
use Prim.Native.Nat.{ℕ, zero, suc, ◌+◌, ◌-◌, ◌*◌, min, max, ◌≤◌, ◌<◌}
use mathlib.Core.Path.{◌≡◌, refl, sym, ◌∙◌, ap, subst}
use mathlib.Core.List.{List, [], ◌∷◌, ◌++◌}
use mathlib.Core.Logic.{inl, inr, by_cases}
use native.Mathlib.Omega.{arith}
use native.Mathlib.Decide.{dec_lt}
use lib.ListN.{length, get_or, take, drop, length-append, length-drop, get_or-append, get_or-eq_default}
use lib.Seq.{length-take-le, get_or-append-add, get_or-take, get_or-drop, slice, length-slice}
use Rattle.common.proofs.BelowLaws.{sum_none, sum_double}
use Rattle.common.specs.Below.{sum_below}
use Rattle.grammar.proofs.SameFrontLaws.{same_classes, same_range_count, same_range_at}
use Rattle.grammar.proofs.TurnedLaws.{turned_front}
use Rattle.grammar.specs.Turned.{TurnedRound, RangesRise, rising, risen}
use Rattle.layout.proofs.FramedLaws.{declarations_in}
use Rattle.layout.proofs.LayoutLaws.{class_within, class_after_productions, declaration_first}
use Rattle.layout.specs.Framed.{Framed}
use Rattle.layout.specs.Layout.{byte_at, classes, range_count, class_at, range_at, low, high, declaration_at}

-- ---- a list of pairs, the smaller of each first

rising_length : (l : List ℕ) → length (rising l) ≡ length l
unfolding rising
rising_length [] = refl
rising_length (x ∷ []) = refl
rising_length (x ∷ y ∷ l) = ap (λ (n : ℕ). suc (suc n)) (rising_length l)

-- pair n
rising_at : (l : List ℕ) (n : ℕ) → 2 * n + 1 < length l
    → let x = get_or l (2 * n) 0 in let y = get_or l (2 * n + 1) 0 in (get_or (rising l) (2 * n) 0 ≡ min x y) × (get_or (rising l) (2 * n + 1) 0 ≡ max x y)
unfolding rising
rising_at [] n h = absurd (omega arith)
rising_at (x ∷ []) n h = absurd (omega arith)
rising_at (x ∷ y ∷ l) zero h = (refl, refl)
rising_at (x ∷ y ∷ l) (suc n) h =
    let own = x ∷ y ∷ l in
    let risen = min x y ∷ max x y ∷ rising l in
    let e : 2 * suc n ≡ suc (suc (2 * n)) = omega arith in
    let f : 2 * suc n + 1 ≡ suc (suc (2 * n + 1)) = omega arith in
    subst (λ (i : ℕ). (get_or risen i 0 ≡ min (get_or own i 0) (get_or own (2 * suc n + 1) 0)) × (get_or risen (2 * suc n + 1) 0 ≡ max (get_or own i 0) (get_or own (2 * suc n + 1) 0))) (sym e)
    (subst (λ (j : ℕ). (get_or risen (suc (suc (2 * n))) 0 ≡ min (get_or own (suc (suc (2 * n))) 0) (get_or own j 0)) × (get_or risen j 0 ≡ max (get_or own (suc (suc (2 * n))) 0) (get_or own j 0))) (sym f)
    (rising_at l n (omega arith)))

-- numbers below a limit stay below it
rising_small : (m : ℕ) (l : List ℕ) → ((i : ℕ) → get_or l i 0 < m) → (i : ℕ) → get_or (rising l) i 0 < m
unfolding rising
rising_small m [] h i = h i
rising_small m (x ∷ []) h i = h i
rising_small m (x ∷ y ∷ l) h zero = omega (arith, h 0)
rising_small m (x ∷ y ∷ l) h (suc zero) = omega (arith, h 0, h 1)
rising_small m (x ∷ y ∷ l) h (suc (suc i)) = rising_small m l (λ j. h (suc (suc j))) i

-- ---- where the bytes stand

module _ (b : List ℕ) (f : Framed b) where
  -- the bytes of the classes
  abbrev inside : List ℕ
  inside = slice (class_at b 0) (declaration_at b 0) b

  abbrev front : List ℕ
  front = take (class_at b 0) b

  -- the classes stand before the declarations, and these within the bytes
  ordered : (class_at b 0 ≤ declaration_at b 0) × (declaration_at b 0 ≤ length b)
  ordered = (omega (arith, class_after_productions b (classes b), declaration_first b), declarations_in b f)

  front_length : length front ≡ class_at b 0
  front_length = length-take-le (class_at b 0) b (omega (arith, ordered.0, ordered.1))

  inside_length : length inside ≡ declaration_at b 0 - class_at b 0
  inside_length = length-slice (class_at b 0) (declaration_at b 0) b ordered.1

  before_length : length (front ++ rising inside) ≡ declaration_at b 0
  before_length = omega (arith, length-append front (rising inside), front_length, rising_length inside, inside_length, ordered.0)

  risen_length : length (risen b) ≡ length b
  unfolding risen
  risen_length = omega (arith, length-append (front ++ rising inside) (drop (declaration_at b 0) b), before_length, length-drop (declaration_at b 0) b, ordered.1)

  risen_before : (at : ℕ) → at < class_at b 0 → byte_at (risen b) at ≡ byte_at b at
  unfolding risen
  risen_before at l =
      get_or-append (front ++ rising inside) (drop (declaration_at b 0) b) 0 at (omega (arith, before_length, ordered.0))
      ∙ get_or-append front (rising inside) 0 at (omega (arith, front_length))
      ∙ get_or-take (class_at b 0) b at 0 l

  risen_inside : (i : ℕ) → class_at b 0 + i < declaration_at b 0 → byte_at (risen b) (class_at b 0 + i) ≡ get_or (rising inside) i 0
  unfolding risen
  risen_inside i l =
      get_or-append (front ++ rising inside) (drop (declaration_at b 0) b) 0 (class_at b 0 + i) (omega (arith, before_length))
      ∙ ap (λ (n : ℕ). get_or (front ++ rising inside) (n + i) 0) (sym front_length)
      ∙ get_or-append-add front (rising inside) i 0

  risen_behind : (at : ℕ) → declaration_at b 0 ≤ at → byte_at (risen b) at ≡ byte_at b at
  unfolding risen
  risen_behind at l =
      let i = at - declaration_at b 0 in
      let e : at ≡ declaration_at b 0 + i = omega arith in
      ap (byte_at (risen b)) (e ∙ ap (λ (n : ℕ). n + i) (sym before_length))
      ∙ get_or-append-add (front ++ rising inside) (drop (declaration_at b 0) b) i 0
      ∙ get_or-drop (declaration_at b 0) b i 0
      ∙ ap (byte_at b) (sym e)

  -- a byte of the classes
  inside_byte : (i : ℕ) → class_at b 0 + i < declaration_at b 0 → get_or inside i 0 ≡ byte_at b (class_at b 0 + i)
  inside_byte i l = get_or-drop (class_at b 0) (take (declaration_at b 0) b) i 0 ∙ get_or-take (declaration_at b 0) b (class_at b 0 + i) 0 l

  -- ---- its ranges

  -- ranges stand in pairs from the first class on
  range_pair : (k r : ℕ) → k < classes b → r < range_count b k → (n : ℕ) × (range_at b k r ≡ class_at b 0 + 2 * n) × (range_at b k r + 1 < declaration_at b 0)
  unfolding class_at
  range_pair k r l m =
      let before = sum_below k (range_count b) in
      (before + r, omega (arith, sum_none (λ j. 2 * range_count b j), sum_double (range_count b) k), omega (arith, class_within b k l))

  -- the lower end stands first, the higher one second
  risen_ends : (k r : ℕ) → k < classes b → r < range_count b k
      → (byte_at (risen b) (range_at b k r) ≡ min (low b k r) (high b k r)) × (byte_at (risen b) (range_at b k r + 1) ≡ max (low b k r) (high b k r))
  unfolding low high
  risen_ends k r l m =
      let (n, at, within) = range_pair k r l m in
      let next : range_at b k r + 1 ≡ class_at b 0 + (2 * n + 1) = omega arith in
      let (least, most) = rising_at inside n (omega (arith, inside_length)) in
      let first : get_or inside (2 * n) 0 ≡ byte_at b (range_at b k r) = inside_byte (2 * n) (omega arith) ∙ ap (byte_at b) (sym at) in
      let second : get_or inside (2 * n + 1) 0 ≡ byte_at b (range_at b k r + 1) = inside_byte (2 * n + 1) (omega arith) ∙ ap (byte_at b) (sym next) in (
        ap (byte_at (risen b)) at ∙ risen_inside (2 * n) (omega arith) ∙ least ∙ rw (first, second) refl,
        ap (byte_at (risen b)) next ∙ risen_inside (2 * n + 1) (omega arith) ∙ most ∙ rw (first, second) refl,
      )

  -- It is the grammar with ranges turned round.
  pub risen_turned : TurnedRound b (risen b)
  risen_turned =
      record {
        long = risen_length;
        before = risen_before;
        ranges = λ k r l m.
            let (least, most) = risen_ends k r l m in
            by_cases (dec_lt (high b k r) (low b k r))
            (λ h. inr (omega (arith, least), omega (arith, most)))
            (λ h. inl (omega (arith, least), omega (arith, most)));
        behind = risen_behind;
      }

  -- Each of its ranges rises.
  pub risen_rises : RangesRise (risen b)
  unfolding low high
  risen_rises k r l m =
      let front = turned_front b (risen b) risen_turned in
      let n : k < classes b = omega (arith, same_classes b (risen b) front) in
      let o : r < range_count b k = omega (arith, same_range_count b (risen b) front k n) in
      let (least, most) = risen_ends k r n o in
      rw (same_range_at b (risen b) front k r n, least, most) (omega arith)

  -- Its numbers are as small as the grammar's: it is a grammar of bytes.
  pub risen_small : (m : ℕ) → ((i : ℕ) → byte_at b i < m) → (i : ℕ) → byte_at (risen b) i < m
  risen_small m small i =
      let among : (j : ℕ) → get_or inside j 0 < m =
      λ j. by_cases (dec_lt (class_at b 0 + j) (declaration_at b 0))
      (λ h. omega (arith, inside_byte j h, small (class_at b 0 + j)))
      (λ h. omega (arith, get_or-eq_default inside 0 {n = j} (omega (arith, inside_length)), small 0)) in
      by_cases (dec_lt i (class_at b 0))
      (λ l. omega (arith, risen_before i l, small i))
      (λ l. by_cases (dec_lt i (declaration_at b 0))
      (λ h. let j = i - class_at b 0 in
      let e : i ≡ class_at b 0 + j = omega arith in
      omega (arith, ap (byte_at (risen b)) e, risen_inside j (omega arith), rising_small m inside among j))
      (λ h. omega (arith, risen_behind i (omega arith), small i)))
