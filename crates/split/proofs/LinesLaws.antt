-- Laws of the lines of a sheet: the one that starts at a place comes first, and the others start behind it.
use Prim.Native.Nat.{ℕ, zero, suc, ◌+◌, ◌-◌, ◌≤◌, ◌<◌, min}
use mathlib.Core.Path.{◌≡◌, refl, sym, ◌∙◌, ap, ap₂, subst, subst⁻¹}
use mathlib.Core.Bool.{Bool, true, false, true≢false, cond, not}
use mathlib.Core.List.{List, [], ◌∷◌}
use mathlib.Core.Logic.{by_cases}
use native.Mathlib.Decide.{dec_lt}
use native.Mathlib.Omega.{arith}
use lib.Dec.{eqb, ltb}
use lib.ListN.{length, get_or, take, drop, length-drop, drop_of_length-le}
use lib.Seq.{slice, drop-cons, drop-drop}
use borrow.Author.Tests.{ltb-true, ltb-false, not-true, not-false}
use Rattle.common.proofs.ListLaws.{part_slice}
use Rattle.common.specs.Lists.{All}
use Rattle.split.specs.Lines.{line_feed, in_front, lines, goes_on, before_feed, line_end, next_start, line_at}

-- ---- bytes before a line feed

pub before_within : (s : List ℕ) → before_feed s ≤ length s
unfolding before_feed
before_within [] = omega arith
before_within (x ∷ s) = by_byte (before_within s) (eqb x line_feed) refl
  where
    by_byte : before_feed s ≤ length s → (t : Bool) → eqb x line_feed ≡ t → before_feed (x ∷ s) ≤ length (x ∷ s)
    by_byte h true e = rw e (omega arith)
    by_byte h false e = rw e (omega arith)

module _ (s : List ℕ) (at : ℕ) where
  -- where a line goes on there is one more
  pub goes_on_more : goes_on s at ≡ true → (at < length s) × (before_feed (drop at s) ≡ suc (before_feed (drop (suc at) s)))
  unfolding goes_on before_feed
  goes_on_more h = by_place (ltb at (length s)) refl
    where
      by_place : (t : Bool) → ltb at (length s) ≡ t → (at < length s) × (before_feed (drop at s) ≡ suc (before_feed (drop (suc at) s)))
      by_place false e = let z : false ≡ true = subst (λ (t : Bool). cond t (not (eqb (get_or s at 0) line_feed)) false ≡ true) e h in absurd (true≢false (sym z))
      by_place true e =
          let within = ltb-true at (length s) e in
          let other = not-true (eqb (get_or s at 0) line_feed) (subst (λ (t : Bool). cond t (not (eqb (get_or s at 0) line_feed)) false ≡ true) e h) in
          (within, ap before_feed (drop-cons s at 0 within) ∙ rw other refl)

  -- where it doesn't there is none
  pub goes_on_none : goes_on s at ≡ false → before_feed (drop at s) ≡ 0
  unfolding goes_on before_feed
  goes_on_none h = by_place (ltb at (length s)) refl
    where
      by_place : (t : Bool) → ltb at (length s) ≡ t → before_feed (drop at s) ≡ 0
      by_place false e = ap before_feed (drop_of_length-le s (ltb-false at (length s) e))
      by_place true e =
          let feed = not-false (eqb (get_or s at 0) line_feed) (subst (λ (t : Bool). cond t (not (eqb (get_or s at 0) line_feed)) false ≡ false) e h) in
          ap before_feed (drop-cons s at 0 (ltb-true at (length s) e)) ∙ rw feed refl

-- ---- the first line

pub lines_first : (x : ℕ) (s : List ℕ) → lines (x ∷ s) ≡ take (before_feed (x ∷ s)) (x ∷ s) ∷ lines (drop (suc (before_feed (x ∷ s))) (x ∷ s))
unfolding lines in_front before_feed
lines_first x [] = by_byte (eqb x line_feed) refl
  where
    by_byte : (t : Bool) → eqb x line_feed ≡ t → lines (x ∷ []) ≡ take (before_feed (x ∷ [])) (x ∷ []) ∷ lines (drop (suc (before_feed (x ∷ []))) (x ∷ []))
    by_byte true e = rw e refl
    by_byte false e = rw e refl
lines_first x (y ∷ s) = by_byte (lines_first y s) (eqb x line_feed) refl
  where
    by_byte : lines (y ∷ s) ≡ take (before_feed (y ∷ s)) (y ∷ s) ∷ lines (drop (suc (before_feed (y ∷ s))) (y ∷ s)) → (t : Bool) → eqb x line_feed ≡ t → lines (x ∷ y ∷ s) ≡ take (before_feed (x ∷ y ∷ s)) (x ∷ y ∷ s) ∷ lines (drop (suc (before_feed (x ∷ y ∷ s))) (x ∷ y ∷ s))
    by_byte h true e = rw e refl
    by_byte h false e = rw e (ap (in_front x) h)

module _ (s : List ℕ) (start : ℕ) where
  abbrev size : ℕ
  size = before_feed (drop start s)

  end_is : line_end s start ≡ start + size
  unfolding line_end
  end_is = refl

  next_is : next_start s start ≡ min (suc (line_end s start)) (length s)
  unfolding next_start
  next_is = refl

  -- behind its end
  pub next_behind : (end next : ℕ) → end ≡ line_end s start → next ≡ min (suc end) (length s) → next ≡ next_start s start
  next_behind end next e n = n ∙ ap (λ (k : ℕ). min (suc k) (length s)) e ∙ sym next_is

  pub end_within : start ≤ length s → line_end s start ≤ length s
  end_within h = omega (arith, end_is, before_within (drop start s), length-drop start s)

  pub next_later : start < length s → start < next_start s start
  next_later h = omega (arith, end_is, next_is)

  pub next_within : next_start s start ≤ length s
  next_within = omega (arith, next_is)

  -- the part of the sheet up to its end is the line
  pub line_part : (end : ℕ) → end ≡ line_end s start → start ≤ end → end ≤ length s → take (end - start) (drop start s) ≡ line_at s start
  line_part end e from within = part_slice s start end from within ∙ ap (λ (k : ℕ). slice start k s) e

  -- past the end there are none
  pub lines_end : length s ≤ start → lines (drop start s) ≡ []
  unfolding lines
  lines_end h = ap lines (drop_of_length-le s h)

  rest_same : start ≤ length s → drop (suc size) (drop start s) ≡ drop (next_start s start) s
  rest_same h =
      by_cases (dec_lt (line_end s start) (length s))
      (λ l. let e : start + suc size ≡ next_start s start = omega (arith, end_is, next_is) in drop-drop (suc size) start s ∙ ap (λ (k : ℕ). drop k s) e)
      (λ n.
      let over : length s ≤ start + suc size = omega (arith, end_is) in
      let last : length s ≤ next_start s start = omega (arith, next_is) in
      drop-drop (suc size) start s ∙ drop_of_length-le s over ∙ sym (drop_of_length-le s last))

  -- The line that starts there, and those that start behind it.
  pub lines_at : start < length s → lines (drop start s) ≡ line_at s start ∷ lines (drop (next_start s start) s)
  lines_at h =
      let first : lines (drop start s) ≡ take size (drop start s) ∷ lines (drop (suc size) (drop start s)) =
      subst⁻¹ (λ (l : List ℕ). lines l ≡ take (before_feed l) l ∷ lines (drop (suc (before_feed l)) l)) (drop-cons s start 0 h) (lines_first (get_or s start 0) (drop (suc start) s)) in
      let sizes : size ≡ line_end s start - start = omega (arith, end_is) in
      let part : take size (drop start s) ≡ line_at s start =
      ap (λ (k : ℕ). take k (drop start s)) sizes ∙ line_part (line_end s start) refl (omega (arith, end_is)) (end_within (omega arith)) in
      first ∙ ap₂ (λ (w : List ℕ) (l : List ℕ). w ∷ lines l) part (rest_same (omega arith))

-- ---- there are no more lines than bytes

front_few : (x : ℕ) (ws : List (List ℕ)) → length (in_front x ws) ≤ suc (length ws)
unfolding in_front
front_few x [] = omega arith
front_few x (w ∷ ws) = omega arith

pub lines_few : (s : List ℕ) → length (lines s) ≤ length s
unfolding lines
lines_few [] = omega arith
lines_few (x ∷ s) = by_byte (lines_few s) (eqb x line_feed) refl
  where
    by_byte : length (lines s) ≤ length s → (t : Bool) → eqb x line_feed ≡ t → length (lines (x ∷ s)) ≤ length (x ∷ s)
    by_byte h true e = rw e (omega arith)
    by_byte h false e = rw e (omega (arith, front_few x (lines s)))

-- ---- the bytes of lines are those of the sheet

abbrev Below : ℕ → List ℕ → Type 0
Below n l = (k : ℕ) → get_or l k 0 < n

below_cons : (n x : ℕ) (l : List ℕ) → x < n → Below n l → Below n (x ∷ l)
below_cons n x l h hs zero = h
below_cons n x l h hs (suc k) = hs k

below_front : (n x : ℕ) (ws : List (List ℕ)) → x < n → All (Below n) ws → All (Below n) (in_front x ws)
unfolding in_front
below_front n x [] h hs = (below_cons n x [] h (λ k. omega arith), tt)
below_front n x (w ∷ ws) h hs = (below_cons n x w h hs.0, hs.1)

pub lines_below : (n : ℕ) (s : List ℕ) → Below n s → All (Below n) (lines s)
unfolding lines
lines_below n [] h = tt
lines_below n (x ∷ s) h = by_byte (lines_below n s (λ k. h (suc k))) (eqb x line_feed) refl
  where
    by_byte : All (Below n) (lines s) → (t : Bool) → eqb x line_feed ≡ t → All (Below n) (lines (x ∷ s))
    by_byte hs true e = rw e ((λ k. omega (arith, h 0)), hs)
    by_byte hs false e = rw e (below_front n x (lines s) (h 0) hs)

-- ---- looking for the end of a line

-- what a search from `start` knows at `end`
pub record Ending (s : List ℕ) (start end : ℕ) : Type 0 where
  pub from : start ≤ end
  pub within : end ≤ length s
  pub left : line_end s start ≡ end + before_feed (drop end s)

pub ending_first : (s : List ℕ) (start : ℕ) → start ≤ length s → Ending s start start
ending_first s start h = record { from = omega arith; within = h; left = end_is s start }

module _ (s : List ℕ) (start end : ℕ) (h : Ending s start end) where
  pub ending_more : goes_on s end ≡ true → Ending s start (end + 1)
  ending_more e =
      let more = goes_on_more s end e in
      let one : suc end ≡ end + 1 = omega arith in
      let left : line_end s start ≡ end + 1 + before_feed (drop (end + 1) s) = omega (arith, h.left, more.1, ap (λ (k : ℕ). before_feed (drop k s)) one) in
      record { from = omega (arith, h.from); within = omega (arith, more.0); left = left }

  pub ending_last : goes_on s end ≡ false → end ≡ line_end s start
  ending_last e = omega (arith, h.left, goes_on_none s end e)

-- ---- counting lines

-- what counting knows at the start of a line
pub record Counting (s : List ℕ) (count start : ℕ) : Type 0 where
  pub within : start ≤ length s
  pub few : count ≤ start
  pub left : count + length (lines (drop start s)) ≡ length (lines s)

pub counting_first : (s : List ℕ) → Counting s 0 0
counting_first s = record { within = omega arith; few = omega arith; left = omega arith }

module _ (s : List ℕ) (count start : ℕ) (h : Counting s count start) where
  pub counting_more : start < length s → (next : ℕ) → next ≡ next_start s start → Counting s (count + 1) next
  counting_more l next e =
      subst⁻¹ (Counting s (count + 1)) e
      record { within = next_within s start; few = omega (arith, h.few, next_later s start l); left = omega (arith, h.left, ap length (lines_at s start l)) }

  pub counting_last : length s ≤ start → count ≡ length (lines s)
  counting_last l = omega (arith, h.left, ap length (lines_end s start l))
