-- Ranges turned round (02, [3]): grammars that differ in nothing but which end of a range stands first.
use Rattle.std.specs.Prelude.{ℕ, ◌+◌, min, max, ◌≤◌, ◌<◌, ◌≡◌, List, [], ◌∷◌, ◌++◌, ◌⊎◌, length, take, drop}
use Rattle.std.proofs.Math.Seq.{slice}
use Rattle.layout.specs.Layout.{byte_at, classes, range_count, class_at, range_at, low, high, declaration_at}

-- The two ends of a range, as they were or turned round.
abbrev pub SameEnds : (low high low' high' : ℕ) → Type 0
SameEnds low high low' high' = ((low' ≡ low) × (high' ≡ high)) ⊎ ((low' ≡ high) × (high' ≡ low))

-- Where grammar b has a range, c has the same two ends.
abbrev pub SameRanges : List ℕ → List ℕ → Type 0
SameRanges b c =
    (k r : ℕ) → k < classes b → r < range_count b k → SameEnds (low b k r) (high b k r) (byte_at c (range_at b k r)) (byte_at c (range_at b k r + 1))

-- Grammar c is b with any of its ranges turned round. All other bytes are the same: those before the classes, and the declarations behind them.
pub record TurnedRound (b c : List ℕ) : Type 0 where
  pub long : length c ≡ length b
  pub before : (at : ℕ) → at < class_at b 0 → byte_at c at ≡ byte_at b at
  pub ranges : SameRanges b c
  pub behind : (at : ℕ) → declaration_at b 0 ≤ at → byte_at c at ≡ byte_at b at

-- No range falls: before there were downward ranges, refusal 6 asked for this.
abbrev pub RangesRise : List ℕ → Type 0
RangesRise b = (k r : ℕ) → k < classes b → r < range_count b k → low b k r ≤ high b k r

-- A list of pairs, the smaller of each first.
unfoldable pub rising : List ℕ → List ℕ
rising [] = []
rising (x ∷ []) = x ∷ []
rising (x ∷ y ∷ l) = min x y ∷ max x y ∷ rising l

-- The grammar with each range that falls turned round.
unfoldable pub risen : List ℕ → List ℕ
risen b = take (class_at b 0) b ++ rising (slice (class_at b 0) (declaration_at b 0) b) ++ drop (declaration_at b 0) b
