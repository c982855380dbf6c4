-- The sums of a column, row by row: nothing done, and one row more.
use Prim.Native.Nat.{ℕ, ◌+◌, ◌*◌, max, ◌≤◌, ◌<◌}
use mathlib.Core.Path.{◌≡◌, sym, ◌∙◌, ap}
use mathlib.Core.List.{List}
use mathlib.Core.Logic.{by_cases}
use native.Mathlib.Omega.{arith}
use native.Mathlib.Decide.{ℕ_discrete, dec_lt}
use lib.ListN.{get_or}
use Rattle.chart.specs.Layout.{places, entry_at}
use Rattle.chart.proofs.ByEndsLaws.{place_next, row_before}
use Rattle.common.proofs.RegionLaws.{region_others, front_inside}
use Rattle.chart.specs.ByEnds.{place_at}
use Rattle.column.specs.Sums.{ColumnCleared, RowAdded, SplitsAdded}
use Rattle.common.specs.Region.{Region}
use Rattle.theory.specs.Steps.{cap}

-- ---- zeros

module _ (n j : ℕ) (l₀ : List ℕ) where
  pub cleared_more : (r : ℕ) (l l' : List ℕ) → j ≤ n → ColumnCleared n r j l₀ l → Region (λ (k v : ℕ). v ≡ 0) 0 (place_at n r 0 j) j l l' → ColumnCleared n (r + 1) j l₀ l'
  unfolding entry_at
  cleared_more r l l' within s w =
      record {
        long = w.long ∙ s.long;
        zeros = λ q i h o. elim (ℕ_discrete q r) [
          | yes e ↦ rw (e, place_next n r j i) (w.inside i o)
          | no e ↦ let before : place_at n q i j < place_at n r 0 j = row_before n q r i 0 j j (omega arith) (omega arith) within (omega arith) within in
              w.below (place_at n q i j) before ∙ s.zeros q i (omega arith) o
        ];
        others = λ k apart.
            region_others (λ (k v : ℕ). v ≡ 0) (place_at n r 0 j) j l l' w k (λ i o e. apart r i (omega arith) o (e ∙ sym (place_next n r j i)))
            ∙ s.others k (λ q i h. apart q i (omega arith));
      }

-- ---- one row

module _ (n row m arg : ℕ) (chart sums live : List ℕ) where
  -- the new sum of start k, if v is what may stand behind its cell
  abbrev new_sum : ℕ → ℕ → ℕ
  new_sum v k = cap (get_or sums (row * places + k) 0 + entry_at chart (place_at n row k m) * v)

  pub row_added : (v : ℕ) (sums' live' : List ℕ) → v ≡ cap arg → Region (λ (k x : ℕ). x ≡ new_sum v k) 0 (row * places) m sums sums'
      → Region (λ (k x : ℕ). x ≡ max (get_or live k 0) (new_sum v k)) 0 0 m live live' → RowAdded n row m arg chart sums live sums' live'
  row_added v sums' live' e a b =
      record {
        sums_long = a.long;
        live_long = b.long;
        added = λ i o. a.inside i o ∙ ap (λ (x : ℕ). new_sum x i) e;
        others = λ k apart. region_others (λ (k x : ℕ). x ≡ new_sum v k) (row * places) m sums sums' a k apart;
        kept = λ i h. by_cases (dec_lt i m) (λ o. omega (arith, largest i o)) (λ o. omega (arith, b.above i (omega arith)));
        quiet = λ i o h z. omega (arith, a.inside i o, largest i o);
      }
    where
      largest : (k : ℕ) → k < m → get_or live' k 0 ≡ max (get_or live k 0) (new_sum v k)
      largest = front_inside (λ (k x : ℕ). x ≡ max (get_or live k 0) (new_sum v k)) m live live' b

-- ---- all rows

module _ (n m : ℕ) (chart args sums live : List ℕ) where
  module _ (r : ℕ) (sums₁ live₁ : List ℕ) (within : m ≤ places) (s : SplitsAdded n r m chart args sums live sums₁ live₁) where
    -- the sums of the next row are as they were
    pub splits_next : (i : ℕ) → i < m → get_or sums₁ (r * places + i) 0 ≡ get_or sums (r * places + i) 0
    splits_next i o = s.others (r * places + i) (λ q k h l e. omega arith)

    pub splits_more : (sums₂ live₂ : List ℕ) → RowAdded n r m (get_or args r 0) chart sums₁ live₁ sums₂ live₂ → SplitsAdded n (r + 1) m chart args sums live sums₂ live₂
    splits_more sums₂ live₂ a =
        record {
          sums_long = a.sums_long ∙ s.sums_long;
          live_long = a.live_long ∙ s.live_long;
          added = λ q i h o. elim (ℕ_discrete q r) [
            | yes e ↦ rw (e) (a.added i o ∙ ap (λ (x : ℕ). cap (x + entry_at chart (place_at n r i m) * cap (get_or args r 0))) (splits_next i o))
            | no e ↦ a.others (q * places + i) (λ k l d. e (omega arith)) ∙ s.added q i (omega arith) o
          ];
          others = λ k apart. a.others k (λ i o. apart r i (omega arith) o) ∙ s.others k (λ q i h. apart q i (omega arith));
          kept = λ i h. s.kept i (a.kept i h);
          quiet = λ q i h o l z. elim (ℕ_discrete q r) [
            | yes e ↦ rw (e) (a.quiet i o l (splits_next i o ∙ rw (e) at z))
            | no e ↦ a.others (q * places + i) (λ k l d. e (omega arith)) ∙ s.quiet q i (omega arith) o (a.kept i l) z
          ];
        }
