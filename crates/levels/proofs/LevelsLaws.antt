-- The bytes of levels: what opening one and counting an argument leave as it was.
use Prim.Native.Nat.{ℕ, suc, ◌+◌, ◌*◌, ◌≤◌, ◌<◌}
use mathlib.Core.Path.{◌≡◌, sym, ◌∙◌, ap}
use mathlib.Core.List.{List}
use native.Mathlib.Omega.{arith}
use lib.ListN.{length, get_or, drop, set, length-take, length-drop, length-set}
use lib.Seq.{get_or-take, get_or-drop, ext_get_or, get_or-set_same, get_or-set_other}
use Rattle.common.specs.Region.{Region}
use Rattle.levels.specs.Levels.{end_count, level_bytes, production_of, written_of, places_of, open_byte}

-- ---- places

pub place_at : (levels : List ℕ) (k d : ℕ) → d < end_count → get_or (places_of levels k) d 0 ≡ get_or levels (k * level_bytes + 2 + d) 0
unfolding places_of
place_at levels k d l = get_or-take end_count (drop (k * level_bytes + 2) levels) d 0 l ∙ get_or-drop (k * level_bytes + 2) levels d 0

places_long : (levels : List ℕ) (k : ℕ) → (k + 1) * level_bytes ≤ length levels → length (places_of levels k) ≡ end_count
unfolding places_of
places_long levels k h =
    length-take end_count (drop (k * level_bytes + 2) levels) ∙ omega (arith, length-drop (k * level_bytes + 2) levels)

places_same : (levels levels' : List ℕ) (k : ℕ) → (k + 1) * level_bytes ≤ length levels → length levels' ≡ length levels
    → ((d : ℕ) → d < end_count → get_or levels' (k * level_bytes + 2 + d) 0 ≡ get_or levels (k * level_bytes + 2 + d) 0) → places_of levels k ≡ places_of levels' k
places_same levels levels' k h e same =
    let long = places_long levels k h in
    let long' = places_long levels' k (omega arith) in
    ext_get_or 0 (places_of levels k) (places_of levels' k) (long ∙ sym long')
    (λ d l. let m : d < end_count = omega (arith, long) in place_at levels k d m ∙ sym (same d m) ∙ sym (place_at levels' k d m))

-- ---- levels that stay

-- level k is the same in both
pub record SameLevel (levels levels' : List ℕ) (k : ℕ) : Type 0 where
  pub production : production_of levels k ≡ production_of levels' k
  pub written : written_of levels k ≡ written_of levels' k
  pub places : places_of levels k ≡ places_of levels' k

-- an argument of level k is counted: of the levels that fit, only that count changes
module _ (levels : List ℕ) (k x : ℕ) where
  abbrev pub counted : List ℕ
  counted = set levels (k * level_bytes + 1) x

  pub counted_written : (k + 1) * level_bytes ≤ length levels → written_of counted k ≡ x
  unfolding written_of
  counted_written h = get_or-set_same levels (k * level_bytes + 1) x 0 (omega arith)

  pub counted_production : (j : ℕ) → production_of levels j ≡ production_of counted j
  unfolding production_of
  counted_production j = sym (get_or-set_other levels (k * level_bytes + 1) (j * level_bytes) x 0 (λ e. omega arith))

  pub counted_places : (j : ℕ) → (j + 1) * level_bytes ≤ length levels → places_of levels j ≡ places_of counted j
  counted_places j h =
      places_same levels (set levels (k * level_bytes + 1) x) j h (length-set levels (k * level_bytes + 1) x)
      (λ d l. get_or-set_other levels (k * level_bytes + 1) (j * level_bytes + 2 + d) x 0 (λ e. omega arith))

  pub counted_other : (j : ℕ) → (j + 1) * level_bytes ≤ length levels → (j ≡ k → ⊥) → SameLevel levels counted j
  unfolding written_of
  counted_other j h n =
      record {
        production = counted_production j;
        written = sym (get_or-set_other levels (k * level_bytes + 1) (j * level_bytes + 1) x 0 (λ e. n (omega arith)));
        places = counted_places j h;
      }

-- ---- a level is opened

-- v is byte b of the level of q
abbrev pub Opens : ℕ → List ℕ → ℕ → ℕ → Type 0
Opens q ends b v = v ≡ open_byte q ends b

-- then those before it stay
module _ (levels levels' : List ℕ) (k q : ℕ) (ends : List ℕ) (long : length ends ≡ end_count) (h : (k + 1) * level_bytes ≤ length levels)
    (opened : Region (Opens q ends) 0 (k * level_bytes) level_bytes levels levels') where
  pub opened_production : production_of levels' k ≡ q
  unfolding production_of open_byte
  opened_production = ap (λ (b : ℕ). get_or levels' b 0) (omega arith) ∙ opened.inside 0 (omega arith)

  pub opened_written : written_of levels' k ≡ 0
  unfolding written_of open_byte
  opened_written = opened.inside 1 (omega arith)

  pub opened_places : places_of levels' k ≡ ends
  unfolding open_byte
  opened_places =
      let long' = places_long levels' k (omega (arith, opened.long)) in
      ext_get_or 0 (places_of levels' k) ends (long' ∙ sym long)
      (λ d l. let m : d < end_count = omega (arith, long') in
      let e : k * level_bytes + 2 + d ≡ k * level_bytes + suc (suc d) = omega arith in
      place_at levels' k d m ∙ ap (λ (b : ℕ). get_or levels' b 0) e ∙ opened.inside (suc (suc d)) (omega arith))

  pub opened_before : (j : ℕ) → j < k → SameLevel levels levels' j
  unfolding production_of written_of
  opened_before j l =
      record {
        production = sym (opened.below (j * level_bytes) (omega arith));
        written = sym (opened.below (j * level_bytes + 1) (omega arith));
        places = places_same levels levels' j (omega arith) opened.long (λ d m. opened.below (j * level_bytes + 2 + d) (omega arith));
      }
