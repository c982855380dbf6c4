-- A list that is written from the front, one place a turn: what a loop that fills an array has done at each turn.
use Prim.Native.Nat.{ℕ, ◌+◌, ◌≤◌, ◌<◌}
use mathlib.Core.Path.{◌≡◌, refl, ◌∙◌}
use mathlib.Core.List.{List}
use native.Mathlib.Omega.{arith}
use native.Mathlib.Decide.{ℕ_discrete}
use lib.ListN.{length, get_or, set, length-set}
use lib.Seq.{get_or-set_same, get_or-set_other}

-- Of l₀ the places below i now have what P says of them; the rest is as it was.
pub record Filled {A : Type 0} (P : ℕ → A → Type 0) (d : A) (l₀ : List A) (i : ℕ) (l : List A) : Type 0 where
  pub long : length l ≡ length l₀
  pub done : (k : ℕ) → k < i → P k (get_or l k d)
  pub rest : (k : ℕ) → i ≤ k → get_or l k d ≡ get_or l₀ k d

module _ {A : Type 0} (P : ℕ → A → Type 0) (d : A) (l₀ : List A) where
  pub filled_none : Filled P d l₀ 0 l₀
  filled_none = record { long = refl; done = λ k l. absurd (omega arith); rest = λ k l. refl }

  -- a list that is written from place i on
  pub filled_from : (i : ℕ) → ((k : ℕ) → k < i → P k (get_or l₀ k d)) → Filled P d l₀ i l₀
  filled_from i h = record { long = refl; done = h; rest = λ k l. refl }

  pub filled_more : (i : ℕ) (l : List A) (v : A) → i < length l₀ → Filled P d l₀ i l → P i v → Filled P d l₀ (i + 1) (set l i v)
  filled_more i l v h w p =
      record {
        long = length-set l i v ∙ w.long;
        done = λ k m. elim (ℕ_discrete k i) [
          | yes e ↦ rw (e, get_or-set_same l i v d (omega (arith, w.long))) p
          | no e ↦ rw (get_or-set_other l i k v d e) (w.done k (omega arith))
        ];
        rest = λ k m. get_or-set_other l i k v d (λ e. omega arith) ∙ w.rest k (omega arith);
      }

  -- the next place has what P says already
  pub filled_kept : (i : ℕ) (l : List A) → Filled P d l₀ i l → P i (get_or l₀ i d) → Filled P d l₀ (i + 1) l
  filled_kept i l w p =
      record {
        long = w.long;
        done = λ k m. elim (ℕ_discrete k i) [
          | yes e ↦ rw (e, w.rest i (omega arith)) p
          | no e ↦ w.done k (omega arith)
        ];
        rest = λ k m. w.rest k (omega arith);
      }
