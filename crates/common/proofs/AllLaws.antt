-- Laws of what holds of each member of a list.
use Prim.Native.Nat.{ℕ, zero, suc, ◌<◌}
use mathlib.Core.List.{List, [], ◌∷◌, ◌++◌}
use native.Mathlib.Omega.{arith}
use lib.ListN.{length, get_or}
use Rattle.common.specs.Lists.{tabulate, joined, All}

module _ {A : Type 0} (P : A → Type 0) where
  pub all_append : (l m : List A) → All P l → All P m → All P (l ++ m)
  all_append [] m h k = k
  all_append (a ∷ l) m h k = (h.0, all_append l m h.1 k)

  pub all_at : (l : List A) (k : ℕ) (d : A) → All P l → k < length l → P (get_or l k d)
  all_at [] k d h l = absurd (omega arith)
  all_at (a ∷ l) zero d h i = h.0
  all_at (a ∷ l) (suc k) d h i = all_at l k d h.1 (omega arith)

  -- what follows from P holds of each too
  pub all_weaker : (Q : A → Type 0) → ((a : A) → P a → Q a) → (l : List A) → All P l → All Q l
  all_weaker Q f [] h = tt
  all_weaker Q f (a ∷ l) h = (f a h.0, all_weaker Q f l h.1)

  -- what holds at each index holds of each
  pub all_of_at : (l : List A) (d : A) → ((k : ℕ) → k < length l → P (get_or l k d)) → All P l
  all_of_at [] d h = tt
  all_of_at (a ∷ l) d h = (h 0 (omega arith), all_of_at l d (λ k i. h (suc k) (omega arith)))

  -- a list made of a function
  pub all_tabulate : (n : ℕ) (f : ℕ → A) → ((i : ℕ) → i < n → P (f i)) → All P (tabulate n f)
  unfolding tabulate
  all_tabulate zero f h = tt
  all_tabulate (suc n) f h = all_append (tabulate n f) (f n ∷ []) (all_tabulate n f (λ i l. h i (omega arith))) (h n (omega arith), tt)

-- lists joined: each of a list gives members of which Q holds
pub all_joined : {A B : Type 0} (P : A → Type 0) (Q : B → Type 0) (f : A → List B) → ((a : A) → P a → All Q (f a)) → (l : List A) → All P l → All Q (joined f l)
unfolding joined
all_joined P Q f g [] h = tt
all_joined P Q f g (a ∷ l) h = all_append Q (f a) (joined f l) (g a h.0) (all_joined P Q f g l h.1)
