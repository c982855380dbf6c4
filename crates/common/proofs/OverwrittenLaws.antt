-- Lists that were written over: pieces one behind the other, and from the front on.
use Prim.Native.Nat.{ℕ, suc, ◌+◌, ◌≤◌}
use mathlib.Core.Path.{◌≡◌, refl, sym, ◌∙◌, ap}
use mathlib.Core.List.{List, [], ◌∷◌, ◌++◌}
use native.Mathlib.Omega.{arith}
use native.Mathlib.Nat.{add-zero, add-suc, zero-add, suc-add}
use lib.ListN.{length, get_or, set, take, drop, take-append-drop, length-drop}
use lib.Seq.{length-take-le, get_or-drop, ext_get_or, sets, sets-eq}
use Rattle.common.specs.Lists.{overwritten}

-- two pieces written one behind the other are both written at once
pub sets_append : {A : Type 0} (v w l : List A) (i : ℕ) → sets l i (v ++ w) ≡ sets (sets l i v) (i + length v) w
sets_append [] w l i = rw add-zero refl
sets_append {A} (a ∷ v) w l i = sets_append v w (set l i a) (suc i) ∙ ap (λ (k : ℕ). sets (sets (set l i a) (suc i) v) k w) (sym (add-suc i (length v) ∙ sym (suc-add i (length v))))

-- a list that from n on is what it was
pub overwritten_of : {A : Type 0} (d : A) (n : ℕ) (l l₀ : List A) → length l ≡ length l₀ → n ≤ length l → ((k : ℕ) → n ≤ k → get_or l k d ≡ get_or l₀ k d) → l ≡ overwritten (take n l) l₀
overwritten_of {A} d n l l₀ long within beyond =
    let rest : drop n l ≡ drop n l₀ =
    ext_get_or d (drop n l) (drop n l₀) (omega (arith, length-drop n l, length-drop n l₀)) (λ k h. get_or-drop n l k d ∙ beyond (n + k) (omega arith) ∙ sym (get_or-drop n l₀ k d)) in
    sym (take-append-drop n l) ∙ ap (λ (r : List A). take n l ++ r) rest ∙ ap (λ (k : ℕ). take n l ++ drop k l₀) (sym (length-take-le n l within))

-- writing from place 0 on, if it fits
pub sets_front : {A : Type 0} (front l : List A) → length front ≤ length l → sets l 0 front ≡ overwritten front l
sets_front front l h = sets-eq front l 0 (omega arith) ∙ ap (λ (k : ℕ). front ++ drop k l) (zero-add (length front))
