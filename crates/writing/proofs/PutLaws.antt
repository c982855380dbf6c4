-- Laws of writing into a lent buffer: pieces put one behind the other are the whole put at once.
use Prim.Native.Nat.{ℕ, suc, ◌+◌, ◌≤◌}
use mathlib.Core.List.{List, [], ◌∷◌, ◌++◌}
use mathlib.Core.Path.{◌≡◌, refl, sym, ◌∙◌, ap, ap₂, subst}
use native.Mathlib.Nat.{zero-add}
use native.Mathlib.Omega.{arith}
use lib.ListN.{length, drop, length-append}
use lib.Seq.{set_out, sets, length-sets, sets-eq}
use Rattle.common.proofs.OverwrittenLaws.{sets_append}
use Rattle.writing.specs.Put.{Put}

pub put_none : (l : List ℕ) (at : ℕ) → Put [] l at l at
put_none l at = record { wrote = refl; next = omega arith }

pub put_append : (v w l₀ l₁ l₂ : List ℕ) (i j k : ℕ) → Put v l₀ i l₁ j → Put w l₁ j l₂ k → Put (v ++ w) l₀ i l₂ k
put_append v w l₀ l₁ l₂ i j k a c =
    record {
      wrote = c.wrote ∙ ap₂ (λ (l : List ℕ) (n : ℕ). sets l n w) a.wrote a.next ∙ sym (sets_append v w l₀ i);
      next = omega (arith, a.next, c.next, length-append v w);
    }

-- a byte past the end is dropped
pub put_past : (x : ℕ) (l : List ℕ) (at : ℕ) → length l ≤ at → Put (x ∷ []) l at l (at + 1)
put_past x l at h = record { wrote = sym (set_out l at x h); next = refl }

pub put_long : (v l₀ l : List ℕ) (i j : ℕ) → Put v l₀ i l j → length l ≡ length l₀
put_long v l₀ l i j a = ap (length {A = ℕ}) a.wrote ∙ length-sets l₀ i v

-- the text that was put, under another name
pub put_same : (v w l₀ l : List ℕ) (i j : ℕ) → v ≡ w → Put v l₀ i l j → Put w l₀ i l j
put_same v w l₀ l i j e a = subst (λ (t : List ℕ). Put t l₀ i l j) e a

-- nothing is written into an empty buffer
sets_nil : (v : List ℕ) (i : ℕ) → sets [] i v ≡ []
sets_nil [] i = refl
sets_nil (a ∷ v) i = sets_nil v (suc i)

pub put_nowhere : (v l : List ℕ) (i j : ℕ) → Put v [] i l j → l ≡ []
put_nowhere v l i j p = p.wrote ∙ sets_nil v i

-- a text that fits, put at the start
pub put_start : (v l₀ l : List ℕ) (j : ℕ) → Put v l₀ 0 l j → length v ≤ length l₀ → l ≡ v ++ drop (length v) l₀
put_start v l₀ l j p h = p.wrote ∙ sets-eq v l₀ 0 (omega arith) ∙ ap (λ (n : ℕ). v ++ drop n l₀) (zero-add (length v))
