-- Terminals of a character class grammar whose lines have their own numbers.
use Prim.Native.Nat.{ℕ, zero, suc, ◌-◌, ◌≤◌, ◌<◌}
use mathlib.Core.Bool.{false, true, not, true≢false, and-false}
use mathlib.Core.List.{List, [], ◌∷◌}
use mathlib.Core.Logic.{⊎_elim}
use mathlib.Core.Path.{◌≡◌, refl, sym, ◌∙◌, subst}
use native.Mathlib.Omega.{arith}
use lib.Dec.{eqb}
use lib.ListN.{length, get_or}
use borrow.Author.Tests.{eqb-true, eq-eqb}
use Rattle.ccg.specs.Ccg.{Line, no_line, is_terminal, OwnNumbers}
use Rattle.common.proofs.BoolLaws.{true_or_false}
use Rattle.theory.specs.Tree.{production_number}

-- the result of a line is no terminal
result_not_terminal : (g : List Line) (n k : ℕ) → k < length g → (get_or g k no_line).result ≡ n → is_terminal g n ≡ false
unfolding is_terminal
result_not_terminal [] n k h e = absurd (omega arith)
result_not_terminal (l ∷ ls) n zero h e = rw (eq-eqb l.result n e) refl
result_not_terminal (l ∷ ls) n (suc k) h e = rw (result_not_terminal ls n k (omega arith) e) (and-false (not (eqb l.result n)))

-- what is no terminal is the result of a line
not_terminal_result : (g : List Line) (n : ℕ) → is_terminal g n ≡ false → (k : ℕ) × (k < length g) × ((get_or g k no_line).result ≡ n)
unfolding is_terminal
not_terminal_result [] n e = absurd (true≢false e)
not_terminal_result (l ∷ ls) n e =
    ⊎_elim
    (λ t. (0, omega arith, eqb-true l.result n t))
    (λ t. let (k, h, r) = not_terminal_result ls n (rw t at e) in (suc k, omega arith, r))
    (true_or_false (eqb l.result n))

module _ (g : List Line) (numbered : OwnNumbers g) where
  pub production_no_terminal : (p : ℕ) → p < length g → is_terminal g (production_number p) ≡ false
  production_no_terminal p l = result_not_terminal g (production_number p) p l (numbered.own p l)

  -- if every line has its own number, what is no terminal is the number of a line
  pub no_terminal_production : (n : ℕ) → is_terminal g n ≡ false → (n ≡ production_number (n - production_number 0)) × (n - production_number 0 < length g)
  no_terminal_production n e =
      let (k, l, r) = not_terminal_result g n e in
      let same : n ≡ production_number k = sym r ∙ numbered.own k l in
      (omega arith, omega arith)

  pub number_no_terminal : (n : ℕ) → production_number 0 ≤ n → n < production_number (length g) → is_terminal g n ≡ false
  number_no_terminal n l h =
      let e : production_number (n - production_number 0) ≡ n = omega arith in
      subst (λ (k : ℕ). is_terminal g k ≡ false) e (production_no_terminal (n - production_number 0) (omega arith))

  -- every other number is a terminal
  pub other_terminal : (n : ℕ) → (production_number 0 ≤ n → n < production_number (length g) → ⊥) → is_terminal g n ≡ true
  other_terminal n none_of =
      ⊎_elim
      (λ e. e)
      (λ e. let (same, l) = no_terminal_production n e in absurd (none_of (omega arith) (omega arith)))
      (true_or_false (is_terminal g n))
