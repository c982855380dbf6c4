-- Lines that are put argument by argument, and grammars that are put line by line.
use Prim.Native.Nat.{ℕ, ◌+◌, ◌≤◌, ◌<◌}
use mathlib.Core.Path.{◌≡◌, refl, ap}
use mathlib.Core.List.{[], ◌∷◌, ◌++◌}
use native.Mathlib.Omega.{arith}
use lib.ListN.{length, length-append}
use Rattle.ccg.specs.Ccg.{Class, Line}
use Rattle.ccg.specs.Text.{class_text, arguments_text, line_text, grammar_text}
use Rattle.common.proofs.ListLaws.{joined_tabulate_next, joined_grows}
use Rattle.common.specs.Lists.{tabulate, joined}
use Rattle.writing.specs.Bytes.{space}

module _ (g : ℕ → Class) where
  pub arguments_text_none : arguments_text (tabulate 0 g) ≡ []
  unfolding arguments_text tabulate joined
  arguments_text_none = refl

  pub arguments_text_next : (i : ℕ) → arguments_text (tabulate (i + 1) g) ≡ arguments_text (tabulate i g) ++ (class_text (g i) ++ (space ∷ []))
  unfolding arguments_text
  arguments_text_next i = joined_tabulate_next (λ cc. class_text cc ++ (space ∷ [])) i g

  -- the text up to argument i and the class there lie within the text of all
  pub arguments_text_room : (i n : ℕ) → i < n → length (arguments_text (tabulate i g)) + (length (class_text (g i)) + 1) ≤ length (arguments_text (tabulate n g))
  unfolding arguments_text
  arguments_text_room i n l =
      let grows = joined_grows (λ cc. class_text cc ++ (space ∷ [])) g (i + 1) n (omega arith) in
      let next = ap (length {A = ℕ}) (joined_tabulate_next (λ cc. class_text cc ++ (space ∷ [])) i g) in
      omega (arith, simp length-append at next)

module _ (f : ℕ → Line) where
  pub lines_text_none : grammar_text (tabulate 0 f) ≡ []
  unfolding grammar_text tabulate joined
  lines_text_none = refl

  pub lines_text_next : (p : ℕ) → grammar_text (tabulate (p + 1) f) ≡ grammar_text (tabulate p f) ++ line_text (f p)
  unfolding grammar_text
  lines_text_next p = joined_tabulate_next line_text p f
